use Rattle.cfa_sources.proofs.TextLemmas.{file_read}
use Rattle.cfa_sources.proofs.reading.read_file.Goals as goal

pub returns : goal.returns
returns g c =
    file_read c.args.file c.args.name.now c.in_ok-source.source c.as_slice.result.now (g.I.Inputs.shown c.args.inputs.now) (g.I.Inputs.shown c.read_source.new.inputs) c.read_text.result c.as_slice.ensures
    c.in_ok-source.ensures c.read_text.ensures
