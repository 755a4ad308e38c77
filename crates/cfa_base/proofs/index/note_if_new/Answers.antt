use Rattle.std.proofs.Common.{rules}
use Rattle.cfa_base.proofs.IndexLemmas.{notes_name}
use Rattle.cfa_base.proofs.index.note_if_new.Goals as goal

pub returns-clause-ok : goal.returns-clause-ok
returns-clause-ok c =
    notes_name c.args.name.now c.args.places.now c.insert.new.self c.args.place c.in_ok-insert.ensures.updates (search rules)
