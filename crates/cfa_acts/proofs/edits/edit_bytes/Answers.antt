use Rattle.std.proofs.Common.{ap, ◌∙◌}
use Rattle.cfa_lines.specs.Decks.{lines_of}
use Rattle.cfa_acts.proofs.Settled.{text_decided, bytes_decided, same_decision}
use Rattle.cfa_acts.proofs.edits.edit_bytes.Goals as goal

pub returns-in_ok-split_lines-in-Ok-clause-exact : goal.returns-in_ok-split_lines-in-Ok-clause-exact
returns-in_ok-split_lines-in-Ok-clause-exact c =
    same_decision _ _ _
    (text_decided c.args.path.now c.args.script.now c.args.bytes.now c.in_ok-split_lines-in-Ok.field-0 c.in-Ok.ensures.cases.1 (c.in_ok-split_lines-in-Ok.ensures ∙ ap lines_of c.in-Ok.ensures.cases.0))
    c.edit_lines-in-Ok.ensures.exact

pub returns-in-Err-clause-exact : goal.returns-in-Err-clause-exact
returns-in-Err-clause-exact c = bytes_decided c.args.path.now c.args.script.now c.args.bytes.now c.in-Err.ensures.cases.0
