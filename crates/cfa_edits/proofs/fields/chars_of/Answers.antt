use Rattle.std.proofs.Common.{ℕ, Ok}
use Rattle.std.proofs.lemmas.Iterator.{items_from_collect, YieldsList-from_chars}
use Rattle.cfa_edits.proofs.fields.chars_of.Goals as goal

pub returns-clause-ok : goal.returns-clause-ok
returns-clause-ok c =
    items_from_collect {E = ℕ} (Ok c.in_ok-collect.field-0) c.in_ok-collect.ensures.ran
    (YieldsList-from_chars c.args.line.now c.utf8.line c.chars.ensures.rest)
