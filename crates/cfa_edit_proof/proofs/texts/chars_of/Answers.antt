use Rattle.std.proofs.Common.{ℕ, Ok}
use Rattle.std.proofs.lemmas.Iterator.{items_from_collect, YieldsList-from_chars}
use Rattle.cfa_edit_proof.proofs.texts.chars_of.Goals as goal

pub returns : goal.returns
returns c =
    items_from_collect {E = ℕ} (Ok c.in_ok-collect.field-0) c.in_ok-collect.ensures.ran
    (YieldsList-from_chars c.args.text.now c.utf8.text c.chars.ensures.rest)
