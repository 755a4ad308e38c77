use Rattle.std.specs.List.{AllWithin}
use Rattle.cfa_edit_proof.specs.Quiet.{HasTexts}
use Rattle.cfa_edit_proof.proofs.laws.have_texts.Given as goal

abbrev pub invariant-loop-edit : goal.invariant-loop-edit
invariant-loop-edit l = AllWithin HasTexts l.edits 0 l.edit-index
