use Rattle.std.proofs.Common.{◌≡◌, drop}
use Rattle.cfa_edit_proof.specs.Plain.{is_in}
use Rattle.cfa_edit_proof.proofs.texts.is_in.Given as goal

abbrev pub invariant-loop-d : goal.invariant-loop-d
invariant-loop-d l = is_in (drop l.d-index l.chars) l.c ≡ is_in l.chars l.c
