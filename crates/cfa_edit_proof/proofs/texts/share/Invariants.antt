use Rattle.std.proofs.Common.{◌≡◌, drop}
use Rattle.cfa_edit_proof.specs.Plain.{share}
use Rattle.cfa_edit_proof.proofs.texts.share.Given as goal

abbrev pub invariant-loop-c : goal.invariant-loop-c
invariant-loop-c l = share (drop l.c-index l.chars) l.others ≡ share l.chars l.others
