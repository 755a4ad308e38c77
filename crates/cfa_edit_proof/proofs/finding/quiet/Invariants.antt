use Rattle.std.proofs.Common.{◌<◌}
use Rattle.cfa_edit_proof.specs.declared.clashes.Clash.{Clash}
use Rattle.cfa_edit_proof.specs.Quiet.{IsClash}
use Rattle.cfa_edit_proof.proofs.finding.quiet.Given as goal

abbrev pub invariant-loop-place : goal.invariant-loop-place
invariant-loop-place l = (clash : Clash) → IsClash l.script clash → l.place < clash.first
