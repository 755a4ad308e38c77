use Rattle.std.proofs.Common.{◌≡◌, drop}
use Rattle.cfa_conflict.specs.Conflicts.{conflicts_from}
use Rattle.cfa_conflict.specs.Targets.{first_of}
use Rattle.cfa_states.specs.Names.{names_of}
use Rattle.cfa_states.specs.declared.walks.Walk.{Walk}
use Rattle.cfa_conflict.proofs.judging.first_live.Given as goal

abbrev pub invariant-loop-place : goal.invariant-loop-place
invariant-loop-place l =
    (kept walk : Walk) → l.names ≡ names_of kept.instances → l.all.visits.visits.now ≡ walk.visits → l.instances ≡ walk.instances
    → first_of (conflicts_from kept walk (drop l.place l.instances) l.place) ≡ first_of (conflicts_from kept walk l.instances 0)
