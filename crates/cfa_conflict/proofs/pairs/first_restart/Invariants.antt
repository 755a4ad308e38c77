use Rattle.std.proofs.Common.{◌≡◌, drop}
use Rattle.std.specs.List.{flat_map}
use Rattle.cfa_conflict.specs.Conflicts.{restart_of}
use Rattle.cfa_conflict.specs.Targets.{first_of}
use Rattle.cfa_conflict.proofs.pairs.first_restart.Given as goal

abbrev pub invariant-loop-act : goal.invariant-loop-act
invariant-loop-act l =
    first_of (flat_map (restart_of l.instance) (drop l.act-index l.acts)) ≡ first_of (flat_map (restart_of l.instance) l.acts)
