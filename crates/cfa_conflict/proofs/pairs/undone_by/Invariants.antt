use Rattle.std.proofs.Common.{◌≡◌, drop, map}
use Rattle.std.specs.List.{filter}
use Rattle.cfa_acts.specs.Disturbs.{disturbs}
use Rattle.cfa_conflict.specs.Conflicts.{undone}
use Rattle.cfa_conflict.specs.Targets.{first_of}
use Rattle.cfa_conflict.proofs.pairs.undone_by.Given as goal

abbrev pub invariant-loop-act : goal.invariant-loop-act
invariant-loop-act l =
    first_of (map (undone l.instance l.other) (filter (disturbs l.later) (drop l.act-index l.acts)))
    ≡ first_of (map (undone l.instance l.other) (filter (disturbs l.later) l.acts))
