use Rattle.std.proofs.Common.{◌≡◌, ◌++◌, drop}
use Rattle.std.specs.List.{flat_map}
use Rattle.cfa_conflict.specs.Targets.{sought}
use Rattle.cfa_conflict.proofs.targets.places_sought.Given as goal

abbrev pub invariant-loop-act : goal.invariant-loop-act
invariant-loop-act l =
    l.places.items ++ flat_map (sought l.targets) (drop l.act-index l.acts) ≡ flat_map (sought l.targets) l.acts
