use Rattle.std.proofs.Common.{◌≡◌, drop}
use Rattle.std.specs.List.{flat_map}
use Rattle.cfa_conflict.specs.Conflicts.{undone_by}
use Rattle.cfa_conflict.specs.Targets.{first_of}
use Rattle.cfa_conflict.proofs.pairs.undone_by_other.Given as goal

abbrev pub invariant-loop-later : goal.invariant-loop-later
invariant-loop-later l =
    first_of (flat_map (undone_by l.instance l.other l.acts) (drop l.later-index l.others))
    ≡ first_of (flat_map (undone_by l.instance l.other l.acts) l.others)
