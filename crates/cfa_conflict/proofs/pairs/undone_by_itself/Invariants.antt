use Rattle.std.proofs.Common.{◌≡◌, [], take, drop}
use Rattle.cfa_conflict.specs.Conflicts.{undone_by_later}
use Rattle.cfa_conflict.specs.Targets.{first_of}
use Rattle.cfa_conflict.proofs.pairs.undone_by_itself.Given as goal

abbrev pub invariant-loop-i : goal.invariant-loop-i
invariant-loop-i l =
    first_of (undone_by_later l.instance (take l.i l.acts) (drop l.i l.acts)) ≡ first_of (undone_by_later l.instance [] l.acts)
