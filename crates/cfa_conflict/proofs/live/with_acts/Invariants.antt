use Rattle.std.proofs.Common.{◌≡◌, ◌+◌, ◌≤◌, length, drop}
use Rattle.std.specs.List.{filter}
use Rattle.cfa_resolve.specs.declared.instances.Instance.{Instance}
use Rattle.cfa_conflict.specs.Conflicts.{has_acts}
use Rattle.cfa_conflict.proofs.live.with_acts.Given as goal

abbrev pub invariant-loop-instance : goal.invariant-loop-instance
invariant-loop-instance l = record {
  small : l.count ≤ l.instance-index;
  counted : l.count + length (filter (λ (i : Instance). has_acts i.work) (drop l.instance-index l.instances)) ≡ length (filter (λ (i : Instance). has_acts i.work) l.instances);
}
