-- The instances of a promise are of its activation and of the promise itself, and they are no more than the visits that it counts.
use Rattle.std.specs.Prelude.{◌≡◌, ◌≤◌, All, length}
use Rattle.cfa_resolve.specs.declared.instances.Instance.{Instance}
use Rattle.cfa_resolve.specs.Instances.{Reached}
use Rattle.cfa_resolve.specs.Resolution.{resolution}

-- an instance of an activation's promise
pub record IsInstanceOf (r : Reached) (instance : Instance) : Type 0 where
  pub path : instance.path ≡ r.path
  pub source : instance.source ≡ r.id

abbrev pub InstancesAreNamed : Type 0
InstancesAreNamed = (r : Reached) → All (IsInstanceOf r) (resolution r).instances

abbrev pub InstancesAreFew : Type 0
InstancesAreFew = (r : Reached) → length (resolution r).instances ≤ (resolution r).visits
