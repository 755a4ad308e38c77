-- What of a world acts ask of and change: its nodes and its services. Records and locks are no part of it.
use Rattle.std.specs.Prelude.{◌≡◌}
use Rattle.cfa_outside.specs.declared.worlds.World.{World}

pub record SameHost (world other : World) : Type 0 where
  pub nodes : world.nodes ≡ other.nodes
  pub services : world.services ≡ other.services
