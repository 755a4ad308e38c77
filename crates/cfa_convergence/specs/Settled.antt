-- A policy settles on a world where a rerun on it, at whatever moment, without locks and without a failed call, changes nothing.
use Rattle.std.specs.Prelude.{◌≡◌, ℕ, []}
use Rattle.cfa_outside.specs.declared.worlds.World.{World}
use Rattle.cfa_states.specs.Views.{Setting}
use Rattle.cfa_agent.specs.Runs.{log_of, quiet_start}

abbrev pub Settles : Setting → World → Type 0
Settles s world = (moment : ℕ) → log_of s (quiet_start world moment) ≡ []
