-- What classes were raised to. A class that was never raised is No, and one that is raised gets the greater of what it
-- had and what it is raised to. A class that is global and local has the greater of its two statuses.
use Rattle.std.specs.Prelude.{ℕ, List, unwrap_or}
use Rattle.std.specs.FinMap as finite
use Rattle.cfa_base.specs.TextMaps.{TextMap}
use Rattle.cfa_statuses.specs.declared.levels.Status.{Status}
use Rattle.cfa_statuses.specs.declared.levels.Status.TheVariants.{No}
use Rattle.cfa_statuses.specs.Status.{greater}

-- the classes that were raised, with their statuses
abbrev pub Raised : Type 0
Raised = TextMap Status

abbrev pub none_raised : Raised
none_raised = finite.empty

unfoldable pub status_in : Raised → List ℕ → Status
status_in statuses name = unwrap_or (finite.get statuses name) No

unfoldable pub raised : Raised → List ℕ → Status → Raised
raised statuses name to = finite.insert statuses name (greater (status_in statuses name) to)

unfoldable pub greater_in : Raised → Raised → List ℕ → Status
greater_in global local name = greater (status_in global name) (status_in local name)
