-- Of the code alone: nothing is local to any path, as long as common bundles are gone through.
use Rattle.std.specs.Prelude.{◌≡◌, ℕ, List, None}
use Rattle.cfa_outcomes.specs.declared.outcomes.Outcome.TheVariants.{Kept}
use Rattle.cfa_statuses.specs.declared.levels.Status.TheVariants.{No}
use Rattle.cfa_states.specs.History.{History, locally, local_source}
use Rattle.cfa_states.specs.Tellers.{worst_in}
use Rattle.cfa_states.specs.Views.{Setting}
use Rattle.cfa_states.specs.Waits.{waits_in}

pub record IsClear (h : History) : Type 0 where
  pub locals : (path class : List ℕ) → locally h path class ≡ No
  pub sources : (path class : List ℕ) → local_source h path class ≡ None
  pub worst : (path : List ℕ) → worst_in h path ≡ Kept
  pub waits : (s : Setting) (path : List ℕ) → waits_in s h path ≡ None
