-- Laws of the runs of a demo, whoever tells how instances end and whatever classes are set from the start: no run counts more visits
-- than it may, no promise is unsettled, and each visit surely comes.
use Rattle.std.specs.Prelude.{◌≡◌, ℕ, ◌≤◌, [], All}
use Rattle.cfa_statuses.specs.declared.levels.Status.TheVariants.{Yes}
use Rattle.cfa_states.specs.declared.walks.Visit.{Visit}
use Rattle.cfa_states.specs.History.{History}
use Rattle.cfa_states.specs.Levels.{IsTooLarge}
use Rattle.cfa_states.specs.Passes.{goes, run}
use Rattle.cfa_states.specs.Tellers.{Teller}
use Rattle.cfa_states.specs.Views.{Setting}
use Rattle.cfa_states.specs.Walks.{walked}
use Rattle.cfa_demo_laws.specs.Trees.{demo_tree}
use Rattle.cfa_demo_laws.specs.Laws.{most_promises}

abbrev pub DemoRunsFit : Type 0
DemoRunsFit = (n : ℕ) → n ≤ most_promises → (s : Setting) (teller : Teller) → s.policy ≡ demo_tree n → IsTooLarge (run s teller) → ⊥

abbrev pub DemoWalksAreSure : Type 0
DemoWalksAreSure =
    (n : ℕ) → n ≤ most_promises → (s : Setting) (teller : Teller) → s.policy ≡ demo_tree n → (h : History) → run s teller ≡ goes h →
    ((walked s h).unsettled ≡ []) × All (λ (visit : Visit). visit.status ≡ Yes) (walked s h).visits
