-- Environments whose statuses, sources and marks are known: what the first environment of the classes `any` and `web`
-- tells after some raises and marks.
use Rattle.std.proofs.Common.{◌≡◌, ℕ, [], ◌∷◌, Some, None, codes}
use Rattle.std.specs.FinMap as finite
use Rattle.cfa_base.specs.declared.places.PromiseId.{PromiseId}
use Rattle.cfa_statuses.specs.declared.levels.Status.TheVariants.{No, Maybe, Yes}
use Rattle.cfa_statuses.specs.lemmas.Raised.{status_in-raised, status_in-none_raised}
use Rattle.cfa_outcomes.specs.Environments.{EnvironmentMaps, first_environment, status_of, source_of, mark_of, with_class, with_mark}
use Rattle.cfa_outcomes.proofs.EnvironmentLemmas.{status_in-all_yes, get-sourced, marks_at-marked, marks_at-none}

-- the promise of the bundle `main` with this number
abbrev promise : ℕ → PromiseId
promise number = record { bundle = codes "main"; number = number; line = number }

abbrev first : EnvironmentMaps
first = first_environment (codes "any" ∷ codes "web" ∷ [])

-- `c` was raised without a source, then to Maybe by the promise 1, then to Yes by the promise 2, then to No; `d` to Maybe
abbrev raises : EnvironmentMaps
raises =
    with_class (with_class (with_class (with_class (with_class first
    (codes "c") No None) (codes "c") Maybe (Some (promise 1))) (codes "c") Yes (Some (promise 2))) (codes "c") No None) (codes "d") Maybe None

pub greatest : status_of raises (codes "c") ≡ Yes
greatest = simp (status_in-raised, status_in-all_yes)

pub of_another : status_of raises (codes "d") ≡ Maybe
of_another = simp (status_in-raised, status_in-all_yes)

pub given_from_the_first : status_of raises (codes "web") ≡ Yes
given_from_the_first = simp (status_in-raised, status_in-all_yes)

pub never_raised : status_of raises (codes "we") ≡ No
never_raised = simp (status_in-raised, status_in-all_yes)

pub first_source : source_of raises (codes "c") ≡ Some (promise 1)
first_source = simp (get-sourced, finite.get-empty)

pub no_source : source_of raises (codes "d") ≡ None
no_source = simp (get-sourced, finite.get-empty)

-- two instances of one path, and one of another path with the text of the first
abbrev marks : EnvironmentMaps
marks =
    with_mark (with_mark (with_mark (with_mark first
    (codes "main") (codes "x") Maybe) (codes "main") (codes "y") Yes) (codes "main") (codes "y") Maybe) (codes "sub") (codes "x") Yes

pub maybe_mark : mark_of marks (codes "main") (codes "x") ≡ Maybe
maybe_mark = simp (marks_at-marked, marks_at-none, status_in-raised, status_in-none_raised)

pub greatest_mark : mark_of marks (codes "main") (codes "y") ≡ Yes
greatest_mark = simp (marks_at-marked, marks_at-none, status_in-raised, status_in-none_raised)

pub of_another_path : mark_of marks (codes "sub") (codes "x") ≡ Yes
of_another_path = simp (marks_at-marked, marks_at-none, status_in-raised, status_in-none_raised)

pub never_marked : mark_of marks (codes "sub") (codes "y") ≡ No
never_marked = simp (marks_at-marked, marks_at-none, status_in-raised, status_in-none_raised)
