-- Which promises of a section are known to stand under the guard of the promise before them, so that nobody has to compare
-- the two guards.
use Rattle.std.specs.Prelude.{◌≡◌, ◌<◌, ℕ, Bool, false, IsTrue, List, ◌∷◌, map, length, get_or, Option, None}
use Rattle.cfa_tree.specs.declared.expressions.Expr.{Expr}
use Rattle.cfa_tree.specs.declared.promises.Promise.{Promise}

abbrev pub guard_in : Promise → Option Expr
guard_in p = p.guard

-- the guard of the promise at an index
abbrev pub guard_at : List Promise → ℕ → Option Expr
guard_at promises i = get_or (map guard_in promises) i None

-- the guard of the promise before an index: none before the first
abbrev pub guard_before : List Promise → ℕ → Option Expr
guard_before promises i = get_or (None ∷ map guard_in promises) i None

-- where a promise is marked, it stands under the guard of the one before it
abbrev pub MarksRepeats : List Promise → List Bool → Type 0
MarksRepeats promises marks =
    (i : ℕ) → i < length promises → IsTrue (get_or marks i false) → guard_at promises i ≡ guard_before promises i

-- the marks of some promises: one each
pub record Marked (promises : List Promise) (marks : List Bool) : Type 0 where
  pub one_each : length marks ≡ length promises
  pub true_to_guards : MarksRepeats promises marks
