-- A pattern that is built in one combination of a promise is built by the promise.
use Rattle.std.proofs.Common.{◌≡◌, ◌∙◌, ℕ, ◌<◌, List, length, get_or, sym, subst, Option, Some, None}
use Rattle.cfa_base.specs.Patterns.{SizeRefusal, refuses}
use Rattle.cfa_base.specs.Shown.{Shown, HasFailed}
use Rattle.cfa_tree.specs.Tree.{PromiseTree}
use Rattle.cfa_vars.specs.Scopes.{InScope}
use Rattle.cfa_vars.specs.Expansion.{Chosen}
use Rattle.cfa_defines.specs.Builds.{BuiltAmong, BuiltBy, expressions_of}

module _ (scopes : InScope) (promise : PromiseTree) (choices : List Chosen) (i : ℕ) (choice : Chosen) (below : i < length choices) (is : choice ≡ get_or choices i choice) where
  pub built_in : (refused : Option (List ℕ)) (before here after : Shown (List (List ℕ))) → here ≡ before → SizeRefusal (BuiltAmong scopes choice (expressions_of promise)) refused here after → SizeRefusal (BuiltBy scopes promise (Some choices)) refused before after
  built_in None before here after same h = h ∙ same
  built_in (Some content) before here after same h = (
    record { choice = choice; is_combination = (i, below, sym is); is_built = h.0 },
    subst (λ (shown : Shown (List (List ℕ))). HasFailed (refuses content) shown after) same h.1,
  )
