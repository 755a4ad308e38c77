-- What is made of combinations, one more.
use Rattle.std.proofs.Common.{◌≡◌, ◌<◌, ◌+◌, ◌∙◌, ℕ, List, length, get_or, drop, ap, sym, subst, Option, Some, None, Result, Err, refl}
use Rattle.std.proofs.lemmas.List.{drop_more}
use Rattle.cfa_base.specs.Patterns.{SizeRefusal, refuses}
use Rattle.cfa_base.specs.Shown.{Shown, HasFailed}
use Rattle.cfa_vars.specs.Expansion.{Chosen}
use Rattle.cfa_scripts.specs.declared.errors.ScriptErr.{ScriptErr}
use Rattle.cfa_scripts.specs.declared.errors.ScriptErr.TheVariants as scripts
use Rattle.cfa_scripts.specs.Refusals.{too_big_in as script_too_big_in}
use Rattle.cfa_resolve.specs.declared.instances.ResolveErr.{ResolveErr}
use Rattle.cfa_resolve.specs.OfTheCode.{error_of}
use Rattle.cfa_resolve.specs.Viewed.{too_big_in}
use Rattle.cfa_resolve.specs.Instances.{Reached}
use Rattle.cfa_resolve.specs.Resolution.{caller_of, edit_call, walked_for, visits_in, inner_visits, IsBuiltByCall, IsBuiltAmong}

module _ (r : Reached) (choices : List Chosen) (i : ℕ) (choice : Chosen) (below : i < length choices) (is : choice ≡ get_or choices i choice) where
  pub inner_more : inner_visits r (drop i choices) ≡ visits_in (walked_for r choice) + inner_visits r (drop (i + 1) choices)
  inner_more = ap (inner_visits r) (drop_more choices i choice below) ∙ ap (λ (x : Chosen). visits_in (walked_for r x) + inner_visits r (drop (i + 1) choices)) (sym is)

  pub built_among : (refused : Option (List ℕ)) (before here after : Shown (List (List ℕ))) → here ≡ before → SizeRefusal (IsBuiltByCall (caller_of r choice) (edit_call r)) refused here after → SizeRefusal (IsBuiltAmong r choices) refused before after
  built_among None before here after same h = h ∙ same
  built_among (Some content) before here after same h = (
    record { choice = choice; is_combination = (i, below, sym is); is_built = h.0 },
    subst (λ (shown : Shown (List (List ℕ))). HasFailed (refuses content) shown after) same h.1,
  )

-- the text that was refused is the same in either error
same_refused : (X Y : Type 0) (e : ScriptErr) → script_too_big_in {X = Y} (Err e) ≡ too_big_in {X = X} (Err (error_of e))
same_refused X Y scripts.TooLarge = refl
same_refused X Y (scripts.PatternTooBig text) = refl
same_refused X Y scripts.NoMemory = refl

pub sizes_kept : {X Y : Type 0} (builds : List ℕ → Type 0) (a : Result Y ScriptErr) (b : Result X ResolveErr) (e : ScriptErr) (before after : Shown (List (List ℕ))) → a ≡ Err e → b ≡ Err (error_of e)
    → SizeRefusal builds (script_too_big_in a) before after → SizeRefusal builds (too_big_in b) before after
sizes_kept {X} {Y} builds a b e before after is gives h =
    let same : script_too_big_in a ≡ too_big_in b = ap (script_too_big_in {X = Y}) is ∙ same_refused X Y e ∙ sym (ap (too_big_in {X = X}) gives) in
    subst (λ (t : Option (List ℕ)). SizeRefusal builds t before after) same h
