-- What came of a walk: what the history of the run under its teller lists.
use Rattle.std.specs.Prelude.{◌≡◌, ℕ, List, ⊤, Result, Ok, Err}
use Rattle.cfa_base.specs.Patterns.{refuses}
use Rattle.cfa_base.specs.Shown.{Shown, HasFailed}
use Rattle.cfa_walk.specs.declared.listing.Telling.{Telling}
use Rattle.cfa_states.specs.declared.walks.Walk.{Walk}
use Rattle.cfa_walk.specs.declared.listing.WalkErr.{WalkErr}
use Rattle.cfa_walk.specs.declared.listing.WalkErr.TheVariants.{TooLarge, PatternTooBig, NoMemory}
use Rattle.cfa_states.specs.Builds.{BuiltOn}
use Rattle.cfa_states.specs.Levels.{GoesTo, IsTooLarge}
use Rattle.cfa_states.specs.Passes.{run}
use Rattle.cfa_walk.specs.Tellings.{told_by}
use Rattle.cfa_states.specs.Views.{Setting}
use Rattle.cfa_states.specs.Walks.{walked}

module _ (s : Setting) (telling : Telling) where
  abbrev pub HasWalked : Walk → Type 0
  HasWalked walk = GoesTo (run s (told_by telling)) (λ h. walk ≡ walked s h)

  abbrev pub IsRefused : WalkErr → Type 0
  IsRefused TooLarge = IsTooLarge (run s (told_by telling))
  IsRefused (PatternTooBig text) = BuiltOn s (run s (told_by telling)) text
  IsRefused NoMemory = ⊤

-- the builder of patterns is as it was, unless it refused the text that stopped the walk
abbrev pub WalkPatterns : {X : Type 0} → Result X WalkErr → (pats pats' : Shown (List (List ℕ))) → Type 0
WalkPatterns (Ok answer) pats pats' = pats' ≡ pats
WalkPatterns (Err TooLarge) pats pats' = pats' ≡ pats
WalkPatterns (Err (PatternTooBig text)) pats pats' = HasFailed (refuses text) pats pats'
WalkPatterns (Err NoMemory) pats pats' = pats' ≡ pats
