-- The analysis of a policy in a context: the verdict over its two walks, where neither needs more visits than it may make.
use Rattle.std.specs.Prelude.{◌≡◌, ℕ, List, [], Option, Some, None, codes, ⊤, ◌⊎◌}
use Rattle.cfa_conflict.specs.declared.verdicts.Conflict.{Conflict}
use Rattle.cfa_conflict.specs.declared.verdicts.Verdict.{Verdict}
use Rattle.cfa_conflict.specs.declared.verdicts.Verdict.TheVariants as verdict
use Rattle.cfa_conflict.specs.Conflicts.{about, verdict_of}
use Rattle.cfa_walk.specs.declared.listing.WalkErr.{WalkErr}
use Rattle.cfa_walk.specs.declared.listing.WalkErr.TheVariants.{TooLarge, PatternTooBig, NoMemory}
use Rattle.cfa_states.specs.Builds.{BuiltOn}
use Rattle.cfa_states.specs.Passes.{Course, goes, too_large, run}
use Rattle.cfa_states.specs.Tellers.{all_kept, open_walk}
use Rattle.cfa_states.specs.Views.{Setting}
use Rattle.cfa_states.specs.Walks.{walked}

-- over how the walks end; none where one of them is too large
abbrev pub verdict_over : Setting → (kept walk : Course) → Option Verdict
verdict_over s (goes kept) (goes walk) = Some (verdict_of (walked s kept) (walked s walk))
verdict_over s (goes kept) (too_large walk) = None
verdict_over s (too_large kept) walk = None

unfoldable pub analysis_of : Setting → Option Verdict
analysis_of s = verdict_over s (run s all_kept) (run s open_walk)

-- a text is one that a walk of the analysis builds
abbrev pub AnalysisBuilds : Setting → (text : List ℕ) → Type 0
AnalysisBuilds s text = BuiltOn s (run s all_kept) text ⊎ BuiltOn s (run s open_walk) text

-- so is a text that was refused for its size
abbrev pub RefusesBuilt : Setting → WalkErr → Type 0
RefusesBuilt s TooLarge = ⊤
RefusesBuilt s (PatternTooBig text) = AnalysisBuilds s text
RefusesBuilt s NoMemory = ⊤

-- ---- what promises meet in

-- a kind of thing with a name, or nothing
pub data IsResource : List ℕ → Type 0 where
  presence : (name : List ℕ) → IsResource (about (codes "presence") name)
  content : (name : List ℕ) → IsResource (about (codes "content") name)
  perms : (name : List ℕ) → IsResource (about (codes "perms") name)
  running : (name : List ℕ) → IsResource (about (codes "running") name)
  enabled : (name : List ℕ) → IsResource (about (codes "enabled") name)
  restart : (name : List ℕ) → IsResource (about (codes "restart") name)
  class : (name : List ℕ) → IsResource (about (codes "class") name)
  nothing : IsResource []

abbrev pub ConflictsMeet : Type 0
ConflictsMeet = (s : Setting) (c : Conflict) → analysis_of s ≡ Some (verdict.Conflict c) → IsResource c.resource
