-- An environment keeps the statuses of classes, the sources of classes, and the marks of instances. A status and a mark
-- never fall: what is raised gets the greater of what it was and what it is raised to, and what never was is No. The
-- source of a class is that of the first raise that had one. An instance is named by its path and its text.
use Rattle.std.specs.Prelude.{ℕ, List, Option, Some, None, if◌then◌else◌, map, unwrap_or}
use Rattle.std.specs.FinMap as finite
use Rattle.cfa_base.specs.TextMaps.{TextMap}
use Rattle.cfa_base.specs.declared.places.PromiseId.{PromiseId}
use Rattle.cfa_statuses.specs.declared.levels.Status.{Status}
use Rattle.cfa_statuses.specs.declared.levels.Status.TheVariants.{Yes}
use Rattle.cfa_statuses.specs.Raised.{Raised, none_raised, status_in, raised}

-- the sources that are known, by their classes
abbrev pub Sources : Type 0
Sources = TextMap PromiseId

-- the marks, by the paths of their instances, and of one path by the texts
abbrev pub Marks : Type 0
Marks = TextMap Raised

pub record EnvironmentMaps : Type 0 where
  pub statuses : Raised
  pub sources : Sources
  pub marks : Marks

-- What an environment tells.

abbrev pub status_of : EnvironmentMaps → (class : List ℕ) → Status
status_of environment class = status_in environment.statuses class

abbrev pub source_of : EnvironmentMaps → (class : List ℕ) → Option PromiseId
source_of environment class = finite.get environment.sources class

-- the marks of the instances of one path, by their texts
unfoldable pub marks_at : Marks → (path : List ℕ) → Raised
marks_at marks path = unwrap_or (finite.get marks path) none_raised

abbrev pub mark_in : Marks → (path text : List ℕ) → Status
mark_in marks path text = status_in (marks_at marks path) text

abbrev pub mark_of : EnvironmentMaps → (path text : List ℕ) → Status
mark_of environment path text = mark_in environment.marks path text

-- What changes it.

-- a class whose source is known keeps it
unfoldable pub sourced : Sources → (class : List ℕ) → Option PromiseId → Sources
sourced sources class None = sources
sourced sources class (Some source) = if finite.contains_key sources class then sources else finite.insert sources class source

unfoldable pub marked : Marks → (path text : List ℕ) → Status → Marks
marked marks path text to = finite.insert marks path (raised (marks_at marks path) text to)

abbrev pub with_class : EnvironmentMaps → (class : List ℕ) → Status → Option PromiseId → EnvironmentMaps
with_class environment class to source =
    record environment { statuses = raised environment.statuses class to; sources = sourced environment.sources class source }

abbrev pub with_mark : EnvironmentMaps → (path text : List ℕ) → Status → EnvironmentMaps
with_mark environment path text to = record environment { marks = marked environment.marks path text to }

-- The first environment, where some classes are Yes.

unfoldable pub all_yes : List (List ℕ) → Raised
all_yes classes = finite.from_entries (map (λ class. (class, Yes)) classes)

abbrev pub first_environment : List (List ℕ) → EnvironmentMaps
first_environment classes = record { statuses = all_yes classes; sources = finite.empty; marks = finite.empty }
