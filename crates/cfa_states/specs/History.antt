-- A history is what has happened in a run, the newest event first, and what a promise reads is looked up in the events before it.
-- A variable is its last Set since its scope was last Begun. A class has the greatest status that was raised globally, or in a
-- path since its last Begun. Its source is that of the first global Raised that has one, else that of the first Raised in the
-- path since its last Begun that has one.
use Rattle.std.specs.Prelude.{ℕ, ◌+◌, Bool, true, false, ◌&&◌, List, [], ◌∷◌, Option, None}
use Rattle.std.specs.Option.{option_or}
use Rattle.std.specs.Str.{bytes_eq}
use Rattle.cfa_base.specs.declared.places.PromiseId.{PromiseId}
use Rattle.cfa_statuses.specs.declared.levels.Status.{Status}
use Rattle.cfa_statuses.specs.declared.levels.Status.TheVariants.{No}
use Rattle.cfa_statuses.specs.Status.{greater}
use Rattle.cfa_vars.specs.declared.scoping.Datum.{Datum}
use Rattle.cfa_vars.specs.Named.{put}
use Rattle.cfa_vars.specs.Scopes.{Table}
use Rattle.cfa_resolve.specs.declared.instances.Instance.{Instance}
use Rattle.cfa_outcomes.specs.declared.outcomes.Outcome.{Outcome}
use Rattle.cfa_states.specs.Numbered.{Numbered}

-- ---- events

-- where a promise is reached: the path of its activation, and its bundle
pub record Home : Type 0 where
  pub path : List ℕ
  pub bundle : List ℕ

-- where a class is raised
pub data Where : Type 0 where
  everywhere : Where
  within : (path : List ℕ) → Where

pub data Event : Type 0 where
  -- an activation begins with a fresh scope
  Begun : (path : List ℕ) (arguments : List Datum) → Event
  -- a variable is set
  Set : (path name : List ℕ) (datum : Datum) → Event
  -- a class is raised, with a source or none
  Raised : (place : Where) (class : List ℕ) (status : Status) (source : Option PromiseId) → Event
  -- a promise is reached, with the status of its guard, and counts so many visits; whether it sets a variable
  Reached : (home : Home) (promise : Numbered) (guard : Status) (sets : Bool) (visits : ℕ) → Event
  -- an instance is visited
  Listed : (instance : Instance) (status : Status) → Event
  -- how the instance may end; none where it is skipped
  Told : (instance : Instance) (outcomes : List Outcome) → Event

abbrev pub History : Type 0
History = List Event

-- ---- variables

-- the variables of a scope
abbrev pub scope_in : History → (path : List ℕ) → Table
scope_in [] path = []
scope_in (Begun p arguments ∷ h) path = elim (bytes_eq p path) [ true ↦ [] | false ↦ scope_in h path ]
scope_in (Set p name datum ∷ h) path = elim (bytes_eq p path) [ true ↦ put (scope_in h path) name datum | false ↦ scope_in h path ]
scope_in (Raised place class status source ∷ h) path = scope_in h path
scope_in (Reached home promise guard sets visits ∷ h) path = scope_in h path
scope_in (Listed instance status ∷ h) path = scope_in h path
scope_in (Told instance outcomes ∷ h) path = scope_in h path

-- ---- classes

-- the greatest status that was raised globally
abbrev pub globally : History → (class : List ℕ) → Status
globally [] class = No
globally (Raised everywhere c status source ∷ h) class =
    elim (bytes_eq c class) [ true ↦ greater status (globally h class) | false ↦ globally h class ]
globally (Raised (within p) c status source ∷ h) class = globally h class
globally (Begun p arguments ∷ h) class = globally h class
globally (Set p name datum ∷ h) class = globally h class
globally (Reached home promise guard sets visits ∷ h) class = globally h class
globally (Listed instance status ∷ h) class = globally h class
globally (Told instance outcomes ∷ h) class = globally h class

-- the greatest that was raised in the path since its last Begun
abbrev pub locally : History → (path class : List ℕ) → Status
locally [] path class = No
locally (Begun p arguments ∷ h) path class = elim (bytes_eq p path) [ true ↦ No | false ↦ locally h path class ]
locally (Raised everywhere c status source ∷ h) path class = locally h path class
locally (Raised (within p) c status source ∷ h) path class =
    elim (bytes_eq p path && bytes_eq c class) [ true ↦ greater status (locally h path class) | false ↦ locally h path class ]
locally (Set p name datum ∷ h) path class = locally h path class
locally (Reached home promise guard sets visits ∷ h) path class = locally h path class
locally (Listed instance status ∷ h) path class = locally h path class
locally (Told instance outcomes ∷ h) path class = locally h path class

-- the source of the first global Raised that has one
abbrev pub global_source : History → (class : List ℕ) → Option PromiseId
global_source [] class = None
global_source (Raised everywhere c status source ∷ h) class =
    elim (bytes_eq c class) [ true ↦ option_or (global_source h class) source | false ↦ global_source h class ]
global_source (Raised (within p) c status source ∷ h) class = global_source h class
global_source (Begun p arguments ∷ h) class = global_source h class
global_source (Set p name datum ∷ h) class = global_source h class
global_source (Reached home promise guard sets visits ∷ h) class = global_source h class
global_source (Listed instance status ∷ h) class = global_source h class
global_source (Told instance outcomes ∷ h) class = global_source h class

-- that of the first Raised in the path since its last Begun that has one
abbrev pub local_source : History → (path class : List ℕ) → Option PromiseId
local_source [] path class = None
local_source (Begun p arguments ∷ h) path class = elim (bytes_eq p path) [ true ↦ None | false ↦ local_source h path class ]
local_source (Raised everywhere c status source ∷ h) path class = local_source h path class
local_source (Raised (within p) c status source ∷ h) path class =
    elim (bytes_eq p path && bytes_eq c class) [ true ↦ option_or (local_source h path class) source | false ↦ local_source h path class ]
local_source (Set p name datum ∷ h) path class = local_source h path class
local_source (Reached home promise guard sets visits ∷ h) path class = local_source h path class
local_source (Listed instance status ∷ h) path class = local_source h path class
local_source (Told instance outcomes ∷ h) path class = local_source h path class

abbrev pub source_in : History → (path class : List ℕ) → Option PromiseId
source_in h path class = option_or (global_source h class) (local_source h path class)

-- ---- visits

abbrev pub is_named : (path key : List ℕ) → Instance → Bool
is_named path key instance = bytes_eq instance.path path && bytes_eq instance.text key

-- the greatest status with which an instance was listed, No where it never was
abbrev pub mark_in : History → (path key : List ℕ) → Status
mark_in [] path key = No
mark_in (Listed instance status ∷ h) path key =
    elim (is_named path key instance) [ true ↦ greater status (mark_in h path key) | false ↦ mark_in h path key ]
mark_in (Begun p arguments ∷ h) path key = mark_in h path key
mark_in (Set p name datum ∷ h) path key = mark_in h path key
mark_in (Raised place class status source ∷ h) path key = mark_in h path key
mark_in (Reached home promise guard sets visits ∷ h) path key = mark_in h path key
mark_in (Told instance outcomes ∷ h) path key = mark_in h path key

-- the visits so far
abbrev pub visits_in : History → ℕ
visits_in [] = 0
visits_in (Reached home promise guard sets visits ∷ h) = visits + visits_in h
visits_in (Begun p arguments ∷ h) = visits_in h
visits_in (Set p name datum ∷ h) = visits_in h
visits_in (Raised place class status source ∷ h) = visits_in h
visits_in (Listed instance status ∷ h) = visits_in h
visits_in (Told instance outcomes ∷ h) = visits_in h
