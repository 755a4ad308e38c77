-- Of the code alone: where the acts are that can disturb an act, and where its visits are.
use Rattle.std.specs.Prelude.{List, [], ◌∷◌, Option, Some, None, ◌≡◌, ℕ, ◌+◌, ◌<◌, ◌==◌, length, slice_index, if◌then◌else◌, Bool, true, false, ◌&&◌, nat_eq, drop, map, ◌||◌, ◌++◌, get_or, slice_get}
use Rattle.std.specs.Cmp.Lexicographic.{slice_cmp, pointwise}
use Rattle.std.specs.List.{filter, list_any, starts_with, flat_map}
use Rattle.std.specs.List.Sorted.{IsSortedBy}
use Rattle.std.specs.Ordering.{is_lt, nat_cmp}
use Rattle.std.specs.Str.{bytes_eq}
use denote.Ref.{Bor}
use Rattle.cfa_states.specs.declared.walks.Visit.{Visit}
use Rattle.cfa_base.specs.Index.{Text}
use Rattle.cfa_acts.specs.declared.acts.Act.{Act}
use Rattle.cfa_acts.specs.declared.acts.Act.TheVariants.{Create, MakeDir, Delete, Content, Copy, Edit, Perms, Start, Stop, Enable, Disable, Restart, Bust}
use Rattle.cfa_resolve.specs.declared.instances.Instance.{Instance}
use Rattle.cfa_states.specs.Tellers.{acts_of}
use Rattle.cfa_conflict.specs.Conflicts.{undone_from}
use Rattle.cfa_acts.specs.Same.{is_same}

-- The first of a list.

abbrev pub first_of : {X : Type 0} → List X → Option X
first_of [] = None
first_of (x ∷ xs) = Some x

-- The numbers of the first and of the last visit of an instance, among visits that are numbered from a number
-- on. Where there is none, that of the first is the number behind all, and that of the last is 0.

abbrev pub first_from : (from : ℕ) → List Visit → (place : ℕ) → ℕ
first_from from [] place = from
first_from from (visit ∷ visits) place = if visit.instance == place then from else first_from (from + 1) visits place

abbrev pub unless_zero : (number other : ℕ) → ℕ
unless_zero number other = if number == 0 then other else number

abbrev pub last_from : (from : ℕ) → List Visit → (place : ℕ) → ℕ
last_from from [] place = 0
last_from from (visit ∷ visits) place =
    unless_zero (last_from (from + 1) visits place) (if visit.instance == place then from else 0)

-- these are the numbers of each place that they have
pub record AreNumbers (visits : List Visit) (firsts lasts : List ℕ) : Type 0 where
  pub lengths : length lasts ≡ length firsts
  pub first : (place : ℕ) → place < length firsts → slice_index firsts place ≡ first_from 0 visits place
  pub last : (place : ℕ) → place < length firsts → slice_index lasts place ≡ last_from 0 visits place

-- Texts, each with a place. In the order of the texts those of a text stand together, and so do those of the texts that begin
-- with it.

-- a text with its place
abbrev pub Row : Type 0
Row = Text × ℕ

-- a row as the code has it
abbrev pub seen_row : Bor Text × ℕ → Row
seen_row row = (row.0.now, row.1)

abbrev pub seen_rows : List (Bor Text × ℕ) → List Row
seen_rows rows = map seen_row rows

-- in the order of the bytes of their texts
abbrev pub is_row_before : Bor Text × ℕ → Bor Text × ℕ → Bool
is_row_before row other = is_lt (slice_cmp nat_cmp row.0.now other.0.now)

abbrev pub AreSorted : List (Bor Text × ℕ) → Type 0
AreSorted rows = IsSortedBy is_row_before rows

-- the text is the key; or, where it may go on, begins with it
abbrev pub is_near : (key : Text) → (beneath : Bool) → (target : Text) → Bool
is_near key true target = starts_with nat_eq target key
is_near key false target = bytes_eq key target

-- the text is the key; or, where it may be beneath, goes on with a slash
abbrev pub goes_on : (beneath : Bool) → (rest : Text) → Bool
goes_on beneath [] = true
goes_on beneath (byte ∷ rest) = beneath && (byte == 47)

abbrev pub is_sought : (key : Text) → (beneath : Bool) → (target : Text) → Bool
is_sought key beneath target = starts_with nat_eq target key && goes_on beneath (drop (length key) target)

abbrev pub places_of : List Row → (key : Text) → (beneath : Bool) → List ℕ
places_of rows key beneath = map (λ (row : Row). row.1) (filter (λ (row : Row). is_sought key beneath row.0) rows)

-- Where the acts are that can disturb an act. An act changes one target, a path or a service. It can disturb an
-- act that stands on this target, a copy from it, and the deletion of a path at or above it. So each act looks
-- among the acts of some targets alone.

abbrev pub target_of : Act → Option Text
target_of (Create path) = Some path
target_of (MakeDir path) = Some path
target_of (Delete path with_directories) = Some path
target_of (Content path bytes) = Some path
target_of (Copy source path) = Some path
target_of (Edit path script) = Some path
target_of (Perms path mode owners groups) = Some path
target_of (Start name) = Some name
target_of (Stop name) = Some name
target_of (Enable name) = Some name
target_of (Disable name) = Some name
target_of (Restart name) = Some name
target_of (Bust reason) = None

abbrev pub placed : (place : ℕ) → Option Text → List Row
placed place None = []
placed place (Some target) = (target, place) ∷ []

abbrev pub rows_of : (place : ℕ) → List Act → List Row
rows_of place acts = flat_map (λ act. placed place (target_of act)) acts

-- those of all instances, from a place on
abbrev pub rows_from : List Instance → (from : ℕ) → List Row
rows_from [] from = []
rows_from (instance ∷ instances) from = rows_of from (acts_of instance.work) ++ rows_from instances (from + 1)

-- those of these instances, in some order
abbrev pub HasRows : List Row → List Instance → Type 0
HasRows rows instances = (test : Row → Bool) → list_any test rows ≡ list_any test (rows_from instances 0)

-- the places of the acts that can disturb an act
abbrev pub sought : List Row → Act → List ℕ
sought rows (Create path) = places_of rows path false
sought rows (MakeDir path) = places_of rows path false
sought rows (Delete path with_directories) = places_of rows path true
sought rows (Content path bytes) = places_of rows path false
sought rows (Copy source path) = places_of rows source false ++ places_of rows path false
sought rows (Edit path script) = places_of rows path false
sought rows (Perms path mode owners groups) = places_of rows path false
sought rows (Start name) = places_of rows name false
sought rows (Stop name) = places_of rows name false
sought rows (Enable name) = places_of rows name false
sought rows (Disable name) = places_of rows name false
sought rows (Restart name) = []
sought rows (Bust reason) = []

-- ---- instances with the same acts

-- the acts of the instance at a place, and none where there is no instance
abbrev pub acts_in : Option Instance → List Act
acts_in None = []
acts_in (Some instance) = acts_of instance.work

abbrev pub acts_at : List Instance → (place : ℕ) → List Act
acts_at instances place = acts_in (slice_get instances place)

abbrev pub is_row : (target : Text) → (place : ℕ) → Row → Bool
is_row target place row = bytes_eq target row.0 && nat_eq place row.1

-- a row of the target with this place, or with that of an instance with the same acts
abbrev pub is_like : List Instance → (target : Text) → (place : ℕ) → Row → Bool
is_like instances target place row =
    bytes_eq target row.0
    && (nat_eq place row.1 || pointwise is_same (acts_at instances row.1) (acts_at instances place))

-- each of the rows is like one of those
abbrev pub HaveLikes : List Instance → (rows likes : List Row) → Type 0
HaveLikes instances rows likes = (target : Text) (place : ℕ) → list_any (is_row target place) rows ≡ true
    → list_any (is_like instances target place) likes ≡ true

-- the instance at a place
abbrev pub IsAt : List Instance → (place : ℕ) → Instance → Type 0
IsAt instances place instance = (d : Instance) → instance ≡ get_or instances place d

-- whatever the visits are, no instance undoes anything of this one
abbrev pub IsNeverUndone : Instance → List Instance → Type 0
IsNeverUndone instance instances = (visits : List Visit) (place : ℕ) → IsAt instances place instance
    → undone_from visits instance place instances 0 ≡ []
