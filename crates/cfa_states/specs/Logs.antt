-- Of the code alone: what is kept of a walk while it is made.
use Rattle.std.specs.Prelude.{Bool, true, false, List, [], ◌∷◌, ◌++◌, map, Option, Some, None, ◌≡◌, ◌⊎◌, ℕ, option_and_then, option_map, slice_get, unwrap_or, IsSome, ⊤}
use Rattle.std.specs.Coded.{Coded, coded_list, coded_ℕ}
use Rattle.std.specs.FinMap as finite
use Rattle.cfa_resolve.specs.declared.instances.Instance.{Instance}
use Rattle.cfa_states.specs.declared.logs.Listing.{Listing}
use Rattle.cfa_statuses.specs.declared.levels.Status.{Status}
use Rattle.cfa_states.specs.declared.waits.Wait.{Wait}
use Rattle.cfa_states.specs.declared.walks.Blame.{Blame}
use Rattle.cfa_states.specs.declared.walks.Walk.{Walk}
use Rattle.cfa_states.specs.Walks.{with_first, listing_by, visit_of, place_among}
use Rattle.cfa_base.specs.TextMaps.{TextMap}
use Rattle.cfa_states.specs.Names.{name_of}
use Rattle.cfa_states.specs.declared.logs.Row.{Row}
use Rattle.cfa_states.specs.declared.logs.RowOf.{RowOf}
use Rattle.cfa_states.specs.declared.logs.RowOf.TheVariants.{Placed, Named}
use Rattle.cfa_states.specs.declared.walks.Visit.{Visit}

-- What is kept of a walk while it is made: the instances, the visits, and what is unsettled, so far.

abbrev pub Rows : Type 0
Rows = List Instance × List Listing × List Blame

abbrev pub first_log : (is_logged : Bool) → Option Rows
first_log false = None
first_log true = Some ([], [], [])

-- one more visit
abbrev pub with_visit : Instance → Status → (is_first : Bool) → Option Wait → Rows → Rows
with_visit instance status first waits rows =
    (with_first first instance rows.0, rows.1 ++ listing_by instance status first waits ∷ [], rows.2)

abbrev pub logged_visit : Instance → Status → (is_first : Bool) → Option Wait → Option Rows → Option Rows
logged_visit instance status first waits None = None
logged_visit instance status first waits (Some rows) = Some (with_visit instance status first waits rows)

-- more is unsettled
abbrev pub with_blames : List Blame → Rows → Rows
with_blames blames rows = (rows.0, rows.1, rows.2 ++ blames)

abbrev pub logged_blames : List Blame → Option Rows → Option Rows
logged_blames blames None = None
logged_blames blames (Some rows) = Some (with_blames blames rows)

abbrev pub walk_of : Rows → Walk
walk_of rows = record { instances = rows.0; visits = map (visit_of rows.0) rows.1; unsettled = rows.2 }

-- Where instances that may be visited again stand in a list, by their paths, and of one path by their key
-- texts.

abbrev pub Places : Type 0
Places = TextMap (TextMap ℕ)

abbrev pub places_code : Coded Places
places_code = finite.code (coded_list coded_ℕ) (finite.code (coded_list coded_ℕ) coded_ℕ)

-- the place of an instance that has one
abbrev pub placed : Places → (path text : List ℕ) → Option ℕ
placed places path text = option_and_then (λ (texts : TextMap ℕ). finite.get texts text) (finite.get places path)

abbrev pub with_place : Places → (path text : List ℕ) → ℕ → Places
with_place places path text place =
    finite.insert places path (finite.insert (unwrap_or (finite.get places path) finite.empty) text place)

-- what stands at a place: its path and key text
abbrev pub seen_at : List Instance → (place : ℕ) → Option (List ℕ × List ℕ)
seen_at instances place = option_map name_of (slice_get instances place)

-- an instance may have got this place, and all else is as it was
abbrev pub NotesPlace : (before after : Places) → Instance → ℕ → Type 0
NotesPlace before after instance place =
    (path text : List ℕ) (known : ℕ) → placed after path text ≡ Some known
    → (placed before path text ≡ Some known) ⊎ ((name_of instance ≡ (path, text)) × (known ≡ place))

-- each place is that of an instance with this path and this key text
abbrev pub HasPlaces : Places → List Instance → Type 0
HasPlaces places instances =
    (path text : List ℕ) (place : ℕ) → placed places path text ≡ Some place → seen_at instances place ≡ Some (path, text)

-- How a visit is kept: by the place of an instance with its names, or by path and key text where none is known.

abbrev pub name_at : List Instance → RowOf → List ℕ × List ℕ
name_at instances (Placed place) = unwrap_or (seen_at instances place) ([], [])
name_at instances (Named path text) = (path, text)

abbrev pub listing_at : List Instance → Row → Listing
listing_at instances row = record {
  path = (name_at instances row.of).0;
  text = (name_at instances row.of).1;
  status = row.status;
  blame = row.blame;
}

-- a place is that of an instance
abbrev pub IsFound : List Instance → RowOf → Type 0
IsFound instances (Placed place) = IsSome (seen_at instances place)
IsFound instances (Named path text) = ⊤

abbrev pub IsPlaced : List Instance → Row → Type 0
IsPlaced instances row = IsFound instances row.of

-- the instance of a row
abbrev pub IsOf : List Instance → RowOf → Instance → Type 0
IsOf instances of instance = (name_at instances of ≡ name_of instance) × IsFound instances of

abbrev pub visit_at : List Instance → Row → Visit
visit_at instances row = visit_of instances (listing_at instances row)

-- the first place of the names of an instance
abbrev pub first_place : List Instance → Instance → ℕ
first_place instances instance = place_among instances instance.path instance.text
