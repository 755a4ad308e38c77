-- The combinations of some texts run over all choices of one item for each list variable that the texts refer to, in
-- the order of first reference, the first list outermost. No list gives the one empty combination, an empty list none.
-- The first name that refers to nothing is told; failing that, a list of more than 4,096 items, or more than 4,096
-- combinations, is too many.
use Rattle.std.specs.Prelude.{ℕ, List, [], ◌∷◌, ◌++◌, Bool, ◌||◌, length, map, nat_lt, Option, Some, None, find, is_none, if◌then◌else◌}
use Rattle.std.specs.Borrow.{Bor}
use Rattle.std.specs.List.{flat_map, filter_map, list_any}
use Rattle.std.specs.Str.{bytes_eq}
use Rattle.indexmap.specs.IndexMap.{insert_all}
use Rattle.cfa_base.specs.declared.limits.TheConstants.{MOST_COMBINATIONS}
use Rattle.cfa_vars.specs.declared.scoping.Datum.{Datum}
use Rattle.cfa_vars.specs.declared.scoping.Datum.TheVariants.{Text as text_of, List as list_of}
use Rattle.cfa_vars.specs.declared.choosing.Choices.{Choices}
use Rattle.cfa_vars.specs.declared.choosing.Choices.TheVariants.{Found, Unresolved, TooMany}
use Rattle.cfa_vars.specs.References.{names_in}
use Rattle.cfa_vars.specs.Scopes.{InScope, look, key_of}
use Rattle.cfa_vars.specs.Expansion.{Chosen}

-- list variables under their keys, with their items
abbrev pub Lists : Type 0
Lists = List (List ℕ × List (List ℕ))

abbrev pub list_under : List ℕ → Option Datum → Option (List ℕ × List (List ℕ))
list_under key None = None
list_under key (Some (text_of text)) = None
list_under key (Some (list_of items)) = Some (key, items)

-- what each of these names that refers to a list refers to
abbrev pub lists_named : InScope → List (List ℕ) → Lists
lists_named scopes names = filter_map (λ name. list_under (key_of scopes name) (look scopes name)) names

-- lists, and behind them the list variables among these names that aren't among them, in the order of the names
abbrev pub gathered : InScope → Lists → List (List ℕ) → Lists
gathered scopes lists names = insert_all bytes_eq lists (lists_named scopes names)

-- the list variables among these names, each once, in the order of the first name of each
abbrev pub lists_among : InScope → List (List ℕ) → Lists
lists_among scopes names = gathered scopes [] names

-- all ways to choose an item of each list, the first list outermost
abbrev pub all_choices : Lists → List Chosen
all_choices [] = [] ∷ []
all_choices (l ∷ ls) = flat_map (λ item. map (λ choice. (l.0, item) ∷ choice) (all_choices ls)) l.1

-- these choices, each with each item of one more list
abbrev pub extended : List Chosen → List ℕ → List (List ℕ) → List Chosen
extended choices key items = flat_map (λ choice. map (λ item. choice ++ (key, item) ∷ []) items) choices

-- lists as a map of references to them shows them
abbrev pub seen_lists : List (Bor (List ℕ) × Bor (List (List ℕ))) → Lists
seen_lists entries = map (λ e. (e.0.now, e.1.now)) entries

unfoldable pub are_too_many : Lists → Bool
are_too_many lists = list_any (λ l. nat_lt MOST_COMBINATIONS (length l.1)) lists || nat_lt MOST_COMBINATIONS (length (all_choices lists))

-- the first of these names that refers to nothing
abbrev pub first_unset : InScope → List (List ℕ) → Option (List ℕ)
first_unset scopes names = find (λ name. is_none (look scopes name)) names

abbrev pub told_of : Option (List ℕ) → Lists → Choices
told_of (Some name) lists = Unresolved name
told_of None lists = if are_too_many lists then TooMany else Found (all_choices lists)

unfoldable pub choices_of : InScope → List (List ℕ) → Choices
choices_of scopes texts =
    let names = flat_map names_in texts in
    told_of (first_unset scopes names) (lists_among scopes names)
