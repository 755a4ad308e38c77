-- How many items a value has where a list is wanted: a list reference, also a text that is wholly one, the items of its list, none
-- where it refers to none, and a list those that its items give, one each but for list references.
use Rattle.std.specs.Prelude.{ℕ, ◌+◌, List, [], length, Option, Some, None}
use Rattle.cfa_tree.specs.Tree.{ValueTree, text, word, reference, list_reference, list, call, ValueTrees, no_value, more_values}
use Rattle.cfa_vars.specs.Scopes.{InScope, look}
use Rattle.cfa_functions.specs.Calls.{referred_list}
use Rattle.cfa_defines.specs.OwnTexts.{held_list}

abbrev pub items_or_none : Option (List (List ℕ)) → List (List ℕ)
items_or_none None = []
items_or_none (Some items) = items

abbrev pub count_under : InScope → Option (List ℕ) → ℕ → ℕ
count_under scopes None other = other
count_under scopes (Some name) other = length (items_or_none (held_list (look scopes name)))

-- how many items the items of a list give
abbrev pub counted : InScope → ValueTrees → ℕ
counted scopes no_value = 0
counted scopes (more_values value rest) = count_under scopes (referred_list value) 1 + counted scopes rest

abbrev pub items_written : ValueTree → ValueTrees
items_written (text content place) = no_value
items_written (word name place) = no_value
items_written (reference name place) = no_value
items_written (list_reference name place) = no_value
items_written (list items place) = items
items_written (call name arguments place) = no_value

-- how many items a list has
abbrev pub item_count : InScope → ValueTree → ℕ
item_count scopes value = count_under scopes (referred_list value) (counted scopes (items_written value))
