-- What a promise reads of its own: its promiser, and behind it the values of its attributes in text order, arguments from left
-- to right. A list reference, also a text that is wholly one, reads the list that it names, every other text its own
-- references. The names of bodies and bundles are no texts, and `comment`, `handle`, `meta` and the promisee are never read.
--
-- The combinations of a promise run over the list variables that its texts refer to. A promise that reads a name that refers to
-- nothing, or to no list where a list is read, has none. Failing that, it has too many where they are more than 4,096, or
-- where a list that it reads has more items; failing that, a text that is over 65,536 bytes in one of them is too long.
use Rattle.std.specs.Prelude.{ℕ, Bool, true, false, ◌||◌, List, [], ◌∷◌, ◌++◌, codes, length, nat_lt, Option, Some, None}
use Rattle.std.specs.List.{flat_map, list_any}
use Rattle.std.specs.Option.{option_or}
use Rattle.cfa_base.specs.declared.limits.TheConstants.{MOST_COMBINATIONS}
use Rattle.cfa_tree.specs.Tree.{ValueTree, text, word, reference, list_reference, list, call, ValueTrees, no_value, more_values, AttributeTree, PromiseTree}
use Rattle.cfa_kinds.specs.declared.kinds.PromiseType.{PromiseType}
use Rattle.cfa_kinds.specs.declared.kinds.Kind.{Kind}
use Rattle.cfa_kinds.specs.declared.kinds.Kind.TheVariants as kinds
use Rattle.cfa_kinds.specs.Kinds.{own_attribute}
use Rattle.cfa_vars.specs.declared.scoping.Datum.{Datum}
use Rattle.cfa_vars.specs.declared.scoping.Datum.TheVariants.{Text as text_of, List as list_of}
use Rattle.cfa_vars.specs.declared.expanding.Expanded.{Expanded}
use Rattle.cfa_vars.specs.declared.expanding.Expanded.TheVariants.{Done, Unresolved, TooLong}
use Rattle.cfa_vars.specs.References.{names_in, list_reference_of}
use Rattle.cfa_vars.specs.Scopes.{InScope, look}
use Rattle.cfa_vars.specs.Expansion.{Chosen, expanded}
use Rattle.cfa_vars.specs.Choices.{first_unset, lists_among, all_choices, are_too_many}
use Rattle.cfa_defines.specs.declared.reads.Read.{Read}
use Rattle.cfa_defines.specs.declared.reads.Read.TheVariants.{Text as a_text, List as a_list}
use Rattle.cfa_defines.specs.declared.combining.Combined.{Combined}
use Rattle.cfa_defines.specs.declared.combining.Combined.TheVariants.{Lacks as lacks, TooMany as too_many, TooLong as too_long, Found as found}

-- ---- what is read

abbrev pub text_or_list : List ℕ → Option (List ℕ) → Read
text_or_list content None = a_text content
text_or_list content (Some name) = a_list name

abbrev mutual
  -- what a value reads, from left to right
  pub reads_in : ValueTree → List Read
  reads_in (text content place) = text_or_list content (list_reference_of content) ∷ []
  reads_in (word name place) = a_text name ∷ []
  reads_in (reference name place) = a_text (codes "$(" ++ name ++ codes ")") ∷ []
  reads_in (list_reference name place) = a_list name ∷ []
  reads_in (list items place) = reads_among items
  reads_in (call name arguments place) = reads_among arguments

  pub reads_among : ValueTrees → List Read
  reads_among no_value = []
  reads_among (more_values value rest) = reads_in value ++ reads_among rest

-- the arguments of a call; a name without any has none
abbrev pub arguments_of : ValueTree → ValueTrees
arguments_of (text content place) = no_value
arguments_of (word name place) = no_value
arguments_of (reference name place) = no_value
arguments_of (list_reference name place) = no_value
arguments_of (list items place) = no_value
arguments_of (call name arguments place) = arguments

-- what the value of an attribute reads, by what the attribute takes
abbrev pub reads_for : Option Kind → ValueTree → List Read
reads_for None value = []
reads_for (Some (kinds.BodyOf type)) value = reads_among (arguments_of value)
reads_for (Some kinds.EditBundle) value = reads_among (arguments_of value)
reads_for (Some kinds.AgentBundle) value = reads_among (arguments_of value)
reads_for (Some kind) value = reads_in value

abbrev pub reads_of_attribute : PromiseType → AttributeTree → List Read
reads_of_attribute type attribute = reads_for (own_attribute type attribute.name) attribute.value

-- what a promise of a type reads
unfoldable pub own_reads : PromiseType → PromiseTree → List Read
own_reads type promise = a_text promise.promiser ∷ flat_map (reads_of_attribute type) promise.attributes

-- ---- what is lacking

-- the list that a variable holds
abbrev pub held_list : Option Datum → Option (List (List ℕ))
held_list None = None
held_list (Some (text_of content)) = None
held_list (Some (list_of items)) = Some items

-- the name itself, unless it refers to a list
abbrev pub unless_list : List ℕ → Option (List (List ℕ)) → Option (List ℕ)
unless_list name None = Some name
unless_list name (Some items) = None

-- the first name that keeps it from being read
abbrev pub lacking_in : InScope → Read → Option (List ℕ)
lacking_in scopes (a_text content) = first_unset scopes (names_in content)
lacking_in scopes (a_list name) = unless_list name (held_list (look scopes name))

abbrev pub first_lacking : InScope → List Read → Option (List ℕ)
first_lacking scopes [] = None
first_lacking scopes (r ∷ reads) = option_or (lacking_in scopes r) (first_lacking scopes reads)

-- ---- combinations

-- the names that a text refers to
abbrev pub scalar_names : Read → List (List ℕ)
scalar_names (a_text content) = names_in content
scalar_names (a_list name) = []

abbrev pub has_many_items : Option (List (List ℕ)) → Bool
has_many_items None = false
has_many_items (Some items) = nat_lt MOST_COMBINATIONS (length items)

abbrev pub is_long_list : InScope → Read → Bool
is_long_list scopes (a_text content) = false
is_long_list scopes (a_list name) = has_many_items (held_list (look scopes name))

abbrev pub has_too_many : InScope → List Read → Bool
has_too_many scopes reads =
    are_too_many (lists_among scopes (flat_map scalar_names reads)) || list_any (is_long_list scopes) reads

-- the choices of an item of each list
abbrev pub choices_among : InScope → List Read → List Chosen
choices_among scopes reads = all_choices (lists_among scopes (flat_map scalar_names reads))

abbrev pub is_past_limit : Expanded → Bool
is_past_limit (Done whole) = false
is_past_limit (Unresolved name) = false
is_past_limit TooLong = true

abbrev pub is_too_long : InScope → Chosen → Read → Bool
is_too_long scopes choice (a_text content) = is_past_limit (expanded scopes choice content)
is_too_long scopes choice (a_list name) = false

abbrev pub has_too_long : InScope → List Read → Chosen → Bool
has_too_long scopes reads choice = list_any (is_too_long scopes choice) reads

-- what reading comes to
abbrev pub found_or_too_long : Bool → List Chosen → Combined
found_or_too_long true choices = too_long (length choices)
found_or_too_long false choices = found choices

abbrev pub combined_by : InScope → List Read → Option (List ℕ) → Bool → Combined
combined_by scopes reads (Some name) many = lacks name
combined_by scopes reads None true = too_many
combined_by scopes reads None false =
    found_or_too_long (list_any (has_too_long scopes reads) (choices_among scopes reads)) (choices_among scopes reads)

unfoldable pub combined : InScope → List Read → Combined
combined scopes reads = combined_by scopes reads (first_lacking scopes reads) (has_too_many scopes reads)

-- the combinations that were found
abbrev pub choices_found : Combined → List Chosen
choices_found (lacks name) = []
choices_found too_many = []
choices_found (too_long combinations) = []
choices_found (found choices) = choices
