-- Worked rows of what vars and classes promises define.
use Rattle.std.proofs.Common.{◌≡◌, ℕ, List, [], ◌∷◌, Some, None, codes, refl}
use Rattle.std.specs.Prelude.{if◌then◌else◌}
use Rattle.std.specs.Str.{bytes_eq}
use Rattle.cfa_tree.specs.ClassTexts.{expression_of}
use Rattle.cfa_tree.specs.Tree.{ValueTree, call, value_trees, PromiseTree}
use Rattle.cfa_tree.specs.lemmas.Written.{here, quoted, items}
use Rattle.cfa_statuses.specs.declared.levels.Status.{Status}
use Rattle.cfa_statuses.specs.declared.levels.Status.TheVariants.{No, Maybe, Yes}
use Rattle.cfa_kinds.specs.declared.kinds.PromiseType.TheVariants as promises
use Rattle.cfa_kinds.specs.Kinds.{vars_attribute, classes_attribute}
use Rattle.cfa_kinds.specs.Functions.{function_named}
use Rattle.cfa_vars.specs.declared.scoping.Datum.{Datum}
use Rattle.cfa_vars.specs.declared.scoping.Datum.TheVariants.{Text as text_of, List as list_of}
use Rattle.cfa_vars.specs.References.{reference_at, pieces, list_reference_of}
use Rattle.cfa_vars.specs.Scopes.{Table, InScope, look, key_of}
use Rattle.cfa_vars.specs.Expansion.{expanded, scalar}
use Rattle.cfa_vars.specs.Choices.{are_too_many}
use Rattle.cfa_functions.specs.Functions.{item_at}
use Rattle.cfa_functions.specs.Calls.{list_given, answer_of}
use Rattle.cfa_defines.specs.OwnTexts.{own_reads}
use Rattle.cfa_defines.specs.VarsPromises.{setting_choices, count_choices, data_set}
use Rattle.cfa_defines.specs.ClassPromises.{Raise, raises_of}

-- in `main` x is empty, l the list of a and b, numbers that of 0 and 7, texts that of `a` and `a|`, and none an empty one
abbrev own : Table
own =
    (codes "x", text_of []) ∷ (codes "l", list_of (codes "a" ∷ codes "b" ∷ [])) ∷ (codes "numbers", list_of (codes "0" ∷ codes "7" ∷ []))
    ∷ (codes "texts", list_of (codes "a" ∷ codes "a|" ∷ [])) ∷ (codes "none", list_of []) ∷ []

abbrev scopes : InScope
scopes = record { own = own; own_name = codes "main"; shared = [] }

-- the class a is set, b and c may be set or not
abbrev status : List ℕ → Status
status name = if bytes_eq name (codes "a") then Yes else (if bytes_eq name (codes "b") then Maybe else (if bytes_eq name (codes "c") then Maybe else No))

abbrev promise : (promiser name : List ℕ) → ValueTree → PromiseTree
promise promiser name value =
    record { guard = None; promiser = promiser; promisee = None; attributes = record { name = name; value = value; place = here } ∷ []; place = here }

abbrev sets : (name : List ℕ) → ValueTree → List Datum
sets name value =
    let p = promise (codes "v") name value in
    data_set scopes p (setting_choices scopes promises.Vars p)

abbrev raises : (promiser name : List ℕ) → ValueTree → List Raise
raises promiser name value =
    let p = promise promiser name value in
    raises_of status scopes p (setting_choices scopes promises.Classes p)

abbrev visits : (name : List ℕ) → ValueTree → ℕ
visits name value = count_choices (setting_choices scopes promises.Vars (promise (codes "v") name value))

-- ---- vars promises

-- both combinations read the empty x, also where they set x themselves
all_read_the_state_before : sets (codes "string") (quoted (codes "$(x)$(l)")) ≡ text_of (codes "a") ∷ text_of (codes "b") ∷ []
unfolding data_set setting_choices own_reads expanded scalar look key_of pieces reference_at list_reference_of are_too_many vars_attribute
all_read_the_state_before = refl

an_unresolved_call_stops_its_combination : sets (codes "string") (call (codes "nth") (value_trees (quoted (codes "l") ∷ quoted (codes "$(numbers)") ∷ [])) here) ≡ text_of (codes "a") ∷ []
unfolding data_set setting_choices own_reads expanded scalar look key_of pieces reference_at list_reference_of are_too_many vars_attribute function_named item_at
an_unresolved_call_stops_its_combination = refl

numbers_may_have_leading_zeros : sets (codes "int") (quoted (codes "0$(numbers)")) ≡ text_of (codes "00") ∷ text_of (codes "07") ∷ []
unfolding data_set setting_choices own_reads expanded scalar look key_of pieces reference_at list_reference_of are_too_many vars_attribute
numbers_may_have_leading_zeros = refl

no_number_stops_its_combination : (sets (codes "int") (quoted (codes "$(l)")) ≡ []) × (visits (codes "int") (quoted (codes "$(l)")) ≡ 2)
unfolding data_set setting_choices own_reads expanded scalar look key_of pieces reference_at list_reference_of are_too_many vars_attribute
no_number_stops_its_combination = (refl, refl)

lists_are_put_into_lists : sets (codes "slist") (items (codes "z" ∷ codes "@(l)" ∷ codes "@(none)" ∷ [])) ≡ list_of (codes "z" ∷ codes "a" ∷ codes "b" ∷ []) ∷ []
unfolding data_set setting_choices own_reads expanded scalar look key_of pieces reference_at list_reference_of are_too_many vars_attribute list_given
lists_are_put_into_lists = refl

-- one visit where a name refers to nothing, and where a list is empty
nothing_is_set : (sets (codes "string") (quoted (codes "$(y)$(l)")) ≡ []) × (visits (codes "string") (quoted (codes "$(y)$(l)")) ≡ 1) × (sets (codes "string") (quoted (codes "$(none)")) ≡ []) × (visits (codes "string") (quoted (codes "$(none)")) ≡ 1)
unfolding data_set setting_choices own_reads expanded scalar look key_of pieces reference_at list_reference_of are_too_many vars_attribute
nothing_is_set = (refl, refl, refl, refl)

-- ---- classes promises

-- the class is canonified; `a_a` is raised first and read by no other combination
combinations_raise_classes : raises (codes "a-$(l)") (codes "expression") (quoted (codes "$(l)|a_a")) ≡ (codes "a_a", (Yes, None)) ∷ (codes "a_b", (Maybe, Some (codes "b"))) ∷ []
unfolding raises_of setting_choices own_reads expanded scalar look key_of pieces reference_at list_reference_of are_too_many classes_attribute expression_of
combinations_raise_classes = refl

no_expression_stops_its_combination : raises (codes "v") (codes "expression") (quoted (codes "$(texts)")) ≡ (codes "v", (Yes, None)) ∷ []
unfolding raises_of setting_choices own_reads expanded scalar look key_of pieces reference_at list_reference_of are_too_many classes_attribute expression_of
no_expression_stops_its_combination = refl

-- the first combination alone would raise the class
an_unresolved_call_stops_all : raises (codes "v") (codes "expression") (call (codes "strcmp") (value_trees (call (codes "nth") (value_trees (quoted (codes "l") ∷ quoted (codes "$(numbers)") ∷ [])) here ∷ quoted (codes "a") ∷ [])) here) ≡ []
unfolding raises_of setting_choices own_reads expanded scalar look key_of pieces reference_at list_reference_of are_too_many classes_attribute expression_of answer_of function_named item_at
an_unresolved_call_stops_all = refl

calls_raise_classes : raises (codes "v") (codes "expression") (call (codes "strcmp") (value_trees (quoted (codes "$(l)") ∷ quoted (codes "a") ∷ [])) here) ≡ (codes "v", (Yes, None)) ∷ (codes "v", (No, None)) ∷ []
unfolding raises_of setting_choices own_reads expanded scalar look key_of pieces reference_at list_reference_of are_too_many classes_attribute expression_of answer_of function_named
calls_raise_classes = refl

-- the first Maybe class in the order of the items, whatever its status does to the whole
first_maybe_of_items : (raises (codes "v") (codes "and") (items (codes "a" ∷ codes "c" ∷ codes "@(l)" ∷ [])) ≡ (codes "v", (Maybe, Some (codes "c"))) ∷ []) × (raises (codes "v") (codes "or") (items (codes "b.d" ∷ codes "a" ∷ [])) ≡ (codes "v", (Yes, Some (codes "b"))) ∷ []) × (raises (codes "v") (codes "not") (quoted (codes "b")) ≡ (codes "v", (Maybe, Some (codes "b"))) ∷ [])
unfolding raises_of setting_choices own_reads expanded scalar look key_of pieces reference_at list_reference_of are_too_many classes_attribute expression_of
first_maybe_of_items = (refl, refl, refl)

all_of_none_and_one_of_none : (raises (codes "v") (codes "and") (items (codes "@(none)" ∷ [])) ≡ (codes "v", (Yes, None)) ∷ []) × (raises (codes "v") (codes "or") (quoted (codes "@(none)")) ≡ (codes "v", (No, None)) ∷ [])
unfolding raises_of setting_choices own_reads expanded scalar look key_of pieces reference_at list_reference_of are_too_many classes_attribute expression_of
all_of_none_and_one_of_none = (refl, refl)

one_item_that_is_none_stops_the_combination : raises (codes "v") (codes "or") (items (codes "a" ∷ codes "a|" ∷ [])) ≡ []
unfolding raises_of setting_choices own_reads expanded scalar look key_of pieces reference_at list_reference_of are_too_many classes_attribute expression_of
one_item_that_is_none_stops_the_combination = refl
