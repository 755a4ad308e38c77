-- What a vars promise sets: its variable, once for each combination, all of which read the state before the promise. It does
-- nothing as a whole where a name that it reads refers to nothing, where it has too many combinations or its list too many
-- items, or where a text or call in one of them is too long. A combination sets nothing where a call is unresolved or a number
-- is none.
use Rattle.std.specs.Prelude.{ℕ, Bool, true, false, ◌||◌, List, [], length, nat_lt, ◌==◌, Option, Some, None, if◌then◌else◌, codes}
use Rattle.std.specs.List.{list_any, filter_map}
use Rattle.cfa_base.specs.declared.limits.TheConstants.{MOST_COMBINATIONS}
use Rattle.cfa_tree.specs.Tree.{ValueTree, AttributeTree, PromiseTree}
use Rattle.cfa_kinds.specs.declared.kinds.PromiseType.{PromiseType}
use Rattle.cfa_kinds.specs.declared.kinds.Kind.{Kind}
use Rattle.cfa_kinds.specs.declared.kinds.Kind.TheVariants as kinds
use Rattle.cfa_kinds.specs.declared.kinds.Form.TheVariants.{WholeNumber}
use Rattle.cfa_kinds.specs.Forms.{has_form}
use Rattle.cfa_kinds.specs.Kinds.{own_attribute}
use Rattle.cfa_values.specs.Attributes.{value_of}
use Rattle.cfa_vars.specs.declared.scoping.Datum.{Datum}
use Rattle.cfa_vars.specs.declared.scoping.Datum.TheVariants.{Text as text_of, List as list_of}
use Rattle.cfa_vars.specs.Scopes.{InScope}
use Rattle.cfa_vars.specs.Expansion.{Chosen}
use Rattle.cfa_functions.specs.declared.reading.ValueText.{ValueText}
use Rattle.cfa_functions.specs.declared.reading.ValueText.TheVariants.{Text as whole_text, Unresolved as text_unresolved, TooLong as text_too_long}
use Rattle.cfa_functions.specs.declared.listing.ValueList.{ValueList}
use Rattle.cfa_functions.specs.declared.listing.ValueList.TheVariants.{Items, Unresolved as list_unresolved, TooLong as list_too_long}
use Rattle.cfa_functions.specs.Calls.{text_given, list_given}
use Rattle.cfa_defines.specs.declared.vars_promises.Given.{Given}
use Rattle.cfa_defines.specs.declared.vars_promises.Given.TheVariants.{Gives as gives, Nothing as gives_nothing, TooLong as too_long}
use Rattle.cfa_defines.specs.OwnTexts.{own_reads, first_lacking, has_too_many, choices_among}
use Rattle.cfa_defines.specs.Items.{item_count}

-- ---- the combinations of a promise that sets what others read

abbrev pub is_list_kind : Option Kind → Bool
is_list_kind None = false
is_list_kind (Some kinds.List) = true
is_list_kind (Some kinds.ClassTexts) = true
is_list_kind (Some kind) = false

abbrev pub has_long_list : InScope → PromiseType → AttributeTree → Bool
has_long_list scopes type attribute =
    elim (is_list_kind (own_attribute type attribute.name)) [ true ↦ nat_lt MOST_COMBINATIONS (item_count scopes attribute.value) | false ↦ false ]

-- none where it does nothing
abbrev pub choices_unless : Option (List ℕ) → (many : Bool) → List Chosen → Option (List Chosen)
choices_unless (Some name) many choices = None
choices_unless None true choices = None
choices_unless None false choices = Some choices

unfoldable pub setting_choices : InScope → PromiseType → PromiseTree → Option (List Chosen)
setting_choices scopes type promise =
    let reads = own_reads type promise in
    choices_unless (first_lacking scopes reads)
    (has_too_many scopes reads || list_any (has_long_list scopes type) promise.attributes) (choices_among scopes reads)

-- one where it has none
abbrev pub count_choices : Option (List Chosen) → ℕ
count_choices None = 1
count_choices (Some choices) = if length choices == 0 then 1 else length choices

-- ---- what a combination gives

abbrev pub text_set : ValueText → Given
text_set (whole_text content) = gives (text_of content)
text_set (text_unresolved name) = gives_nothing
text_set text_too_long = too_long

abbrev pub number_set : ValueText → Given
number_set (whole_text content) = if has_form WholeNumber content then gives (text_of content) else gives_nothing
number_set (text_unresolved name) = gives_nothing
number_set text_too_long = too_long

abbrev pub list_set : ValueList → Given
list_set (Items items) = gives (list_of items)
list_set (list_unresolved name) = gives_nothing
list_set list_too_long = too_long

-- by `string`, else `int`, else `slist`
abbrev pub given_by : InScope → Chosen → (string int slist : Option ValueTree) → Given
given_by scopes choice (Some value) int slist = text_set (text_given scopes choice value)
given_by scopes choice None (Some value) slist = number_set (text_given scopes choice value)
given_by scopes choice None None (Some value) = list_set (list_given scopes choice value)
given_by scopes choice None None None = gives_nothing

abbrev pub given_in : InScope → PromiseTree → Chosen → Given
given_in scopes promise choice =
    given_by scopes choice (value_of (codes "string") promise.attributes) (value_of (codes "int") promise.attributes)
    (value_of (codes "slist") promise.attributes)

abbrev pub is_too_long : Given → Bool
is_too_long (gives datum) = false
is_too_long gives_nothing = false
is_too_long too_long = true

abbrev pub datum_in : Given → Option Datum
datum_in (gives datum) = Some datum
datum_in gives_nothing = None
datum_in too_long = None

-- ---- what the promise sets, one after the other

abbrev pub data_from : InScope → PromiseTree → List Chosen → List Datum
data_from scopes promise choices =
    elim (list_any (λ choice. is_too_long (given_in scopes promise choice)) choices) [
      | true ↦ []
      | false ↦ filter_map (λ choice. datum_in (given_in scopes promise choice)) choices
    ]

abbrev pub data_by : InScope → PromiseTree → Option (List Chosen) → List Datum
data_by scopes promise None = []
data_by scopes promise (Some choices) = data_from scopes promise choices

unfoldable pub data_set : InScope → PromiseTree → Option (List Chosen) → List Datum
data_set scopes promise choices = data_by scopes promise choices
