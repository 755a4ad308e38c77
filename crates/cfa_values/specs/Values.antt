-- The refusals of a value by the kind that its attribute asks for: a value of another kind, a body or bundle that isn't
-- defined, a call with another number of arguments, a second item of a name, a class text that is no expression, and
-- references that are broken or name what may not be referred to.
use Rattle.std.specs.Prelude.{ℕ, Bool, true, false, ◌||◌, ◌&&◌, List, [], ◌∷◌, length, Option, Some, None, is_some, is_none, if◌then◌else◌, ◌+◌, ◌==◌, not, nat_lt, ◌++◌}
use Rattle.std.specs.List.{filter_map, flat_map}
use Rattle.cfa_base.specs.declared.limits.TheConstants.{MOST_INPUTS}
use Rattle.cfa_base.specs.declared.places.Place.{Place}
use Rattle.cfa_tree.specs.Tree.{ValueTree, text, word, reference, list_reference, list, call, ValueTrees, no_value, more_values, values_in, NamedTree}
use Rattle.cfa_vars.specs.References.{list_reference_of}
use Rattle.cfa_kinds.specs.declared.kinds.BundleType.{BundleType}
use Rattle.cfa_kinds.specs.declared.kinds.BundleType.TheVariants.{Agent, Common, EditLine}
use Rattle.cfa_kinds.specs.Kinds.{body_word}
use Rattle.cfa_values.specs.Scope.{is_literal, Where, admits, refers_out}
use Rattle.cfa_tree.specs.ClassTexts.{expression_of}
use Rattle.cfa_kinds.specs.declared.kinds.BundleType.TheVariants as bundles
use Rattle.cfa_kinds.specs.declared.kinds.BodyType.{BodyType}
use Rattle.cfa_kinds.specs.declared.kinds.Form.{Form}
use Rattle.cfa_kinds.specs.declared.kinds.Form.TheVariants.{AnyText}
use Rattle.cfa_kinds.specs.declared.kinds.Kind.{Kind}
use Rattle.cfa_kinds.specs.declared.kinds.Kind.TheVariants as kinds
use Rattle.cfa_kinds.specs.declared.functions.Function.{Function}
use Rattle.cfa_values.specs.declared.refusals.Refusal.{Refusal}
use Rattle.cfa_kinds.specs.Forms.{has_form}
use Rattle.cfa_kinds.specs.Functions.{function_named, answers_class, takes_count, takes_list}
use Rattle.cfa_values.specs.Refusals.{only_if}
use Rattle.cfa_values.specs.Definitions.{Definitions, BundleHead, BodyHead, is_shared, bundle_named, body_named, is_one_of}
use Rattle.cfa_values.specs.declared.refusals.Code.TheVariants.{WrongValue, UnknownBody, UnknownBundle, ArgumentCount, Duplicate, BadClassText, ReferenceOutOfScope}

-- ---- control

-- a text that is no list reference and has no references
abbrev pub is_known : List ℕ → Bool
is_known content = is_literal content && is_none (list_reference_of content)

-- a word, or a text that is known before the run, with its place
abbrev pub known_named : ValueTree → Option NamedTree
known_named (text content place) = if is_known content then Some (record { name = content; place = place }) else None
known_named (word name place) = Some (record { name = name; place = place })
known_named v = None

abbrev pub name_in : NamedTree → List ℕ
name_in n = n.name

-- the items of a list that are known before the run
abbrev pub known_items : ValueTrees → List NamedTree
known_items items = filter_map known_named (values_in items)

-- where a value stands, and what the policy defines
pub record Setting : Type 0 where
  pub definitions : Definitions
  pub home : Where

abbrev pub may_name : Setting → List ℕ → Bool
may_name s name = admits (is_shared s.definitions) s.home name

-- ---- references

abbrev pub text_scope : Setting → List ℕ → Place → List Refusal
text_scope s content place = only_if (refers_out (may_name s) content) ReferenceOutOfScope place

abbrev pub name_scope : Setting → List ℕ → Place → List Refusal
name_scope s name place = only_if (not (may_name s name)) ReferenceOutOfScope place

-- ---- texts

abbrev pub place_of : ValueTree → Place
place_of (text content place) = place
place_of (word name place) = place
place_of (reference name place) = place
place_of (list_reference name place) = place
place_of (list items place) = place
place_of (call name arguments place) = place

-- a value that is not of the kind
abbrev pub wrong : ValueTree → List Refusal
wrong v = only_if true WrongValue (place_of v)

abbrev pub is_list_reference : List ℕ → Bool
is_list_reference content = is_some (list_reference_of content)

-- a text that is wholly a list reference is none, and one without references has the form
abbrev pub is_wrong_text : Form → List ℕ → Bool
is_wrong_text form content = is_list_reference content || (is_literal content && not (has_form form content))

abbrev pub text_refusals : Setting → Form → ValueTree → List Refusal
text_refusals s form (text content place) = only_if (is_wrong_text form content) WrongValue place ++ text_scope s content place
text_refusals s form (word name place) = only_if (not (has_form form name)) WrongValue place
text_refusals s form (reference name place) = name_scope s name place
text_refusals s form v = wrong v

-- a text that has to be known before the run
abbrev pub literal_refusals : Setting → Form → ValueTree → List Refusal
literal_refusals s form (text content place) = only_if (not (is_known content && has_form form content)) WrongValue place ++ text_scope s content place
literal_refusals s form (word name place) = only_if (not (has_form form name)) WrongValue place
literal_refusals s form v = wrong v

-- ---- calls of functions

-- a call is refused at its word: its function is unknown or of the other kind, or takes another number of arguments
abbrev pub called : (wants_class : Bool) → Place → Option Function → (count : ℕ) → (Function → List Refusal) → List Refusal
called wants_class place None count arguments = only_if true WrongValue place
called true place (Some f) count arguments =
    if answers_class f then (if takes_count f count then arguments f else only_if true ArgumentCount place) else only_if true WrongValue place
called false place (Some f) count arguments =
    if answers_class f then only_if true WrongValue place else (if takes_count f count then arguments f else only_if true ArgumentCount place)

abbrev mutual
  -- an argument where a function takes a list, or a text
  pub argument_refusals : Setting → (takes_a_list : Bool) → ValueTree → List Refusal
  argument_refusals s takes_a_list (text content place) = only_if (not takes_a_list && is_list_reference content) WrongValue place ++ text_scope s content place
  argument_refusals s takes_a_list (word name place) = []
  argument_refusals s takes_a_list (reference name place) = name_scope s name place
  argument_refusals s takes_a_list (list_reference name place) = only_if (not takes_a_list) WrongValue place ++ name_scope s name place
  argument_refusals s takes_a_list (list items place) = only_if true WrongValue place
  argument_refusals s takes_a_list (call name arguments place) = called false place (function_named name) (value_count arguments) (λ f. arguments_refusals s f 0 arguments)

  -- the arguments of a function, from a place on
  pub arguments_refusals : Setting → Function → ℕ → ValueTrees → List Refusal
  arguments_refusals s f place no_value = []
  arguments_refusals s f place (more_values v vs) = argument_refusals s (takes_list f place) v ++ arguments_refusals s f (place + 1) vs

  pub value_count : ValueTrees → ℕ
  value_count no_value = 0
  value_count (more_values v vs) = value_count vs + 1

abbrev pub call_refusals : Setting → (wants_class : Bool) → List ℕ → ValueTrees → Place → List Refusal
call_refusals s wants_class name arguments place = called wants_class place (function_named name) (value_count arguments) (λ f. arguments_refusals s f 0 arguments)

abbrev pub text_or_call_refusals : Setting → Form → ValueTree → List Refusal
text_or_call_refusals s form (call name arguments place) = call_refusals s false name arguments place
text_or_call_refusals s form v = text_refusals s form v

-- ---- lists

-- an item of a list, and an argument of a bundle or body: a text, a word, a reference or a list reference
abbrev pub item_refusals : Setting → ValueTree → List Refusal
item_refusals s (text content place) = text_scope s content place
item_refusals s (word name place) = []
item_refusals s (reference name place) = name_scope s name place
item_refusals s (list_reference name place) = name_scope s name place
item_refusals s v = wrong v

-- a value that is asked to be a list and is none, unless it is a reference to one
abbrev pub no_list_refusals : Setting → ValueTree → List Refusal
no_list_refusals s (text content place) = only_if (not (is_list_reference content)) WrongValue place ++ text_scope s content place
no_list_refusals s (list_reference name place) = name_scope s name place
no_list_refusals s v = wrong v

-- a list whose items each keep a rule
abbrev pub list_refusals : Setting → (ValueTree → List Refusal) → ValueTree → List Refusal
list_refusals s rule (list items place) = flat_map rule (values_in items)
list_refusals s rule v = no_list_refusals s v

abbrev pub is_empty_text : ValueTree → Bool
is_empty_text (text content place) = length content == 0
is_empty_text (word name place) = length name == 0
is_empty_text v = false

-- an item that isn't empty
abbrev pub full_item_refusals : Setting → ValueTree → List Refusal
full_item_refusals s v = only_if (is_empty_text v) WrongValue (place_of v) ++ item_refusals s v

abbrev pub is_empty_list : ValueTree → Bool
is_empty_list (list items place) = value_count items == 0
is_empty_list v = false

abbrev pub full_list_refusals : Setting → ValueTree → List Refusal
full_list_refusals s v = only_if (is_empty_list v) WrongValue (place_of v) ++ list_refusals s (full_item_refusals s) v

-- ---- class texts

abbrev pub is_no_expression : List ℕ → Bool
is_no_expression content = is_none (expression_of content)

abbrev pub class_refusals : Setting → ValueTree → List Refusal
class_refusals s (text content place) =
    only_if (is_list_reference content) WrongValue place ++ (only_if (is_literal content && is_no_expression content) BadClassText place ++ text_scope s content place)
class_refusals s (word name place) = only_if (is_no_expression name) BadClassText place
class_refusals s (reference name place) = name_scope s name place
class_refusals s (call name arguments place) = call_refusals s true name arguments place
class_refusals s v = wrong v

abbrev pub text_class_item : Bool → Setting → List ℕ → Place → List Refusal
text_class_item true s content place = text_scope s content place
text_class_item false s content place = only_if (is_literal content && is_no_expression content) BadClassText place ++ text_scope s content place

-- in a list a text that is wholly a list reference is one
abbrev pub class_item_refusals : Setting → ValueTree → List Refusal
class_item_refusals s (text content place) = text_class_item (is_list_reference content) s content place
class_item_refusals s (word name place) = only_if (is_no_expression name) BadClassText place
class_item_refusals s (reference name place) = name_scope s name place
class_item_refusals s (list_reference name place) = name_scope s name place
class_item_refusals s (list items place) = only_if true WrongValue place
class_item_refusals s (call name arguments place) = call_refusals s true name arguments place

-- ---- bodies and bundles that are named

abbrev pub other_count : ℕ → ℕ → Bool
other_count params count = not (params == count)

abbrev pub body_found : Option BodyHead → (count : ℕ) → Place → List Refusal
body_found None count place = only_if true UnknownBody place
body_found (Some b) count place = only_if (other_count b.params count) ArgumentCount place

abbrev pub body_refusals : Setting → BodyType → ValueTree → List Refusal
body_refusals s type (word name place) = body_found (body_named s.definitions (body_word type) name) 0 place
body_refusals s type (call name arguments place) =
    body_found (body_named s.definitions (body_word type) name) (value_count arguments) place ++ flat_map (item_refusals s) (values_in arguments)
body_refusals s type v = wrong v

abbrev pub is_type : BundleType → Option BundleType → Bool
is_type type None = false
is_type bundles.Agent (Some bundles.Agent) = true
is_type bundles.Common (Some bundles.Common) = true
is_type bundles.EditLine (Some bundles.EditLine) = true
is_type type (Some other) = false

abbrev pub bundle_found : BundleType → Option BundleHead → (count : ℕ) → Place → List Refusal
bundle_found type None count place = only_if true UnknownBundle place
bundle_found type (Some b) count place =
    if is_type type b.type then only_if (other_count b.params count) ArgumentCount place else only_if true UnknownBundle place

abbrev pub named_bundle : Setting → BundleType → List ℕ → (count : ℕ) → Place → List Refusal
named_bundle s type name count place = bundle_found type (bundle_named s.definitions name) count place

abbrev pub edit_refusals : Setting → ValueTree → List Refusal
edit_refusals s (word name place) = named_bundle s bundles.EditLine name 0 place
edit_refusals s (call name arguments place) =
    named_bundle s bundles.EditLine name (value_count arguments) place ++ flat_map (item_refusals s) (values_in arguments)
edit_refusals s v = wrong v

-- a text that is known before the run names an agent bundle too
abbrev pub named_by_text : (known : Bool) → Setting → List ℕ → Place → List Refusal
named_by_text true s content place = named_bundle s bundles.Agent content 0 place
named_by_text false s content place = only_if true WrongValue place

abbrev pub method_refusals : Setting → ValueTree → List Refusal
method_refusals s (text content place) = named_by_text (is_known content) s content place ++ text_scope s content place
method_refusals s (word name place) = named_bundle s bundles.Agent name 0 place
method_refusals s (call name arguments place) =
    named_bundle s bundles.Agent name (value_count arguments) place ++ flat_map (item_refusals s) (values_in arguments)
method_refusals s v = wrong v

-- ---- names in control bodies

-- each that stands before already, by its name
abbrev pub repeated_after : (before : List (List ℕ)) → List NamedTree → List Refusal
repeated_after before [] = []
repeated_after before (n ∷ rest) = only_if (is_one_of n.name before) Duplicate n.place ++ repeated_after (before ++ n.name ∷ []) rest

abbrev pub repeated : List NamedTree → List Refusal
repeated names = repeated_after [] names

-- an item is known before the run
abbrev pub known_item_refusals : Setting → ValueTree → List Refusal
known_item_refusals s (text content place) = only_if (not (is_known content)) WrongValue place ++ text_scope s content place
known_item_refusals s (word name place) = []
known_item_refusals s v = wrong v

-- a bundle of the sequence is an agent bundle without parameters, or a common bundle
abbrev pub sequence_found : Option BundleType → ℕ → Place → List Refusal
sequence_found None params place = only_if true UnknownBundle place
sequence_found (Some bundles.Agent) params place = only_if (nat_lt 0 params) ArgumentCount place
sequence_found (Some bundles.Common) params place = []
sequence_found (Some bundles.EditLine) params place = only_if true UnknownBundle place

abbrev pub in_sequence_refusals : Option BundleHead → Place → List Refusal
in_sequence_refusals None place = only_if true UnknownBundle place
in_sequence_refusals (Some b) place = sequence_found b.type b.params place

abbrev pub sequence_item_refusals : Definitions → NamedTree → List Refusal
sequence_item_refusals definitions item = in_sequence_refusals (bundle_named definitions item.name) item.place

abbrev pub sequence_refusals : Setting → ValueTree → List Refusal
sequence_refusals s (list items place) =
    flat_map (known_item_refusals s) (values_in items) ++ (flat_map (sequence_item_refusals s.definitions) (known_items items) ++ repeated (known_items items))
sequence_refusals s v = wrong v

abbrev pub input_refusals : Setting → ValueTree → List Refusal
input_refusals s (list items place) =
    only_if (nat_lt MOST_INPUTS (value_count items)) WrongValue place ++ (flat_map (known_item_refusals s) (values_in items) ++ repeated (known_items items))
input_refusals s v = wrong v

-- ---- values by their kinds

abbrev pub value_refusals : Setting → Kind → ValueTree → List Refusal
value_refusals s (kinds.Text form) v = text_refusals s form v
value_refusals s (kinds.Literal form) v = literal_refusals s form v
value_refusals s (kinds.TextOrCall form) v = text_or_call_refusals s form v
value_refusals s kinds.Pattern v = text_refusals s AnyText v
value_refusals s kinds.List v = list_refusals s (item_refusals s) v
value_refusals s kinds.FullList v = full_list_refusals s v
value_refusals s kinds.ClassText v = class_refusals s v
value_refusals s kinds.ClassTexts v = list_refusals s (class_item_refusals s) v
value_refusals s (kinds.BodyOf type) v = body_refusals s type v
value_refusals s kinds.EditBundle v = edit_refusals s v
value_refusals s kinds.AgentBundle v = method_refusals s v
value_refusals s kinds.BundleNames v = sequence_refusals s v
value_refusals s kinds.InputNames v = input_refusals s v
