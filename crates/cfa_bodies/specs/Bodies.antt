-- What the bodies of a promise say in one combination of it. The texts of a body see its parameters, which hold what the
-- arguments give, and qualified names alone; a scalar reference there to a list is unresolved. `dirlinks` is never read.
--
-- Where something that a body says is unresolved, nothing comes of the combination. Failing that, a list of more than 4,096
-- items is too many, and failing that, a text of more than 65,536 bytes too long.
use Rattle.std.specs.Prelude.{ℕ, Bool, true, false, List, [], ◌∷◌, codes, length, map, nat_lt, Option, Some, None, option_and_then, if◌then◌else◌}
use Rattle.std.specs.List.{filter_map, flat_map, list_any}
use Rattle.std.specs.Str.{bytes_eq}
use Rattle.cfa_base.specs.declared.limits.TheConstants.{MOST_COMBINATIONS}
use Rattle.cfa_tree.specs.Tree.{ValueTree, text, word, reference, list_reference, list, call, ValueTrees, no_value, more_values, AttributeTree, PromiseTree, NamedTree, BlockTree, bundle, body, PolicyTree}
use Rattle.cfa_kinds.specs.declared.kinds.PromiseType.{PromiseType}
use Rattle.cfa_kinds.specs.declared.kinds.BodyType.{BodyType}
use Rattle.cfa_kinds.specs.declared.kinds.Kind.{Kind}
use Rattle.cfa_kinds.specs.declared.kinds.Kind.TheVariants as kinds
use Rattle.cfa_kinds.specs.Kinds.{own_attribute, body_attribute}
use Rattle.cfa_vars.specs.declared.scoping.Datum.{Datum}
use Rattle.cfa_vars.specs.declared.scoping.Datum.TheVariants.{Text as text_of, List as list_of}
use Rattle.cfa_vars.specs.Named.{thing_at, put}
use Rattle.cfa_vars.specs.Scopes.{InScope, Table, look}
use Rattle.cfa_vars.specs.Expansion.{Chosen}
use Rattle.cfa_functions.specs.declared.reading.ValueText.{ValueText}
use Rattle.cfa_functions.specs.declared.reading.ValueText.TheVariants.{Text as whole_text, Unresolved as text_unresolved, TooLong as text_too_long}
use Rattle.cfa_functions.specs.declared.listing.ValueList.{ValueList}
use Rattle.cfa_functions.specs.declared.listing.ValueList.TheVariants.{Items, Unresolved as list_unresolved, TooLong as list_too_long}
use Rattle.cfa_functions.specs.Calls.{text_given, list_given, referred_list}
use Rattle.cfa_defines.specs.OwnTexts.{arguments_of, held_list}
use Rattle.cfa_defines.specs.Items.{items_or_none, item_count}
use Rattle.cfa_served.specs.Served.{body_of}
use Rattle.cfa_bodies.specs.declared.sayings.Said.{Said}
use Rattle.cfa_bodies.specs.declared.sayings.Said.TheVariants.{Text as text_said, Items as items_said, Unresolved as unresolved, Over as over}
use Rattle.cfa_bodies.specs.declared.hearing.Heard.{Heard}
use Rattle.cfa_bodies.specs.declared.hearing.Heard.TheVariants.{Lacks as lacks_body, TooMany as many_in_body, TooLong as long_in_body, All as all_heard}

-- ---- arguments

-- the text, where there is one
abbrev pub whole_or_empty : ValueText → List ℕ
whole_or_empty (whole_text content) = content
whole_or_empty (text_unresolved name) = []
whole_or_empty text_too_long = []

abbrev pub list_or_text : InScope → Option (List ℕ) → ValueText → Datum
list_or_text scopes None given = text_of (whole_or_empty given)
list_or_text scopes (Some name) given = list_of (items_or_none (held_list (look scopes name)))

-- what an argument of a body or bundle gives: a list reference, also a text that is wholly one, its list, and another value its
-- text
unfoldable pub datum_given : InScope → Chosen → ValueTree → Datum
datum_given scopes choice value = list_or_text scopes (referred_list value) (text_given scopes choice value)

abbrev pub data_given : InScope → Chosen → ValueTrees → List Datum
data_given scopes choice no_value = []
data_given scopes choice (more_values value rest) = datum_given scopes choice value ∷ data_given scopes choice rest

-- the parameters with what the arguments give, one after the other
abbrev pub bound_after : Table → List NamedTree → List Datum → Table
bound_after table [] given = table
bound_after table (p ∷ params) [] = table
bound_after table (p ∷ params) (datum ∷ given) = bound_after (put table p.name datum) params given

abbrev pub bound : List NamedTree → List Datum → Table
bound params given = bound_after [] params given

-- what the texts of a body see
abbrev pub body_scope : InScope → Table → InScope
body_scope scopes params = record { own = params; own_name = []; shared = scopes.shared }

-- ---- what is said

-- what an attribute of a body says: a text, or the items of a list. Where a text of it is over the limit, it is told whether the
-- list has more than 4,096 items
abbrev pub text_of_said : ValueText → Said
text_of_said (whole_text content) = text_said content
text_of_said (text_unresolved name) = unresolved name
text_of_said text_too_long = over false

abbrev pub list_of_said : (has_many : Bool) → ValueList → Said
list_of_said has_many (Items items) = items_said items
list_of_said has_many (list_unresolved name) = unresolved name
list_of_said has_many list_too_long = over has_many

-- whether a list has more than 4,096 items
abbrev pub has_many_items : InScope → ValueTree → Bool
has_many_items scopes value = nat_lt MOST_COMBINATIONS (item_count scopes value)

-- what an attribute says, by what it takes
abbrev pub said_by : InScope → Option Kind → ValueTree → Option Said
said_by scopes None value = None
said_by scopes (Some kinds.List) value = Some (list_of_said (has_many_items scopes value) (list_given scopes [] value))
said_by scopes (Some kinds.FullList) value = Some (list_of_said (has_many_items scopes value) (list_given scopes [] value))
said_by scopes (Some kind) value = Some (text_of_said (text_given scopes [] value))

-- what an attribute of a body takes, if it is read
abbrev pub read_attribute : BodyType → List ℕ → Option Kind
read_attribute type name = if bytes_eq name (codes "dirlinks") then None else body_attribute type name

-- what is said, under the names of the attributes
abbrev pub Sayings : Type 0
Sayings = List (List ℕ × Said)

abbrev pub named_saying : List ℕ → Option Said → Option (List ℕ × Said)
named_saying name None = None
named_saying name (Some said) = Some (name, said)

abbrev pub saying_of : InScope → BodyType → AttributeTree → Option (List ℕ × Said)
saying_of scopes type attribute =
    named_saying attribute.name (said_by scopes (read_attribute type attribute.name) attribute.value)

abbrev pub sayings_in : InScope → Chosen → BodyType → ValueTrees → Option BlockTree → Sayings
sayings_in scopes choice type arguments None = []
sayings_in scopes choice type arguments (Some (bundle type_name named params sections place)) = []
sayings_in scopes choice type arguments (Some (body type_name named params attributes place)) =
    filter_map (saying_of (body_scope scopes (bound params (data_given scopes choice arguments))) type) attributes

-- ---- the bodies of a promise

-- the name of a body or bundle in a value
abbrev pub name_given : ValueTree → List ℕ
name_given (text content place) = content
name_given (word name place) = name
name_given (reference name place) = []
name_given (list_reference name place) = []
name_given (list items place) = []
name_given (call name arguments place) = name

-- the bodies of a promise under the names of its attributes, each with what it says, in text order
abbrev pub Bodies : Type 0
Bodies = List (List ℕ × Sayings)

module _ (policy : PolicyTree) (scopes : InScope) (choice : Chosen) where
  abbrev pub body_by : Option Kind → AttributeTree → Option (List ℕ × Sayings)
  body_by None attribute = None
  body_by (Some (kinds.BodyOf type)) attribute =
      Some (attribute.name, sayings_in scopes choice type (arguments_of attribute.value) (body_of policy type (name_given attribute.value)))
  body_by (Some kind) attribute = None

  abbrev pub body_in : PromiseType → AttributeTree → Option (List ℕ × Sayings)
  body_in type attribute = body_by (own_attribute type attribute.name) attribute

  unfoldable pub bodies_of : PromiseType → PromiseTree → Bodies
  bodies_of type promise = filter_map (body_in type) promise.attributes

-- what a body says under an attribute's name
abbrev pub said_in : Bodies → (body_name name : List ℕ) → Option Said
said_in bodies body_name name = option_and_then (λ sayings. thing_at sayings name) (thing_at bodies body_name)

-- what is said as a text, and as a list; nothing where it is none
abbrev pub text_in : Said → List ℕ
text_in (text_said content) = content
text_in (items_said items) = []
text_in (unresolved name) = []
text_in (over has_many) = []

abbrev pub text_or_empty : Option Said → List ℕ
text_or_empty None = []
text_or_empty (Some said) = text_in said

abbrev pub items_in : Said → List (List ℕ)
items_in (text_said content) = []
items_in (items_said items) = items
items_in (unresolved name) = []
items_in (over has_many) = []

abbrev pub all_said : Bodies → List Said
all_said bodies = flat_map (λ b. map (λ s. s.1) b.1) bodies

-- ---- what keeps a combination from being made

abbrev pub is_many : Said → Bool
is_many (text_said content) = false
is_many (items_said items) = nat_lt MOST_COMBINATIONS (length items)
is_many (unresolved name) = false
is_many (over has_many) = has_many

abbrev pub is_over : Said → Bool
is_over (text_said content) = false
is_over (items_said items) = false
is_over (unresolved name) = false
is_over (over has_many) = true

-- the name that is unresolved, if it can be told
abbrev pub or_first : Said → Option (Option (List ℕ)) → Option (Option (List ℕ))
or_first (text_said content) rest = rest
or_first (items_said items) rest = rest
or_first (unresolved name) rest = Some name
or_first (over has_many) rest = rest

abbrev pub first_unresolved : List Said → Option (Option (List ℕ))
first_unresolved [] = None
first_unresolved (said ∷ more) = or_first said (first_unresolved more)

abbrev pub heard_by : Option (Option (List ℕ)) → (many long : Bool) → Heard
heard_by (Some name) many long = lacks_body name
heard_by None true long = many_in_body
heard_by None false true = long_in_body
heard_by None false false = all_heard

unfoldable pub heard : Bodies → Heard
heard bodies =
    let said = all_said bodies in
    heard_by (first_unresolved said) (list_any is_many said) (list_any is_over said)
