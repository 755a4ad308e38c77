-- A policy is valid where no line of the table of refusals applies to it, where it has a sequence of bundles, and where each
-- pattern that is known before the run is one. Otherwise its first refusal is the sooner of those that apply, else that it
-- has no sequence, else the first of these patterns that is none.
use Rattle.std.specs.Prelude.{◌≡◌, ◌⊎◌, ℕ, Bool, true, false, ◌&&◌, ◌==◌, not, nat_lt, IsTrue, List, [], ◌∷◌, ◌++◌, map, All, Contains, codes, Option, Some, None, count_by, if◌then◌else◌}
use Rattle.std.specs.List.{flat_map, filter_map, list_any}
use Rattle.std.specs.Str.{bytes_eq}
use Rattle.cfa_base.specs.declared.places.Place.{Place}
use Rattle.cfa_base.specs.declared.patterns.How.{How}
use Rattle.cfa_base.specs.declared.patterns.How.TheVariants.{Whole, Part}
use Rattle.cfa_base.specs.Lexing.{is_word, first_place}
use Rattle.cfa_base.specs.Patterns.{is_pattern}
use Rattle.cfa_tree.specs.Tree.{ValueTree, text, word, list, call, AttributeTree, PromiseTree, SectionTree, NamedTree, BlockTree, bundle, body, PolicyTree}
use Rattle.cfa_kinds.specs.declared.kinds.BundleType.{BundleType}
use Rattle.cfa_kinds.specs.declared.kinds.BundleType.TheVariants as bundles
use Rattle.cfa_kinds.specs.declared.kinds.PromiseType.{PromiseType}
use Rattle.cfa_kinds.specs.declared.kinds.PromiseType.TheVariants as promises
use Rattle.cfa_kinds.specs.declared.kinds.BodyType.{BodyType}
use Rattle.cfa_kinds.specs.declared.kinds.BodyType.TheVariants as bodies
use Rattle.cfa_kinds.specs.declared.kinds.Kind.{Kind}
use Rattle.cfa_kinds.specs.declared.kinds.Kind.TheVariants as kinds
use Rattle.cfa_values.specs.declared.refusals.Refusal.{Refusal}
use Rattle.cfa_kinds.specs.Kinds.{bundle_type, is_foreign_bundle_type, promise_type, is_foreign_promise_type, has_promise_type, body_type, is_foreign_body_type, promise_attribute, body_attribute, choices, required}
use Rattle.cfa_values.specs.Scope.{in_bundle, in_body}
use Rattle.cfa_values.specs.Refusals.{refusal, is_sooner, only_if}
use Rattle.cfa_calls.specs.Cycles.{Call, OnCycle}
use Rattle.cfa_values.specs.Definitions.{Definitions, BundleHead, bundle_named, is_agent, is_one_of}
use Rattle.cfa_schema.specs.Defined.{definitions_of, has_sequence}
use Rattle.cfa_served.specs.Control.{control_of}
use Rattle.cfa_values.specs.Attributes.{value_of, attributes_refusals, has_attribute}
use Rattle.cfa_values.specs.Values.{is_known, known_named, name_in, Setting, text_scope, is_list_reference, item_refusals, value_refusals, repeated}
use Rattle.cfa_values.specs.declared.refusals.Code.TheVariants.{UnknownType, TypeOutOfScope, WrongValue, ArgumentCount, Duplicate, CallCycle, NoSequence, BadPattern}

-- ---- promises

-- a promise has one of the attributes of which its type asks for one
abbrev pub lacks_choice : List (List ℕ) → List AttributeTree → Bool
lacks_choice [] attributes = false
lacks_choice (name ∷ names) attributes = not (count_by (has_attribute attributes) (name ∷ names) == 1)

-- the promiser of a vars promise is a word, and no other is wholly a list reference
abbrev pub is_wrong_promiser : PromiseType → List ℕ → Bool
is_wrong_promiser promises.Vars promiser = not (is_word promiser)
is_wrong_promiser type promiser = is_list_reference promiser

-- a promisee is an item, or a list of items
abbrev pub promisee_refusals : Setting → Option ValueTree → List Refusal
promisee_refusals s None = []
promisee_refusals s (Some (list items place)) = value_refusals s kinds.List (list items place)
promisee_refusals s (Some v) = item_refusals s v

abbrev pub promise_refusals : Setting → PromiseType → PromiseTree → List Refusal
promise_refusals s type p =
    only_if (is_wrong_promiser type p.promiser) WrongValue p.place
    ++ (text_scope s p.promiser p.place
    ++ (only_if (lacks_choice (choices type) p.attributes) WrongValue p.place
    ++ (promisee_refusals s p.promisee
    ++ attributes_refusals s (promise_attribute type) p.attributes)))

-- a word for a type that this profile leaves out, or that is unknown (S1)
abbrev pub other_type : (is_foreign : Bool) → Place → List Refusal
other_type true place = only_if true TypeOutOfScope place
other_type false place = only_if true UnknownType place

abbrev pub section_by : Setting → BundleType → SectionTree → Option PromiseType → List Refusal
section_by s within section None = other_type (is_foreign_promise_type section.kind) section.place
section_by s within section (Some type) =
    if has_promise_type within type then flat_map (promise_refusals s type) section.promises else only_if true TypeOutOfScope section.place

abbrev pub section_refusals : Setting → BundleType → SectionTree → List Refusal
section_refusals s within section = section_by s within section (promise_type section.kind)

-- ---- blocks

abbrev pub bundle_by : Setting → NamedTree → List SectionTree → Option BundleType → List Refusal
bundle_by s type_name sections None = other_type (is_foreign_bundle_type type_name.name) type_name.place
bundle_by s type_name sections (Some type) = flat_map (section_refusals s type) sections

-- a common or agent body is named `control`
abbrev pub is_misnamed : BodyType → List ℕ → Bool
is_misnamed bodies.Common name = not (bytes_eq name (codes "control"))
is_misnamed bodies.Agent name = not (bytes_eq name (codes "control"))
is_misnamed type name = false

abbrev pub lacks_required : List (List ℕ) → List AttributeTree → Bool
lacks_required names attributes = list_any (λ name. not (has_attribute attributes name)) names

abbrev pub body_by : Setting → (type_name name : NamedTree) → List AttributeTree → Option BodyType → List Refusal
body_by s type_name name attributes None = other_type (is_foreign_body_type type_name.name) type_name.place
body_by s type_name name attributes (Some type) =
    only_if (is_misnamed type name.name) TypeOutOfScope name.place
    ++ (only_if (lacks_required (required type) attributes) WrongValue name.place
    ++ attributes_refusals s (body_attribute type) attributes)

abbrev pub block_refusals : Definitions → BlockTree → List Refusal
block_refusals definitions (bundle type_name name params sections place) =
    repeated params ++ bundle_by (record { definitions = definitions; home = in_bundle name.name }) type_name sections (bundle_type type_name.name)
block_refusals definitions (body type_name name params attributes place) =
    repeated params ++ body_by (record { definitions = definitions; home = in_body (map name_in params) }) type_name name attributes (body_type type_name.name)

-- ---- the policy as a whole

abbrev pub bundle_name : BlockTree → Option NamedTree
bundle_name (bundle type_name name params sections place) = Some name
bundle_name (body type_name name params attributes place) = None

-- a body by the word of its type and its name
pub record BodyName : Type 0 where
  pub type_word : List ℕ
  pub named : NamedTree

abbrev pub body_name : BlockTree → Option BodyName
body_name (bundle type_name name params sections place) = None
body_name (body type_name name params attributes place) = Some (record { type_word = type_name.name; named = name })

abbrev pub is_same_body : BodyName → BodyName → Bool
is_same_body b other = bytes_eq b.type_word other.type_word && bytes_eq b.named.name other.named.name

-- each body that stands before already, by its type and name
abbrev pub repeated_bodies_after : (before : List BodyName) → List BodyName → List Refusal
repeated_bodies_after before [] = []
repeated_bodies_after before (b ∷ rest) =
    only_if (list_any (is_same_body b) before) Duplicate b.named.place ++ repeated_bodies_after (before ++ b ∷ []) rest

-- `main` is the sequence where there is no bundlesequence, and then has no parameters
abbrev pub main_refusals : Option BundleHead → List Refusal
main_refusals None = []
main_refusals (Some b) = only_if (is_agent b.type && nat_lt 0 b.params) ArgumentCount b.place

abbrev pub default_refusals : Definitions → Option ValueTree → List Refusal
default_refusals definitions None = main_refusals (bundle_named definitions (codes "main"))
default_refusals definitions (Some sequence) = []

-- what is refused by the lines of the table but that on cycles
unfoldable pub refusals : PolicyTree → List Refusal
refusals policy =
    repeated (filter_map bundle_name policy)
    ++ (repeated_bodies_after [] (filter_map body_name policy)
    ++ (default_refusals (definitions_of policy) (value_of (codes "bundlesequence") (control_of policy))
    ++ flat_map (block_refusals (definitions_of policy)) policy))

-- ---- calls

-- the bundle that a value of `usebundle` names, with the value's place
abbrev pub callee_named : ValueTree → Option NamedTree
callee_named (text content place) = known_named (text content place)
callee_named (word name place) = known_named (word name place)
callee_named (call name arguments place) = Some (record { name = name; place = place })
callee_named v = None

abbrev pub called_by : List ℕ → Option NamedTree → Option Call
called_by caller None = None
called_by caller (Some callee) = Some (record { caller = caller; callee = callee.name; place = callee.place })

-- the call that a value of a kind makes
abbrev pub call_of_kind : List ℕ → Option Kind → ValueTree → Option Call
call_of_kind caller (Some kinds.AgentBundle) v = called_by caller (callee_named v)
call_of_kind caller kind v = None

abbrev pub call_in_attribute : List ℕ → AttributeTree → Option Call
call_in_attribute caller a = call_of_kind caller (promise_attribute promises.Methods a.name) a.value

abbrev pub calls_in_promise : List ℕ → PromiseTree → List Call
calls_in_promise caller p = filter_map (call_in_attribute caller) p.attributes

-- methods promises call
abbrev pub calls_by_type : List ℕ → Option PromiseType → List PromiseTree → List Call
calls_by_type caller (Some promises.Methods) ps = flat_map (calls_in_promise caller) ps
calls_by_type caller type ps = []

abbrev pub calls_in_section : List ℕ → SectionTree → List Call
calls_in_section caller section = calls_by_type caller (promise_type section.kind) section.promises

-- agent bundles call
abbrev pub calls_in_bundle : List ℕ → Option BundleType → List SectionTree → List Call
calls_in_bundle caller (Some bundles.Agent) sections = flat_map (calls_in_section caller) sections
calls_in_bundle caller type sections = []

abbrev pub calls_in_block : BlockTree → List Call
calls_in_block (bundle type_name name params sections place) = calls_in_bundle name.name (bundle_type type_name.name) sections
calls_in_block (body type_name name params attributes place) = []

-- the bundles, but those whose name stands before already
abbrev pub first_bundles_after : (before : List (List ℕ)) → PolicyTree → PolicyTree
first_bundles_after before [] = []
first_bundles_after before (bundle type_name name params sections place ∷ rest) =
    (if is_one_of name.name before then [] else bundle type_name name params sections place ∷ [])
    ++ first_bundles_after (before ++ name.name ∷ []) rest
first_bundles_after before (body type_name name params attributes place ∷ rest) = first_bundles_after before rest

-- the first bundle of each name
abbrev pub first_bundles : PolicyTree → PolicyTree
first_bundles policy = first_bundles_after [] policy

-- which agent bundle calls which, by the methods promises; of a name the first bundle alone calls
unfoldable pub calls_of : PolicyTree → List Call
calls_of policy = flat_map calls_in_block (first_bundles policy)

-- ---- patterns

-- a pattern that is known before the run, how it is to match, and its place
pub record KnownPattern : Type 0 where
  pub how : How
  pub text : List ℕ
  pub place : Place

abbrev pub pattern_at : How → Place → List ℕ → List KnownPattern
pattern_at how place content = if is_known content then record { how = how; text = content; place = place } ∷ [] else []

-- delete_lines and field_edits match whole lines, replace_patterns matches parts of them
abbrev pub promiser_pattern : Option PromiseType → PromiseTree → List KnownPattern
promiser_pattern None p = []
promiser_pattern (Some promises.DeleteLines) p = pattern_at Whole p.place p.promiser
promiser_pattern (Some promises.FieldEdits) p = pattern_at Whole p.place p.promiser
promiser_pattern (Some promises.ReplacePatterns) p = pattern_at Part p.place p.promiser
promiser_pattern (Some type) p = []

abbrev pub patterns_in_section : SectionTree → List KnownPattern
patterns_in_section section = flat_map (promiser_pattern (promise_type section.kind)) section.promises

abbrev pub pattern_named : Option NamedTree → List KnownPattern
pattern_named None = []
pattern_named (Some n) = record { how = Whole; text = n.name; place = n.place } ∷ []

-- the pattern that a value of a kind names
abbrev pub pattern_of_kind : Option Kind → ValueTree → List KnownPattern
pattern_of_kind (Some kinds.Pattern) v = pattern_named (known_named v)
pattern_of_kind kind v = []

abbrev pub pattern_in_attribute : BodyType → AttributeTree → List KnownPattern
pattern_in_attribute type a = pattern_of_kind (body_attribute type a.name) a.value

abbrev pub patterns_in_body : Option BodyType → List AttributeTree → List KnownPattern
patterns_in_body None attributes = []
patterns_in_body (Some type) attributes = flat_map (pattern_in_attribute type) attributes

abbrev pub patterns_in_block : BlockTree → List KnownPattern
patterns_in_block (bundle type_name name params sections place) = flat_map patterns_in_section sections
patterns_in_block (body type_name name params attributes place) = patterns_in_body (body_type type_name.name) attributes

-- the patterns that are known before the run, in text order
unfoldable pub patterns_of : PolicyTree → List KnownPattern
patterns_of policy = flat_map patterns_in_block policy

abbrev pub IsPattern : KnownPattern → Type 0
IsPattern p = IsTrue (is_pattern p.how p.text)

-- ---- validity

-- a line of the table applies with this refusal
abbrev pub Applies : PolicyTree → Refusal → Type 0
Applies policy r =
    Contains (refusals policy) r
    ⊎ ((c : Call) × Contains (calls_of policy) c × OnCycle (calls_of policy) c × (r ≡ refusal CallCycle c.place))

abbrev pub NoneApplies : PolicyTree → Type 0
NoneApplies policy = (r : Refusal) → ¬ Applies policy r

pub record Valid (policy : PolicyTree) : Type 0 where
  pub none_applies : NoneApplies policy
  pub sequence : IsTrue (has_sequence policy)
  pub patterns : All IsPattern (patterns_of policy)

-- no refusal that applies is sooner
pub record IsFirst (policy : PolicyTree) (r : Refusal) : Type 0 where
  pub applies : Applies policy r
  pub first : (other : Refusal) → Applies policy other → is_sooner other r ≡ false

-- a pattern that is none, behind those that are
pub record IsFirstBad (patterns : List KnownPattern) (p : KnownPattern) : Type 0 where
  pub before : List KnownPattern
  pub after : List KnownPattern
  pub stands : patterns ≡ before ++ p ∷ after
  pub good : All IsPattern before
  pub bad : is_pattern p.how p.text ≡ false

pub data FirstRefusal (policy : PolicyTree) : Refusal → Type 0 where
  of_table : (r : Refusal) → IsFirst policy r → FirstRefusal policy r
  no_sequence : NoneApplies policy → has_sequence policy ≡ false → FirstRefusal policy (refusal NoSequence (first_place 0))
  bad_pattern : (p : KnownPattern) → NoneApplies policy → IsTrue (has_sequence policy) → IsFirstBad (patterns_of policy) p →
      FirstRefusal policy (refusal BadPattern p.place)

-- a text of these patterns was refused for its size, where nothing else is refused; it and all before it are patterns
pub record IsRefusedForSize (policy : PolicyTree) (t : List ℕ) : Type 0 where
  pub none_applies : NoneApplies policy
  pub sequence : IsTrue (has_sequence policy)
  pub pattern : KnownPattern
  pub before : List KnownPattern
  pub after : List KnownPattern
  pub stands : patterns_of policy ≡ before ++ pattern ∷ after
  pub good : All IsPattern before
  pub reads : IsPattern pattern
  pub text : pattern.text ≡ t
