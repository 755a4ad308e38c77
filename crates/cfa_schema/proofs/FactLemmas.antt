-- What holds of the attributes of a valid policy: none of them is refused.
use Rattle.std.proofs.Common.{◌≡◌, ◌∙◌, ℕ, Bool, true, false, not, List, [], ◌++◌, Option, Some, None, refl, ap, sym, arith, map}
use Rattle.std.specs.Prelude.{◌==◌, if◌then◌else◌}
use Rattle.std.specs.List.{Contains, flat_map}
use Rattle.std.proofs.lemmas.Bool.Decides.{nat_tests}
use Rattle.cfa_base.specs.declared.places.Place.{Place}
use Rattle.cfa_base.specs.lemmas.Lists.{none_left, none_right, one_empty}
use Rattle.cfa_tree.specs.Tree.{ValueTree, AttributeTree, PromiseTree, SectionTree, bundle, body, values_in}
use Rattle.cfa_kinds.specs.declared.kinds.BundleType.{BundleType}
use Rattle.cfa_kinds.specs.declared.kinds.BundleType.TheVariants as bundles
use Rattle.cfa_kinds.specs.declared.kinds.PromiseType.{PromiseType}
use Rattle.cfa_kinds.specs.declared.kinds.BodyType.{BodyType}
use Rattle.cfa_kinds.specs.declared.kinds.Kind.{Kind}
use Rattle.cfa_kinds.specs.declared.kinds.Kind.TheVariants as kinds
use Rattle.cfa_kinds.specs.Kinds.{bundle_type, promise_type, body_type, body_word, has_promise_type, promise_attribute, body_attribute, choices, required}
use Rattle.cfa_values.specs.declared.refusals.Code.{Code}
use Rattle.cfa_values.specs.declared.refusals.Code.TheVariants.{WrongValue, TypeOutOfScope, ArgumentCount, UnknownBundle}
use Rattle.cfa_values.specs.Refusals.{only_if}
use Rattle.cfa_values.specs.Definitions.{BundleHead, BodyHead, bundle_named, body_named}
use Rattle.cfa_values.specs.Values.{Setting, text_scope, value_count, item_refusals, body_found, body_refusals, bundle_found, is_type, edit_refusals, is_known, named_by_text, method_refusals, value_refusals, repeated}
use Rattle.cfa_values.specs.Attributes.{attribute_name, attribute_by, attribute_refusals, attributes_refusals}
use Rattle.cfa_schema.specs.Valid.{bundle_by, body_by, section_by, section_refusals, promise_refusals, promisee_refusals, is_wrong_promiser, lacks_choice, lacks_required, is_misnamed}
use Rattle.cfa_schema.specs.Laws.{in_promise, of_body, Names, by_word, by_call, NamesBundle, by_name, by_text, NothingIsRefused, NamedBodyIsThere, EditBundleIsThere, AgentBundleIsThere}
use Rattle.cfa_schema.specs.lemmas.Passing.{block_passes}

by_type : {T Y : Type 0} (by : Option T → List Y) (found : Option T) (type : T) → found ≡ Some type → by found ≡ [] → by (Some type) ≡ []
by_type by found type e h = sym (ap by e) ∙ h

promises_pass : (s : Setting) (within : BundleType) (section : SectionTree) (type : PromiseType) (b : Bool) →
    (if b then flat_map (promise_refusals s type) section.promises else only_if true TypeOutOfScope section.place) ≡ [] → flat_map (promise_refusals s type) section.promises ≡ []
promises_pass s within section type true e = e
promises_pass s within section type false e = cc

attributes_pass : (s : Setting) (table : List ℕ → Option Kind) (attributes : List AttributeTree) (a : AttributeTree) → attributes_refusals s table attributes ≡ [] → Contains attributes a →
    attribute_refusals s table a ≡ []
attributes_pass s table attributes a e h =
    one_empty (attribute_refusals s table) attributes a (none_right (repeated (map attribute_name attributes)) (flat_map (attribute_refusals s table) attributes) e) h

promise_passes : (s : Setting) (type : PromiseType) (p : PromiseTree) → promise_refusals s type p ≡ [] → attributes_refusals s (promise_attribute type) p.attributes ≡ []
promise_passes s type p e =
    let wrong = only_if (is_wrong_promiser type p.promiser) WrongValue p.place in
    let scope = text_scope s p.promiser p.place in
    let lacking = only_if (lacks_choice (choices type) p.attributes) WrongValue p.place in
    let promisee = promisee_refusals s p.promisee in
    let rest = attributes_refusals s (promise_attribute type) p.attributes in
    none_right promisee rest (none_right lacking (promisee ++ rest) (none_right scope (lacking ++ (promisee ++ rest)) (none_right wrong (scope ++ (lacking ++ (promisee ++ rest))) e)))

pub nothing_is_refused : NothingIsRefused
nothing_is_refused policy s table a valid (in_promise {type_name} {name} {type} {p} is h) =
    let passes = block_passes policy (bundle type_name name is.params is.sections is.place) valid is.is_block in
    let by = bundle_by s type_name is.sections in
    let sections = by_type by (bundle_type type_name.name) is.within is.bundle_is (none_right (repeated is.params) (by (bundle_type type_name.name)) passes) in
    let section = one_empty (section_refusals s is.within) is.sections is.section sections is.is_section in
    let typed = by_type (section_by s is.within is.section) (promise_type is.section.kind) type is.type_is section in
    let promises = promises_pass s is.within is.section type (has_promise_type is.within type) typed in
    attributes_pass s table p.attributes a (promise_passes s type p (one_empty (promise_refusals s type) is.section.promises p promises is.is_promise)) h
nothing_is_refused policy s table a valid (of_body {type_name} {name} {params} {attributes} {place} {type} is_block type_is h) =
    let passes = block_passes policy (body type_name name params attributes place) valid is_block in
    let by = body_by s type_name name attributes in
    let typed = by_type by (body_type type_name.name) type type_is (none_right (repeated params) (by (body_type type_name.name)) passes) in
    let misnamed = only_if (is_misnamed type name.name) TypeOutOfScope name.place in
    let lacking = only_if (lacks_required (required type) attributes) WrongValue name.place in
    let rest = attributes_refusals s (body_attribute type) attributes in
    attributes_pass s table attributes a (none_right lacking rest (none_right misnamed (lacking ++ rest) typed)) h

value_passes : (s : Setting) (table : List ℕ → Option Kind) (a : AttributeTree) (kind : Kind) → table a.name ≡ Some kind → attribute_refusals s table a ≡ [] → value_refusals s kind a.value ≡ []
value_passes s table a kind is e = by_type (attribute_by s a) (table a.name) kind is e

counted : (m n : ℕ) (code : Code) (place : Place) (b : Bool) → (m == n) ≡ b → only_if (not b) code place ≡ [] → m ≡ n
counted m n code place true e h = grind (arith, nat_tests)
counted m n code place false e h = cc

body_there : (found : Option BodyHead) (count : ℕ) (place : Place) → body_found found count place ≡ [] → (b : BodyHead) × (found ≡ Some b) × (b.params ≡ count)
body_there None count place e = cc
body_there (Some b) count place e = (b, refl, counted b.params count ArgumentCount place (b.params == count) refl e)

named_body : (s : Setting) (type : BodyType) (v : ValueTree) (name : List ℕ) (count : ℕ) → Names v name count → body_refusals s type v ≡ [] →
    (b : BodyHead) × (body_named s.definitions (body_word type) name ≡ Some b) × (b.params ≡ count)
named_body s type v name count (by_word {place = place}) e = body_there (body_named s.definitions (body_word type) name) 0 place e
named_body s type v name count (by_call {arguments = arguments} {place = place}) e =
    let found = body_named s.definitions (body_word type) name in
    body_there found (value_count arguments) place (none_left (body_found found (value_count arguments) place) (flat_map (item_refusals s) (values_in arguments)) e)

pub named_body_is_there : NamedBodyIsThere
named_body_is_there policy s table a type name count valid stands is names =
    named_body s type a.value name count names (value_passes s table a (kinds.BodyOf type) is (nothing_is_refused policy s table a valid stands))

typed : (type : BundleType) (found : Option BundleType) → is_type type found ≡ true → found ≡ Some type
typed type None e = cc
typed bundles.Agent (Some bundles.Agent) e = refl
typed bundles.Agent (Some bundles.Common) e = cc
typed bundles.Agent (Some bundles.EditLine) e = cc
typed bundles.Common (Some bundles.Agent) e = cc
typed bundles.Common (Some bundles.Common) e = refl
typed bundles.Common (Some bundles.EditLine) e = cc
typed bundles.EditLine (Some bundles.Agent) e = cc
typed bundles.EditLine (Some bundles.Common) e = cc
typed bundles.EditLine (Some bundles.EditLine) e = refl

typed_there : (type : BundleType) (b : BundleHead) (count : ℕ) (place : Place) (t : Bool) → is_type type b.type ≡ t →
    (if t then only_if (not (b.params == count)) ArgumentCount place else only_if true UnknownBundle place) ≡ [] → (b.type ≡ Some type) × (b.params ≡ count)
typed_there type b count place true is e = (typed type b.type is, counted b.params count ArgumentCount place (b.params == count) refl e)
typed_there type b count place false is e = cc

bundle_there : (type : BundleType) (found : Option BundleHead) (count : ℕ) (place : Place) → bundle_found type found count place ≡ [] →
    (b : BundleHead) × (found ≡ Some b) × (b.type ≡ Some type) × (b.params ≡ count)
bundle_there type None count place e = cc
bundle_there type (Some b) count place e =
    let is = typed_there type b count place (is_type type b.type) refl e in
    (b, refl, is.0, is.1)

named_edit : (s : Setting) (v : ValueTree) (name : List ℕ) (count : ℕ) → Names v name count → edit_refusals s v ≡ [] →
    (b : BundleHead) × (bundle_named s.definitions name ≡ Some b) × (b.type ≡ Some bundles.EditLine) × (b.params ≡ count)
named_edit s v name count (by_word {place = place}) e = bundle_there bundles.EditLine (bundle_named s.definitions name) 0 place e
named_edit s v name count (by_call {arguments = arguments} {place = place}) e =
    let found = bundle_named s.definitions name in
    bundle_there bundles.EditLine found (value_count arguments) place
    (none_left (bundle_found bundles.EditLine found (value_count arguments) place) (flat_map (item_refusals s) (values_in arguments)) e)

pub edit_bundle_is_there : EditBundleIsThere
edit_bundle_is_there policy s table a name count valid stands is names =
    named_edit s a.value name count names (value_passes s table a kinds.EditBundle is (nothing_is_refused policy s table a valid stands))

named_agent : (s : Setting) (v : ValueTree) (name : List ℕ) (count : ℕ) → Names v name count → method_refusals s v ≡ [] →
    (b : BundleHead) × (bundle_named s.definitions name ≡ Some b) × (b.type ≡ Some bundles.Agent) × (b.params ≡ count)
named_agent s v name count (by_word {place = place}) e = bundle_there bundles.Agent (bundle_named s.definitions name) 0 place e
named_agent s v name count (by_call {arguments = arguments} {place = place}) e =
    let found = bundle_named s.definitions name in
    bundle_there bundles.Agent found (value_count arguments) place
    (none_left (bundle_found bundles.Agent found (value_count arguments) place) (flat_map (item_refusals s) (values_in arguments)) e)

agent_there : (s : Setting) (v : ValueTree) (name : List ℕ) (count : ℕ) → NamesBundle v name count → method_refusals s v ≡ [] →
    (b : BundleHead) × (bundle_named s.definitions name ≡ Some b) × (b.type ≡ Some bundles.Agent) × (b.params ≡ count)
agent_there s v name count (by_name names) e = named_agent s v name count names e
agent_there s v name count (by_text {content = content} {place = place} known) e =
    bundle_there bundles.Agent (bundle_named s.definitions content) 0 place
    (ap (λ b. named_by_text b s content place) (sym known) ∙ none_left (named_by_text (is_known content) s content place) (text_scope s content place) e)

pub agent_bundle_is_there : AgentBundleIsThere
agent_bundle_is_there policy s table a name count valid stands is names =
    agent_there s a.value name count names (value_passes s table a kinds.AgentBundle is (nothing_is_refused policy s table a valid stands))
