-- A methods promise of a valid policy stands in an agent bundle, and its `usebundle` names a bundle: so it makes a call.
use Rattle.std.proofs.Common.{◌≡◌, ◌∙◌, ℕ, ◌+◌, Bool, true, false, List, [], ◌∷◌, ◌++◌, map, codes, Option, Some, None, cond, refl, ap, sym, subst}
use Rattle.std.specs.Prelude.{not, ◌==◌, count_by, is_some}
use Rattle.std.specs.List.{AllByRecursion as Each, Contains, cons_option, flat_map, filter_map}
use Rattle.std.proofs.lemmas.List.Elements.{All-contains, All-from_recursion, Contains-append_left, Contains-append_right}
use Rattle.cfa_base.specs.declared.places.Place.{Place}
use Rattle.cfa_base.specs.lemmas.Lists.{none_left, none_right, one_empty, each_append, first_here, behind_one}
use Rattle.cfa_bodies.specs.Bodies.{name_given}
use Rattle.cfa_calls.specs.Cycles.{Call}
use Rattle.cfa_kinds.specs.Kinds.{bundle_type, is_foreign_bundle_type, promise_type, promise_attribute, choices, shared_attribute, methods_attribute}
use Rattle.cfa_kinds.specs.declared.kinds.BundleType.{BundleType}
use Rattle.cfa_kinds.specs.declared.kinds.BundleType.TheVariants as bundles
use Rattle.cfa_kinds.specs.declared.kinds.Kind.{Kind}
use Rattle.cfa_kinds.specs.declared.kinds.Kind.TheVariants as kinds
use Rattle.cfa_kinds.specs.declared.kinds.PromiseType.{PromiseType}
use Rattle.cfa_kinds.specs.declared.kinds.PromiseType.TheVariants as promises
use Rattle.cfa_schema.specs.Defined.{definitions_of}
use Rattle.cfa_schema.specs.Laws.{EachBundleCalls}
use Rattle.cfa_schema.specs.Valid.{Valid, bundle_by, section_by, section_refusals, promise_refusals, is_wrong_promiser, lacks_choice, promisee_refusals, callee_named, called_by, call_of_kind, call_in_attribute, calls_in_promise, calls_by_type, calls_in_section, calls_in_bundle, calls_in_block, calls_of}
use Rattle.cfa_schema.specs.lemmas.Found.{given}
use Rattle.cfa_schema.specs.lemmas.Passing.{block_passes, never_other}
use Rattle.cfa_served.specs.Checked.{worded_promises_of}
use Rattle.cfa_states.specs.Numbered.{Numbered, numbered_as, numbered_from, numbered_in, name_of}
use Rattle.cfa_tree.specs.Tree.{ValueTree, text, word, reference, list_reference, list, call, AttributeTree, PromiseTree, SectionTree, NamedTree, BlockTree, bundle, body, PolicyTree}
use Rattle.cfa_values.specs.Attributes.{value_of, attribute_name, attribute_by, attribute_refusals, has_attribute}
use Rattle.cfa_values.specs.Refusals.{only_if}
use Rattle.cfa_values.specs.Scope.{in_bundle}
use Rattle.cfa_values.specs.Values.{Setting, is_known, text_scope, named_by_text, method_refusals, repeated}
use Rattle.cfa_values.specs.declared.refusals.Code.TheVariants.{WrongValue}

-- ---- items of lists that are made of lists

module _ {Y : Type 0} (zs : List Y) where
  behind_option : (o : Option Y) (ys : List Y) (y : Y) → Contains ys y → Contains (cons_option o ys) y
  behind_option None ys y on = on
  behind_option (Some z) ys y on = behind_one z ys y on

  kept_each : {X : Type 0} (f : X → Option Y) (xs : List X) → ((y : Y) → Contains (filter_map f xs) y → Contains zs y) → Each (λ (x : X). (y : Y) → f x ≡ Some y → Contains zs y) xs
  kept_each f [] within = tt
  kept_each f (x ∷ xs) within = (
    λ y is. within y (subst (λ (o : Option Y). Contains (cons_option o (filter_map f xs)) y) (sym is) (first_here y (filter_map f xs))),
    kept_each f xs (λ y on. within y (behind_option (f x) (filter_map f xs) y on)),
  )

  flat_each : {X : Type 0} (f : X → List Y) (xs : List X) → ((y : Y) → Contains (flat_map f xs) y → Contains zs y) → Each (λ (x : X). (y : Y) → Contains (f x) y → Contains zs y) xs
  flat_each f [] within = tt
  flat_each f (x ∷ xs) within = (
    λ y on. within y (Contains-append_left (f x) (flat_map f xs) y on),
    flat_each f xs (λ y on. within y (Contains-append_right (f x) (flat_map f xs) y on)),
  )

kept_item : {X Y : Type 0} (f : X → Option Y) (xs : List X) (x : X) (y : Y) → Contains xs x → f x ≡ Some y → Contains (filter_map f xs) y
kept_item {X} {Y} f xs x y has is =
    let P : X → Type 0 = λ x. (y : Y) → f x ≡ Some y → Contains (filter_map f xs) y in
    All-contains P xs x (All-from_recursion P xs (kept_each (filter_map f xs) f xs (λ y on. on))) has y is

flat_item : {X Y : Type 0} (f : X → List Y) (xs : List X) (x : X) (y : Y) → Contains xs x → Contains (f x) y → Contains (flat_map f xs) y
flat_item {X} {Y} f xs x y has on =
    let P : X → Type 0 = λ x. (y : Y) → Contains (f x) y → Contains (flat_map f xs) y in
    All-contains P xs x (All-from_recursion P xs (flat_each (flat_map f xs) f xs (λ y on. on))) has y on

-- ---- the value of `usebundle`

usebundle_kind : promise_attribute promises.Methods (codes "usebundle") ≡ Some kinds.AgentBundle
unfolding shared_attribute methods_attribute
usebundle_kind = refl

-- a methods promise that passes has one
counted_once : (f : List ℕ → Bool) (name : List ℕ) (b : Bool) → f name ≡ b → not (count_by f (name ∷ []) == 1) ≡ false → b ≡ true
counted_once f name true is e = refl
counted_once f name false is e = absurd (cc)

not_lacking : (lacks : Bool) (place : Place) → only_if lacks WrongValue place ≡ [] → lacks ≡ false
not_lacking true place e = absurd (cc)
not_lacking false place e = refl

value_there : (o : Option ValueTree) → is_some o ≡ true → (value : ValueTree) × (o ≡ Some value)
value_there None is = absurd (cc)
value_there (Some value) is = (value, refl)

text_known : (s : Setting) (content : List ℕ) (place : Place) (b : Bool) → is_known content ≡ b → named_by_text b s content place ≡ [] → is_known content ≡ true
text_known s content place true is e = is
text_known s content place false is e = absurd (cc)

-- a value that passes names a bundle
names_bundle : (s : Setting) (v : ValueTree) → method_refusals s v ≡ [] → (place : Place) × (callee_named v ≡ Some (record { name = name_given v; place = place }))
names_bundle s (text content place) e =
    let is = text_known s content place (is_known content) refl (none_left (named_by_text (is_known content) s content place) (text_scope s content place) e) in
    (place, ap (λ (b : Bool). cond b (Some (record { name = content; place = place })) None) is)
names_bundle s (word name place) e = (place, refl)
names_bundle s (call name arguments place) e = (place, refl)
names_bundle s (reference name place) e = absurd (cc)
names_bundle s (list_reference name place) e = absurd (cc)
names_bundle s (list items place) e = absurd (cc)

-- ---- calls

-- the policy has a call of the one bundle by the other
pub record HasCall (policy : PolicyTree) (caller callee : List ℕ) : Type 0 where
  pub call : Call
  pub is_call : Contains (calls_of policy) call
  pub from : call.caller ≡ caller
  pub to : call.callee ≡ callee

-- the promise has a `usebundle`, and makes the call of what that names
pub record MakesCall (policy : PolicyTree) (caller : List ℕ) (p : PromiseTree) : Type 0 where
  pub value : ValueTree
  pub is_given : value_of (codes "usebundle") p.attributes ≡ Some value
  pub has : HasCall policy caller (name_given value)

-- a methods promise does
abbrev pub CallsWell : PolicyTree → (caller : List ℕ) → Numbered → Type 0
CallsWell policy caller p = p.type ≡ promises.Methods → MakesCall policy caller p.promise

module _ (policy : PolicyTree) (valid : Valid policy) (each : EachBundleCalls) where
  module _ (type_name name : NamedTree) (params : List NamedTree) (sections : List SectionTree) (place : Place) (has : Contains policy (bundle type_name name params sections place)) where
    abbrev s : Setting
    s = record { definitions = definitions_of policy; home = in_bundle name.name }

    record Passes : Type 0 where
      within : BundleType
      is_type : bundle_type type_name.name ≡ Some within
      sections_pass : flat_map (section_refusals s within) sections ≡ []

    passes_by : (type : Option BundleType) → bundle_type type_name.name ≡ type → bundle_by s type_name sections type ≡ [] → Passes
    passes_by None is e = absurd (never_other (is_foreign_bundle_type type_name.name) type_name.place e)
    passes_by (Some within) is e = record { within = within; is_type = is; sections_pass = e }

    passed : Passes
    passed =
        passes_by (bundle_type type_name.name) refl
        (none_right (repeated params) (bundle_by s type_name sections (bundle_type type_name.name)) (block_passes policy (bundle type_name name params sections place) valid has))

    -- methods promises stand in agent bundles alone
    methods_pass : (within : BundleType) (section : SectionTree) → section_by s within section (Some promises.Methods) ≡ [] →
        (within ≡ bundles.Agent) × (flat_map (promise_refusals s promises.Methods) section.promises ≡ [])
    methods_pass bundles.Agent section e = (refl, e)
    methods_pass bundles.Common section e = absurd (cc)
    methods_pass bundles.EditLine section e = absurd (cc)

    module _ (section : SectionTree) (is_section : Contains sections section) (kind_is : promise_type section.kind ≡ Some promises.Methods) (p : PromiseTree) (is_promise : Contains section.promises p) where
      pass : (passed.within ≡ bundles.Agent) × (flat_map (promise_refusals s promises.Methods) section.promises ≡ [])
      pass =
          methods_pass passed.within section
          (subst (λ (kind : Option PromiseType). section_by s passed.within section kind ≡ []) kind_is (one_empty (section_refusals s passed.within) sections section passed.sections_pass is_section))

      -- a call in an attribute of the promise is one of the policy
      stands : (a : AttributeTree) → Contains p.attributes a → (c : Call) → call_in_attribute name.name a ≡ Some c → Contains (calls_of policy) c
      stands a is_attribute c is =
          let in_promise : Contains (calls_in_promise name.name p) c = kept_item (call_in_attribute name.name) p.attributes a c is_attribute is in
          let in_promises : Contains (calls_by_type name.name (Some promises.Methods) section.promises) c = flat_item (calls_in_promise name.name) section.promises p c is_promise in_promise in
          let in_section : Contains (calls_in_section name.name section) c = subst (λ (kind : Option PromiseType). Contains (calls_by_type name.name kind section.promises) c) (sym kind_is) in_promises in
          let in_bundle : Contains (calls_in_bundle name.name (Some bundles.Agent) sections) c = flat_item (calls_in_section name.name) sections section c is_section in_section in
          let type_is : bundle_type type_name.name ≡ Some bundles.Agent = passed.is_type ∙ ap (λ (within : BundleType). Some within) pass.0 in
          let in_block : Contains (calls_in_block (bundle type_name name params sections place)) c = subst (λ (type : Option BundleType). Contains (calls_in_bundle name.name type sections) c) (sym type_is) in_bundle in
          subst (λ (calls : List Call). Contains calls c) (sym (each policy valid)) (flat_item calls_in_block policy (bundle type_name name params sections place) c has in_block)

      parts : (has_attribute p.attributes (codes "usebundle") ≡ true) × (flat_map (attribute_refusals s (promise_attribute promises.Methods)) p.attributes ≡ [])
      parts =
          let promiser = only_if (is_wrong_promiser promises.Methods p.promiser) WrongValue p.place in
          let scope = text_scope s p.promiser p.place in
          let choice = only_if (lacks_choice (choices promises.Methods) p.attributes) WrongValue p.place in
          let promisee = promisee_refusals s p.promisee in
          let others = repeated (map attribute_name p.attributes) in
          let attributes = flat_map (attribute_refusals s (promise_attribute promises.Methods)) p.attributes in
          let none : (promiser ++ (scope ++ (choice ++ (promisee ++ (others ++ attributes))))) ≡ [] = one_empty (promise_refusals s promises.Methods) section.promises p pass.1 is_promise in
          let behind : (choice ++ (promisee ++ (others ++ attributes))) ≡ [] = none_right scope (choice ++ (promisee ++ (others ++ attributes))) (none_right promiser (scope ++ (choice ++ (promisee ++ (others ++ attributes)))) none) in (
            counted_once (has_attribute p.attributes) (codes "usebundle") (has_attribute p.attributes (codes "usebundle")) refl
                (not_lacking (lacks_choice (choices promises.Methods) p.attributes) p.place (none_left choice (promisee ++ (others ++ attributes)) behind)),
            none_right others attributes (none_right promisee (others ++ attributes) (none_right choice (promisee ++ (others ++ attributes)) behind)),
          )

      makes_call : MakesCall policy name.name p
      makes_call =
          let v = value_there (value_of (codes "usebundle") p.attributes) parts.0 in
          let g = given (codes "usebundle") p.attributes v.0 v.1 in
          let kind : promise_attribute promises.Methods g.a.name ≡ Some kinds.AgentBundle = ap (promise_attribute promises.Methods) g.named ∙ usebundle_kind in
          let none : attribute_refusals s (promise_attribute promises.Methods) g.a ≡ [] = one_empty (attribute_refusals s (promise_attribute promises.Methods)) p.attributes g.a parts.1 g.is_attribute in
          let method : method_refusals s g.a.value ≡ [] = ap (attribute_by s g.a) (sym kind) ∙ none in
          let callee = names_bundle s g.a.value method in
          let c : Call = record { caller = name.name; callee = name_given g.a.value; place = callee.0 } in
          let is : call_in_attribute name.name g.a ≡ Some c = ap (λ (kind : Option Kind). call_of_kind name.name kind g.a.value) kind ∙ ap (called_by name.name) callee.1 in
          record {
            value = v.0;
            is_given = v.1;
            has = record { call = c; is_call = stands g.a g.is_attribute c is; from = refl; to = ap name_given g.valued };
          }

    -- ---- the promises of the bundle

    abbrev WordedCalls : List ℕ × PromiseTree → Type 0
    WordedCalls x = promise_type x.0 ≡ Some promises.Methods → MakesCall policy name.name x.1

    section_calls : (section : SectionTree) → Contains sections section → (ps : List PromiseTree) → ((p : PromiseTree) → Contains ps p → Contains section.promises p) →
        Each WordedCalls (map (λ p. (section.kind, p)) ps)
    section_calls section is_section [] within = tt
    section_calls section is_section (p ∷ ps) within = (
      λ kind_is. makes_call section is_section kind_is p (within p (first_here p ps)),
      section_calls section is_section ps (λ q on. within q (behind_one p ps q on)),
    )

    sections_call : (those : List SectionTree) → ((section : SectionTree) → Contains those section → Contains sections section) → Each WordedCalls (flat_map worded_promises_of those)
    sections_call [] within = tt
    sections_call (section ∷ those) within =
        each_append WordedCalls (worded_promises_of section) (flat_map worded_promises_of those)
        (section_calls section (within section (first_here section those)) section.promises (λ p on. on))
        (sections_call those (λ other on. within other (behind_one section those other on)))

    numbered_one : (number : ℕ) (x : List ℕ × PromiseTree) (type : Option PromiseType) → promise_type x.0 ≡ type → (rest : List Numbered) → WordedCalls x →
        Each (CallsWell policy name.name) rest → Each (CallsWell policy name.name) (cons_option (numbered_as name.name number x.1 type) rest)
    numbered_one number x None is rest calls all = all
    numbered_one number x (Some type) is rest calls all = (λ methods. calls (is ∙ ap (λ (type : PromiseType). Some type) methods), all)

    numbered_calls : (number : ℕ) (xs : List (List ℕ × PromiseTree)) → Each WordedCalls xs → Each (CallsWell policy name.name) (numbered_from name.name number xs)
    numbered_calls number [] all = tt
    numbered_calls number (x ∷ xs) all =
        numbered_one number x (promise_type x.0) refl (numbered_from name.name (number + 1) xs) all.0 (numbered_calls (number + 1) xs all.1)

    bundle_calls : Each (CallsWell policy name.name) (numbered_in (bundle type_name name params sections place))
    bundle_calls = numbered_calls 1 (flat_map worded_promises_of sections) (sections_call sections (λ section on. on))

  pub block_calls : (block : BlockTree) → Contains policy block → Each (CallsWell policy (name_of block)) (numbered_in block)
  block_calls (bundle type_name name params sections place) has = bundle_calls type_name name params sections place has
  block_calls (body type_name name params attributes place) has = tt
