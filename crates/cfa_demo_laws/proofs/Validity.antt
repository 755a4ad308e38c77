-- No line of the table of refusals applies to the tree of a demo.
use Rattle.std.proofs.Common.{◌≡◌, refl, sym, ◌∙◌, ap, subst, ℕ, zero, suc, ◌+◌, ◌%◌, ◌<◌, ◌≤◌, true, false, ◌&&◌, ◌||◌, inl, inr, List, [], ◌∷◌, ◌++◌, Some, codes, arith}
use Rattle.std.specs.Prelude.{not, is_some}
use Rattle.std.specs.Fmt.{decimal}
use Rattle.std.specs.List.{All, Contains, flat_map}
use Rattle.std.proofs.lemmas.List.Concat.{flat_map-append}
use Rattle.std.proofs.lemmas.List.Elements.{All-nil}
use Rattle.cfa_base.specs.declared.places.Place.{Place}
use Rattle.cfa_base.specs.Lexing.{place_after}
use Rattle.cfa_tree.specs.Tree.{text}
use Rattle.cfa_kinds.specs.declared.kinds.Form.{Form}
use Rattle.cfa_kinds.specs.declared.kinds.Form.TheVariants.{AnyText, Boolean}
use Rattle.cfa_kinds.specs.declared.kinds.PromiseType.TheVariants as promises
use Rattle.cfa_kinds.specs.Forms.{has_form, is_boolean}
use Rattle.cfa_kinds.specs.Kinds.{bundle_type, promise_type, body_type, shared_attribute, outcome_attribute, files_attribute, perms_attribute, classes_body_attribute, promise_attribute}
use Rattle.cfa_vars.specs.References.{reference_at, pieces, list_reference_of}
use Rattle.cfa_values.specs.declared.refusals.Code.TheVariants.{WrongValue, ReferenceOutOfScope}
use Rattle.cfa_values.specs.Attributes.{attributes_refusals}
use Rattle.cfa_values.specs.Definitions.{Definitions, body_named}
use Rattle.cfa_values.specs.Refusals.{only_if}
use Rattle.cfa_values.specs.Scope.{in_bundle, names_referred, refers_out, is_literal, is_constant}
use Rattle.cfa_values.specs.Values.{Setting, may_name, text_scope, is_list_reference, is_wrong_text, text_refusals, body_found}
use Rattle.cfa_schema.specs.Defined.{definitions_of, has_sequence}
use Rattle.cfa_schema.specs.Valid.{promise_refusals, block_refusals, refusals, calls_of, patterns_of, promiser_pattern, KnownPattern, IsPattern, NoneApplies}
use Rattle.cfa_demo_laws.specs.Trees.{at, behind_text, value_place, next_place, file_of, class_of, attributes_by, promise_by, promise_tree, promise_trees, main_bundle, perms_body, classes_body, demo_tree}
use Rattle.cfa_demo_laws.specs.Laws.{DemoIsValid}
use Rattle.cfa_demo_laws.proofs.Plain.{IsPlain, true_is_plain, mode_is_plain, decimal_is_plain, file_is_plain, class_is_plain}
use Rattle.cfa_demo_laws.proofs.References.{plain_is_no_list, plain_is_literal, plain_stays}

-- ---- plain texts

scope_passes : (s : Setting) (content : List ℕ) (place : Place) → IsPlain content → text_scope s content place ≡ []
scope_passes s content place p = ap (λ out. only_if out ReferenceOutOfScope place) (plain_stays (may_name s) content p)

no_list : (content : List ℕ) → IsPlain content → is_list_reference content ≡ false
no_list content p = ap is_some (plain_is_no_list content p)

form_is_right : (form : Form) (content : List ℕ) → IsPlain content → has_form form content ≡ true → is_wrong_text form content ≡ false
form_is_right form content p is = λ i. no_list content p i || (plain_is_literal content p i && not (is i))

text_passes : (s : Setting) (form : Form) (content : List ℕ) (place : Place) → IsPlain content → has_form form content ≡ true → text_refusals s form (text content place) ≡ []
text_passes s form content place p is =
    λ i. only_if (form_is_right form content p is i) WrongValue place ++ scope_passes s content place p i

-- ---- attributes of the promises

-- the policy defines a body of this type and name, with one parameter
abbrev Defines : Definitions → (type_word name : List ℕ) → Type 0
Defines definitions type_word name = body_named definitions type_word name ≡ Some (record { type_word = type_word; name = name; params = 1 })

module _ (s : Setting) (perms : Defines s.definitions (codes "perms") (codes "m")) (classes : Defines s.definitions (codes "classes") (codes "r")) where
  attributes_pass : (kind k : ℕ) (place : Place) → k < 10000 → kind < 4 →
      attributes_refusals s (promise_attribute promises.Files) (attributes_by kind k place) ≡ []
  unfolding shared_attribute files_attribute outcome_attribute is_boolean
  attributes_pass zero k place below small =
      λ i. text_passes s AnyText (decimal k) (value_place place (codes "content")) (decimal_is_plain k below) refl i ++ []
  attributes_pass (suc zero) k place below small =
      λ i. text_passes s Boolean (codes "true") (value_place place (codes "create")) true_is_plain refl i ++ []
  attributes_pass (suc (suc zero)) k place below small =
      let value : Place = value_place (next_place place (codes "create") (codes "true")) (codes "perms") in
      λ i. text_passes s Boolean (codes "true") (value_place place (codes "create")) true_is_plain refl i
      ++ ((body_found (perms i) 1 value ++ (scope_passes s (codes "644") (place_after value (codes "m(")) mode_is_plain i ++ [])) ++ [])
  attributes_pass (suc (suc (suc zero))) k place below small =
      let value : Place = value_place (next_place place (codes "content") (decimal k)) (codes "classes") in
      λ i. text_passes s AnyText (decimal k) (value_place place (codes "content")) (decimal_is_plain k below) refl i
      ++ ((body_found (classes i) 1 value ++ (scope_passes s (class_of k) (place_after value (codes "r(")) (class_is_plain k below) i ++ [])) ++ [])
  attributes_pass (suc (suc (suc (suc more)))) k place below small = absurd (omega arith)

  promise_passes : (line kind k : ℕ) → k < 10000 → kind < 4 → promise_refusals s promises.Files (promise_by line kind k) ≡ []
  promise_passes line kind k below small =
      λ i. only_if (no_list (file_of k) (file_is_plain k below) i) WrongValue (at line 5)
      ++ (scope_passes s (file_of k) (at line 5) (file_is_plain k below) i
      ++ attributes_pass kind k (place_after (behind_text (at line 5) (file_of k)) (codes " ")) below small i)

  promises_pass : (n : ℕ) → n ≤ 10000 → flat_map (promise_refusals s promises.Files) (promise_trees n) ≡ []
  unfolding promise_trees promise_tree
  promises_pass zero within = refl
  promises_pass (suc k) within =
      flat_map-append (promise_refusals s promises.Files) (promise_trees k) (promise_tree k ∷ [])
      ∙ (λ i. promises_pass k (omega arith) i ++ (promise_passes (k + 4) (k % 4) k (omega arith) (omega arith) i ++ []))

-- ---- blocks

module _ (n : ℕ) (within : n ≤ 10000) where
  main_passes : block_refusals (definitions_of (demo_tree n)) (main_bundle (promise_trees n)) ≡ []
  unfolding definitions_of demo_tree bundle_type promise_type
  main_passes =
      λ i. promises_pass (record { definitions = definitions_of (demo_tree n); home = in_bundle (codes "main") }) refl refl n within i ++ []

  perms_pass : (line inner : ℕ) → block_refusals (definitions_of (demo_tree n)) (perms_body line inner) ≡ []
  unfolding body_type perms_attribute reference_at pieces list_reference_of names_referred refers_out is_literal is_constant
  perms_pass line inner = refl

  classes_pass : (line inner : ℕ) → block_refusals (definitions_of (demo_tree n)) (classes_body line inner) ≡ []
  unfolding body_type classes_body_attribute reference_at pieces list_reference_of names_referred refers_out is_literal is_constant
  classes_pass line inner = refl

  none_refused : refusals (demo_tree n) ≡ []
  unfolding refusals definitions_of demo_tree bundle_type
  none_refused = λ i. main_passes i ++ (perms_pass (n + 5) (n + 7) i ++ (classes_pass (n + 9) (n + 11) i ++ []))

-- ---- calls and patterns

no_calls : (n : ℕ) → calls_of (demo_tree n) ≡ []
unfolding calls_of demo_tree bundle_type promise_type
no_calls n = refl

none_each : {X Y : Type 0} (f : X → List Y) → ((x : X) → f x ≡ []) → (xs : List X) → flat_map f xs ≡ []
none_each f none [] = refl
none_each f none (x ∷ xs) = λ i. none x i ++ none_each f none xs i

no_patterns : (n : ℕ) → patterns_of (demo_tree n) ≡ []
unfolding patterns_of demo_tree promise_type body_type perms_attribute classes_body_attribute
no_patterns n = λ i. (none_each (promiser_pattern (Some promises.Files)) (λ p. refl) (promise_trees n) i ++ []) ++ []

-- ---- the whole

nothing_contained : {X : Type 0} (xs : List X) (x : X) → xs ≡ [] → Contains xs x → ⊥
nothing_contained xs x none has = let c = subst (λ ys. Contains ys x) none has in omega (arith, c.1)

none_applies : (n : ℕ) → n ≤ 10000 → NoneApplies (demo_tree n)
none_applies n within r (inl has) = nothing_contained (refusals (demo_tree n)) r (none_refused n within) has
none_applies n within r (inr h) = nothing_contained (calls_of (demo_tree n)) h.0 (no_calls n) h.1

sequenced : (n : ℕ) → has_sequence (demo_tree n) ≡ true
unfolding has_sequence definitions_of demo_tree bundle_type
sequenced n = refl

pub demo_is_valid : DemoIsValid
demo_is_valid n within = record {
  none_applies = none_applies n within;
  sequence = sequenced n;
  patterns = subst (λ (ps : List KnownPattern). All IsPattern ps) (sym (no_patterns n)) (All-nil IsPattern);
}
