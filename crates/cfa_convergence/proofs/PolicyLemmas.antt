-- A policy that was checked is known: the names of its bundles are words, and a value of `usebundle` names a bundle that is there.
use Rattle.std.proofs.Common.{◌≡◌, ◌≢◌, ◌∙◌, ℕ, ◌+◌, ◌<◌, ◌≤◌, ◌^◌, Bool, true, false, List, [], ◌∷◌, map, codes, All, Option, Some, None, refl, ap, sym, subst, arith}
use Rattle.std.specs.Prelude.{IsTrue}
use Rattle.std.specs.List.{AllByRecursion as Each, Contains, cons_option, flat_map}
use Rattle.std.proofs.Math.Bool.{Bool-set}
use Rattle.std.proofs.Math.Bridge.{le_prop}
use Rattle.std.proofs.lemmas.Bool.{false≢true}
use Rattle.std.proofs.lemmas.List.Elements.{All-contains, All-head, All-nil, All-tail, All-weaker}
use Rattle.cfa_base.specs.declared.limits.TheConstants.{MOST_SOURCE_BYTES}
use Rattle.cfa_base.specs.declared.places.Place.{Place}
use Rattle.cfa_base.specs.declared.places.PromiseId.{PromiseId}
use Rattle.cfa_base.specs.Lexing.{is_word_byte}
use Rattle.cfa_base.specs.lemmas.Lists.{none_left, none_right, each_append, all_flat, first_here, behind_one}
use Rattle.cfa_bodies.specs.Bodies.{name_given}
use Rattle.cfa_tree.specs.Tree.{ValueTree, text, word, reference, list_reference, list, call, AttributeTree, PromiseTree, SectionTree, NamedTree, BlockTree, bundle, body, PolicyTree}
use Rattle.cfa_kinds.specs.declared.kinds.BundleType.{BundleType}
use Rattle.cfa_kinds.specs.declared.kinds.PromiseType.{PromiseType}
use Rattle.cfa_kinds.specs.declared.kinds.PromiseType.TheVariants as promises
use Rattle.cfa_kinds.specs.declared.kinds.Kind.{Kind}
use Rattle.cfa_kinds.specs.declared.kinds.Kind.TheVariants as kinds
use Rattle.cfa_kinds.specs.Kinds.{bundle_type, is_foreign_bundle_type, promise_type, promise_attribute, shared_attribute, vars_attribute, classes_attribute, outcome_attribute, files_attribute, methods_attribute, services_attribute, field_edits_attribute, insert_lines_attribute, replace_patterns_attribute}
use Rattle.cfa_laws.specs.Keys.{IsPlain, IsPlainId, HasPlainCall}
use Rattle.cfa_values.specs.Attributes.{attribute_by, attribute_refusals}
use Rattle.cfa_values.specs.Definitions.{bundle_named}
use Rattle.cfa_values.specs.Scope.{in_bundle}
use Rattle.cfa_values.specs.Values.{Setting, is_known, value_count, text_scope, named_by_text, method_refusals, repeated}
use Rattle.cfa_served.specs.Checked.{worded_promises_of, ids_from, ids_in_block, promise_ids_of}
use Rattle.cfa_served.specs.lemmas.Promises.{second, seconds_in}
use Rattle.cfa_schema.specs.Defined.{definitions_of}
use Rattle.cfa_schema.specs.Laws.{Stands, in_promise, by_word, by_call, NamesBundle, by_name, by_text, NothingIsRefused, AgentBundleIsThere, IsWord, HasWordName, WordsLackNewlines, NamesAreWords, NamedBundleStands, CommonBundlesStand, CommonNamesAreWords, SequenceNamesAreWords, IsCounted, IdsAreCounted}
use Rattle.cfa_served.specs.Served.{common_bundles_of}
use Rattle.cfa_schema.specs.lemmas.BundleNames.{heads_are_words, head_is_word}
use Rattle.cfa_schema.specs.lemmas.Found.{word_bytes, given}
use Rattle.cfa_schema.specs.lemmas.Passing.{block_passes, never_other}
use Rattle.cfa_schema.specs.Sourced.{IsSourced}
use Rattle.cfa_schema.specs.Valid.{Valid, bundle_by}
use Rattle.cfa_states.specs.Numbered.{Numbered, numbered_as, numbered_from, numbered_in, name_of}
use Rattle.cfa_states.specs.lemmas.PlainNames.{plain_names}
use Rattle.cfa_convergence.specs.Policies.{IsKnown, IsKnownCommon, HasKnown}

-- ---- words

-- a word lacks the bytes that are in none
word_lacks : (c : ℕ) → is_word_byte c ≡ false → (name : List ℕ) → IsWord name → All (λ (byte : ℕ). byte ≢ c) name
word_lacks c none [] is = All-nil (λ (byte : ℕ). byte ≢ c)
word_lacks c none (b ∷ bs) is =
    All-weaker (λ b. IsTrue (is_word_byte b)) (λ (byte : ℕ). byte ≢ c) (λ x on same. false≢true (sym none ∙ subst (λ y. IsTrue (is_word_byte y)) same on)) (b ∷ bs) (word_bytes (b ∷ bs) is)

plain_word : (name : List ℕ) → IsWord name → IsPlain name
plain_word name is = record { no_semicolon = word_lacks 59 refl name is; no_newline = word_lacks 10 refl name is }

-- ---- values of `usebundle`

-- methods promises alone have it
kind_of_call : PromiseType → Option Kind
kind_of_call promises.Methods = Some kinds.AgentBundle
kind_of_call type = None

call_kind : (type : PromiseType) → promise_attribute type (codes "usebundle") ≡ kind_of_call type
unfolding kind_of_call shared_attribute vars_attribute classes_attribute outcome_attribute files_attribute methods_attribute services_attribute field_edits_attribute insert_lines_attribute replace_patterns_attribute
call_kind promises.Vars = refl
call_kind promises.Classes = refl
call_kind promises.Files = refl
call_kind promises.Methods = refl
call_kind promises.Services = refl
call_kind promises.Reports = refl
call_kind promises.DeleteLines = refl
call_kind promises.FieldEdits = refl
call_kind promises.InsertLines = refl
call_kind promises.ReplacePatterns = refl

in_methods : (s : Setting) (a : AttributeTree) (type : PromiseType) → attribute_by s a (kind_of_call type) ≡ [] → kind_of_call type ≡ Some kinds.AgentBundle
unfolding kind_of_call
in_methods s a promises.Methods e = refl
in_methods s a type e = absurd (cc)

text_known : (s : Setting) (content : List ℕ) (place : Place) (b : Bool) → is_known content ≡ b → named_by_text b s content place ≡ [] → IsTrue (is_known content)
text_known s content place true is e = is
text_known s content place false is e = absurd (cc)

module _ (policy : PolicyTree) (valid : Valid policy) (sourced : IsSourced policy) (words : NamesAreWords) (nothing : NothingIsRefused) (agent : AgentBundleIsThere) where
  plain_value : (s : Setting) (table : List ℕ → Option Kind) (a : AttributeTree) → s.definitions ≡ definitions_of policy → Stands policy s table a → table a.name ≡ Some kinds.AgentBundle → method_refusals s a.value ≡ [] →
      (value : ValueTree) → a.value ≡ value → All (λ (byte : ℕ). byte ≢ 10) (name_given value)
  plain_value s table a defined stands kind none value is = by_value value is
    where
      there : (name : List ℕ) (count : ℕ) → NamesBundle a.value name count → All (λ (byte : ℕ). byte ≢ 10) name
      there name count names =
          let head = agent policy s table a name count valid stands kind names in
          word_lacks 10 refl name (head_is_word (definitions_of policy) (heads_are_words policy words sourced) name head.0 (ap (λ d. bundle_named d name) (sym defined) ∙ head.1))

      by_value : (value : ValueTree) → a.value ≡ value → All (λ (byte : ℕ). byte ≢ 10) (name_given value)
      by_value (text content place) e =
          let refused : method_refusals s (text content place) ≡ [] = ap (method_refusals s) (sym e) ∙ none in
          let known = text_known s content place (is_known content) refl (none_left (named_by_text (is_known content) s content place) (text_scope s content place) refused) in
          there content 0 (subst (λ v. NamesBundle v content 0) (sym e) (by_text known))
      by_value (word name place) e = there name 0 (subst (λ v. NamesBundle v name 0) (sym e) (by_name by_word))
      by_value (call name arguments place) e = there name (value_count arguments) (subst (λ v. NamesBundle v name (value_count arguments)) (sym e) (by_name by_call))
      by_value (reference name place) e = All-nil (λ (byte : ℕ). byte ≢ 10)
      by_value (list_reference name place) e = All-nil (λ (byte : ℕ). byte ≢ 10)
      by_value (list items place) e = All-nil (λ (byte : ℕ). byte ≢ 10)

  -- ---- promises

  -- a bundle of a valid policy has a type of the profile
  type_given : (s : Setting) (type_name : NamedTree) (sections : List SectionTree) (type : Option BundleType) → bundle_by s type_name sections type ≡ [] → (within : BundleType) × (type ≡ Some within)
  type_given s type_name sections None e = absurd (never_other (is_foreign_bundle_type type_name.name) type_name.place e)
  type_given s type_name sections (Some within) e = (within, refl)

  module _ (type_name name : NamedTree) (params : List NamedTree) (sections : List SectionTree) (place : Place) (has : Contains policy (bundle type_name name params sections place)) where
    abbrev s : Setting
    s = record { definitions = definitions_of policy; home = in_bundle name.name }

    typed : (within : BundleType) × (bundle_type type_name.name ≡ Some within)
    typed =
        type_given s type_name sections (bundle_type type_name.name)
        (none_right (repeated params) (bundle_by s type_name sections (bundle_type type_name.name)) (block_passes policy (bundle type_name name params sections place) valid has))

    abbrev IsFit : List ℕ × PromiseTree → Type 0
    IsFit x = (type : PromiseType) → promise_type x.0 ≡ Some type → HasPlainCall x.1

    fits : (section : SectionTree) → Contains sections section → (p : PromiseTree) → Contains section.promises p → IsFit (section.kind, p)
    fits section is_section p is_promise type is value e =
        let g = given (codes "usebundle") p.attributes value e in
        let stands : Stands policy s (promise_attribute type) g.a =
        in_promise (record { params = params; sections = sections; place = place; section = section; within = typed.0; is_block = has; is_section = is_section; is_promise = is_promise; bundle_is = typed.1; type_is = is }) g.is_attribute in
        let none : attribute_refusals s (promise_attribute type) g.a ≡ [] = nothing policy s (promise_attribute type) g.a valid stands in
        let kind : promise_attribute type g.a.name ≡ kind_of_call type = ap (promise_attribute type) g.named ∙ call_kind type in
        let agents : kind_of_call type ≡ Some kinds.AgentBundle = in_methods s g.a type (ap (attribute_by s g.a) (sym kind) ∙ none) in
        plain_value s (promise_attribute type) g.a refl stands (kind ∙ agents) (ap (attribute_by s g.a) (sym (kind ∙ agents)) ∙ none) value g.valued

    one_section : (P : List ℕ × PromiseTree → Type 0) (kind : List ℕ) (ps : List PromiseTree) → ((p : PromiseTree) → Contains ps p → P (kind, p)) → Each P (map (λ p. (kind, p)) ps)
    one_section P kind [] f = tt
    one_section P kind (p ∷ ps) f = (f p (first_here p ps), one_section P kind ps (λ q on. f q (behind_one p ps q on)))

    all_sections : (P : List ℕ × PromiseTree → Type 0) (those : List SectionTree) → ((section : SectionTree) → Contains those section → (p : PromiseTree) → Contains section.promises p → P (section.kind, p)) →
        Each P (flat_map worded_promises_of those)
    all_sections P [] f = tt
    all_sections P (section ∷ those) f =
        each_append P (worded_promises_of section) (flat_map worded_promises_of those) (one_section P section.kind section.promises (λ p on. f section (first_here section those) p on))
        (all_sections P those (λ other there p on. f other (behind_one section those other there) p on))

    all_fit : Each IsFit (flat_map worded_promises_of sections)
    all_fit = all_sections IsFit sections fits

    -- ---- ids

    plain_id : (id : PromiseId) → IsCounted id → IsPlainId id
    plain_id id counted = record { bundle = plain_word id.bundle counted.bundle; number = few id.number counted.number_fits }
      where
        few : (n : ℕ) → n ≤ MOST_SOURCE_BYTES → n < 2 ^ 64
        few n fit = omega (arith, fit)

    known_with : (number : ℕ) (x : List ℕ × PromiseTree) (type : Option PromiseType) → promise_type x.0 ≡ type → (rest : List Numbered) →
        IsCounted (record { bundle = name.name; number = number; line = x.1.place.line }) → IsFit x → Each IsKnown rest → Each IsKnown (cons_option (numbered_as name.name number x.1 type) rest)
    known_with number x None is rest counted fit known = known
    known_with number x (Some type) is rest counted fit known =
        (record { plain = plain_id (record { bundle = name.name; number = number; line = x.1.place.line }) counted; calls = fit type is }, known)

    known_from : (number : ℕ) (ps : List (List ℕ × PromiseTree)) → All IsCounted (ids_from name.name number (map second ps)) → Each IsFit ps → Each IsKnown (numbered_from name.name number ps)
    known_from number [] counted fit = tt
    known_from number (x ∷ ps) counted fit =
        known_with number x (promise_type x.0) refl (numbered_from name.name (number + 1) ps)
        (All-head IsCounted _ (ids_from name.name (number + 1) (map second ps)) counted) fit.0
        (known_from (number + 1) ps (All-tail IsCounted _ (ids_from name.name (number + 1) (map second ps)) counted) fit.1)

    known_bundle : All IsCounted (ids_in_block (bundle type_name name params sections place)) → Each IsKnown (numbered_in (bundle type_name name params sections place))
    known_bundle counted =
        known_from 1 (flat_map worded_promises_of sections) (subst (λ ps. All IsCounted (ids_from name.name 1 ps)) (sym (seconds_in sections)) counted) all_fit

  known_block : (block : BlockTree) → Contains policy block → All IsCounted (ids_in_block block) → Each IsKnown (numbered_in block)
  known_block (bundle type_name name params sections place) has counted = known_bundle type_name name params sections place has counted
  known_block (body type_name name params attributes place) has counted = tt

  abbrev IsCountedBlock : BlockTree → Type 0
  IsCountedBlock block = All IsCounted (ids_in_block block)

  known_there : IdsAreCounted → (block : BlockTree) → Contains policy block → Each IsKnown (numbered_in block)
  unfolding promise_ids_of
  known_there ids block has = known_block block has (All-contains IsCountedBlock policy block (all_flat IsCounted ids_in_block policy (ids policy sourced)) has)

  common_known : IdsAreCounted → WordsLackNewlines → (blocks : List BlockTree) → All (Contains policy) blocks → All HasWordName blocks → Each IsKnownCommon blocks
  common_known ids lack [] there named = tt
  common_known ids lack (block ∷ blocks) there named = (
    record { name = lack (name_of block) (word_name block (All-head HasWordName block blocks named)); promises = known_there ids block (All-head (Contains policy) block blocks there) },
    common_known ids lack blocks (All-tail (Contains policy) block blocks there) (All-tail HasWordName block blocks named),
  )
    where
      word_name : (b : BlockTree) → HasWordName b → IsWord (name_of b)
      word_name (bundle type_name name params sections place) is = is
      word_name (body type_name name params attributes place) is = is

  pub known_policy : NamedBundleStands → CommonBundlesStand → WordsLackNewlines → CommonNamesAreWords → SequenceNamesAreWords → IdsAreCounted → HasKnown policy
  known_policy stand commons lack common sequence ids = record {
    bundles = λ name block found. known_there ids block (stand policy name block found);
    commons = common_known ids lack (common_bundles_of policy) (commons policy) (common policy sourced);
    shared = plain_names policy lack common sequence valid sourced;
  }

-- ---- these are propositions

known_prop : (p : Numbered) → IsProp (IsKnown p)
known_prop p = hlevel le_prop

promises_prop : (ps : List Numbered) → IsProp (Each IsKnown ps)
promises_prop [] = hlevel []
promises_prop (p ∷ ps) = hlevel (known_prop p, promises_prop ps)

common_prop : (block : BlockTree) → IsProp (IsKnownCommon block)
common_prop block = hlevel (promises_prop (numbered_in block))

commons_prop : (blocks : List BlockTree) → IsProp (Each IsKnownCommon blocks)
commons_prop [] = hlevel []
commons_prop (block ∷ blocks) = hlevel (common_prop block, commons_prop blocks)

pub policy_prop : (policy : PolicyTree) → IsProp (HasKnown policy)
policy_prop policy = hlevel (promises_prop, commons_prop (common_bundles_of policy), Bool-set)
