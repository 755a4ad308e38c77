-- The names that a policy serves, where it was read from its files.
use Rattle.std.proofs.Common.{◌≡◌, ◌∙◌, ℕ, ◌+◌, ◌≤◌, Bool, true, false, List, [], ◌∷◌, ◌++◌, length, map, All, Option, Some, None, refl, ap, sym, subst, arith}
use Rattle.std.specs.Prelude.{IsTrue, codes, find, if◌then◌else◌}
use Rattle.std.specs.List.{AllByRecursion, Contains, flat_map}
use Rattle.std.specs.Str.{bytes_eq}
use Rattle.std.proofs.lemmas.Bool.{false≢true, and_parts}
use Rattle.std.proofs.lemmas.Option.{none-some, option_and_then_some, same_Some}
use Rattle.std.proofs.lemmas.Slice.Eq.{bytes_eq-Decides}
use Rattle.std.proofs.lemmas.List.Elements.{All-append, All-cons, All-contains, All-contains_itself, All-filter, All-from_recursion, All-head, All-nil, All-tail, All-weaker}
use Rattle.cfa_base.specs.declared.limits.TheConstants.{MOST_SOURCE_BYTES}
use Rattle.cfa_base.specs.declared.places.Place.{Place}
use Rattle.cfa_base.specs.Lexing.{is_word_byte}
use Rattle.cfa_base.specs.lemmas.Lists.{none_left, none_right, each_append, first_here, behind_one}
use Rattle.cfa_tree.specs.Tree.{ValueTree, list, AttributeTree, PromiseTree, SectionTree, NamedTree, BlockTree, bundle, body, PolicyTree, values_in}
use Rattle.cfa_kinds.specs.declared.kinds.BodyType.TheVariants as bodies
use Rattle.cfa_kinds.specs.declared.kinds.Kind.TheVariants as kinds
use Rattle.cfa_kinds.specs.Kinds.{body_type, body_attribute, common_attribute}
use Rattle.cfa_values.specs.Scope.{in_body}
use Rattle.cfa_values.specs.Definitions.{BundleHead, bundle_named}
use Rattle.cfa_values.specs.Values.{Setting, known_items, known_item_refusals, name_in, repeated, in_sequence_refusals, sequence_item_refusals, sequence_refusals}
use Rattle.cfa_values.specs.Attributes.{attribute_by, value_of}
use Rattle.cfa_served.specs.Checked.{promises_of, ids_from, ids_in_block, promise_ids_of, promise_count, HasFew}
use Rattle.cfa_served.specs.Control.{is_control, control_of, names_listed, names_given, sequence_of}
use Rattle.cfa_schema.specs.Defined.{definitions_of}
use Rattle.cfa_served.specs.Served.{is_bundle_of, if_bundle, bundle_of, is_common, common_bundles_of}
use Rattle.cfa_schema.specs.Sourced.{IsSourced}
use Rattle.cfa_schema.specs.Valid.{Valid}
use Rattle.cfa_schema.specs.Laws.{of_body, IsWord, HasWordName, WordsLackNewlines, NamesAreWords, ParamsAreWords, LinesAreCounts, LinesAreFew, PromisesAreFew, NamedBundleStands, CommonBundlesStand, NamedBundleIsWord, CommonNamesAreWords, SequenceNamesAreWords, IsCounted, IdsAreCounted}
use Rattle.cfa_schema.specs.lemmas.BundleNames.{HasWordHead, heads_are_words, head_is_word}
use Rattle.cfa_schema.specs.lemmas.Found.{word_bytes, IsFound, found, given}
use Rattle.cfa_schema.proofs.FactLemmas.{nothing_is_refused}
use Rattle.cfa_schema.proofs.SizeLemmas.{sourced_has_few}
use Rattle.cfa_schema.proofs.SoundLemmas.{HasWord, StandsWithin, AllStandWithin, IsSoundBlock, IsSoundBundle, last_line, sourced_is_sound}

-- ---- words

pub words_lack_newlines : WordsLackNewlines
words_lack_newlines [] is has = false≢true is
words_lack_newlines (b ∷ bs) is has = false≢true (All-contains (λ b. IsTrue (is_word_byte b)) (b ∷ bs) 10 (word_bytes (b ∷ bs) is) has)

-- ---- blocks

sound_bundle : (policy : PolicyTree) (type_name name : NamedTree) (params : List NamedTree) (sections : List SectionTree) (place : Place) →
    IsSourced policy → Contains policy (bundle type_name name params sections place) → IsSoundBundle last_line type_name name params sections
sound_bundle policy type_name name params sections place read has =
    All-contains (IsSoundBlock last_line) policy (bundle type_name name params sections place) (sourced_is_sound policy read) has

pub names_are_words : NamesAreWords
names_are_words policy type_name name params sections place read has = (sound_bundle policy type_name name params sections place read has).name_is

pub params_are_words : ParamsAreWords
params_are_words policy type_name name params sections place read has =
    All-from_recursion HasWord params (sound_bundle policy type_name name params sections place read has).params_are

stands_within : (last : ℕ) (type_name name : NamedTree) (params : List NamedTree) (sections : List SectionTree) (section : SectionTree) (p : PromiseTree) →
    IsSoundBundle last type_name name params sections → Contains sections section → Contains section.promises p → StandsWithin last p
stands_within last type_name name params sections section p sound has there =
    let each = All-contains (AllStandWithin last) sections section (All-from_recursion (AllStandWithin last) sections sound.lines) has in
    All-contains (StandsWithin last) section.promises p (All-from_recursion (StandsWithin last) section.promises each) there

pub lines_are_counts : LinesAreCounts
lines_are_counts policy type_name name params sections place section p read has within there =
    (stands_within last_line type_name name params sections section p (sound_bundle policy type_name name params sections place read has) within there).first

pub lines_are_few : LinesAreFew
lines_are_few policy type_name name params sections place section p read has within there =
    (stands_within last_line type_name name params sections section p (sound_bundle policy type_name name params sections place read has) within there).within

pub promises_are_few : PromisesAreFew
promises_are_few policy type_name name params sections place read has =
    All-contains (λ b. promise_count b ≤ MOST_SOURCE_BYTES) policy (bundle type_name name params sections place) (sourced_has_few policy read) has

-- ---- ids

ids_counted : (name : List ℕ) (number : ℕ) (ps : List PromiseTree) → IsWord name → 1 ≤ number → number + length ps ≤ MOST_SOURCE_BYTES + 1 → AllByRecursion (StandsWithin last_line) ps →
    All IsCounted (ids_from name number ps)
ids_counted name number [] named from to stands = All-nil IsCounted
ids_counted name number (p ∷ ps) named from to stands =
    let here = stands.0 in
    All-cons IsCounted (record { bundle = name; number = number; line = p.place.line }) (ids_from name (number + 1) ps)
    (record { bundle = named; number = from; number_fits = omega (arith, to); line = here.first; line_fits = here.within })
    (ids_counted name (number + 1) ps named (omega arith) (omega (arith, to)) stands.1)

lines_of : (last : ℕ) (sections : List SectionTree) → AllByRecursion (AllStandWithin last) sections → AllByRecursion (StandsWithin last) (flat_map promises_of sections)
lines_of last [] h = tt
lines_of last (section ∷ rest) h = each_append (StandsWithin last) section.promises (flat_map promises_of rest) h.0 (lines_of last rest h.1)

block_counted : (b : BlockTree) → IsSoundBlock last_line b → promise_count b ≤ MOST_SOURCE_BYTES → All IsCounted (ids_in_block b)
block_counted (bundle type_name name params sections place) sound few =
    ids_counted name.name 1 (flat_map promises_of sections) sound.name_is (omega arith) (omega (arith, few)) (lines_of last_line sections sound.lines)
block_counted (body type_name name params attributes place) sound few = All-nil IsCounted

blocks_counted : (policy : PolicyTree) → All (IsSoundBlock last_line) policy → HasFew MOST_SOURCE_BYTES policy → All IsCounted (flat_map ids_in_block policy)
blocks_counted [] sound few = All-nil IsCounted
blocks_counted (b ∷ rest) sound few =
    All-append IsCounted (ids_in_block b) (flat_map ids_in_block rest)
    (block_counted b (All-head (IsSoundBlock last_line) b rest sound) (All-head (λ b. promise_count b ≤ MOST_SOURCE_BYTES) b rest few))
    (blocks_counted rest (All-tail (IsSoundBlock last_line) b rest sound) (All-tail (λ b. promise_count b ≤ MOST_SOURCE_BYTES) b rest few))

pub ids_are_counted : IdsAreCounted
unfolding promise_ids_of
ids_are_counted policy read = blocks_counted policy (sourced_is_sound policy read) (sourced_has_few policy read)

-- ---- what is found

found_block : (policy : PolicyTree) (name : List ℕ) (block found : BlockTree) → IsFound (is_bundle_of name) policy found → if_bundle found ≡ Some block → IsFound (is_bundle_of name) policy block
found_block policy name block (bundle type_name named params sections place) is e = subst (IsFound (is_bundle_of name) policy) (same_Some (bundle type_name named params sections place) block e) is
found_block policy name block (body type_name named params attributes place) is e = absurd (none-some block e)

bundle_found : (policy : PolicyTree) (name : List ℕ) (block : BlockTree) → bundle_of policy name ≡ Some block → IsFound (is_bundle_of name) policy block
unfolding bundle_of
bundle_found policy name block e =
    option_and_then_some if_bundle (find (is_bundle_of name) policy) block e
    (λ one is same. found_block policy name block one (found (is_bundle_of name) policy one is) same)

pub named_bundle_stands : NamedBundleStands
named_bundle_stands policy name block e = (bundle_found policy name block e).there

pub common_bundles_stand : CommonBundlesStand
unfolding common_bundles_of
common_bundles_stand policy = All-filter is_common (Contains policy) policy (All-contains_itself policy)

word_named : (policy : PolicyTree) (name : List ℕ) (block : BlockTree) → is_bundle_of name block ≡ true → IsSoundBlock last_line block → IsWord name
word_named policy name (bundle type_name named params sections place) is sound = subst IsWord (sym ((bytes_eq-Decides name named.name).0 is)) sound.name_is
word_named policy name (body type_name named params attributes place) is sound = absurd (false≢true is)

pub named_bundle_is_word : NamedBundleIsWord
named_bundle_is_word policy name block read e =
    let is = bundle_found policy name block e in
    word_named policy name block is.passes (All-contains (IsSoundBlock last_line) policy block (sourced_is_sound policy read) is.there)

has_word_name : (block : BlockTree) → IsSoundBlock last_line block → HasWordName block
has_word_name (bundle type_name named params sections place) sound = sound.name_is
has_word_name (body type_name named params attributes place) sound = sound.name_is

pub common_names_are_words : CommonNamesAreWords
unfolding common_bundles_of
common_names_are_words policy read =
    All-filter is_common HasWordName policy (All-weaker (IsSoundBlock last_line) HasWordName has_word_name policy (sourced_is_sound policy read))

-- ---- the sequence

-- an attribute of a control body that gives a value
record Gives (policy : PolicyTree) (value : ValueTree) : Type 0 where
  type_name : NamedTree
  name : NamedTree
  params : List NamedTree
  attributes : List AttributeTree
  place : Place
  a : AttributeTree
  is_block : Contains policy (body type_name name params attributes place)
  is_common : type_name.name ≡ codes "common"
  is_attribute : Contains attributes a
  named : a.name ≡ codes "bundlesequence"
  valued : a.value ≡ value

gives_behind : (b : BlockTree) (rest : PolicyTree) (value : ValueTree) → Gives rest value → Gives (b ∷ rest) value
gives_behind b rest value g = record {
  type_name = g.type_name;
  name = g.name;
  params = g.params;
  attributes = g.attributes;
  place = g.place;
  a = g.a;
  is_block = behind_one b rest (body g.type_name g.name g.params g.attributes g.place) g.is_block;
  is_common = g.is_common;
  is_attribute = g.is_attribute;
  named = g.named;
  valued = g.valued;
}

gives_by : (type_name name : NamedTree) (params : List NamedTree) (attributes : List AttributeTree) (place : Place) (rest : PolicyTree) (value : ValueTree) (b : Bool) → is_control type_name name ≡ b →
    value_of (codes "bundlesequence") (if b then attributes else control_of rest) ≡ Some value →
    (value_of (codes "bundlesequence") (control_of rest) ≡ Some value → Gives rest value) → Gives (body type_name name params attributes place ∷ rest) value
gives_by type_name name params attributes place rest value true is e later =
    let g = given (codes "bundlesequence") attributes value e in
    let common = (and_parts (bytes_eq type_name.name (codes "common")) (bytes_eq name.name (codes "control")) is).0 in
    record {
      type_name = type_name;
      name = name;
      params = params;
      attributes = attributes;
      place = place;
      a = g.a;
      is_block = first_here (body type_name name params attributes place) rest;
      is_common = (bytes_eq-Decides type_name.name (codes "common")).0 common;
      is_attribute = g.is_attribute;
      named = g.named;
      valued = g.valued;
    }
gives_by type_name name params attributes place rest value false is e later = gives_behind (body type_name name params attributes place) rest value (later e)

gives : (policy : PolicyTree) (value : ValueTree) → value_of (codes "bundlesequence") (control_of policy) ≡ Some value → Gives policy value
gives [] value e = absurd (none-some value e)
gives (bundle type_name name params sections place ∷ rest) value e = gives_behind (bundle type_name name params sections place) rest value (gives rest value e)
gives (body type_name name params attributes place ∷ rest) value e =
    gives_by type_name name params attributes place rest value (is_control type_name name) refl e (gives rest value)

is_common_body : body_type (codes "common") ≡ Some bodies.Common
unfolding body_type
is_common_body = refl

names_bundles : body_attribute bodies.Common (codes "bundlesequence") ≡ Some kinds.BundleNames
unfolding common_attribute
names_bundles = refl

module _ (s : Setting) (sound : All HasWordHead s.definitions.bundles) where
  item_is_word : (n : NamedTree) (head : Option BundleHead) → bundle_named s.definitions n.name ≡ head → in_sequence_refusals head n.place ≡ [] → IsWord n.name
  item_is_word n None is e = cc
  item_is_word n (Some b) is e = head_is_word s.definitions sound n.name b is

  items_are_words : (items : List NamedTree) → flat_map (sequence_item_refusals s.definitions) items ≡ [] → All IsWord (map name_in items)
  items_are_words [] e = All-nil IsWord
  items_are_words (n ∷ rest) e =
      let here = sequence_item_refusals s.definitions n in
      let behind = flat_map (sequence_item_refusals s.definitions) rest in
      All-cons IsWord n.name (map name_in rest) (item_is_word n (bundle_named s.definitions n.name) refl (none_left here behind e)) (items_are_words rest (none_right here behind e))

  listed_are_words : (value : ValueTree) → sequence_refusals s value ≡ [] → All IsWord (names_listed value)
  listed_are_words (list items place) e =
      let known = flat_map (known_item_refusals s) (values_in items) in
      let named = flat_map (sequence_item_refusals s.definitions) (known_items items) in
      let twice = repeated (known_items items) in
      items_are_words (known_items items) (none_left named twice (none_right known (named ++ twice) e))
  listed_are_words v e = All-nil IsWord

given_are_words : (policy : PolicyTree) → Valid policy → IsSourced policy → (value : Option ValueTree) → value_of (codes "bundlesequence") (control_of policy) ≡ value →
    All IsWord (names_given (codes "main" ∷ []) value)
given_are_words policy valid read None e = All-cons IsWord (codes "main") [] refl (All-nil IsWord)
given_are_words policy valid read (Some value) e =
    let g = gives policy value e in
    let s : Setting = record { definitions = definitions_of policy; home = in_body (map name_in g.params) } in
    let none = nothing_is_refused policy s (body_attribute bodies.Common) g.a valid (of_body g.is_block (ap body_type g.is_common ∙ is_common_body) g.is_attribute) in
    let kind = ap (body_attribute bodies.Common) g.named ∙ names_bundles in
    let refused = sym (ap (attribute_by s g.a) kind) ∙ none in
    listed_are_words s (heads_are_words policy names_are_words read) value (ap (sequence_refusals s) (sym g.valued) ∙ refused)

pub sequence_names_are_words : SequenceNamesAreWords
unfolding sequence_of
sequence_names_are_words policy valid read = given_are_words policy valid read (value_of (codes "bundlesequence") (control_of policy)) refl
