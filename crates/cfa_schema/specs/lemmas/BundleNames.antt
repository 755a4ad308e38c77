-- The bundles that a policy defines have words as their names, where it was read from its files, and what finds such a bundle is a word.
use Rattle.std.proofs.Common.{◌≡◌, ℕ, List, [], ◌∷◌, length, All, Some, sym, subst}
use Rattle.std.specs.List.{Contains, filter_map}
use Rattle.std.specs.Str.{bytes_eq}
use Rattle.std.proofs.lemmas.List.Elements.{All-cons, All-contains, All-contains_itself, All-head, All-nil, All-tail, All-weaker}
use Rattle.std.proofs.lemmas.Slice.Eq.{bytes_eq-Decides}
use Rattle.cfa_tree.specs.Tree.{BlockTree, bundle, body, PolicyTree}
use Rattle.cfa_kinds.specs.Kinds.{bundle_type}
use Rattle.cfa_values.specs.Definitions.{Definitions, BundleHead, bundle_named}
use Rattle.cfa_schema.specs.Defined.{bundle_head, definitions_of}
use Rattle.cfa_schema.specs.Laws.{IsWord, NamesAreWords}
use Rattle.cfa_schema.specs.lemmas.Found.{found}
use Rattle.cfa_schema.specs.Sourced.{IsSourced}

abbrev pub HasWordHead : BundleHead → Type 0
HasWordHead b = IsWord b.name

abbrev IsWordBlock : BlockTree → Type 0
IsWordBlock (bundle type_name name params sections place) = IsWord name.name
IsWordBlock (body type_name name params attributes place) = Unit {0}

words_in : (policy : PolicyTree) → NamesAreWords → IsSourced policy → All IsWordBlock policy
words_in policy words sourced = All-weaker (Contains policy) IsWordBlock one policy (All-contains_itself policy)
  where
    one : (block : BlockTree) → Contains policy block → IsWordBlock block
    one (bundle type_name name params sections place) has = words policy type_name name params sections place sourced has
    one (body type_name name params attributes place) has = tt

heads_of : (blocks : List BlockTree) → All IsWordBlock blocks → All HasWordHead (filter_map bundle_head blocks)
heads_of [] h = All-nil HasWordHead
heads_of (bundle type_name name params sections place ∷ rest) h =
    All-cons HasWordHead (record { type = bundle_type type_name.name; name = name.name; params = length params; place = name.place }) (filter_map bundle_head rest)
    (All-head IsWordBlock (bundle type_name name params sections place) rest h)
    (heads_of rest (All-tail IsWordBlock (bundle type_name name params sections place) rest h))
heads_of (body type_name name params attributes place ∷ rest) h =
    heads_of rest (All-tail IsWordBlock (body type_name name params attributes place) rest h)

-- the bundles that a policy which was read defines have words as their names
pub heads_are_words : (policy : PolicyTree) → NamesAreWords → IsSourced policy → All HasWordHead (definitions_of policy).bundles
unfolding definitions_of
heads_are_words policy words sourced = heads_of policy (words_in policy words sourced)

-- what finds such a bundle is a word
pub head_is_word : (definitions : Definitions) → All HasWordHead definitions.bundles → (name : List ℕ) (b : BundleHead) → bundle_named definitions name ≡ Some b → IsWord name
head_is_word definitions sound name b e =
    let there = found (λ (other : BundleHead). bytes_eq name other.name) definitions.bundles b e in
    subst IsWord (sym ((bytes_eq-Decides name b.name).0 there.passes)) (All-contains HasWordHead definitions.bundles b sound there.there)
