-- What is noted of a policy as a whole.
use Rattle.std.proofs.Common.{◌≡◌, ◌<◌, ℕ, ◌+◌, Bool, List, [], ◌∷◌, ◌++◌, length, drop, get_or, map, Option, Some, None, refl, ap, sym, ◌∙◌}
use Rattle.std.specs.Prelude.{not, is_none, codes}
use Rattle.std.specs.List.{cons_option, filter_map, flat_map, list_any}
use Rattle.std.proofs.lemmas.List.{drop_more, map-append}
use Rattle.cfa_tree.specs.Tree.{AttributeTree, NamedTree, PolicyTree}
use Rattle.cfa_values.specs.declared.refusals.Refusal.{Refusal}
use Rattle.cfa_base.specs.Index.{Text, same_pair, pair_place_of}
use Rattle.cfa_values.specs.Definitions.{Definitions}
use Rattle.cfa_schema.specs.Defined.{definitions_of}
use Rattle.cfa_served.specs.Control.{control_of}
use Rattle.cfa_values.specs.Attributes.{value_of}
use Rattle.cfa_values.specs.Refusals.{noted, only_if}
use Rattle.cfa_schema.specs.Valid.{BodyName, bundle_name, body_name, is_same_body, repeated_bodies_after, default_refusals, block_refusals, refusals}
use Rattle.cfa_values.specs.Values.{repeated}
use Rattle.cfa_values.specs.Lookups.{is_repeated}
use Rattle.cfa_schema.proofs.BlockLemmas.{any_seen}
use Rattle.cfa_values.specs.Noted.{noted_both, then_noted}
use Rattle.cfa_values.specs.declared.refusals.Code.TheVariants.{Duplicate}

-- a body by the word of its type and its name, without its place
abbrev pub pair_of : BodyName → Text × Text
pair_of b = (b.type_word, b.named.name)

-- the same refusals, by pairs of the type and the name
abbrev pub repeated_pairs : List (Text × Text) → List BodyName → List Refusal
repeated_pairs before [] = []
repeated_pairs before (b ∷ rest) = only_if (list_any (same_pair (pair_of b)) before) Duplicate b.named.place ++ repeated_pairs (before ++ pair_of b ∷ []) rest

pub repeated_by_pairs : (before : List BodyName) (bodies : List BodyName) → repeated_pairs (map pair_of before) bodies ≡ repeated_bodies_after before bodies
repeated_by_pairs before [] = refl
repeated_by_pairs before (b ∷ rest) =
    ap (λ is_same. only_if is_same Duplicate b.named.place ++ repeated_pairs (map pair_of before ++ pair_of b ∷ []) rest) (sym (any_seen pair_of (same_pair (pair_of b)) before))
    ∙ ap (λ pairs. only_if (list_any (is_same_body b) before) Duplicate b.named.place ++ repeated_pairs pairs rest) (sym (map-append pair_of before (b ∷ [])))
    ∙ ap (λ more. only_if (list_any (is_same_body b) before) Duplicate b.named.place ++ more) (repeated_by_pairs (before ++ b ∷ []) rest)

-- a pair is new where it is none of the pairs
pub is_new_pair : (pair : Text × Text) (pairs : List (Text × Text)) → not (is_none (pair_place_of pairs pair)) ≡ list_any (same_pair pair) pairs
is_new_pair pair pairs = is_repeated (same_pair pair) pairs

module _ {E B : Type 0} (plain : E → B) (name_of : B → Option BodyName) (xs : List E) (i : ℕ) (x : E) where
  names_from : i < length xs → x ≡ get_or xs i x →
      filter_map name_of (map plain (drop i xs)) ≡ cons_option (name_of (plain x)) (filter_map name_of (map plain (drop (i + 1) xs)))
  names_from h is =
      ap (λ ys. filter_map name_of (map plain ys)) (drop_more xs i x h)
      ∙ ap (λ y. cons_option (name_of (plain y)) (filter_map name_of (map plain (drop (i + 1) xs)))) (sym is)

  -- an item without a name is passed over
  pub name_passed : i < length xs → x ≡ get_or xs i x → name_of (plain x) ≡ None →
      filter_map name_of (map plain (drop (i + 1) xs)) ≡ filter_map name_of (map plain (drop i xs))
  name_passed h is none = sym (names_from h is ∙ ap (λ o. cons_option o (filter_map name_of (map plain (drop (i + 1) xs)))) none)

  -- the name of an item stands before those that are left
  pub name_taken : (b : BodyName) → i < length xs → x ≡ get_or xs i x → name_of (plain x) ≡ Some b →
      filter_map name_of (map plain (drop i xs)) ≡ b ∷ filter_map name_of (map plain (drop (i + 1) xs))
  name_taken b h is some = names_from h is ∙ ap (λ o. cons_option o (filter_map name_of (map plain (drop (i + 1) xs)))) some

-- nothing was noted, and nothing is passed
pub pair_passed : (pairs more : List (Text × Text)) (left all : List BodyName) (first next : Option Refusal) → next ≡ first → more ≡ pairs → left ≡ all →
    noted next (repeated_pairs more left) ≡ noted first (repeated_pairs pairs all)
pair_passed pairs more left all first next e m a =
    ap (λ o. noted o (repeated_pairs more left)) e ∙ ap (λ ps. noted first (repeated_pairs ps left)) m ∙ ap (λ bs. noted first (repeated_pairs pairs bs)) a

-- a body that stands before already was noted
pub pair_noted : (pairs more : List (Text × Text)) (pair : Text × Text) (b : BodyName) (left all : List BodyName) (is_new : Bool) (first next : Option Refusal) →
    all ≡ b ∷ left → pair ≡ pair_of b → more ≡ pairs ++ pair ∷ [] → is_new ≡ is_none (pair_place_of pairs pair) →
    next ≡ noted first (only_if (not is_new) Duplicate b.named.place) → noted next (repeated_pairs more left) ≡ noted first (repeated_pairs pairs all)
pair_noted pairs more pair b left all is_new first next a p m n e =
    let here = only_if (list_any (same_pair (pair_of b)) pairs) Duplicate b.named.place in
    ap (λ o. noted o (repeated_pairs more left)) (e ∙ ap (λ t. noted first (only_if t Duplicate b.named.place)) (ap not n ∙ is_new_pair pair pairs ∙ ap (λ q. list_any (same_pair q) pairs) p))
    ∙ ap (λ ps. noted (noted first here) (repeated_pairs ps left)) (m ∙ ap (λ q. pairs ++ q ∷ []) p)
    ∙ sym (noted_both first here (repeated_pairs (pairs ++ pair_of b ∷ []) left))
    ∙ ap (λ bs. noted first (repeated_pairs pairs bs)) (sym a)

-- what is noted of the bundles' names, the bodies, the sequence and the blocks in turn is noted of a policy
pub table_noted : (policy blocks : PolicyTree) (definitions : Definitions) (bundles : List NamedTree) (control : List AttributeTree) (first second third fourth last : Option Refusal) →
    blocks ≡ policy → definitions ≡ definitions_of policy → bundles ≡ filter_map bundle_name blocks → control ≡ control_of blocks →
    second ≡ noted first (repeated bundles) → third ≡ noted second (repeated_bodies_after [] (filter_map body_name blocks)) →
    fourth ≡ noted third (default_refusals definitions (value_of (codes "bundlesequence") control)) → last ≡ noted fourth (flat_map (block_refusals definitions) blocks) →
    last ≡ noted first (refusals policy)
unfolding refusals
table_noted policy blocks definitions bundles control first second third fourth last p k n c e f g h =
    let names = repeated (filter_map bundle_name blocks) in
    let bodies = repeated_bodies_after [] (filter_map body_name blocks) in
    let default = default_refusals (definitions_of blocks) (value_of (codes "bundlesequence") (control_of blocks)) in
    let rest = flat_map (block_refusals (definitions_of blocks)) blocks in
    let own = k ∙ ap definitions_of (sym p) in
    then_noted first second last names (bodies ++ (default ++ rest)) (e ∙ ap (λ ns. noted first (repeated ns)) n)
    (then_noted second third last bodies (default ++ rest) f
    (then_noted third fourth last default rest
    (g ∙ ap (λ d. noted third (default_refusals d (value_of (codes "bundlesequence") control))) own
    ∙ ap (λ xs. noted third (default_refusals (definitions_of blocks) (value_of (codes "bundlesequence") xs))) c)
    (h ∙ ap (λ d. noted fourth (flat_map (block_refusals d) blocks)) own)))
    ∙ ap (λ whole. noted first (refusals whole)) p
