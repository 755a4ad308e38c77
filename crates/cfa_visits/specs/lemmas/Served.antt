-- The names of the common bundles and of those of the sequence are those of shared scopes.
use Rattle.std.proofs.Common.{◌≡◌, ℕ, Bool, true, false, List, [], ◌∷◌, ◌++◌, map, refl, sym, ap, ◌∙◌, ◌<◌, All, Bor, subst}
use Rattle.std.specs.Prelude.{◌||◌, if◌then◌else◌, cond, find, option_and_then, Some}
use Rattle.std.specs.List.{list_any, Contains}
use Rattle.std.specs.Str.{bytes_eq}
use Rattle.std.proofs.lemmas.Bool.{false≢true, or_left, or_right}
use Rattle.std.proofs.lemmas.List.Folds.{list_any-append, list_any_at}
use Rattle.cfa_base.specs.lemmas.EqualTexts.{same_text, is_text}
use Rattle.cfa_tree.specs.Tree.{BlockTree, PolicyTree, bundle, body}
use Rattle.cfa_served.specs.Control.{sequence_of}
use Rattle.cfa_served.specs.Served.{common_bundles_of, bundle_of, if_bundle, is_bundle_of}
use Rattle.cfa_base.specs.Index.{is_listed}
use Rattle.cfa_states.specs.Numbered.{name_of}
use Rattle.cfa_states.specs.Views.{joined_once, shared_names}
use Rattle.std.proofs.Math.ListN.{get_or-map}
use Rattle.std.proofs.lemmas.List.{length-map}
use Rattle.std.proofs.lemmas.List.Elements.{All-contains_itself, All-weaker}
use Rattle.cfa_tree.specs.declared.blocks.Bundle.{Bundle}
use Rattle.cfa_visits.specs.Bundles.{IsShared, HasSharedName, seen_bundle}

-- ---- names that are joined

pub listed_map : {X : Type 0} (f : X → List ℕ) (xs : List X) (name : List ℕ) → is_listed (map f xs) name ≡ list_any (λ x. bytes_eq (f x) name) xs
listed_map f [] name = refl
listed_map f (x ∷ xs) name = ap (λ b. bytes_eq (f x) name || b) (listed_map f xs name)

-- ---- which names are shared

still_listed : (found : Bool) (names : List (List ℕ)) (other name : List ℕ) → is_listed names name ≡ true → is_listed (if found then names else names ++ other ∷ []) name ≡ true
still_listed true names other name listed = listed
still_listed false names other name listed =
    list_any-append (λ n. bytes_eq n name) names (other ∷ []) ∙ or_left (is_listed names name) (bytes_eq other name || false) listed

now_listed : (found : Bool) (names : List (List ℕ)) (name : List ℕ) → is_listed names name ≡ found → is_listed (if found then names else names ++ name ∷ []) name ≡ true
now_listed true names name e = e
now_listed false names name e =
    list_any-append (λ n. bytes_eq n name) names (name ∷ []) ∙ ap (λ b. b || (bytes_eq name name || false)) e ∙ ap (λ b. b || false) (same_text name)

kept_listed : (names more : List (List ℕ)) (name : List ℕ) → is_listed names name ≡ true → is_listed (joined_once names more) name ≡ true
kept_listed names [] name listed = listed
kept_listed names (other ∷ more) name listed =
    kept_listed (if is_listed names other then names else names ++ other ∷ []) more name (still_listed (is_listed names other) names other name listed)

joined_listed : (names more : List (List ℕ)) (name : List ℕ) → is_listed more name ≡ true → is_listed (joined_once names more) name ≡ true
joined_listed names [] name listed = absurd (false≢true listed)
joined_listed names (other ∷ more) name listed =
    let found = is_listed names other in
    let with_it = if found then names else names ++ other ∷ [] in
    elim (bytes_eq other name) as (λ b. bytes_eq other name ≡ b → (b || is_listed more name) ≡ true → is_listed (joined_once with_it more) name ≡ true) [
      | true ↦ λ same _. kept_listed with_it more name (ap (is_listed with_it) (sym (is_text other name same)) ∙ now_listed found names other refl)
      | false ↦ λ _ behind. joined_listed with_it more name behind
    ] refl listed

in_front : (xs ys : List (List ℕ)) (name : List ℕ) → is_listed xs name ≡ true → is_listed (xs ++ ys) name ≡ true
in_front xs ys name listed = list_any-append (λ n. bytes_eq n name) xs ys ∙ or_left (is_listed xs name) (is_listed ys name) listed

behind_it : (xs ys : List (List ℕ)) (name : List ℕ) → is_listed ys name ≡ true → is_listed (xs ++ ys) name ≡ true
behind_it [] ys name listed = listed
behind_it (x ∷ xs) ys name listed = or_right (bytes_eq x name) (is_listed (xs ++ ys) name) (behind_it xs ys name listed)

-- the bundles of the sequence are shared, and the common bundles
pub sequence_is_shared : (policy : PolicyTree) (name : List ℕ) → Contains (sequence_of policy) name → is_listed (shared_names policy) name ≡ true
unfolding shared_names
sequence_is_shared policy name has =
    joined_listed [] (map name_of (common_bundles_of policy) ++ sequence_of policy) name
    (behind_it (map name_of (common_bundles_of policy)) (sequence_of policy) name
    (list_any_at (λ n. bytes_eq n name) (sequence_of policy) has.0 name has.1 (ap (λ n. bytes_eq n name) has.2 ∙ same_text name)))

pub commons_are_shared : (policy : PolicyTree) (block : BlockTree) → Contains (common_bundles_of policy) block → is_listed (shared_names policy) (name_of block) ≡ true
unfolding shared_names
commons_are_shared policy block has =
    joined_listed [] (map name_of (common_bundles_of policy) ++ sequence_of policy) (name_of block)
    (in_front (map name_of (common_bundles_of policy)) (sequence_of policy) (name_of block)
    (listed_map name_of (common_bundles_of policy) (name_of block)
    ∙ list_any_at (λ b. bytes_eq (name_of b) (name_of block)) (common_bundles_of policy) has.0 block has.1 (ap (λ b. bytes_eq (name_of b) (name_of block)) has.2 ∙ same_text (name_of block))))

pub sequence_shared : (policy : PolicyTree) → All (IsShared policy) (sequence_of policy)
sequence_shared policy =
    All-weaker (Contains (sequence_of policy)) (IsShared policy) (sequence_is_shared policy) (sequence_of policy) (All-contains_itself (sequence_of policy))

pub all_held : {X Y : Type 0} (f : X → Y) (P : Y → Type 0) (xs : List X) → All P (map f xs) → All (λ x. P (f x)) xs
all_held f P xs all = λ k d within. subst P (get_or-map f xs k d) (all k (f d) (subst (λ n. k < n) (sym (length-map xs f)) within))

pub commons_shared : (policy : PolicyTree) (bundles : List (Bor Bundle)) → map (λ b. seen_bundle b.now) bundles ≡ common_bundles_of policy →
    All (λ b. IsShared policy b.now.name.name) bundles
commons_shared policy bundles is =
    all_held (λ (b : Bor Bundle). seen_bundle b.now) (HasSharedName policy) bundles
    (subst (λ (blocks : List BlockTree). All (HasSharedName policy) blocks) (sym is)
    (All-weaker (Contains (common_bundles_of policy)) (HasSharedName policy) (commons_are_shared policy) (common_bundles_of policy) (All-contains_itself (common_bundles_of policy))))

-- ---- a bundle that is found has the name

found_by : (name : List ℕ) (b : BlockTree) (rest : PolicyTree) (test : Bool) (block : BlockTree) → is_bundle_of name b ≡ test →
    option_and_then if_bundle (cond test (Some b) (find (is_bundle_of name) rest)) ≡ Some block →
    (option_and_then if_bundle (find (is_bundle_of name) rest) ≡ Some block → name_of block ≡ name) → name_of block ≡ name
found_by name (bundle type_name named params sections place) rest true block same e later =
    let is : bundle type_name named params sections place ≡ block = cc in
    ap name_of (sym is) ∙ sym (is_text name named.name same)
found_by name (body type_name named params attributes place) rest true block same e later = cc
found_by name b rest false block same e later = later e

found_in : (name : List ℕ) (policy : PolicyTree) (block : BlockTree) → option_and_then if_bundle (find (is_bundle_of name) policy) ≡ Some block → name_of block ≡ name
found_in name [] block e = cc
found_in name (b ∷ rest) block e = found_by name b rest (is_bundle_of name b) block refl e (found_in name rest block)

pub found_name : (policy : PolicyTree) (name : List ℕ) (block : BlockTree) → bundle_of policy name ≡ Some block → name_of block ≡ name
unfolding bundle_of
found_name policy name block e = found_in name policy block e
