-- What stands at a path after a change.
use Rattle.std.proofs.Common.{◌≡◌, ℕ, ◌+◌, List, [], ◌∷◌, ◌++◌, length, take, Bool, true, false, cond, ◌||◌, eqb, Option, Some, None, is_some, refl, sym, ap, ◌∙◌, append_assoc, length-append}
use Rattle.std.proofs.lemmas.Bool.{false≢true, and_parts, eqb-true, or_parts}
use Rattle.std.specs.Cmp.Lexicographic.{nat_list_cmp_total}
use Rattle.std.specs.List.{list_all, list_any}
use Rattle.std.specs.Str.{bytes_eq}
use Rattle.std.specs.FinMap as map
use Rattle.cfa_base.specs.TextMaps.{TextMap}
use Rattle.cfa_base.specs.lemmas.TextMaps.{ties_alike, get-put}
use Rattle.cfa_base.specs.lemmas.EqualTexts.{same_text, is_text}
use Rattle.cfa_outside.specs.declared.worlds.World.{World}
use Rattle.cfa_outside.specs.declared.worlds.Perms.{Perms}
use Rattle.cfa_outside.specs.declared.worlds.Node.{Node}
use Rattle.cfa_outside.specs.declared.sites.Change.{Change}
use Rattle.cfa_outside.specs.declared.sites.Change.TheVariants.{PutFile, PutDir, Remove, SetPerms}
use Rattle.cfa_outside.specs.Worlds.{NodeMap, HasParents, is_directory, above, above_from, is_below, new_directory, with_dir, with_dirs, file_with, put_file, put_directory, with_perms, set_perms, set_perms_of}
use Rattle.cfa_outside.specs.Sites.{after_change}
use Rattle.cfa_acts.specs.Disturbs.{is_at_or_beneath}

get-without : {X : Type 0} (m : TextMap X) (k q : List ℕ) → map.get (map.remove m k) q ≡ cond (bytes_eq k q) None (map.get m q)
get-without m k q = map.get-remove nat_list_cmp_total m k q ∙ ap (λ b. cond b None (map.get m q)) (ties_alike k q)

-- a path where a node stands isn't one where nothing does
pub apart : (m : NodeMap) (q r : List ℕ) (n : Node) → map.get m q ≡ None → map.get m r ≡ Some n → bytes_eq q r ≡ false
apart m q r n none here = elim (bytes_eq q r) as (λ b. bytes_eq q r ≡ b → b ≡ false) [
  | true ↦ λ e. let at_q : map.get m q ≡ Some n = ap (map.get m) (is_text q r e) ∙ here in cc
  | false ↦ λ _. refl
] refl

-- a node stays where directories are made
stays_once : (m : NodeMap) (d q : List ℕ) (n : Node) → map.get m q ≡ Some n → map.get (with_dir d m) q ≡ Some n
stays_once m d q n here = elim (is_some (map.get m d)) as (λ b. is_some (map.get m d) ≡ b → map.get (cond b m (map.insert m d new_directory)) q ≡ Some n) [
  | true ↦ λ _. here
  | false ↦ λ none. get-put m d new_directory q ∙ elim (bytes_eq d q) as (λ b. bytes_eq d q ≡ b → cond b (Some new_directory) (map.get m q) ≡ Some n) [
    | true ↦ λ e. absurd (false≢true (sym none ∙ ap (λ (k : List ℕ). is_some (map.get m k)) (is_text d q e) ∙ ap is_some here))
    | false ↦ λ _. here
  ] refl
] refl

stays : (ds : List (List ℕ)) (m : NodeMap) (q : List ℕ) (n : Node) → map.get m q ≡ Some n → map.get (with_dirs ds m) q ≡ Some n
stays [] m q n here = here
stays (d ∷ ds) m q n here = stays ds (with_dir d m) q n (stays_once m d q n here)

-- nothing comes to stand where no directory is made
clear_once : (m : NodeMap) (d q : List ℕ) → bytes_eq d q ≡ false → map.get m q ≡ None → map.get (with_dir d m) q ≡ None
clear_once m d q other none = elim (is_some (map.get m d)) as (λ b. map.get (cond b m (map.insert m d new_directory)) q ≡ None) [
  | true ↦ none
  | false ↦ get-put m d new_directory q ∙ ap (λ b. cond b (Some new_directory) (map.get m q)) other ∙ none
]

clear : (ds : List (List ℕ)) (m : NodeMap) (q : List ℕ) → list_any (λ d. bytes_eq d q) ds ≡ false → map.get m q ≡ None → map.get (with_dirs ds m) q ≡ None
clear [] m q others none = none
clear (d ∷ ds) m q others none =
    let parts = or_parts (bytes_eq d q) (list_any (λ d. bytes_eq d q) ds) others in
    clear ds (with_dir d m) q parts.1 (clear_once m d q parts.0 none)

-- a path beneath which another isn't is none of the directories above that one
take_front : (xs ys : List ℕ) → take (length xs) (xs ++ ys) ≡ xs
take_front [] ys = refl
take_front (x ∷ xs) ys = ap (λ (l : List ℕ). x ∷ l) (take_front xs ys)

begins : (q rest : List ℕ) → is_below q (q ++ 47 ∷ rest) ≡ true
unfolding is_below
begins q rest =
    ap (λ (l : List ℕ). bytes_eq (q ++ 47 ∷ []) (take (length (q ++ 47 ∷ [])) l)) (sym (append_assoc q (47 ∷ []) rest))
    ∙ ap (bytes_eq (q ++ 47 ∷ [])) (take_front (q ++ 47 ∷ []) rest)
    ∙ same_text (q ++ 47 ∷ [])

none_from : (q front rest path : List ℕ) → path ≡ front ++ rest → is_below q path ≡ false → list_any (λ d. bytes_eq d q) (above_from path (length front) rest) ≡ false
none_from q front [] path is out = refl
none_from q front (b ∷ rest) path is out =
    let later : list_any (λ d. bytes_eq d q) (above_from path (length front + 1) rest) ≡ false =
    ap (λ (i : ℕ). list_any (λ d. bytes_eq d q) (above_from path i rest)) (sym (length-append front (b ∷ [])))
    ∙ none_from q (front ++ b ∷ []) rest path (is ∙ sym (append_assoc front (b ∷ []) rest)) out in
    elim (eqb b 47) as (λ t. eqb b 47 ≡ t → list_any (λ d. bytes_eq d q) (cond t (take (length front) path ∷ above_from path (length front + 1) rest) (above_from path (length front + 1) rest)) ≡ false) [
      | true ↦ λ slash. elim (bytes_eq (take (length front) path) q) as (λ t. bytes_eq (take (length front) path) q ≡ t → (t || list_any (λ d. bytes_eq d q) (above_from path (length front + 1) rest)) ≡ false) [
        | true ↦ λ e.
            let front_is : front ≡ q = sym (ap (take (length front)) is ∙ take_front front (b ∷ rest)) ∙ is_text (take (length front) path) q e in
            let whole : path ≡ q ++ 47 ∷ rest = is ∙ ap (λ (x : ℕ). front ++ x ∷ rest) (eqb-true b 47 slash) ∙ ap (λ (l : List ℕ). l ++ 47 ∷ rest) front_is in
            absurd (false≢true (sym out ∙ ap (is_below q) whole ∙ begins q rest))
        | false ↦ λ _. later
      ] refl
      | false ↦ λ _. later
    ] refl

not_above : (q path : List ℕ) → is_below q path ≡ false → list_any (λ d. bytes_eq d q) (above path) ≡ false
unfolding above
not_above q [] out = refl
not_above q (b ∷ rest) out = none_from q (b ∷ []) rest (b ∷ rest) refl out

-- what a change leaves of a node
abbrev pub left : Change → List ℕ → Node → Option Node
left (PutFile q bytes) r n = cond (bytes_eq q r) (Some (file_with bytes (Some n))) (Some n)
left (PutDir q) r n = cond (bytes_eq q r) (Some new_directory) (Some n)
left (Remove q) r n = cond (bytes_eq q r) None (Some n)
left (SetPerms q perms) r n = cond (bytes_eq q r) (Some (with_perms perms n)) (Some n)
left _ r n = Some n

put_leaves : (m : NodeMap) (q r : List ℕ) (n : Node) (made : Option Node → Node) → map.get m r ≡ Some n → map.get (map.insert (with_dirs (above q) m) q (made (map.get m q))) r ≡ cond (bytes_eq q r) (Some (made (Some n))) (Some n)
put_leaves m q r n made here =
    get-put (with_dirs (above q) m) q (made (map.get m q)) r
    ∙ elim (bytes_eq q r) as (λ b. bytes_eq q r ≡ b → cond b (Some (made (map.get m q))) (map.get (with_dirs (above q) m) r) ≡ cond b (Some (made (Some n))) (Some n)) [
      | true ↦ λ e. ap (λ (o : Option Node). Some (made o)) (ap (map.get m) (is_text q r e) ∙ here)
      | false ↦ λ _. stays (above q) m r n here
    ] refl

set_leaves : (m : NodeMap) (q r : List ℕ) (perms : Perms) (n : Node) (there : Option Node) → map.get m q ≡ there → map.get m r ≡ Some n → map.get (set_perms_of there q perms m) r ≡ cond (bytes_eq q r) (Some (with_perms perms n)) (Some n)
set_leaves m q r perms n None there here = here ∙ sym (ap (λ b. cond b (Some (with_perms perms n)) (Some n)) (apart m q r n there here))
set_leaves m q r perms n (Some x) there here =
    get-put m q (with_perms perms x) r
    ∙ elim (bytes_eq q r) as (λ b. bytes_eq q r ≡ b → cond b (Some (with_perms perms x)) (map.get m r) ≡ cond b (Some (with_perms perms n)) (Some n)) [
      | true ↦ λ e. let is : x ≡ n = let both : Some x ≡ Some n = sym there ∙ ap (map.get m) (is_text q r e) ∙ here in cc in ap (λ (y : Node). Some (with_perms perms y)) is
      | false ↦ λ _. here
    ] refl

pub leaves : (change : Change) (world : World) (r : List ℕ) (n : Node) → map.get world.nodes r ≡ Some n → map.get (after_change change world).nodes r ≡ left change r n
unfolding after_change put_file put_directory set_perms
leaves (PutFile q bytes) world r n here = put_leaves world.nodes q r n (file_with bytes) here
leaves (PutDir q) world r n here = put_leaves world.nodes q r n (λ _. new_directory) here
leaves (Remove q) world r n here = get-without world.nodes q r ∙ ap (cond (bytes_eq q r) None) here
leaves (SetPerms q perms) world r n here = set_leaves world.nodes q r perms n (map.get world.nodes q) refl here
leaves _ world r n here = here

abbrev nowhere : Option Node
nowhere = None

-- where a change may make something stand
abbrev pub may_make : Change → List ℕ → Bool
may_make (PutFile q _) r = is_at_or_beneath r q
may_make (PutDir q) r = is_at_or_beneath r q
may_make _ r = false

put_clear : (m : NodeMap) (q r : List ℕ) (made : Node) → map.get m r ≡ None → is_at_or_beneath r q ≡ false → map.get (map.insert (with_dirs (above q) m) q made) r ≡ None
put_clear m q r made none out =
    let parts = or_parts (bytes_eq r q) (is_below r q) out in
    get-put (with_dirs (above q) m) q made r
    ∙ elim (bytes_eq q r) as (λ b. bytes_eq q r ≡ b → cond b (Some made) (map.get (with_dirs (above q) m) r) ≡ None) [
      | true ↦ λ e. absurd (false≢true (sym parts.0 ∙ ap (λ (p : List ℕ). bytes_eq r p) (is_text q r e) ∙ same_text r))
      | false ↦ λ _. clear (above q) m r (not_above r q parts.1) none
    ] refl

-- a file that is put where a node stands, in directories up to the root, makes nothing else stand
outside : (m : NodeMap) (r : List ℕ) (ds : List (List ℕ)) → map.get m r ≡ None → list_all (λ d. is_directory (map.get m d)) ds ≡ true → list_any (λ d. bytes_eq d r) ds ≡ false
outside m r [] none stand = refl
outside m r (d ∷ ds) none stand =
    let parts = and_parts (is_directory (map.get m d)) (list_all (λ p. is_directory (map.get m p)) ds) stand in
    elim (bytes_eq d r) as (λ b. bytes_eq d r ≡ b → (b || list_any (λ p. bytes_eq p r) ds) ≡ false) [
      | true ↦ λ e. absurd (false≢true (sym (ap is_directory none) ∙ ap (λ (p : List ℕ). is_directory (map.get m p)) (sym (is_text d r e)) ∙ parts.0))
      | false ↦ λ _. outside m r ds none parts.1
    ] refl

pub put_over : (world : World) (q r bytes : List ℕ) (n : Node) → HasParents world.nodes → map.get world.nodes q ≡ Some n → map.get world.nodes r ≡ None → map.get (after_change (PutFile q bytes) world).nodes r ≡ None
unfolding after_change put_file
put_over world q r bytes n parents here none =
    get-put (with_dirs (above q) world.nodes) q (file_with bytes (map.get world.nodes q)) r
    ∙ elim (bytes_eq q r) as (λ b. bytes_eq q r ≡ b → cond b (Some (file_with bytes (map.get world.nodes q))) (map.get (with_dirs (above q) world.nodes) r) ≡ None) [
      | true ↦ λ e. let both : Some n ≡ nowhere = sym here ∙ ap (map.get world.nodes) (is_text q r e) ∙ none in cc
      | false ↦ λ _. clear (above q) world.nodes r (outside world.nodes r (above q) none (parents.of_each q (ap is_some here))) none
    ] refl

set_clear : (m : NodeMap) (q r : List ℕ) (perms : Perms) (there : Option Node) → map.get m q ≡ there → map.get m r ≡ None → map.get (set_perms_of there q perms m) r ≡ None
set_clear m q r perms None there none = none
set_clear m q r perms (Some x) there none =
    get-put m q (with_perms perms x) r
    ∙ elim (bytes_eq q r) as (λ b. bytes_eq q r ≡ b → cond b (Some (with_perms perms x)) (map.get m r) ≡ None) [
      | true ↦ λ e. let both : Some x ≡ nowhere = sym there ∙ ap (map.get m) (is_text q r e) ∙ none in cc
      | false ↦ λ _. none
    ] refl

pub stays_clear : (change : Change) (world : World) (r : List ℕ) → map.get world.nodes r ≡ None → may_make change r ≡ false → map.get (after_change change world).nodes r ≡ None
unfolding after_change put_file put_directory set_perms
stays_clear (PutFile q bytes) world r none out = put_clear world.nodes q r (file_with bytes (map.get world.nodes q)) none out
stays_clear (PutDir q) world r none out = put_clear world.nodes q r new_directory none out
stays_clear (Remove q) world r none out = get-without world.nodes q r ∙ ap (cond (bytes_eq q r) None) none ∙ neither (bytes_eq q r) where
  neither : (b : Bool) → cond b nowhere nowhere ≡ nowhere
  neither true = refl
  neither false = refl
stays_clear (SetPerms q perms) world r none out = set_clear world.nodes q r perms (map.get world.nodes q) refl none
stays_clear _ world r none out = none

-- what stands at the path of a change
pub put_there : (world : World) (q bytes : List ℕ) → map.get (after_change (PutFile q bytes) world).nodes q ≡ Some (file_with bytes (map.get world.nodes q))
unfolding after_change put_file
put_there world q bytes = get-put (with_dirs (above q) world.nodes) q (file_with bytes (map.get world.nodes q)) q ∙ ap (λ b. cond b (Some (file_with bytes (map.get world.nodes q))) (map.get (with_dirs (above q) world.nodes) q)) (same_text q)

pub directory_there : (world : World) (q : List ℕ) → map.get (after_change (PutDir q) world).nodes q ≡ Some new_directory
unfolding after_change put_directory
directory_there world q = get-put (with_dirs (above q) world.nodes) q new_directory q ∙ ap (λ b. cond b (Some new_directory) (map.get (with_dirs (above q) world.nodes) q)) (same_text q)

pub removed_there : (world : World) (q : List ℕ) → map.get (after_change (Remove q) world).nodes q ≡ None
unfolding after_change
removed_there world q = get-without world.nodes q q ∙ ap (λ b. cond b None (map.get world.nodes q)) (same_text q)
