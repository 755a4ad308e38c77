-- A change that fits leaves each node in directories up to the root.
use Rattle.std.proofs.Common.{◌≡◌, ℕ, zero, suc, ◌+◌, ◌<◌, ◌≤◌, ◌⊎◌, inl, inr, ⊎_elim, Bool, true, false, cond, ◌&&◌, not, eqb, eqb-true, List, [], ◌∷◌, ◌++◌, length, get_or, take, drop, Option, Some, None, is_some, Result, Ok, Err, OnOk, OnErr, refl, sym, ap, subst, ◌∙◌, arith}
use Rattle.std.proofs.lemmas.Bool.{false≢true, cases_lt, eq-eqb, or_parts, and_parts, not-true}
use Rattle.std.proofs.lemmas.List.{take_more, take-take, get_or-take, length-take-le}
use Rattle.std.specs.Prelude.{nat_eq}
use Rattle.std.specs.List.{list_all, list_any, starts_with}
use Rattle.std.specs.FinMap as map
use Rattle.std.specs.Cmp.Lexicographic.{nat_list_cmp_total}
use Rattle.std.specs.Ordering.{eq_by_cmp}
use Rattle.cfa_outside.specs.declared.worlds.World.{World}
use Rattle.cfa_outside.specs.declared.worlds.Node.{Node}
use Rattle.cfa_outside.specs.declared.worlds.Perms.{Perms}
use Rattle.cfa_outside.specs.declared.worlds.Node.TheVariants as node
use Rattle.cfa_outside.specs.declared.sites.Change.{Change}
use Rattle.cfa_outside.specs.declared.sites.Change.TheVariants.{PutFile, PutDir, Remove, SetPerms, PutService, PutLock, Append}
use Rattle.cfa_outside.specs.declared.sites.Entry.{Entry}
use Rattle.cfa_outside.specs.declared.sites.Entry.TheVariants.{Did, Refused}
use Rattle.cfa_outside.specs.Worlds.{NodeMap, above, above_from, is_file, is_directory, is_blocked, has_below, new_directory, with_dir, with_dirs, put_file, file_with, shows, takes_file, look_at, is_in_directories, is_free, takes_directory, is_removable, is_below, put_directory, with_perms, set_perms_of, set_perms, HasParents}
use Rattle.cfa_outside.specs.Sites.{fits, after_change, after, AllFit}
use Rattle.cfa_outside.specs.lemmas.Looks.{no_directory}
use Rattle.cfa_outside.specs.lemmas.Kinds.{set_directory}
use Rattle.cfa_outside.proofs.Above.{above_here, above_done, above_whole}
use Rattle.cfa_base.specs.TextMaps.{text_cmp}
use Rattle.cfa_base.specs.lemmas.TextMaps.{tied, ties, any_passes}

-- a path is one of these
In : List ℕ → List (List ℕ) → Type 0
In p [] = ⊥
In p (q ∷ qs) = (p ≡ q) ⊎ In p qs

all_in : (test : List ℕ → Bool) (ps : List (List ℕ)) → list_all test ps ≡ true → (p : List ℕ) → In p ps → test p ≡ true
unfolding In
all_in test [] all p among = absurd among
all_in test (q ∷ qs) all p among =
    let parts = and_parts (test q) (list_all test qs) all in
    ⊎_elim (λ (same : p ≡ q). ap test same ∙ parts.0) (λ (later : In p qs). all_in test qs parts.1 p later) among

in_all : (test : List ℕ → Bool) (ps : List (List ℕ)) → ((p : List ℕ) → In p ps → test p ≡ true) → list_all test ps ≡ true
unfolding In
in_all test [] each = refl
in_all test (q ∷ qs) each = ap (λ b. b && list_all test qs) (each q (inl refl)) ∙ in_all test qs (λ p among. each p (inr among))

none_in : (test : List ℕ → Bool) (ps : List (List ℕ)) → list_any test ps ≡ false → (p : List ℕ) → In p ps → test p ≡ false
unfolding In
none_in test [] none p among = absurd among
none_in test (q ∷ qs) none p among =
    let parts = or_parts (test q) (list_any test qs) none in
    ⊎_elim (λ (same : p ≡ q). ap test same ∙ parts.0) (λ (later : In p qs). none_in test qs parts.1 p later) among

-- what stands before a slash of a path, other than its first byte
record Cut (path p : List ℕ) (from : ℕ) : Type 0 where
  at : ℕ
  later : from ≤ at
  before : at < length path
  slash : get_or path at 0 ≡ 47
  is : p ≡ take at path

earlier : (path p : List ℕ) (i : ℕ) → Cut path p (i + 1) → Cut path p i
earlier path p i cut = record { at = cut.at; later = omega arith; before = cut.before; slash = cut.slash; is = cut.is }

in_cut : (n : ℕ) (path p : List ℕ) (i : ℕ) → length path ≤ i + n → In p (above_from path i (drop i path)) → Cut path p i
unfolding In
in_cut zero path p i enough among = absurd (subst (In p) (above_done path i (omega arith)) among)
in_cut (suc n) path p i enough among =
    ⊎_elim (λ (lt : i < length path).
    elim (eqb (get_or path i 0) 47) as (λ b. eqb (get_or path i 0) 47 ≡ b → In p (cond b (take i path ∷ above_from path (i + 1) (drop (i + 1) path)) (above_from path (i + 1) (drop (i + 1) path))) → Cut path p i) [
      | true ↦ λ slash here. ⊎_elim
          (λ (same : p ≡ take i path). record { at = i; later = omega arith; before = lt; slash = eqb-true (get_or path i 0) 47 slash; is = same })
          (λ (rest : In p (above_from path (i + 1) (drop (i + 1) path))). earlier path p i (in_cut n path p (i + 1) (omega arith) rest))
          here
      | false ↦ λ _ here. earlier path p i (in_cut n path p (i + 1) (omega arith) here)
    ] refl (subst (In p) (above_here path i lt) among))
    (λ (le : length path ≤ i). absurd (subst (In p) (above_done path i le) among)) (cases_lt i (length path))

cut_in : (n : ℕ) (path p : List ℕ) (i : ℕ) → length path ≤ i + n → Cut path p i → In p (above_from path i (drop i path))
unfolding In
cut_in zero path p i enough cut = let later = cut.later in let before = cut.before in absurd (omega arith)
cut_in (suc n) path p i enough cut =
    let later : i ≤ cut.at = cut.later in
    let before : cut.at < length path = cut.before in
    let lt : i < length path = omega arith in
    subst (In p) (sym (above_here path i lt))
    (⊎_elim
    (λ (here : i ≡ cut.at).
    let slash : get_or path i 0 ≡ 47 = ap (λ j. get_or path j 0) here ∙ cut.slash in
    subst (λ (b : Bool). In p (cond b (take i path ∷ above_from path (i + 1) (drop (i + 1) path)) (above_from path (i + 1) (drop (i + 1) path)))) (sym (eq-eqb (get_or path i 0) 47 slash)) (inl (cut.is ∙ ap (λ j. take j path) (sym here))))
    (λ (on : i < cut.at).
    let rest = cut_in n path p (i + 1) (omega arith) (record { at = cut.at; later = omega arith; before = cut.before; slash = cut.slash; is = cut.is }) in
    elim (eqb (get_or path i 0) 47) as (λ b. In p (cond b (take i path ∷ above_from path (i + 1) (drop (i + 1) path)) (above_from path (i + 1) (drop (i + 1) path)))) [ true ↦ inr rest | false ↦ rest ])
    (first_or_on i cut.at later)) where
      first_or_on : (i j : ℕ) → i ≤ j → (i ≡ j) ⊎ (i < j)
      first_or_on i j le = ⊎_elim (λ (lt : i < j). inr lt) (λ (ge : j ≤ i). let same : i ≡ j = omega arith in inl same) (cases_lt i j)

above_cut : (path p : List ℕ) → In p (above path) → Cut path p 1
above_cut path p among = in_cut (length path) path p 1 (omega arith) (subst (In p) (above_whole path) among)

cut_above : (path p : List ℕ) → Cut path p 1 → In p (above path)
cut_above path p cut = subst (In p) (sym (above_whole path)) (cut_in (length path) path p 1 (omega arith) cut)

-- what stands above a directory above a path stands above the path
above_above : (path q p : List ℕ) → In q (above path) → In p (above q) → In p (above path)
above_above path q p outer inner =
    let a = above_cut path q outer in
    let b = above_cut q p inner in
    let whole : a.at < length path = a.before in
    let long : length q ≡ a.at = ap length a.is ∙ length-take-le a.at path (omega arith) in
    let before : b.at < length q = b.before in
    let lt : b.at < a.at = omega arith in
    let le : b.at ≤ a.at = omega arith in
    cut_above path p (record {
      at = b.at;
      later = b.later;
      before = omega arith;
      slash = sym (get_or-take a.at path b.at 0 lt) ∙ ap (λ (l : List ℕ). get_or l b.at 0) (sym a.is) ∙ b.slash;
      is = b.is ∙ ap (take b.at) a.is ∙ take-take b.at a.at path le;
    })

-- a directory above a path isn't the path
above_other : (path p : List ℕ) → In p (above path) → eq_by_cmp text_cmp p path ≡ false
above_other path p among =
    elim (eq_by_cmp text_cmp p path) as (λ b. eq_by_cmp text_cmp p path ≡ b → b ≡ false) [
      | true ↦ λ same.
          let cut = above_cut path p among in
          let before : cut.at < length path = cut.before in
          let short : length p ≡ cut.at = ap length cut.is ∙ length-take-le cut.at path (omega arith) in
          let long : length p ≡ length path = ap length (tied p path same) in
          absurd (omega arith)
      | false ↦ λ _. refl
    ] refl

get-with_dir : (m : NodeMap) (d q : List ℕ) → map.get (with_dir d m) q ≡ cond (map.contains_key m d) (map.get m q) (cond (eq_by_cmp text_cmp q d) (Some new_directory) (map.get m q))
get-with_dir m d q = elim (map.contains_key m d) as (λ b. map.get (cond b m (map.insert m d new_directory)) q ≡ cond b (map.get m q) (cond (eq_by_cmp text_cmp q d) (Some new_directory) (map.get m q))) [
  | true ↦ refl
  | false ↦ map.get-insert nat_list_cmp_total m d new_directory q
]

-- a node stays where directories are made
stays_once : (m : NodeMap) (d q : List ℕ) → map.contains_key m q ≡ true → map.get (with_dir d m) q ≡ map.get m q
stays_once m d q here = get-with_dir m d q
    ∙ elim (map.contains_key m d) as (λ b. map.contains_key m d ≡ b → cond b (map.get m q) (cond (eq_by_cmp text_cmp q d) (Some new_directory) (map.get m q)) ≡ map.get m q) [
      | true ↦ λ _. refl
      | false ↦ λ lacks. elim (eq_by_cmp text_cmp q d) as (λ b. eq_by_cmp text_cmp q d ≡ b → cond b (Some new_directory) (map.get m q) ≡ map.get m q) [
        | true ↦ λ same. absurd (false≢true (sym lacks ∙ sym (ap (map.contains_key m) (tied q d same)) ∙ here))
        | false ↦ λ _. refl
      ] refl
    ] refl

stays : (ds : List (List ℕ)) (m : NodeMap) (q : List ℕ) → map.contains_key m q ≡ true → map.get (with_dirs ds m) q ≡ map.get m q
stays [] m q here = refl
stays (d ∷ ds) m q here = stays ds (with_dir d m) q (ap is_some (stays_once m d q here) ∙ here) ∙ stays_once m d q here

directory_there : (o : Option Node) → is_directory o ≡ true → is_some o ≡ true
directory_there (Some (node.File bytes perms)) is = refl
directory_there (Some (node.Dir perms)) is = refl
directory_there None is = absurd (false≢true is)

file_or_directory : (o : Option Node) → is_some o ≡ true → is_file o ≡ false → is_directory o ≡ true
file_or_directory (Some (node.File bytes perms)) here no_file = absurd (false≢true (sym no_file))
file_or_directory (Some (node.Dir perms)) here no_file = refl
file_or_directory None here no_file = absurd (false≢true here)

-- where directories are made no file comes to stand
no_file_once : (m : NodeMap) (d q : List ℕ) → is_file (map.get m q) ≡ false → is_file (map.get (with_dir d m) q) ≡ false
no_file_once m d q clear = ap is_file (get-with_dir m d q)
    ∙ elim (map.contains_key m d) as (λ b. is_file (cond b (map.get m q) (cond (eq_by_cmp text_cmp q d) (Some new_directory) (map.get m q))) ≡ false) [
      | true ↦ clear
      | false ↦ elim (eq_by_cmp text_cmp q d) as (λ b. is_file (cond b (Some new_directory) (map.get m q)) ≡ false) [ true ↦ refl | false ↦ clear ]
    ]

-- a directory is made where nothing stands
made_once : (m : NodeMap) (d : List ℕ) → is_file (map.get m d) ≡ false → is_directory (map.get (with_dir d m) d) ≡ true
made_once m d clear = ap is_directory (get-with_dir m d d)
    ∙ elim (map.contains_key m d) as (λ b. map.contains_key m d ≡ b → is_directory (cond b (map.get m d) (cond (eq_by_cmp text_cmp d d) (Some new_directory) (map.get m d))) ≡ true) [
      | true ↦ λ here. file_or_directory (map.get m d) here clear
      | false ↦ λ _. ap (λ b. is_directory (cond b (Some new_directory) (map.get m d))) (ties d)
    ] refl

made : (ds : List (List ℕ)) (m : NodeMap) (p : List ℕ) → In p ds → is_file (map.get m p) ≡ false → is_directory (map.get (with_dirs ds m) p) ≡ true
unfolding In
made [] m p among clear = absurd among
made (d ∷ ds) m p among clear =
    ⊎_elim
    (λ (same : p ≡ d).
    let here : is_directory (map.get (with_dir d m) p) ≡ true = subst (λ (q : List ℕ). is_directory (map.get (with_dir q m) p) ≡ true) same (made_once m p clear) in
    ap is_directory (stays ds (with_dir d m) p (directory_there (map.get (with_dir d m) p) here)) ∙ here)
    (λ (later : In p ds). made ds (with_dir d m) p later (no_file_once m d p clear))
    among

-- what stands where directories are made stood there, or is one of them
told_once : (m : NodeMap) (d q : List ℕ) → map.contains_key (with_dir d m) q ≡ true → (map.contains_key m q ≡ true) ⊎ (q ≡ d)
told_once m d q here =
    elim (map.contains_key m d) as (λ b. is_some (cond b (map.get m q) (cond (eq_by_cmp text_cmp q d) (Some new_directory) (map.get m q))) ≡ true → (map.contains_key m q ≡ true) ⊎ (q ≡ d)) [
      | true ↦ λ was. inl was
      | false ↦ λ was. elim (eq_by_cmp text_cmp q d) as (λ b. eq_by_cmp text_cmp q d ≡ b → is_some (cond b (Some new_directory) (map.get m q)) ≡ true → (map.contains_key m q ≡ true) ⊎ (q ≡ d)) [
        | true ↦ λ same _. inr (tied q d same)
        | false ↦ λ _ old. inl old
      ] refl was
    ] (sym (ap is_some (get-with_dir m d q)) ∙ here)

told : (ds : List (List ℕ)) (m : NodeMap) (q : List ℕ) → map.contains_key (with_dirs ds m) q ≡ true → (map.contains_key m q ≡ true) ⊎ In q ds
unfolding In
told [] m q here = inl here
told (d ∷ ds) m q here =
    ⊎_elim
    (λ (was : map.contains_key (with_dir d m) q ≡ true). ⊎_elim (λ (old : map.contains_key m q ≡ true). inl old) (λ (same : q ≡ d). inr (inl same)) (told_once m d q was))
    (λ (among : In q ds). inr (inr among))
    (told ds (with_dir d m) q here)

-- what a look says where a file may be put
stands_or_clear : (o : Option Node) (blocked below : Bool) → takes_file (shows o blocked below) ≡ true → (is_some o ≡ true) ⊎ (blocked ≡ false)
stands_or_clear (Some n) blocked below fit = inl refl
stands_or_clear None true below fit = absurd (false≢true fit)
stands_or_clear None false below fit = inr refl

directory_is_no_file : (o : Option Node) → is_directory o ≡ true → is_file o ≡ false
directory_is_no_file (Some (node.File bytes perms)) is = absurd (false≢true is)
directory_is_no_file (Some (node.Dir perms)) is = refl
directory_is_no_file None is = refl

-- a node is put where no directory stands and no file above, and the directories above are made
module _ (before : NodeMap) (path : List ℕ) (placed : Node) (clear_above : (p : List ℕ) → In p (above path) → is_file (map.get before p) ≡ false) (no_directory_here : is_directory (map.get before path) ≡ false) (parents : HasParents before) where
  abbrev made_dirs : NodeMap
  made_dirs = with_dirs (above path) before

  abbrev later : NodeMap
  later = map.insert made_dirs path placed

  -- a directory other than the path is one after the node is put
  kept : (p : List ℕ) → eq_by_cmp text_cmp p path ≡ false → is_directory (map.get made_dirs p) ≡ true → is_directory (map.get later p) ≡ true
  kept p other is = ap is_directory (map.get-insert nat_list_cmp_total made_dirs path placed p ∙ ap (λ b. cond b (Some placed) (map.get made_dirs p)) other) ∙ is

  above_stands : (p : List ℕ) → In p (above path) → is_directory (map.get later p) ≡ true
  above_stands p among = kept p (above_other path p among) (made (above path) before p among (clear_above p among))

  old_stands : (p : List ℕ) → is_directory (map.get before p) ≡ true → is_directory (map.get later p) ≡ true
  old_stands p is =
      kept p
      (elim (eq_by_cmp text_cmp p path) as (λ b. eq_by_cmp text_cmp p path ≡ b → b ≡ false) [
        | true ↦ λ same. absurd (false≢true (sym no_directory_here ∙ ap (λ (q : List ℕ). is_directory (map.get before q)) (sym (tied p path same)) ∙ is))
        | false ↦ λ _. refl
      ] refl)
      (ap is_directory (stays (above path) before p (directory_there (map.get before p) is)) ∙ is)

  -- what stands after the node is put
  of_made : (q : List ℕ) → (map.contains_key before q ≡ true) ⊎ In q (above path) → (p : List ℕ) → In p (above q) → is_directory (map.get later p) ≡ true
  of_made q from p among =
      ⊎_elim
      (λ (old : map.contains_key before q ≡ true). old_stands p (all_in (λ d. is_directory (map.get before d)) (above q) (parents.of_each q old) p among))
      (λ (outer : In q (above path)). above_stands p (above_above path q p outer among))
      from

  of_later : (q : List ℕ) → map.contains_key later q ≡ true → (p : List ℕ) → In p (above q) → is_directory (map.get later p) ≡ true
  of_later q here p among =
      elim (eq_by_cmp text_cmp q path) as (λ b. eq_by_cmp text_cmp q path ≡ b → is_some (cond b (Some placed) (map.get made_dirs q)) ≡ true → is_directory (map.get later p) ≡ true) [
        | true ↦ λ same _. above_stands p (subst (λ (r : List ℕ). In p (above r)) (tied q path same) among)
        | false ↦ λ _ was. of_made q (told (above path) before q was) p among
      ] refl (sym (ap is_some (map.get-insert nat_list_cmp_total made_dirs path placed q)) ∙ here)

  put_keeps : HasParents later
  put_keeps = record { of_each = λ q here. in_all (λ p. is_directory (map.get later p)) (above q) (of_later q here) }

-- a file is put where a look says that it may be
module _ (nodes : NodeMap) (path bytes : List ℕ) (fit : takes_file (look_at nodes path) ≡ true) (parents : HasParents nodes) where
  look_fits : takes_file (shows (map.get nodes path) (is_blocked nodes path) (has_below nodes path)) ≡ true
  unfolding look_at
  look_fits = fit

  no_file_above : (p : List ℕ) → In p (above path) → is_file (map.get nodes p) ≡ false
  unfolding is_blocked
  no_file_above p among =
      ⊎_elim
      (λ (here : is_some (map.get nodes path) ≡ true). directory_is_no_file (map.get nodes p) (all_in (λ d. is_directory (map.get nodes d)) (above path) (parents.of_each path here) p among))
      (λ (clear : is_blocked nodes path ≡ false). none_in (λ d. is_file (map.get nodes d)) (above path) clear p among)
      (stands_or_clear (map.get nodes path) (is_blocked nodes path) (has_below nodes path) look_fits)

  pub put_file_keeps : HasParents (put_file path bytes nodes)
  unfolding put_file
  put_file_keeps =
      put_keeps nodes path (file_with bytes (map.get nodes path)) no_file_above
      (no_directory (map.get nodes path) (is_blocked nodes path) (has_below nodes path) look_fits) parents

new_directory_fits : (o : Option Node) (blocked below : Bool) → takes_directory (shows o blocked below) ≡ true → (is_directory o ≡ false) × (blocked ≡ false)
new_directory_fits (Some (node.File bytes perms)) blocked below fit = absurd (false≢true fit)
new_directory_fits (Some (node.Dir perms)) blocked below fit = absurd (false≢true fit)
new_directory_fits None true below fit = absurd (false≢true fit)
new_directory_fits None false below fit = (refl, refl)

-- a directory is put where a look says that it may be
pub put_directory_keeps : (nodes : NodeMap) (path : List ℕ) → takes_directory (look_at nodes path) ≡ true → HasParents nodes → HasParents (put_directory path nodes)
unfolding put_directory look_at is_blocked
put_directory_keeps nodes path fit parents =
    let clear = new_directory_fits (map.get nodes path) (is_blocked nodes path) (has_below nodes path) fit in
    put_keeps nodes path new_directory (none_in (λ d. is_file (map.get nodes d)) (above path) clear.1) clear.0 parents

front_of : (q : List ℕ) (n : ℕ) → starts_with nat_eq q (take n q) ≡ true
front_of [] zero = refl
front_of [] (suc n) = refl
front_of (b ∷ bs) zero = refl
front_of (b ∷ bs) (suc n) = ap (λ c. c && starts_with nat_eq bs (take n bs)) (eq-eqb b b refl) ∙ front_of bs n

-- what stands above a path has it below
below_of_above : (q p : List ℕ) → In p (above q) → is_below p q ≡ true
unfolding is_below
below_of_above q p among =
    let cut = above_cut q p among in
    let whole : take (cut.at + 1) q ≡ p ++ 47 ∷ [] =
    take_more q cut.at 0 cut.before ∙ ap (λ (b : ℕ). take cut.at q ++ b ∷ []) cut.slash ∙ ap (λ (front : List ℕ). front ++ 47 ∷ []) (sym cut.is) in
    subst (λ (front : List ℕ). starts_with nat_eq q front ≡ true) whole (front_of q (cut.at + 1))

has_it_below : (nodes : NodeMap) (q p : List ℕ) → In p (above q) → map.contains_key nodes q ≡ true → has_below nodes p ≡ true
unfolding has_below
has_it_below nodes q p among here =
    any_passes (is_below p) q (map.keys nodes) (below_of_above q p among) (sym (map.contains_key-keys nodes q) ∙ here)

directory_is_removable : (o : Option Node) (blocked below : Bool) → is_directory o ≡ true → is_removable (shows o blocked below) ≡ true → below ≡ false
directory_is_removable (Some (node.File bytes perms)) blocked below is fit = absurd (false≢true is)
directory_is_removable (Some (node.Dir perms)) blocked true is fit = absurd (false≢true fit)
directory_is_removable (Some (node.Dir perms)) blocked false is fit = refl
directory_is_removable None blocked below is fit = absurd (false≢true is)

-- a file or an empty directory is taken away
module _ (nodes : NodeMap) (path : List ℕ) (fit : is_removable (look_at nodes path) ≡ true) (parents : HasParents nodes) where
  abbrev rest : NodeMap
  rest = map.remove nodes path

  removable : is_removable (shows (map.get nodes path) (is_blocked nodes path) (has_below nodes path)) ≡ true
  unfolding look_at
  removable = fit

  get_rest : (q : List ℕ) → map.get rest q ≡ cond (eq_by_cmp text_cmp q path) None (map.get nodes q)
  get_rest q = map.get-remove nat_list_cmp_total nodes path q

  was_there : (q : List ℕ) → map.contains_key rest q ≡ true → map.contains_key nodes q ≡ true
  was_there q here =
      elim (eq_by_cmp text_cmp q path) as (λ b. is_some (cond b None (map.get nodes q)) ≡ true → map.contains_key nodes q ≡ true) [
        | true ↦ λ none. absurd (false≢true none)
        | false ↦ λ was. was
      ] (sym (ap is_some (get_rest q)) ∙ here)

  still : (q p : List ℕ) → In p (above q) → map.contains_key nodes q ≡ true → is_directory (map.get nodes p) ≡ true → is_directory (map.get rest p) ≡ true
  still q p among here is =
      ap is_directory (get_rest p)
      ∙ elim (eq_by_cmp text_cmp p path) as (λ b. eq_by_cmp text_cmp p path ≡ b → is_directory (cond b None (map.get nodes p)) ≡ true) [
        | true ↦ λ same.
            let full : has_below nodes path ≡ true = subst (λ (r : List ℕ). has_below nodes r ≡ true) (tied p path same) (has_it_below nodes q p among here) in
            let dir : is_directory (map.get nodes path) ≡ true = subst (λ (r : List ℕ). is_directory (map.get nodes r) ≡ true) (tied p path same) is in
            absurd (false≢true (sym (directory_is_removable (map.get nodes path) (is_blocked nodes path) (has_below nodes path) dir removable) ∙ full))
        | false ↦ λ _. is
      ] refl

  pub remove_keeps : HasParents rest
  remove_keeps = record {
    of_each = λ q here. in_all (λ p. is_directory (map.get rest p)) (above q) (λ p among.
        still q p among (was_there q here) (all_in (λ d. is_directory (map.get nodes d)) (above q) (parents.of_each q (was_there q here)) p among));
  }

-- permissions are set of what stands
module _ (nodes : NodeMap) (path : List ℕ) (perms : Perms) (node : Node) (stands : map.get nodes path ≡ Some node) (parents : HasParents nodes) where
  abbrev changed : NodeMap
  changed = map.insert nodes path (with_perms perms node)

  get_changed : (q : List ℕ) → map.get changed q ≡ cond (eq_by_cmp text_cmp q path) (Some (with_perms perms node)) (map.get nodes q)
  get_changed q = map.get-insert nat_list_cmp_total nodes path (with_perms perms node) q

  at_path : (q : List ℕ) → eq_by_cmp text_cmp q path ≡ true → map.get nodes q ≡ Some node
  at_path q same = ap (map.get nodes) (tied q path same) ∙ stands

  stood : (q : List ℕ) → map.contains_key changed q ≡ true → map.contains_key nodes q ≡ true
  stood q here =
      elim (eq_by_cmp text_cmp q path) as (λ b. eq_by_cmp text_cmp q path ≡ b → is_some (cond b (Some (with_perms perms node)) (map.get nodes q)) ≡ true → map.contains_key nodes q ≡ true) [
        | true ↦ λ same _. ap is_some (at_path q same)
        | false ↦ λ _ was. was
      ] refl (sym (ap is_some (get_changed q)) ∙ here)

  kind_stands : (q : List ℕ) → is_directory (map.get changed q) ≡ is_directory (map.get nodes q)
  kind_stands q =
      ap is_directory (get_changed q)
      ∙ elim (eq_by_cmp text_cmp q path) as (λ b. eq_by_cmp text_cmp q path ≡ b → is_directory (cond b (Some (with_perms perms node)) (map.get nodes q)) ≡ is_directory (map.get nodes q)) [
        | true ↦ λ same. set_directory perms node ∙ sym (ap is_directory (at_path q same))
        | false ↦ λ _. refl
      ] refl

  changed_keeps : HasParents changed
  changed_keeps = record {
    of_each = λ q here. in_all (λ p. is_directory (map.get changed p)) (above q) (λ p among.
        kind_stands p ∙ all_in (λ d. is_directory (map.get nodes d)) (above q) (parents.of_each q (stood q here)) p among);
  }

pub set_perms_keeps : (nodes : NodeMap) (path : List ℕ) (perms : Perms) → HasParents nodes → HasParents (set_perms path perms nodes)
unfolding set_perms
set_perms_keeps nodes path perms parents =
    elim (map.get nodes path) as (λ o. map.get nodes path ≡ o → HasParents (set_perms_of o path perms nodes)) [
      | None ↦ λ _. parents
      | Some node ↦ λ stands. changed_keeps nodes path perms node stands parents
    ] refl

pub empty_keeps : HasParents map.empty
empty_keeps = record { of_each = λ path here. absurd (false≢true (sym (ap is_some (map.get-empty text_cmp path)) ∙ here)) }

-- where directories stand none is made
none_made : (ds : List (List ℕ)) (m : NodeMap) → ((d : List ℕ) → In d ds → is_directory (map.get m d) ≡ true) → with_dirs ds m ≡ m
unfolding In
none_made [] m stand = refl
none_made (d ∷ ds) m stand =
    let once : with_dir d m ≡ m = ap (λ b. cond b m (map.insert m d new_directory)) (directory_there (map.get m d) (stand d (inl refl))) in
    ap (with_dirs ds) once ∙ none_made ds m (λ p among. stand p (inr among))

no_directory_absent : (o : Option Node) → is_some o ≡ false → is_directory o ≡ false
no_directory_absent (Some n) lacks = absurd (false≢true (sym lacks))
no_directory_absent None lacks = refl

-- a node is added where none stands, in directories
pub add_keeps : (nodes : NodeMap) (path : List ℕ) (node : Node) → is_free nodes path ≡ true → HasParents nodes → HasParents (map.insert nodes path node)
add_keeps nodes path node free parents =
    let parts = and_parts (not (map.contains_key nodes path)) (is_in_directories nodes path) free in
    let stand = λ (p : List ℕ) (among : In p (above path)). all_in (λ d. is_directory (map.get nodes d)) (above path) parts.1 p among in
    subst (λ (m : NodeMap). HasParents (map.insert m path node)) (none_made (above path) nodes stand)
    (put_keeps nodes path node (λ p among. directory_is_no_file (map.get nodes p) (stand p among)) (no_directory_absent (map.get nodes path) (not-true (map.contains_key nodes path) parts.0)) parents)

-- what was put, or what was left, still has its parents
pub kept_if : {X E : Type 0} (r : Result X E) (before after put : NodeMap) → OnOk r (after ≡ put) → OnErr r (after ≡ before) → HasParents put → HasParents before → HasParents after
kept_if (Ok x) before after put done left kept parents = subst HasParents (sym done) kept
kept_if (Err e) before after put done left kept parents = subst HasParents (sym left) parents

pub change_keeps : (change : Change) (world : World) → fits change world ≡ true → HasParents world.nodes → HasParents (after_change change world).nodes
unfolding after_change
change_keeps (PutFile path bytes) world fit parents = put_file_keeps world.nodes path bytes fit parents
change_keeps (PutDir path) world fit parents = put_directory_keeps world.nodes path fit parents
change_keeps (Remove path) world fit parents = remove_keeps world.nodes path fit parents
change_keeps (SetPerms path perms) world fit parents = set_perms_keeps world.nodes path perms parents
change_keeps (PutService name row) world fit parents = parents
change_keeps (PutLock key moment) world fit parents = parents
change_keeps (Append bytes) world fit parents = parents

pub log_keeps : (log : List Entry) (world : World) → AllFit log world → HasParents world.nodes → HasParents (after log world).nodes
log_keeps [] world fit parents = parents
log_keeps (Did change ∷ log) world fit parents = log_keeps log (after_change change world) fit.1 (change_keeps change world fit.0 parents)
log_keeps (Refused call ∷ log) world fit parents = log_keeps log world fit parents
