-- The first of what is found along a list, one step on.
use Rattle.std.proofs.Common.{◌≡◌, ℕ, ◌+◌, ◌<◌, Bool, true, false, cond, List, [], ◌∷◌, ◌++◌, length, get_or, take, drop, map, Some, None, refl, sym, ap, ◌∙◌, arith}
use Rattle.std.specs.List.{flat_map, filter}
use Rattle.std.specs.Option.{option_or}
use Rattle.std.proofs.lemmas.List.{at_drop_more, at_drop_all, take_more}
use Rattle.cfa_acts.specs.declared.acts.Act.{Act}
use Rattle.cfa_resolve.specs.declared.instances.Instance.{Instance}
use Rattle.cfa_states.specs.declared.walks.Visit.{Visit}
use Rattle.cfa_states.specs.declared.walks.Walk.{Walk}
use Rattle.cfa_conflict.specs.Conflicts.{undone_by, undone_by_later, undone_in, undone_from, is_live, conflicts_at, conflicts_from}
use Rattle.cfa_conflict.specs.Targets.{first_of}

pub first_append : {X : Type 0} (xs ys : List X) → first_of (xs ++ ys) ≡ option_or (first_of xs) (first_of ys)
first_append [] ys = refl
first_append (x ∷ xs) ys = refl

pub behind_none : {X : Type 0} (xs ys : List X) → first_of xs ≡ None → first_of (xs ++ ys) ≡ first_of ys
behind_none xs ys none = first_append xs ys ∙ ap (λ o. option_or o (first_of ys)) none

pub found_before : {X : Type 0} (xs ys : List X) (x : X) → first_of xs ≡ Some x → first_of (xs ++ ys) ≡ Some x
found_before xs ys x some = first_append xs ys ∙ ap (λ o. option_or o (first_of ys)) some

-- ---- along a list, with a list for each of its elements

module _ {X Y : Type 0} (f : X → List Y) where
  pub none_here : (xs : List X) (i : ℕ) (d : X) → i < length xs → first_of (f (get_or xs i d)) ≡ None
      → first_of (flat_map f (drop i xs)) ≡ first_of (flat_map f (drop (i + 1) xs))
  none_here xs i d h none =
      at_drop_more (λ l. first_of (flat_map f l)) xs i d h ∙ behind_none (f (get_or xs i d)) (flat_map f (drop (i + 1) xs)) none

  pub found_here : (xs : List X) (i : ℕ) (d : X) (y : Y) → i < length xs → first_of (f (get_or xs i d)) ≡ Some y
      → first_of (flat_map f (drop i xs)) ≡ Some y
  found_here xs i d y h some =
      at_drop_more (λ l. first_of (flat_map f l)) xs i d h ∙ found_before (f (get_or xs i d)) (flat_map f (drop (i + 1) xs)) y some

  pub none_left : (xs : List X) → first_of (flat_map f (drop (length xs) xs)) ≡ None
  none_left xs = at_drop_all (λ l. first_of (flat_map f l)) xs (length xs) (omega arith)

-- ---- along a list, with those that pass a test

module _ {X Y : Type 0} (f : X → Y) (test : X → Bool) where
  first_kept : (x : X) (xs : List X) → first_of (map f (filter test (x ∷ xs))) ≡ cond (test x) (Some (f x)) (first_of (map f (filter test xs)))
  first_kept x xs =
      elim (test x) as (λ b. first_of (map f (cond b (x ∷ filter test xs) (filter test xs))) ≡ cond b (Some (f x)) (first_of (map f (filter test xs))))
      [ true ↦ refl | false ↦ refl ]

  pub kept_here : (xs : List X) (i : ℕ) (d : X) → i < length xs
      → first_of (map f (filter test (drop i xs))) ≡ cond (test (get_or xs i d)) (Some (f (get_or xs i d))) (first_of (map f (filter test (drop (i + 1) xs))))
  kept_here xs i d h =
      at_drop_more (λ l. first_of (map f (filter test l))) xs i d h ∙ first_kept (get_or xs i d) (drop (i + 1) xs)

-- ---- along the acts of an instance, each with those before it

pub later_here : (instance : Instance) (acts : List Act) (i : ℕ) (d : Act) → i < length acts
    → undone_by_later instance (take i acts) (drop i acts)
    ≡ undone_by instance instance (take i acts) (get_or acts i d) ++ undone_by_later instance (take (i + 1) acts) (drop (i + 1) acts)
later_here instance acts i d h =
    at_drop_more (undone_by_later instance (take i acts)) acts i d h
    ∙ ap (λ earlier. undone_by instance instance (take i acts) (get_or acts i d) ++ undone_by_later instance earlier (drop (i + 1) acts))
    (sym (take_more acts i d h))

-- ---- along instances

pub undone_here : (visits : List Visit) (instance : Instance) (place : ℕ) (others : List Instance) (i : ℕ) (d : Instance) → i < length others
    → undone_from visits instance place (drop i others) i
    ≡ undone_in visits instance place (get_or others i d) i ++ undone_from visits instance place (drop (i + 1) others) (i + 1)
undone_here visits instance place others i d h = at_drop_more (λ l. undone_from visits instance place l i) others i d h

pub conflicts_here : (kept walk : Walk) (instances : List Instance) (i : ℕ) (d : Instance) → i < length instances
    → conflicts_from kept walk (drop i instances) i
    ≡ cond (is_live kept (get_or instances i d)) (conflicts_at walk (get_or instances i d) i) [] ++ conflicts_from kept walk (drop (i + 1) instances) (i + 1)
conflicts_here kept walk instances i d h = at_drop_more (λ l. conflicts_from kept walk l i) instances i d h
