-- Where no act disturbs another nothing is undone; so the places that are looked at tell the first conflict.
use Rattle.std.proofs.Common.{◌≡◌, ℕ, zero, suc, ◌+◌, ◌<◌, ◌≤◌, ◌⊎◌, inl, inr, ⊎_elim, List, [], ◌∷◌, ◌++◌, length, get_or, map, Bool, true, false, cond, eqb, Some, None, refl, sym, ap, subst, ◌∙◌, arith}
use Rattle.std.proofs.lemmas.Bool.{eqb-true, cases_Bool, cases_lt}
use Rattle.std.proofs.lemmas.List.{get_or_default}
use Rattle.std.proofs.lemmas.List.Folds.{Any-from_list_any}
use Rattle.std.specs.Prelude.{nat_eq}
use Rattle.std.specs.List.{filter, flat_map, list_any}
use Rattle.std.specs.List.Sorted.{IsNonDecreasing}
use Rattle.cfa_acts.specs.declared.acts.Act.{Act}
use Rattle.cfa_acts.specs.Disturbs.{disturbs}
use Rattle.cfa_resolve.specs.declared.instances.Instance.{Instance}
use Rattle.cfa_states.specs.declared.walks.Visit.{Visit}
use Rattle.cfa_states.specs.Tellers.{acts_of}
use Rattle.cfa_conflict.specs.declared.verdicts.Conflict.{Conflict}
use Rattle.cfa_conflict.specs.Conflicts.{undone, undone_by, undone_by_other, undone_by_later, is_visited_after, undone_in, undone_from}
use Rattle.cfa_conflict.specs.Targets.{first_of, Row, rows_from, sought}
use Rattle.cfa_conflict.proofs.FirstLemmas.{behind_none, found_before}
use Rattle.cfa_conflict.proofs.TargetLemmas.{In, quiet_elsewhere}

-- ---- nothing is undone

none_kept : {X : Type 0} (test : X → Bool) (xs : List X) → ((x : X) → In x xs → test x ≡ false) → filter test xs ≡ []
none_kept test [] none = refl
none_kept test (x ∷ xs) none =
    ap (λ b. cond b (x ∷ filter test xs) (filter test xs)) (none x (inl refl)) ∙ none_kept test xs (λ y among. none y (inr among))

none_found : {X Y : Type 0} (f : X → List Y) (xs : List X) → ((x : X) → In x xs → f x ≡ []) → flat_map f xs ≡ []
none_found f [] none = refl
none_found f (x ∷ xs) none = ap (λ l. l ++ flat_map f xs) (none x (inl refl)) ∙ none_found f xs (λ y among. none y (inr among))

none_undone : (instance other : Instance) (acts : List Act) (later : Act) → ((a : Act) → In a acts → disturbs later a ≡ false) → undone_by instance other acts later ≡ []
none_undone instance other acts later quiet = ap (map (undone instance other)) (none_kept (disturbs later) acts quiet)

in_push : {X : Type 0} (xs : List X) (y x : X) → In x (xs ++ y ∷ []) → In x xs ⊎ (y ≡ x)
in_push [] y x (inl same) = inr same
in_push [] y x (inr none) = absurd none
in_push (z ∷ zs) y x (inl same) = inl (inl same)
in_push (z ∷ zs) y x (inr among) = ⊎_elim (λ h. inl (inr h)) (λ h. inr h) (in_push zs y x among)

pub none_by_later : (instance : Instance) (acts earlier later : List Act) → ((b a : Act) → In b acts → In a acts → disturbs b a ≡ false)
    → ((a : Act) → In a earlier → In a acts) → ((b : Act) → In b later → In b acts) → undone_by_later instance earlier later ≡ []
none_by_later instance acts earlier [] quiet before behind = refl
none_by_later instance acts earlier (act ∷ later) quiet before behind =
    let here : In act acts = behind act (inl refl) in
    let none = none_undone instance instance earlier act (λ a among. quiet act a here (before a among)) in
    let grown : (a : Act) → In a (earlier ++ act ∷ []) → In a acts =
    λ a among. ⊎_elim (λ h. before a h) (λ same. subst (λ (x : Act). In x acts) same here) (in_push earlier act a among) in
    ap (λ l. l ++ undone_by_later instance (earlier ++ act ∷ []) later) none
    ∙ none_by_later instance acts (earlier ++ act ∷ []) later quiet grown (λ b among. behind b (inr among))

pub none_by_other : (instance other : Instance) → ((b a : Act) → In b (acts_of other.work) → In a (acts_of instance.work) → disturbs b a ≡ false)
    → undone_by_other instance other ≡ []
none_by_other instance other quiet =
    none_found (undone_by instance other (acts_of instance.work)) (acts_of other.work)
    (λ b later. none_undone instance other (acts_of instance.work) b (λ a earlier. quiet b a later earlier))

-- ---- the first of what is undone

module _ (visits : List Visit) (instance : Instance) (place : ℕ) where
  pub nothing_from : (others : List Instance) (from : ℕ) (d : Instance)
      → ((k at : ℕ) → k < length others → at ≡ from + k → first_of (undone_in visits instance place (get_or others k d) at) ≡ None)
      → first_of (undone_from visits instance place others from) ≡ None
  nothing_from [] from d none = refl
  nothing_from (other ∷ others) from d none =
      behind_none (undone_in visits instance place other from) (undone_from visits instance place others (from + 1)) (none 0 from (omega arith) (omega arith))
      ∙ nothing_from others (from + 1) d (λ k at lt is. none (suc k) at (omega arith) (omega arith))

  pub first_found : (others : List Instance) (from n at : ℕ) (d : Instance) (c : Conflict) → n < length others → at ≡ from + n
      → ((k here : ℕ) → k < n → here ≡ from + k → first_of (undone_in visits instance place (get_or others k d) here) ≡ None)
      → first_of (undone_in visits instance place (get_or others n d) at) ≡ Some c
      → first_of (undone_from visits instance place others from) ≡ Some c
  first_found [] from n at d c lt is none some = absurd (omega arith)
  first_found (other ∷ others) from zero at d c lt is none some =
      let here : at ≡ from = omega arith in
      found_before (undone_in visits instance place other from) (undone_from visits instance place others (from + 1)) c
      (ap (λ n. first_of (undone_in visits instance place other n)) (sym here) ∙ some)
  first_found (other ∷ others) from (suc n) at d c lt is none some =
      behind_none (undone_in visits instance place other from) (undone_from visits instance place others (from + 1)) (none 0 from (omega arith) (omega arith))
      ∙ first_found others (from + 1) n at d c (omega arith) (omega arith) (λ k here low on. none (suc k) here (omega arith) (omega arith)) some

-- ---- the places that are looked at

zero_add : (at k : ℕ) → at ≡ 0 + k → k ≡ at
zero_add at k is = omega arith

-- what is below a number of a list that does not fall stands before it
before : (places : List ℕ) → IsNonDecreasing places → (i j k : ℕ) → i < length places → j < length places → k < get_or places i 0 → get_or places j 0 ≡ k → j < i
before places up i j k within below low at =
    elim (cases_lt j i) [
      | inl less ↦ less
      | inr more ↦ let rises : get_or places i 0 ≤ get_or places j 0 = up i j 0 more below in absurd (omega arith)
    ]

module _ (visits : List Visit) (instances : List Instance) (rows : List Row) (same : (test : Row → Bool) → list_any test rows ≡ list_any test (rows_from instances 0))
    (instance : Instance) (place : ℕ) (at_place : (d : Instance) → instance ≡ get_or instances place d) where
  quiet_by_itself : (d : Instance) → place < length instances → list_any (nat_eq place) (flat_map (sought rows) (acts_of instance.work)) ≡ false
      → undone_by_later instance [] (acts_of instance.work) ≡ []
  quiet_by_itself d lt apart =
      let acts = acts_of instance.work in
      none_by_later instance acts [] acts
      (λ b a later earlier. quiet_elsewhere instances rows same acts place d b a lt apart (subst (λ (i : Instance). In b (acts_of i.work)) (at_place d) later) earlier)
      (λ a none. absurd none) (λ b among. among)

  quiet_by_other : (k : ℕ) (d : Instance) → k < length instances → list_any (nat_eq k) (flat_map (sought rows) (acts_of instance.work)) ≡ false
      → undone_by_other instance (get_or instances k d) ≡ []
  quiet_by_other k d lt apart =
      none_by_other instance (get_or instances k d)
      (λ b a later earlier. quiet_elsewhere instances rows same (acts_of instance.work) k d b a lt apart later earlier)

  quiet_at : (k : ℕ) (d : Instance) → k < length instances → list_any (nat_eq k) (flat_map (sought rows) (acts_of instance.work)) ≡ false
      → undone_in visits instance place (get_or instances k d) k ≡ []
  quiet_at k d lt apart =
      let acts = acts_of instance.work in
      let other = undone_by_other instance (get_or instances k d) in
      elim (eqb place k) as (λ b. eqb place k ≡ b → cond b (undone_by_later instance [] acts) (cond (is_visited_after visits place k) other []) ≡ []) [
        | true ↦ λ is.
            let same_place : place ≡ k = eqb-true place k is in
            quiet_by_itself d (omega arith) (ap (λ n. list_any (nat_eq n) (flat_map (sought rows) acts)) same_place ∙ apart)
        | false ↦ λ is. elim (is_visited_after visits place k) as (λ b. cond b other [] ≡ []) [ true ↦ quiet_by_other k d lt apart | false ↦ refl ]
      ] refl

-- up to a number of the places nothing is found
abbrev pub NoneBelow : List Visit → List Instance → Instance → (place : ℕ) → (places : List ℕ) → ℕ → Type 0
NoneBelow visits instances instance place places n = (j : ℕ) → j < n → (d : Instance) → get_or places j 0 < length instances
    → first_of (undone_in visits instance place (get_or instances (get_or places j 0) d) (get_or places j 0)) ≡ None

pub none_more : (visits : List Visit) (instances : List Instance) (instance : Instance) (place : ℕ) (places : List ℕ) (n : ℕ) → NoneBelow visits instances instance place places n
    → ((d : Instance) → get_or places n 0 < length instances → first_of (undone_in visits instance place (get_or instances (get_or places n 0) d) (get_or places n 0)) ≡ None)
    → NoneBelow visits instances instance place places (n + 1)
none_more visits instances instance place places n below at = λ j lt.
    elim (cases_lt j n) [
      | inl less ↦ below j less
      | inr more ↦
          let same : n ≡ j = omega arith in
          subst (λ (m : ℕ). (d : Instance) → get_or places m 0 < length instances → first_of (undone_in visits instance place (get_or instances (get_or places m 0) d) (get_or places m 0)) ≡ None) same at
    ]

module _ (visits : List Visit) (instances : List Instance) (rows : List Row) (same : (test : Row → Bool) → list_any test rows ≡ list_any test (rows_from instances 0))
    (instance : Instance) (place : ℕ) (at_place : (d : Instance) → instance ≡ get_or instances place d)
    (places : List ℕ) (all : (k : ℕ) → list_any (nat_eq k) places ≡ list_any (nat_eq k) (flat_map (sought rows) (acts_of instance.work))) where
  none_at : (n k : ℕ) (d : Instance) → k < length instances → NoneBelow visits instances instance place places n
      → ((j : ℕ) → j < length places → get_or places j 0 ≡ k → j < n)
      → first_of (undone_in visits instance place (get_or instances k d) k) ≡ None
  none_at n k d lt none looked =
      elim (cases_Bool (list_any (nat_eq k) places)) [
        | inl is ↦
            let found = Any-from_list_any (nat_eq k) places is in
            let x : k ≡ found.1 = eqb-true k found.1 found.4 in
            let here : get_or places found.0 0 ≡ k = get_or_default places found.0 0 found.1 found.2 ∙ found.3 ∙ sym x in
            subst (λ (m : ℕ). first_of (undone_in visits instance place (get_or instances m d) m) ≡ None) here
            (none found.0 (looked found.0 found.2 here) d (omega arith))
        | inr apart ↦ ap first_of (quiet_at visits instances rows same instance place at_place k d lt (sym (all k) ∙ apart))
      ]

  pub none_in_all : (d : Instance) → NoneBelow visits instances instance place places (length places) → first_of (undone_from visits instance place instances 0) ≡ None
  none_in_all d none =
      nothing_from visits instance place instances 0 d
      (λ k at lt is. subst (λ (m : ℕ). first_of (undone_in visits instance place (get_or instances k d) m) ≡ None) (zero_add at k is)
      (none_at (length places) k d lt none (λ j low here. low)))

  pub first_in_all : IsNonDecreasing places → (i : ℕ) (d : Instance) (c : Conflict) → i < length places → get_or places i 0 < length instances
      → NoneBelow visits instances instance place places i
      → first_of (undone_in visits instance place (get_or instances (get_or places i 0) d) (get_or places i 0)) ≡ Some c
      → first_of (undone_from visits instance place instances 0) ≡ Some c
  first_in_all up i d c within lt none some =
      first_found visits instance place instances 0 (get_or places i 0) (get_or places i 0) d c lt (omega arith)
      (λ k here low is. subst (λ (m : ℕ). first_of (undone_in visits instance place (get_or instances k d) m) ≡ None) (zero_add here k is)
      (none_at i k d (omega arith) none (λ j below at. before places up i j k within below low at)))
      some
