-- The places that an act looks at are those of all acts that disturb it.
use Rattle.std.proofs.Common.{◌≡◌, ℕ, zero, suc, ◌+◌, ◌<◌, ◌⊎◌, inl, inr, List, [], ◌∷◌, ◌++◌, length, get_or, drop, map, Bool, true, false, ◌&&◌, cond, eqb, Option, Some, None, refl, sym, ap, subst, ◌∙◌, arith}
use Rattle.std.proofs.lemmas.Bool.{false≢true, and_parts, and_from, or_left, or_right, or_cases, false_from_ne_true, eq-eqb, eqb-true}
use Rattle.std.proofs.lemmas.Slice.Eq.{bytes_eq-Decides}
use Rattle.std.specs.Prelude.{nat_eq}
use Rattle.std.specs.List.{filter, flat_map, list_any, starts_with}
use Rattle.std.specs.Str.{bytes_eq}
use Rattle.cfa_base.specs.Index.{Text}
use Rattle.cfa_outside.specs.Worlds.{is_below}
use Rattle.cfa_acts.specs.declared.acts.Act.{Act}
use Rattle.cfa_acts.specs.declared.acts.Act.TheVariants.{Create, MakeDir, Delete, Content, Copy, Edit, Perms, Start, Stop, Enable, Disable, Restart, Bust}
use Rattle.cfa_acts.specs.Disturbs.{is_at_or_beneath, disturbs}
use Rattle.cfa_resolve.specs.declared.instances.Instance.{Instance}
use Rattle.cfa_states.specs.Tellers.{acts_of}
use Rattle.cfa_conflict.specs.Targets.{Row, goes_on, is_sought, places_of, target_of, placed, rows_of, rows_from, is_row, sought}
use Rattle.cfa_conflict.specs.lemmas.Anywhere.{in_left, in_right}
use Rattle.cfa_conflict.proofs.SoughtLemmas.{passes, seeks, disturbs_sought}

-- ---- which targets are sought

sought_itself : (key : Text) (beneath : Bool) → is_sought key beneath key ≡ true
sought_itself [] beneath = refl
sought_itself (x ∷ key) beneath =
    ap (λ b. (b && starts_with nat_eq key key) && goes_on beneath (drop (length key) key)) (eq-eqb x x refl) ∙ sought_itself key beneath

sought_at : (key target : Text) (beneath : Bool) → bytes_eq key target ≡ true → is_sought key beneath target ≡ true
sought_at key target beneath is = subst (λ (t : Text). is_sought key beneath t ≡ true) ((bytes_eq-Decides key target).0 is) (sought_itself key beneath)

front_and_slash : (key target : Text) → starts_with nat_eq target (key ++ 47 ∷ []) ≡ true → is_sought key true target ≡ true
front_and_slash [] [] is = absurd (false≢true is)
front_and_slash [] (y ∷ target) is =
    let same : 47 ≡ y = eqb-true 47 y (and_parts (eqb 47 y) _ is).0 in
    eq-eqb y 47 (sym same)
front_and_slash (x ∷ key) [] is = absurd (false≢true is)
front_and_slash (x ∷ key) (y ∷ target) is =
    let parts = and_parts (eqb x y) (starts_with nat_eq target (key ++ 47 ∷ [])) is in
    ap (λ b. (b && starts_with nat_eq target key) && goes_on true (drop (length key) target)) parts.0 ∙ front_and_slash key target parts.1

sought_below : (key target : Text) → is_below key target ≡ true → is_sought key true target ≡ true
unfolding is_below
sought_below key target is = front_and_slash key target is

sought_beneath : (key target : Text) → is_at_or_beneath key target ≡ true → is_sought key true target ≡ true
sought_beneath key target is =
    elim (or_cases (bytes_eq key target) (is_below key target) is) [
      | inl at ↦ sought_at key target true at
      | inr below ↦ sought_below key target below
    ]

-- ---- the rows of a target

found_place : (test : Text → Bool) (rows : List Row) (target : Text) (place : ℕ) → test target ≡ true → list_any (is_row target place) rows ≡ true
    → list_any (nat_eq place) (map (λ (row : Row). row.1) (filter (λ (row : Row). test row.0) rows)) ≡ true
found_place test [] target place passes is = is
found_place test (row ∷ rows) target place passes is =
    let kept = filter (λ (row : Row). test row.0) rows in
    elim (or_cases (is_row target place row) (list_any (is_row target place) rows) is) [
      | inl here ↦
          let parts = and_parts (bytes_eq target row.0) (nat_eq place row.1) here in
          let passed : test row.0 ≡ true = ap test (sym ((bytes_eq-Decides target row.0).0 parts.0)) ∙ passes in
          ap (λ b. list_any (nat_eq place) (map (λ (row : Row). row.1) (cond b (row ∷ kept) kept))) passed
          ∙ or_left (nat_eq place row.1) (list_any (nat_eq place) (map (λ (row : Row). row.1) kept)) parts.1
      | inr there ↦
          let more = found_place test rows target place passes there in
          elim (test row.0) as (λ b. list_any (nat_eq place) (map (λ (row : Row). row.1) (cond b (row ∷ kept) kept)) ≡ true)
          [ true ↦ or_right (nat_eq place row.1) (list_any (nat_eq place) (map (λ (row : Row). row.1) kept)) more | false ↦ more ]
    ]

-- an act looks at the places of each target that it seeks
pub sought_place : (rows : List Row) (act : Act) (target : Text) (place : ℕ) → seeks act target ≡ true → list_any (is_row target place) rows ≡ true
    → list_any (nat_eq place) (sought rows act) ≡ true
sought_place rows (Create path) target place is among = found_place (is_sought path false) rows target place (sought_at path target false is) among
sought_place rows (MakeDir path) target place is among = found_place (is_sought path false) rows target place (sought_at path target false is) among
sought_place rows (Delete path _) target place is among = found_place (is_sought path true) rows target place (sought_beneath path target is) among
sought_place rows (Content path _) target place is among = found_place (is_sought path false) rows target place (sought_at path target false is) among
sought_place rows (Copy source path) target place is among =
    elim (or_cases (bytes_eq source target) (bytes_eq path target) is) [
      | inl at ↦ in_left (nat_eq place) (places_of rows source false) (places_of rows path false)
          (found_place (is_sought source false) rows target place (sought_at source target false at) among)
      | inr at ↦ in_right (nat_eq place) (places_of rows source false) (places_of rows path false)
          (found_place (is_sought path false) rows target place (sought_at path target false at) among)
    ]
sought_place rows (Edit path _) target place is among = found_place (is_sought path false) rows target place (sought_at path target false is) among
sought_place rows (Perms path _ _ _) target place is among = found_place (is_sought path false) rows target place (sought_at path target false is) among
sought_place rows (Start name) target place is among = found_place (is_sought name false) rows target place (sought_at name target false is) among
sought_place rows (Stop name) target place is among = found_place (is_sought name false) rows target place (sought_at name target false is) among
sought_place rows (Enable name) target place is among = found_place (is_sought name false) rows target place (sought_at name target false is) among
sought_place rows (Disable name) target place is among = found_place (is_sought name false) rows target place (sought_at name target false is) among
sought_place rows (Restart _) target place is among = absurd (false≢true is)
sought_place rows (Bust _) target place is among = absurd (false≢true is)

-- ---- acts in lists

abbrev pub In : {X : Type 0} → X → List X → Type 0
In x [] = ⊥
In x (y ∷ ys) = (y ≡ x) ⊎ In x ys

row_of_act : (place : ℕ) (acts : List Act) (act : Act) (target : Text) → In act acts → target_of act ≡ Some target → list_any (is_row target place) (rows_of place acts) ≡ true
row_of_act place [] act target among is = absurd among
row_of_act place (y ∷ ys) act target among is =
    elim among [
      | inl same ↦
          let here : target_of y ≡ Some target = ap target_of same ∙ is in
          let row = and_from (bytes_eq target target) (nat_eq place place) ((bytes_eq-Decides target target).1 refl) (eq-eqb place place refl) in
          in_left (is_row target place) (placed place (target_of y)) (rows_of place ys)
          (ap (λ o. list_any (is_row target place) (placed place o)) here ∙ or_left (is_row target place (target, place)) false row)
      | inr more ↦ in_right (is_row target place) (placed place (target_of y)) (rows_of place ys) (row_of_act place ys act target more is)
    ]

pub row_of_instance : (instances : List Instance) (from k place : ℕ) (d : Instance) (act : Act) (target : Text) → place ≡ from + k → k < length instances
    → In act (acts_of (get_or instances k d).work) → target_of act ≡ Some target → list_any (is_row target place) (rows_from instances from) ≡ true
row_of_instance [] from k place d act target at lt among is = absurd (omega arith)
row_of_instance (instance ∷ instances) from zero place d act target at lt among is =
    let here : from ≡ place = omega arith in
    in_left (is_row target place) (rows_of from (acts_of instance.work)) (rows_from instances (from + 1)) (subst (λ (n : ℕ). list_any (is_row target place) (rows_of n (acts_of instance.work)) ≡ true) (sym here) (row_of_act place (acts_of instance.work) act target among is))
row_of_instance (instance ∷ instances) from (suc k) place d act target at lt among is =
    in_right (is_row target place) (rows_of from (acts_of instance.work)) (rows_from instances (from + 1)) (row_of_instance instances (from + 1) k place d act target (omega arith) (omega arith) among is)

pub looked_at : (rows : List Row) (acts : List Act) (act : Act) (place : ℕ) → In act acts → list_any (nat_eq place) (sought rows act) ≡ true
    → list_any (nat_eq place) (flat_map (sought rows) acts) ≡ true
looked_at rows [] act place among is = absurd among
looked_at rows (y ∷ ys) act place among is =
    elim among [
      | inl same ↦ in_left (nat_eq place) (sought rows y) (flat_map (sought rows) ys) (ap (λ a. list_any (nat_eq place) (sought rows a)) same ∙ is)
      | inr more ↦ in_right (nat_eq place) (sought rows y) (flat_map (sought rows) ys) (looked_at rows ys act place more is)
    ]

-- ---- no act elsewhere disturbs

module _ (instances : List Instance) (rows : List Row) (same : (test : Row → Bool) → list_any test rows ≡ list_any test (rows_from instances 0)) where
  seen_by : (acts : List Act) (k : ℕ) (d : Instance) (b a : Act) (o : Option Text) → target_of b ≡ o → k < length instances
      → In b (acts_of (get_or instances k d).work) → In a acts → passes (seeks a) o ≡ true → list_any (nat_eq k) (flat_map (sought rows) acts) ≡ true
  seen_by acts k d b a None at lt later earlier is = absurd (false≢true is)
  seen_by acts k d b a (Some target) at lt later earlier is =
      looked_at rows acts a k earlier (sought_place rows a target k is
      (same (is_row target k) ∙ row_of_instance instances 0 k k d b target (omega arith) lt later at))

  pub quiet_elsewhere : (acts : List Act) (k : ℕ) (d : Instance) (b a : Act) → k < length instances → list_any (nat_eq k) (flat_map (sought rows) acts) ≡ false
      → In b (acts_of (get_or instances k d).work) → In a acts → disturbs b a ≡ false
  quiet_elsewhere acts k d b a lt apart later earlier =
      false_from_ne_true (disturbs b a) (λ is. false≢true (sym apart ∙ seen_by acts k d b a (target_of b) refl lt later earlier (disturbs_sought b a is)))
