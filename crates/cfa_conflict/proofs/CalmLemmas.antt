-- Where no instance of those that are kept for the others disturbs an act, none does.
use Rattle.std.proofs.Common.{◌≡◌, ℕ, suc, ◌+◌, ◌<◌, inl, inr, List, [], ◌∷◌, ◌++◌, length, get_or, map, Bool, true, false, ◌||◌, cond, eqb, Option, Some, None, refl, sym, ap, subst, ◌∙◌, arith, eq-eqb}
use Rattle.std.proofs.lemmas.Bool.{false≢true, false_from_ne_true, eqb-true, and_parts, and_from, or_left, or_right, or_cases}
use Rattle.std.proofs.lemmas.List.{get_or_default}
use Rattle.std.proofs.lemmas.List.Folds.{Any-from_list_any}
use Rattle.std.proofs.lemmas.Option.{none-some, slice_get_within, slice_get-get_or}
use Rattle.std.specs.Cmp.Lexicographic.{pointwise}
use Rattle.std.specs.Prelude.{nat_eq, slice_get}
use Rattle.std.specs.List.{filter, flat_map, list_any}
use Rattle.std.specs.Str.{bytes_eq}
use Rattle.cfa_base.specs.Index.{Text}
use Rattle.cfa_acts.specs.declared.acts.Act.{Act}
use Rattle.cfa_acts.specs.Disturbs.{disturbs}
use Rattle.cfa_resolve.specs.declared.instances.Instance.{Instance}
use Rattle.cfa_states.specs.declared.walks.Visit.{Visit}
use Rattle.cfa_states.specs.Tellers.{acts_of}
use Rattle.cfa_conflict.specs.declared.verdicts.Conflict.{Conflict}
use Rattle.cfa_conflict.specs.Conflicts.{undone, undone_by, undone_by_other, undone_by_later, is_visited_after, undone_in, undone_from}
use Rattle.cfa_conflict.specs.Targets.{first_of, Row, target_of, rows_from, sought, acts_in, acts_at, is_row, is_like, IsAt, IsNeverUndone}
use Rattle.cfa_acts.specs.Same.{is_same}
use Rattle.cfa_conflict.proofs.QuietLemmas.{none_by_later, none_by_other}
use Rattle.cfa_conflict.proofs.SameLemmas.{acts_are}
use Rattle.cfa_conflict.proofs.SoughtLemmas.{passes, seeks, disturbs_sought}
use Rattle.cfa_conflict.proofs.TargetLemmas.{In, sought_place, row_of_instance, looked_at}

-- ---- what is empty holds nothing

front_none : {X : Type 0} (xs ys : List X) → first_of (xs ++ ys) ≡ None → first_of xs ≡ None
front_none [] ys none = refl
front_none (x ∷ xs) ys none = none

back_none : {X : Type 0} (xs ys : List X) → first_of (xs ++ ys) ≡ None → first_of ys ≡ None
back_none [] ys none = none
back_none (x ∷ xs) ys none = cc

none_in_flat : {X Y : Type 0} (f : X → List Y) (xs : List X) (x : X) → first_of (flat_map f xs) ≡ None → In x xs → first_of (f x) ≡ None
none_in_flat f [] x none among = absurd among
none_in_flat f (y ∷ ys) x none (inl same) = ap (λ z. first_of (f z)) (sym same) ∙ front_none (f y) (flat_map f ys) none
none_in_flat f (y ∷ ys) x none (inr among) = none_in_flat f ys x (back_none (f y) (flat_map f ys) none) among

some_kept : {X Y : Type 0} (f : X → Y) (test : X → Bool) (y : X) (ys : List X) → test y ≡ true → first_of (map f (filter test (y ∷ ys))) ≡ Some (f y)
some_kept f test y ys is = ap (λ b. first_of (map f (cond b (y ∷ filter test ys) (filter test ys)))) is

none_after : {X Y : Type 0} (f : X → Y) (test : X → Bool) (y : X) (ys : List X) → test y ≡ false → first_of (map f (filter test (y ∷ ys))) ≡ None
    → first_of (map f (filter test ys)) ≡ None
none_after f test y ys is none = sym (ap (λ b. first_of (map f (cond b (y ∷ filter test ys) (filter test ys)))) is) ∙ none

not_some : {X : Type 0} (o : Option X) (x : X) {P : Type 0} → o ≡ None → o ≡ Some x → P
not_some o x none some = absurd (none-some x (sym none ∙ some))

none_passes : {X Y : Type 0} (f : X → Y) (test : X → Bool) (xs : List X) (x : X) → first_of (map f (filter test xs)) ≡ None → In x xs → test x ≡ false
none_passes f test [] x none among = absurd among
none_passes f test (y ∷ ys) x none among =
    let here : test y ≡ false = false_from_ne_true (test y) (λ is. not_some (first_of (map f (filter test (y ∷ ys)))) (f y) none (some_kept f test y ys is)) in
    elim among [
      | inl same ↦ ap test (sym same) ∙ here
      | inr more ↦ none_passes f test ys x (none_after f test y ys here none) more
    ]

undisturbed : (one other : Instance) (b a : Act) → first_of (undone_by_other one other) ≡ None → In b (acts_of other.work) → In a (acts_of one.work) → disturbs b a ≡ false
undisturbed one other b a none later earlier =
    none_passes (undone one other) (disturbs b) (acts_of one.work) a
    (none_in_flat (undone_by one other (acts_of one.work)) (acts_of other.work) b none later) earlier

-- ---- the acts at a place

acts_here : (instances : List Instance) (k : ℕ) (d : Instance) → k < length instances → acts_at instances k ≡ acts_of (get_or instances k d).work
acts_here instances k d lt = ap acts_in (slice_get-get_or instances k d lt)

within_by : (instances : List Instance) (n : ℕ) (b : Act) (o : Option Instance) → slice_get instances n ≡ o → In b (acts_in o) → n < length instances
within_by instances n b None is among = absurd among
within_by instances n b (Some other) is among = slice_get_within instances n other is

-- the row that is like one
row_like : (instances : List Instance) (target : Text) (k : ℕ) (likes : List Row) → list_any (is_like instances target k) likes ≡ true
    → (n : ℕ) × ((acts_at instances n ≡ acts_at instances k) × (list_any (is_row target n) likes ≡ true))
row_like instances target k [] is = absurd (false≢true is)
row_like instances target k (row ∷ likes) is =
    elim (or_cases (is_like instances target k row) (list_any (is_like instances target k) likes) is) [
      | inl here ↦
          let parts = and_parts (bytes_eq target row.0) (nat_eq k row.1 || pointwise is_same (acts_at instances row.1) (acts_at instances k)) here in
          let same : acts_at instances row.1 ≡ acts_at instances k =
          elim (or_cases (nat_eq k row.1) (pointwise is_same (acts_at instances row.1) (acts_at instances k)) parts.1) [
            | inl at ↦ ap (acts_at instances) (sym (eqb-true k row.1 at))
            | inr alike ↦ acts_are (acts_at instances row.1) (acts_at instances k) alike
          ] in (
            row.1,
            (
              same,
              or_left (is_row target row.1 row) (list_any (is_row target row.1) likes)
                  (and_from (bytes_eq target row.0) (nat_eq row.1 row.1) parts.0 (eq-eqb row.1 row.1 refl)),
            ),
          )
      | inr there ↦
          let more = row_like instances target k likes there in
          (more.0, (more.1.0, or_right (is_row target more.0 row) (list_any (is_row target more.0) likes) more.1.1))
    ]

nothing : (visits : List Visit) (instance : Instance) (place : ℕ) (others : List Instance) (from : ℕ)
    → ((k here : ℕ) → k < length others → here ≡ from + k → undone_in visits instance place (get_or others k instance) here ≡ [])
    → undone_from visits instance place others from ≡ []
nothing visits instance place [] from none = refl
nothing visits instance place (other ∷ others) from none =
    ap (λ (l : List Conflict). l ++ undone_from visits instance place others (from + 1)) (none 0 from (omega arith) (omega arith))
    ∙ nothing visits instance place others (from + 1) (λ k here lt is. none (suc k) here (omega arith) (omega arith))

-- ---- the places that are looked at

-- up to a number of the places no act disturbs one
abbrev pub NoneDisturbs : List Instance → Instance → (places : List ℕ) → ℕ → Type 0
NoneDisturbs instances one places n = (j : ℕ) → j < n → (d : Instance) → get_or places j 0 < length instances
    → first_of (undone_by_other one (get_or instances (get_or places j 0) d)) ≡ None

module _ (instances : List Instance) (rows likes : List Row) (same : (test : Row → Bool) → list_any test rows ≡ list_any test (rows_from instances 0))
    (have : (target : Text) (place : ℕ) → list_any (is_row target place) rows ≡ true → list_any (is_like instances target place) likes ≡ true)
    (one : Instance) (places : List ℕ) (all : (k : ℕ) → list_any (nat_eq k) places ≡ list_any (nat_eq k) (flat_map (sought likes) (acts_of one.work)))
    (none : NoneDisturbs instances one places (length places)) where
  calm_by : (k : ℕ) (d : Instance) (b a : Act) (o : Option Text) → target_of b ≡ o → k < length instances → In b (acts_of (get_or instances k d).work) → In a (acts_of one.work)
      → passes (seeks a) o ≡ true → disturbs b a ≡ false
  calm_by k d b a None at lt later earlier is = absurd (false≢true is)
  calm_by k d b a (Some target) at lt later earlier is =
      let row = same (is_row target k) ∙ row_of_instance instances 0 k k d b target (omega arith) lt later at in
      let like = row_like instances target k likes (have target k row) in
      let n = like.0 in
      let seen = all n ∙ looked_at likes (acts_of one.work) a n earlier (sought_place likes a target n is like.1.1) in
      let found = Any-from_list_any (nat_eq n) places seen in
      let x : n ≡ found.1 = eqb-true n found.1 found.4 in
      let here : get_or places found.0 0 ≡ n = get_or_default places found.0 0 found.1 found.2 ∙ found.3 ∙ sym x in
      let its : In b (acts_at instances n) = subst (λ (l : List Act). In b l) (sym (acts_here instances k d lt) ∙ sym like.1.0) later in
      let low : n < length instances = within_by instances n b (slice_get instances n) refl its in
      let quiet : first_of (undone_by_other one (get_or instances n d)) ≡ None =
      subst (λ (m : ℕ). first_of (undone_by_other one (get_or instances m d)) ≡ None) here (none found.0 found.2 d (omega arith)) in
      undisturbed one (get_or instances n d) b a quiet (subst (λ (l : List Act). In b l) (acts_here instances n d low) its) earlier

  calm : (k : ℕ) (d : Instance) (b a : Act) → k < length instances → In b (acts_of (get_or instances k d).work) → In a (acts_of one.work) → disturbs b a ≡ false
  calm k d b a lt later earlier =
      false_from_ne_true (disturbs b a) (λ is. false≢true (sym (calm_by k d b a (target_of b) refl lt later earlier (disturbs_sought b a is)) ∙ is))

  calm_by_itself : (place : ℕ) → IsAt instances place one → place < length instances → undone_by_later one [] (acts_of one.work) ≡ []
  calm_by_itself place at lt =
      none_by_later one (acts_of one.work) [] (acts_of one.work)
      (λ b a later earlier. calm place one b a lt (subst (λ (i : Instance). In b (acts_of i.work)) (at one) later) earlier)
      (λ a nothing. absurd nothing) (λ b among. among)

  calm_at : (visits : List Visit) (place k : ℕ) (d : Instance) → IsAt instances place one → k < length instances → undone_in visits one place (get_or instances k d) k ≡ []
  calm_at visits place k d at lt =
      let other = undone_by_other one (get_or instances k d) in
      elim (eqb place k) as (λ b. eqb place k ≡ b → cond b (undone_by_later one [] (acts_of one.work)) (cond (is_visited_after visits place k) other []) ≡ []) [
        | true ↦ λ is. let same_place : place ≡ k = eqb-true place k is in calm_by_itself place at (omega arith)
        | false ↦ λ is. elim (is_visited_after visits place k) as (λ b. cond b other [] ≡ []) [
          | true ↦ none_by_other one (get_or instances k d) (λ b a later earlier. calm k d b a lt later earlier)
          | false ↦ refl
        ]
      ] refl

  pub never_undone : IsNeverUndone one instances
  never_undone visits place at = nothing visits one place instances 0 (λ k here lt is.
      let same_place : k ≡ here = omega arith in
      subst (λ (m : ℕ). undone_in visits one place (get_or instances k one) m ≡ []) same_place (calm_at visits place k one at lt))
