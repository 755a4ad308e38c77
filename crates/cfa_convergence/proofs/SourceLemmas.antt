-- Each class that may be set or not has a source: the promise that first raised it by its outcome.
use Rattle.std.proofs.Common.{◌≡◌, ℕ, Bool, true, false, List, [], ◌∷◌, Option, Some, None, refl, sym, ap, subst, ◌∙◌, inl, inr, cond}
use Rattle.std.specs.Prelude.{◌&&◌, option_and_then, option_map}
use Rattle.std.specs.List.{AllByRecursion as Each}
use Rattle.std.specs.Option.{option_or}
use Rattle.std.specs.Str.{bytes_eq}
use Rattle.cfa_base.specs.declared.places.PromiseId.{PromiseId}
use Rattle.cfa_tree.specs.Tree.{ExprTree}
use Rattle.cfa_statuses.specs.declared.levels.Status.{Status}
use Rattle.cfa_statuses.specs.declared.levels.Status.TheVariants.{No, Maybe, Yes}
use Rattle.cfa_statuses.specs.Status.{lesser, greater}
use Rattle.cfa_vars.specs.declared.scoping.Datum.{Datum}
use Rattle.cfa_defines.specs.FirstMaybe.{first_maybe_of_guard}
use Rattle.cfa_defines.specs.ClassPromises.{Raise}
use Rattle.cfa_base.specs.Index.{is_listed}
use Rattle.cfa_states.specs.History.{History, Where, everywhere, within, Begun, Raised, globally, locally, global_source, local_source, source_in}
use Rattle.cfa_states.specs.Passes.{handed, raise_event, raise_all}
use Rattle.cfa_states.specs.Views.{Setting, from_start, global_status, status_in, guard_status, source_of}
use Rattle.cfa_states.specs.Waits.{wait_on, wait_of_guard}
use Rattle.cfa_laws.specs.Sources.{IsFirst, RaiseHasFirst}
use Rattle.cfa_laws.specs.lemmas.MaybeClasses.{lesser_maybe, greater_maybe, maybe_first}

-- there is one
abbrev pub IsGiven : {X : Type 0} → Option X → Type 0
IsGiven None = ⊥
IsGiven (Some x) = Unit {0}

given_left : {X : Type 0} (a b : Option X) → IsGiven a → IsGiven (option_or a b)
given_left None b is = absurd is
given_left (Some x) b is = tt

given_right : {X : Type 0} (a b : Option X) → IsGiven b → IsGiven (option_or a b)
given_right None b is = is
given_right (Some x) b is = tt

pub mapped_given : {X Y : Type 0} (f : X → Y) (o : Option X) → IsGiven o → IsGiven (option_map f o)
mapped_given f None is = absurd is
mapped_given f (Some x) is = tt

pub waits_given : (c : List ℕ) (source : Option PromiseId) → IsGiven source → IsGiven (wait_on c source)
waits_given c None is = absurd is
waits_given c (Some source) is = tt

pub record AreSourced (h : History) : Type 0 where
  pub globals : (c : List ℕ) → globally h c ≡ Maybe → IsGiven (global_source h c)
  pub locals : (p c : List ℕ) → locally h p c ≡ Maybe → IsGiven (local_source h p c)

pub none_sourced : AreSourced []
none_sourced = record { globals = λ c e. absurd (cc); locals = λ p c e. absurd (cc) }

raise_if : (b : Bool) (status old : Status) (source older : Option PromiseId) → (status ≡ Maybe → IsGiven source) → (old ≡ Maybe → IsGiven older) →
    ◌≡◌ {A = Status} (elim b [ true ↦ greater status old | false ↦ old ]) Maybe → IsGiven (elim b [ true ↦ option_or older source | false ↦ older ])
raise_if true status old source older p q e = elim (greater_maybe status old e) [ inl m ↦ given_right older source (p m) | inr m ↦ given_left older source (q m) ]
raise_if false status old source older p q e = q e

pub raise_sourced : (place : Where) (cls : List ℕ) (status : Status) (source : Option PromiseId) (h : History) → (status ≡ Maybe → IsGiven source) → AreSourced h → AreSourced (Raised place cls status source ∷ h)
raise_sourced everywhere cls status source h given are = record {
  globals = λ c e. raise_if (bytes_eq cls c) status (globally h c) source (global_source h c) given (are.globals c) e;
  locals = are.locals;
}
raise_sourced (within q) cls status source h given are = record {
  globals = are.globals;
  locals = λ p c e. raise_if (bytes_eq q p && bytes_eq cls c) status (locally h p c) source (local_source h p c) given (are.locals p c) e;
}

begin_if : (b : Bool) (old : Status) (older : Option PromiseId) → (old ≡ Maybe → IsGiven older) → ◌≡◌ {A = Status} (elim b [ true ↦ No | false ↦ old ]) Maybe → IsGiven (elim b [ true ↦ None | false ↦ older ])
begin_if true old older q e = absurd (cc)
begin_if false old older q e = q e

pub begin_sourced : (path : List ℕ) (given : List Datum) (h : History) → AreSourced h → AreSourced (Begun path given ∷ h)
begin_sourced path given h are = record { globals = are.globals; locals = λ p c e. begin_if (bytes_eq path p) (locally h p c) (local_source h p c) (are.locals p c) e }

never_maybe : (b : Bool) → cond b Yes No ≡ Maybe → ⊥
never_maybe true e = cc
never_maybe false e = cc

module _ (s : Setting) (h : History) (are : AreSourced h) where
  pub global_given : (c : List ℕ) → global_status s h c ≡ Maybe → IsGiven (global_source h c)
  global_given c e =
      elim (greater_maybe (from_start s c) (globally h c) e) [ inl m ↦ absurd (never_maybe (is_listed s.classes c) m) | inr m ↦ are.globals c m ]

  pub source_given : (path c : List ℕ) → status_in s h path c ≡ Maybe → IsGiven (source_in h path c)
  source_given path c e =
      elim (greater_maybe (global_status s h c) (locally h path c) e) [
        | inl m ↦ given_left (global_source h c) (local_source h path c) (global_given c m)
        | inr m ↦ given_right (global_source h c) (local_source h path c) (are.locals path c m)
      ]

  -- the source that a class is handed
  first_given : (path : List ℕ) (first : Option (List ℕ)) → IsFirst (status_in s h path) first → IsGiven (source_of h path first)
  first_given path None first = let none : None ≡ Some first.0 = first.1 in absurd (cc)
  first_given path (Some c) first =
      let one : Some c ≡ Some first.0 = first.1 in
      let same : c ≡ first.0 = cc in
      source_given path c (ap (status_in s h path) same ∙ first.2)

  pub handed_given : (path : List ℕ) (in_guard in_expressions : Option (List ℕ)) (guard status : Status) →
      ((c : List ℕ) → in_guard ≡ Some c → status_in s h path c ≡ Maybe) → (guard ≡ Maybe → IsFirst (status_in s h path) in_guard) → (status ≡ Maybe → IsFirst (status_in s h path) in_expressions) →
      lesser guard status ≡ Maybe → IsGiven (handed h path in_guard in_expressions (lesser guard status))
  handed_given path in_guard in_expressions guard status of p q e =
      subst (λ t. IsGiven (handed h path in_guard in_expressions t)) (sym e) (go in_guard of p)
    where
      go : (ig : Option (List ℕ)) → ((c : List ℕ) → ig ≡ Some c → status_in s h path c ≡ Maybe) → (guard ≡ Maybe → IsFirst (status_in s h path) ig) → IsGiven (handed h path ig in_expressions Maybe)
      go (Some c) of' p' = source_given path c (of' c refl)
      go None of' p' = elim (lesser_maybe guard status e) [
        | inl m ↦ let first = p' m in let none : None ≡ Some first.0 = first.1 in absurd (cc)
        | inr m ↦ first_given path in_expressions (q m)
      ]

  -- a guard that may hold or not waits for a class
  pub wait_given : (path : List ℕ) (guard : Option ExprTree) → guard_status s h path guard ≡ Maybe → IsGiven (wait_of_guard s h path guard)
  wait_given path guard is = go (first_maybe_of_guard guard (status_in s h path)) (guarded guard is)
    where
      guarded : (guard : Option ExprTree) → guard_status s h path guard ≡ Maybe → IsFirst (status_in s h path) (first_maybe_of_guard guard (status_in s h path))
      guarded None e = absurd (cc)
      guarded (Some e') e = maybe_first (status_in s h path) e' e

      go : (first : Option (List ℕ)) → IsFirst (status_in s h path) first → IsGiven (option_and_then (λ c. wait_on c (source_in h path c)) first)
      go None first = let none : None ≡ Some first.0 = first.1 in absurd (cc)
      go (Some c) first =
          let one : Some c ≡ Some first.0 = first.1 in
          let same : c ≡ first.0 = cc in
          waits_given c (source_in h path c) (source_given path c (ap (status_in s h path) same ∙ first.2))

  -- what a classes promise raises
  pub raises_sourced : (place : Where) (path : List ℕ) (guard : Status) (in_guard : Option (List ℕ)) → ((c : List ℕ) → in_guard ≡ Some c → status_in s h path c ≡ Maybe) → (guard ≡ Maybe → IsFirst (status_in s h path) in_guard) →
      (rs : List Raise) → Each (RaiseHasFirst (status_in s h path)) rs → (k : History) → AreSourced k → AreSourced (raise_all h place path guard in_guard rs k)
  raises_sourced place path guard in_guard of p [] firsts k now = now
  raises_sourced place path guard in_guard of p (r ∷ rs) firsts k now =
      raises_sourced place path guard in_guard of p rs firsts.1 (raise_event h place path guard in_guard r k)
      (raise_sourced place r.0 (lesser guard r.1.0) (handed h path in_guard r.1.1 (lesser guard r.1.0)) k (handed_given path in_guard r.1.1 guard r.1.0 of p firsts.0) now)
