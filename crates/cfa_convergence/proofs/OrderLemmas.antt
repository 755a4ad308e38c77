-- In which order a walk visits, and that a run's actuations follow it.
use Rattle.std.proofs.Common.{◌≡◌, ℕ, Bool, true, false, List, [], ◌∷◌, Some, refl, sym, subst, ◌⊎◌, inl, inr}
use Rattle.cfa_statuses.specs.declared.levels.Status.{Status}
use Rattle.cfa_statuses.specs.declared.levels.Status.TheVariants.{Yes}
use Rattle.cfa_statuses.specs.Status.{greater}
use Rattle.cfa_outcomes.specs.declared.outcomes.Outcome.{Outcome}
use Rattle.cfa_resolve.specs.declared.instances.Instance.{Instance}
use Rattle.cfa_resolve.specs.declared.instances.Work.{Work}
use Rattle.cfa_resolve.specs.declared.instances.Work.TheVariants.{Acts, Call, Report}
use Rattle.cfa_states.specs.History.{History, everywhere, Raised, Listed, Told, mark_in}
use Rattle.cfa_states.specs.Passes.{raise_each, raised_to, in_every_list}
use Rattle.cfa_laws.specs.Keys.{IsKeyed}
use Rattle.cfa_convergence.specs.Keys.{KeysTellWorks}
use Rattle.cfa_convergence.specs.Conflicts.{HasActs, was_visited, is_same, IsAfter}
use Rattle.cfa_convergence.specs.Contained.{with_acts, actuations}
use Rattle.cfa_convergence.specs.Lasting.{IsAmong, Follow}
use Rattle.cfa_convergence.proofs.NameLemmas.{is_itself, one_kind}

pub follow_more : (R S : Instance → Instance → Type 0) → ((i j : Instance) → R i j → S i j) → (is : List Instance) → Follow R is → Follow S is
follow_more R S f [] r = tt
follow_more R S f (i ∷ is) r = ((λ j among. f i j (r.0 j among)), follow_more R S f is r.1)

pub visited_more : (b : Bool) {c : Bool} → c ≡ true → ◌≡◌ {A = Bool} (elim b [ true ↦ true | false ↦ c ]) true
visited_more true e = refl
visited_more false e = e

both_visited : (b : Bool) {c d : Bool} → (c ≡ true → d ≡ true) → ◌≡◌ {A = Bool} (elim b [ true ↦ true | false ↦ c ]) true → ◌≡◌ {A = Bool} (elim b [ true ↦ true | false ↦ d ]) true
both_visited true f e = refl
both_visited false f e = f e

-- what was visited stays so, in its order
abbrev pub Ahead : History → History → Type 0
Ahead h k = ((i : Instance) → was_visited h i ≡ true → was_visited k i ≡ true) × ((i j : Instance) → IsAfter h i j → IsAfter k i j)

pub ahead_same : (h : History) → Ahead h h
ahead_same h = ((λ i e. e), (λ i j a. a))

pub ahead_then : (a b c : History) → Ahead a b → Ahead b c → Ahead a c
ahead_then a b c r q = ((λ i e. q.0 i (r.0 i e)), (λ i j x. q.1 i j (r.1 i j x)))

pub ahead_listed : (i : Instance) (status : Status) (h : History) → Ahead h (Listed i status ∷ h)
ahead_listed i status h = ((λ j e. visited_more (is_same j i) e), (λ j l x. inr x))

-- a run's actuations within a walk's visits
abbrev pub Placed : History → History → Type 0
Placed run walk =
    ((i : Instance) → IsAmong i (actuations run) → was_visited walk i ≡ true)
    × Follow (IsAfter walk) (actuations run)
    × ((i : Instance) → IsKeyed i → HasActs i.work → mark_in run i.path i.text ≡ Yes → IsAmong i (actuations run))
    × ((i : Instance) → was_visited run i ≡ true → was_visited walk i ≡ true)

pub placed_ahead : (a b c : History) → Placed a b → Ahead b c → Placed a c
placed_ahead a b c p f = ((λ i m. f.0 i (p.0 i m)), follow_more (IsAfter b) (IsAfter c) f.1 (actuations a) p.1, p.2, (λ i e. f.0 i (p.3 i e)))

pub no_actuation : (w : Work) (i : Instance) (is : List Instance) → (HasActs w → ⊥) → with_acts w i is ≡ is
no_actuation (Acts acts) i is none = absurd (none tt)
no_actuation (Call name given) i is none = refl
no_actuation (Report content) i is none = refl

pub one_actuation : (w : Work) (i : Instance) (is : List Instance) → HasActs w → with_acts w i is ≡ i ∷ is
one_actuation (Acts acts) i is has = refl
one_actuation (Call name given) i is has = absurd has
one_actuation (Report content) i is has = absurd has

-- what Placed says of these actuations, marks and visits
abbrev Placed_by : List Instance → (run : History) → (walk : History) → Type 0
Placed_by is run walk =
    ((i : Instance) → IsAmong i is → was_visited walk i ≡ true)
    × Follow (IsAfter walk) is
    × ((i : Instance) → IsKeyed i → HasActs i.work → mark_in run i.path i.text ≡ Yes → IsAmong i is)
    × ((i : Instance) → was_visited run i ≡ true → was_visited walk i ≡ true)

pub placed_ended : (i : Instance) (o : Outcome) (os : List Outcome) (a b : History) → (HasActs i.work → ⊥) → Placed a b → Placed (Told i (o ∷ []) ∷ a) (Told i os ∷ b)
placed_ended i o os a b none p = subst (λ is. Placed_by is a b) (sym (no_actuation i.work i (actuations a) none)) p

module _ (tell : KeysTellWorks) where
  -- a call or a report is visited in both
  pub placed_visited : (i : Instance) (r s : Status) (a b : History) → IsKeyed i → (HasActs i.work → ⊥) → Placed a b → Placed (Listed i r ∷ a) (Listed i s ∷ b)
  placed_visited i r s a b key none p =
      let q : Placed a (Listed i s ∷ b) = placed_ahead a b (Listed i s ∷ b) p (ahead_listed i s b) in
      (q.0, q.1, (λ j other has m. p.2 j other has (go j other has (is_same j i) refl m)), (λ j. both_visited (is_same j i) (p.3 j)))
    where
      go : (j : Instance) → IsKeyed j → HasActs j.work → (b : Bool) → is_same j i ≡ b → ◌≡◌ {A = Status} (elim b [ true ↦ greater r (mark_in a j.path j.text) | false ↦ mark_in a j.path j.text ]) Yes →
          mark_in a j.path j.text ≡ Yes
      go j other has true e m = absurd (none (one_kind tell j i other key e has))
      go j other has false e m = m

pub placed_acted : (i : Instance) (o : Outcome) (os : List Outcome) (r s : Status) (a b : History) → HasActs i.work → Placed a b → Placed (Told i (o ∷ []) ∷ Listed i r ∷ a) (Told i os ∷ Listed i s ∷ b)
placed_acted i o os r s a b has p =
    subst (λ is. Placed_by is (Listed i r ∷ a) (Listed i s ∷ b)) (sym (one_actuation i.work i (actuations a) has)) (
      (λ j m. visited_too j (is_same j i) refl m),
      ((λ j m. inl (is_itself i, p.0 j m)), follow_more (IsAfter b) (IsAfter (Listed i s ∷ b)) (λ j l x. inr x) (actuations a) p.1),
      (λ j key h m. acted_too j key h (is_same j i) refl m),
      (λ j. both_visited (is_same j i) (p.3 j)),
    )
  where
    visited_too : (j : Instance) (c : Bool) → is_same j i ≡ c → (c ≡ true) ⊎ IsAmong j (actuations a) → ◌≡◌ {A = Bool} (elim c [ true ↦ true | false ↦ was_visited b j ]) true
    visited_too j true e m = refl
    visited_too j false e (inl f) = absurd (cc)
    visited_too j false e (inr m) = p.0 j m

    acted_too : (j : Instance) → IsKeyed j → HasActs j.work → (c : Bool) → is_same j i ≡ c → ◌≡◌ {A = Status} (elim c [ true ↦ greater r (mark_in a j.path j.text) | false ↦ mark_in a j.path j.text ]) Yes →
        (c ≡ true) ⊎ IsAmong j (actuations a)
    acted_too j key h true e m = inl refl
    acted_too j key h false e m = inr (p.2 j key h m)

module _ (i : Instance) (os : List Outcome) (status : Status) where
  pub ahead_raised : (classes : List (List ℕ)) (a h : History) → Ahead a h → Ahead a (raise_each i os status classes h)
  ahead_raised [] a h r = r
  ahead_raised (class ∷ classes) a h r = ahead_raised classes a (Raised everywhere class (raised_to status (in_every_list i os class)) (Some i.source) ∷ h) r

  pub placed_raised : (classes : List (List ℕ)) (h walk : History) → Placed h walk → Placed (raise_each i os status classes h) walk
  placed_raised [] h walk p = p
  placed_raised (class ∷ classes) h walk p = placed_raised classes (Raised everywhere class (raised_to status (in_every_list i os class)) (Some i.source) ∷ h) walk p
