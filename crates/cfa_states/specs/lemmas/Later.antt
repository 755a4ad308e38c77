-- States and activations that follow one another.
use Rattle.std.proofs.Common.{ℕ, ◌≤◌, arith, ◌≡◌, List, ap, ◌∙◌, ◌+◌, OnOk, refl, sym}
use Rattle.cfa_states.specs.declared.activations.Activation.{Activation}
use Rattle.cfa_states.specs.Kept.{home_of, IsSame, IsLater, IsLaterHere, AreLater}
use Rattle.cfa_states.specs.Views.{Home}
use Rattle.std.specs.Prelude.{Result, Ok, Err}
use Rattle.cfa_states.specs.declared.states.State.{State}

pub at_most : (a b c : ℕ) → a ≤ b → b ≤ c → a ≤ c
at_most a b c ab bc = omega arith

-- ---- the home of an activation

pub home_same : (a a' : Activation) → IsSame a a' → home_of a' ≡ home_of a
home_same a a' same =
    let first : List ℕ → Home = λ x. record { path = x; bundle = a'.bundle } in
    let second : List ℕ → Home = λ x. record { path = a.path; bundle = x } in
    ap first same.path ∙ ap second same.bundle

-- ---- counts that rise

pub as_next : (x y z : ℕ) → x ≤ y → y ≤ z → z ≡ x → z ≡ y
as_next x y z low high same = omega arith

pub as_first : (x y z : ℕ) → x ≤ y → y ≤ z → z ≡ x → y ≡ x
as_first x y z low high same = omega arith

pub no_more : (x y : ℕ) → x ≡ y → x ≤ y
no_more x y same = omega arith

risen : (x y : ℕ) → y ≡ x + 1 → x ≤ y
risen x y one = omega arith

not_same : (x y : ℕ) → y ≡ x + 1 → y ≡ x → ⊥
not_same x y one same = omega arith

-- ---- states

-- nothing that is counted has changed
pub later_by : (st st' : State) → st'.changes ≡ st.changes → st'.environment.statuses ≡ st.environment.statuses → st'.shared ≡ st.shared → IsLater st st'
later_by st st' count statuses shared = record { count = no_more st.changes st'.changes (sym count); statuses = λ _. statuses; shared = λ _. shared }

pub later_same : (st : State) → IsLater st st
later_same st = later_by st st refl refl refl

pub later_counted : (st st' : State) → st'.changes ≡ st.changes + 1 → IsLater st st'
later_counted st st' one = record {
  count = risen st.changes st'.changes one;
  statuses = λ same. absurd (not_same st.changes st'.changes one same);
  shared = λ same. absurd (not_same st.changes st'.changes one same);
}

pub later_then : (st st' st'' : State) → IsLater st st' → IsLater st' st'' → IsLater st st''
later_then st st' st'' first next =
    let low = as_first st.changes st'.changes st''.changes first.count next.count in
    let high = as_next st.changes st'.changes st''.changes first.count next.count in record {
      count = at_most st.changes st'.changes st''.changes first.count next.count;
      statuses = λ same. next.statuses (high same) ∙ first.statuses (low same);
      shared = λ same. next.shared (high same) ∙ first.shared (low same);
    }

-- ---- activations

pub here_by : (a a' : Activation) → a'.path ≡ a.path → a'.bundle ≡ a.bundle → a'.place ≡ a.place → a'.changes ≡ a.changes → a'.local.statuses ≡ a.local.statuses → a'.own ≡ a.own → IsLaterHere a a'
here_by a a' path bundle place count statuses own =
    record { path = path; bundle = bundle; place = place; count = no_more a.changes a'.changes (sym count); statuses = λ _. statuses; own = λ _. own }

pub here_same : (a : Activation) → IsLaterHere a a
here_same a = here_by a a refl refl refl refl refl refl

pub here_counted : (a a' : Activation) → a'.path ≡ a.path → a'.bundle ≡ a.bundle → a'.place ≡ a.place → a'.changes ≡ a.changes + 1 → IsLaterHere a a'
here_counted a a' path bundle place one = record {
  path = path;
  bundle = bundle;
  place = place;
  count = risen a.changes a'.changes one;
  statuses = λ same. absurd (not_same a.changes a'.changes one same);
  own = λ same. absurd (not_same a.changes a'.changes one same);
}

here_then : (a a' a'' : Activation) → IsLaterHere a a' → IsLaterHere a' a'' → IsLaterHere a a''
here_then a a' a'' first next =
    let low = as_first a.changes a'.changes a''.changes first.count next.count in
    let high = as_next a.changes a'.changes a''.changes first.count next.count in record {
      path = next.path ∙ first.path;
      bundle = next.bundle ∙ first.bundle;
      place = next.place ∙ first.place;
      count = at_most a.changes a'.changes a''.changes first.count next.count;
      statuses = λ same. next.statuses (high same) ∙ first.statuses (low same);
      own = λ same. next.own (high same) ∙ first.own (low same);
    }

-- ---- both

pub are_same : (st : State) (a : Activation) → AreLater st st a a
are_same st a = record { state = later_same st; here = here_same a }

pub with_state : (st st' : State) (a : Activation) → IsLater st st' → AreLater st st' a a
with_state st st' a later = record { state = later; here = here_same a }

pub with_here : (st : State) (a a' : Activation) → IsLaterHere a a' → AreLater st st a a'
with_here st a a' later = record { state = later_same st; here = later }

pub are_then : (st st' st'' : State) (a a' a'' : Activation) → AreLater st st' a a' → AreLater st' st'' a' a'' → AreLater st st'' a a''
are_then st st' st'' a a' a'' first next =
    record { state = later_then st st' st'' first.state next.state; here = here_then a a' a'' first.here next.here }

pub state_ok : {E : Type 0} (st st' : State) (a : Activation) (result : Result (Unit {0}) E) → OnOk result (IsLater st st') → OnOk result (AreLater st st' a a)
state_ok st st' a (Ok done) later = with_state st st' a later
state_ok st st' a (Err e) later = tt

pub here_ok : {E : Type 0} (st : State) (a a' : Activation) (result : Result (Unit {0}) E) → OnOk result (IsLaterHere a a') → OnOk result (AreLater st st a a')
here_ok st a a' (Ok done) later = with_here st a a' later
here_ok st a a' (Err e) later = tt
