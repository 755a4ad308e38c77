use Rattle.std.proofs.Common.{◌≡◌, ℕ, ◌+◌, ◌<◌, ◌≤◌, Bool, true, false, not, length, get_or, take, List, [], ◌∷◌, ◌++◌, Option, Some, None, IfSome, IfNone, IsTrue, sym, ap, subst, refl, ◌∙◌, ◌↔◌, ⊎_elim}
use Rattle.std.specs.List.{Contains}
use Rattle.std.proofs.lemmas.List.Elements.{Contains-push_cases, Contains-push, Contains-append_left}
use Rattle.std.proofs.lemmas.Bool.{false≢true, not-true}
use Rattle.cfa_base.specs.declared.places.Place.{Place}
use Rattle.std.proofs.lemmas.List.{take_more, take_all, map_push}
use Rattle.cfa_calls.specs.declared.cycles.Call.{Call as CodeCall}
use Rattle.cfa_base.specs.Order.{is_before, not_after}
use Rattle.cfa_base.specs.lemmas.Order.{before_still, before_itself}
use Rattle.cfa_calls.specs.Cycles.{Call, OnCycle, IsFirstOnCycle, NoneOnCycle, seen_call, seen_calls}
use Rattle.cfa_calls.specs.Numbering.{FirstSoFar, may_be_first}

-- one call more: it comes later, it does not pass, or it is the new first
pub first_later : (Passes : Call → Type 0) (calls : List Call) (call : Call) → (first : Option Place) → FirstSoFar Passes calls first → may_be_first call.place first ≡ false
    → FirstSoFar Passes (calls ++ call ∷ []) first
first_later Passes calls call None so_far e = absurd (false≢true (sym e))
first_later Passes calls call (Some place) so_far e = (
  (so_far.0.0, Contains-append_left calls (call ∷ []) so_far.0.0 so_far.0.1, so_far.0.2, so_far.0.3),
  λ other at passes. ⊎_elim
      (λ (was : Contains calls other). so_far.1 other was passes)
      (λ (is : call ≡ other). subst (λ (x : Call). not (is_before x.place place) ≡ true) is (ap not e))
      (Contains-push_cases calls call other at),
)

pub first_apart : (Passes : Call → Type 0) (calls : List Call) (call : Call) → (first : Option Place) → FirstSoFar Passes calls first → (Passes call → ⊥)
    → FirstSoFar Passes (calls ++ call ∷ []) first
first_apart Passes calls call None so_far fails = λ other at passes. ⊎_elim
    (λ (was : Contains calls other). so_far other was passes)
    (λ (is : call ≡ other). fails (subst Passes (sym is) passes))
    (Contains-push_cases calls call other at)
first_apart Passes calls call (Some place) so_far fails = (
  (so_far.0.0, Contains-append_left calls (call ∷ []) so_far.0.0 so_far.0.1, so_far.0.2, so_far.0.3),
  λ other at passes. ⊎_elim
      (λ (was : Contains calls other). so_far.1 other was passes)
      (λ (is : call ≡ other). absurd (fails (subst Passes (sym is) passes)))
      (Contains-push_cases calls call other at),
)

not_before : (place other : Place) → IsTrue (not_after place other) → is_before other place ≡ false
not_before place other h = not-true (is_before other place) h

pub first_takes : (Passes : Call → Type 0) (calls : List Call) (call : Call) → (first : Option Place) → FirstSoFar Passes calls first → may_be_first call.place first ≡ true
    → Passes call → FirstSoFar Passes (calls ++ call ∷ []) (Some call.place)
first_takes Passes calls call None so_far e pass = (
  (call, Contains-push calls call, pass, refl),
  λ other at passes. ⊎_elim
      (λ (was : Contains calls other). absurd (so_far other was passes))
      (λ (is : call ≡ other). subst (λ (x : Call). not (is_before x.place call.place) ≡ true) is (ap not (before_itself call.place)))
      (Contains-push_cases calls call other at),
)
first_takes Passes calls call (Some place) so_far e pass = (
  (call, Contains-push calls call, pass, refl),
  λ other at passes. ⊎_elim
      (λ (was : Contains calls other).
      ap not (before_still call.place place other.place e (not_before place other.place (so_far.1 other was passes))))
      (λ (is : call ≡ other). subst (λ (x : Call). not (is_before x.place call.place) ≡ true) is (ap not (before_itself call.place)))
      (Contains-push_cases calls call other at),
)

pub first_is : (calls : List Call) → (first : Option Place) → FirstSoFar (OnCycle calls) calls first → IfSome first (IsFirstOnCycle calls)
first_is calls None so_far = tt
first_is calls (Some place) so_far = record { call = so_far.0.0; is_call = so_far.0.1; on_cycle = so_far.0.2; at_place = so_far.0.3; none_before = so_far.1 }

pub none_is : (calls : List Call) → (first : Option Place) → FirstSoFar (OnCycle calls) calls first → IfNone first (NoneOnCycle calls)
none_is calls None so_far = so_far
none_is calls (Some place) so_far = tt

plain_more : (calls : List CodeCall) (i : ℕ) (d : CodeCall) → i < length calls
    → seen_calls (take (i + 1) calls) ≡ seen_calls (take i calls) ++ seen_call (get_or calls i d) ∷ []
plain_more calls i d h = ap seen_calls (take_more calls i d h) ∙ map_push seen_call (take i calls) (get_or calls i d)

-- the step of the loop over the calls
pub loop_later : (calls : List CodeCall) (i : ℕ) (d : CodeCall) (first : Option Place) → i < length calls
    → FirstSoFar (OnCycle (seen_calls calls)) (seen_calls (take i calls)) first → may_be_first (get_or calls i d).place first ≡ false
    → FirstSoFar (OnCycle (seen_calls calls)) (seen_calls (take (i + 1) calls)) first
loop_later calls i d first h so_far e =
    subst (λ cs. FirstSoFar (OnCycle (seen_calls calls)) cs first) (sym (plain_more calls i d h))
    (first_later (OnCycle (seen_calls calls)) (seen_calls (take i calls)) (seen_call (get_or calls i d)) first so_far e)

pub loop_apart : (calls : List CodeCall) (i : ℕ) (d : CodeCall) (first : Option Place) (closes : Bool) (Closes : Type 0) → i < length calls
    → FirstSoFar (OnCycle (seen_calls calls)) (seen_calls (take i calls)) first
    → closes ≡ false → IsTrue closes ↔ Closes → Closes ↔ OnCycle (seen_calls calls) (seen_call (get_or calls i d))
    → FirstSoFar (OnCycle (seen_calls calls)) (seen_calls (take (i + 1) calls)) first
loop_apart calls i d first closes Closes h so_far fails is exact =
    subst (λ cs. FirstSoFar (OnCycle (seen_calls calls)) cs first) (sym (plain_more calls i d h))
    (first_apart (OnCycle (seen_calls calls)) (seen_calls (take i calls)) (seen_call (get_or calls i d)) first so_far
    (λ passes. false≢true (sym fails ∙ is.1 (exact.1 passes))))

pub loop_takes : (calls : List CodeCall) (i : ℕ) (d : CodeCall) (first : Option Place) (closes : Bool) (Closes : Type 0) → i < length calls
    → FirstSoFar (OnCycle (seen_calls calls)) (seen_calls (take i calls)) first → may_be_first (get_or calls i d).place first ≡ true
    → closes ≡ true → IsTrue closes ↔ Closes → Closes ↔ OnCycle (seen_calls calls) (seen_call (get_or calls i d))
    → FirstSoFar (OnCycle (seen_calls calls)) (seen_calls (take (i + 1) calls)) (Some (get_or calls i d).place)
loop_takes calls i d first closes Closes h so_far e found is exact =
    subst (λ cs. FirstSoFar (OnCycle (seen_calls calls)) cs (Some (get_or calls i d).place)) (sym (plain_more calls i d h))
    (first_takes (OnCycle (seen_calls calls)) (seen_calls (take i calls)) (seen_call (get_or calls i d)) first so_far e (exact.0 (is.0 found)))

pub loop_end : (calls : List CodeCall) (i : ℕ) (first : Option Place) → length calls ≤ i → FirstSoFar (OnCycle (seen_calls calls)) (seen_calls (take i calls)) first
    → FirstSoFar (OnCycle (seen_calls calls)) (seen_calls calls) first
loop_end calls i first h so_far = subst (λ cs. FirstSoFar (OnCycle (seen_calls calls)) (seen_calls cs) first) (take_all i calls h) so_far

abbrev pub no_call : CodeCall
no_call = record { caller = record { ref_ptr = (0, 0); now = [] }; callee = record { ref_ptr = (0, 0); now = [] }; place = record { file = 0; line = 0; col = 0 } }
