-- Calls on an object in memory are numbered from 1, and those of the listed numbers fail. A number or a count that stands
-- at the end of its type stays there.
use Rattle.std.specs.Prelude.{◌≡◌, ℕ, ◌+◌, ◌-◌, ◌^◌, min, List, Bool, true, false, not, ◌==◌, nat_le, IsTrue, Option, Some, None, Result, Ok, Err, OnOk, IsErrOf}
use Rattle.std.specs.List.{list_any}
use Rattle.cfa_outside.specs.declared.errors.OutsideErr.{OutsideErr}
use Rattle.cfa_outside.specs.declared.errors.OutsideErr.TheVariants.{Failed, NoMemory}

-- the numbers of the calls that fail, how many calls there were, and how many of them failed
pub record Numbering : Type 0 where
  pub listed : List ℕ
  pub calls : ℕ
  pub faults : ℕ

-- before the first call
abbrev pub no_calls : List ℕ → Numbering
no_calls listed = record { listed = listed; calls = 0; faults = 0 }

-- the number after n calls
abbrev pub next_number : ℕ → ℕ
next_number n = min (n + 1) (2 ^ 32 - 1)

-- the number of the next call is listed
abbrev pub is_next_listed : Numbering → Bool
is_next_listed turns = list_any (λ n. n == next_number turns.calls) turns.listed

abbrev pub with_call : Numbering → Numbering
with_call turns = record { listed = turns.listed; calls = next_number turns.calls; faults = turns.faults }

abbrev pub with_fault : Numbering → Numbering
with_fault turns = record { listed = turns.listed; calls = turns.calls; faults = min (turns.faults + 1) (2 ^ 64 - 1) }

-- after one call more, which failed or didn't
abbrev pub after_call : (has_failed : Bool) → Numbering → Numbering
after_call true turns = with_fault (with_call turns)
after_call false turns = with_call turns

abbrev pub has_failed : {X : Type 0} → Result X OutsideErr → Bool
has_failed (Ok _) = false
has_failed (Err Failed) = true
has_failed (Err NoMemory) = false

-- so many changes were made that every call fails
abbrev pub is_stopped : Option ℕ → ℕ → Bool
is_stopped None changes = false
is_stopped (Some most) changes = nat_le most changes

-- a call takes the next number, and fails exactly where that is said, want of memory aside
pub record TakesTurn {X : Type 0} (fails : Bool) (before after : Numbering) (result : Result X OutsideErr) : Type 0 where
  pub turns : after ≡ after_call (has_failed result) before
  pub failed : IsErrOf result Failed → IsTrue fails
  pub done : OnOk result (IsTrue (not fails))
