-- Calls between bundles. A bundle reaches another where a chain of calls leads there, of no calls to itself. A call lies
-- on a cycle where the called bundle reaches the calling one.
use Rattle.std.specs.Prelude.{◌≡◌, ℕ, IsTrue, List, map}
use Rattle.std.specs.List.{Contains}
use Rattle.cfa_base.specs.declared.places.Place.{Place}
use Rattle.cfa_calls.specs.declared.cycles.Call.{Call as CodeCall}
use Rattle.cfa_base.specs.Order.{not_after}

pub record Call : Type 0 where
  pub caller : List ℕ
  pub callee : List ℕ
  pub place : Place

pub data Reaches (calls : List Call) : List ℕ → List ℕ → Type 0 where
  here : {name : List ℕ} → Reaches calls name name
  onward : (call : Call) {to : List ℕ} → Contains calls call → Reaches calls call.callee to → Reaches calls call.caller to

abbrev pub OnCycle : List Call → Call → Type 0
OnCycle calls call = Reaches calls call.callee call.caller

-- the place of a call that lies on a cycle, before which no other does
pub record IsFirstOnCycle (calls : List Call) (place : Place) : Type 0 where
  pub call : Call
  pub is_call : Contains calls call
  pub on_cycle : OnCycle calls call
  pub at_place : call.place ≡ place
  pub none_before : (other : Call) → Contains calls other → OnCycle calls other → IsTrue (not_after place other.place)

abbrev pub NoneOnCycle : List Call → Type 0
NoneOnCycle calls = (call : Call) → Contains calls call → OnCycle calls call → ⊥

-- the calls of the code, by their names
abbrev pub seen_call : CodeCall → Call
seen_call call = record { caller = call.caller.now; callee = call.callee.now; place = call.place }

abbrev pub seen_calls : List CodeCall → List Call
seen_calls calls = map seen_call calls
