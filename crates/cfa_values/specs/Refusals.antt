-- Refusals by their codes and places. The first of several is the one of the least place, and of one place the one of the
-- lowest number.
use Rattle.std.specs.Prelude.{ℕ, Bool, true, false, ◌||◌, ◌&&◌, ◌==◌, nat_lt, List, [], ◌∷◌, Option, Some, None, if◌then◌else◌}
use Rattle.cfa_base.specs.declared.places.Place.{Place}
use Rattle.cfa_values.specs.declared.refusals.Refusal.{Refusal}
use Rattle.cfa_base.specs.Order.{is_before}
use Rattle.cfa_values.specs.declared.refusals.Code.{Code}
use Rattle.cfa_values.specs.declared.refusals.Code.TheVariants.{UnknownType, TypeOutOfScope, UnknownAttribute, WrongValue, UnknownBody, UnknownBundle, ArgumentCount, Duplicate, CallCycle, NoSequence, BadClassText, ReferenceOutOfScope, BadPattern}

-- the numbers that the lines of the table are printed with
abbrev pub number_of : Code → ℕ
number_of UnknownType = 1
number_of TypeOutOfScope = 2
number_of UnknownAttribute = 3
number_of WrongValue = 4
number_of UnknownBody = 5
number_of UnknownBundle = 6
number_of ArgumentCount = 7
number_of Duplicate = 8
number_of CallCycle = 9
number_of NoSequence = 10
number_of BadClassText = 11
number_of ReferenceOutOfScope = 12
number_of BadPattern = 13

abbrev pub refusal : Code → Place → Refusal
refusal code place = record { code = code; place = place }

abbrev pub is_same_place : Place → Place → Bool
is_same_place p q = (p.file == q.file) && ((p.line == q.line) && (p.col == q.col))

unfoldable pub is_sooner : Refusal → Refusal → Bool
is_sooner r s = is_before r.place s.place || (is_same_place r.place s.place && nat_lt (number_of r.code) (number_of s.code))

-- the sooner of what was found first so far and one refusal more
abbrev pub sooner : Option Refusal → Refusal → Option Refusal
sooner None r = Some r
sooner (Some first) r = if is_sooner r first then Some r else Some first

-- what is first after some refusals more
abbrev pub noted : Option Refusal → List Refusal → Option Refusal
noted first [] = first
noted first (r ∷ rs) = noted (sooner first r) rs

-- one refusal, if a test says so
abbrev pub only_if : Bool → Code → Place → List Refusal
only_if false code place = []
only_if true code place = refusal code place ∷ []
