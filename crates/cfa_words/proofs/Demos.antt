-- Command lines of demos, computed from the definition.
use Rattle.std.proofs.Common.{◌≡◌, ◌∷◌, [], Option, Some, None, ℕ, refl, codes}
use Rattle.cfa_base.specs.Index.{Text}
use Rattle.cfa_words.specs.Demos.{demo_asked}
use Rattle.cfa_words.specs.Words.{asked}

abbrev of_number : Text → Option ℕ
of_number number = demo_asked (codes "demo" ∷ number ∷ [])

ten_thousand : of_number (codes "10000") ≡ Some 10000
ten_thousand = refl

four : of_number (codes "4") ≡ Some 4
four = refl

behind_dashes : demo_asked (codes "--" ∷ codes "demo" ∷ codes "4" ∷ []) ≡ Some 4
behind_dashes = refl

zero_promises : of_number (codes "0") ≡ None
zero_promises = refl

too_many : of_number (codes "10001") ≡ None
too_many = refl

leading_zero : of_number (codes "04") ≡ None
leading_zero = refl

plus : of_number (codes "+4") ≡ None
plus = refl

no_number : of_number (codes "four") ≡ None
no_number = refl

empty : of_number (codes "") ≡ None
empty = refl

with_flag : demo_asked (codes "demo" ∷ codes "4" ∷ codes "-K" ∷ []) ≡ None
with_flag = refl

with_classes : demo_asked (codes "demo" ∷ codes "4" ∷ codes "-Da" ∷ []) ≡ None
with_classes = refl

third_word : demo_asked (codes "demo" ∷ codes "4" ∷ codes "5" ∷ []) ≡ None
third_word = refl

other_command : demo_asked (codes "run" ∷ codes "4" ∷ []) ≡ None
other_command = refl

-- what asks for a demo asks for nothing else
no_request : asked (codes "demo" ∷ codes "4" ∷ []) ≡ None
no_request = refl
