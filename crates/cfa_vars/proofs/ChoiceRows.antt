-- Worked rows of combinations.
use Rattle.std.proofs.Common.{◌≡◌, ℕ, true, false, List, [], ◌∷◌, replicate, codes, refl}
use Rattle.cfa_vars.specs.declared.scoping.Datum.TheVariants.{Text as text_of, List as list_of}
use Rattle.cfa_vars.specs.declared.choosing.Choices.TheVariants.{Found, Unresolved}
use Rattle.cfa_vars.specs.References.{reference_at, pieces}
use Rattle.cfa_vars.specs.Scopes.{Table, InScope, look, key_of}
use Rattle.cfa_vars.specs.Choices.{Lists, are_too_many, choices_of}

-- the bundle `main`, in which x is `v`, l and k are lists and e is an empty one, beside the bundle `b` with a list l
abbrev own : Table
own = (codes "x", text_of (codes "v")) ∷ (codes "l", list_of (codes "i" ∷ codes "j" ∷ [])) ∷ (codes "k", list_of (codes "1" ∷ codes "2" ∷ [])) ∷ (codes "e", list_of []) ∷ []

abbrev main : InScope
main = record { own = own; own_name = codes "main"; shared = (codes "b", (codes "l", list_of (codes "o" ∷ [])) ∷ []) ∷ [] }

-- no list: the one empty combination
no_list : choices_of main (codes "$(x)" ∷ codes "y" ∷ []) ≡ Found ([] ∷ [])
unfolding choices_of look key_of pieces reference_at are_too_many
no_list = refl

no_text : choices_of main [] ≡ Found ([] ∷ [])
unfolding choices_of are_too_many
no_text = refl

-- the list that is referred to first is outermost
first_outermost : choices_of main (codes "$(k)" ∷ codes "$(x)$(l)" ∷ []) ≡ Found (
    ((codes "k", codes "1") ∷ (codes "l", codes "i") ∷ []) ∷
    ((codes "k", codes "1") ∷ (codes "l", codes "j") ∷ []) ∷
    ((codes "k", codes "2") ∷ (codes "l", codes "i") ∷ []) ∷
    ((codes "k", codes "2") ∷ (codes "l", codes "j") ∷ []) ∷ [])
unfolding choices_of look key_of pieces reference_at are_too_many
first_outermost = refl

-- one list variable, however it is referred to, is chosen from once
each_once : choices_of main (codes "$(l)$(l)" ∷ codes "$(main.l)" ∷ []) ≡ Found (((codes "l", codes "i") ∷ []) ∷ ((codes "l", codes "j") ∷ []) ∷ [])
unfolding choices_of look key_of pieces reference_at are_too_many
each_once = refl

-- the list of the same word in another bundle is another list
two_bundles : choices_of main (codes "$(b.l)$(l)" ∷ []) ≡ Found (
    ((codes "b.l", codes "o") ∷ (codes "l", codes "i") ∷ []) ∷
    ((codes "b.l", codes "o") ∷ (codes "l", codes "j") ∷ []) ∷ [])
unfolding choices_of look key_of pieces reference_at are_too_many
two_bundles = refl

-- an empty list leaves no combination, whatever stands beside it
empty_list : (choices_of main (codes "$(e)" ∷ []) ≡ Found []) × (choices_of main (codes "$(l)$(e)" ∷ []) ≡ Found []) × (choices_of main (codes "$(e)$(l)" ∷ []) ≡ Found [])
unfolding choices_of look key_of pieces reference_at are_too_many
empty_list = (refl, refl, refl)

-- the first name that was never set, in the order of the texts
never_set : (choices_of main (codes "$(l)$(z)" ∷ codes "$(y)" ∷ []) ≡ Unresolved (codes "z")) × (choices_of main (codes "$(e)" ∷ codes "$(b.y)$(y)" ∷ []) ≡ Unresolved (codes "b.y"))
unfolding choices_of look key_of pieces reference_at are_too_many
never_set = (refl, refl)

abbrev list_with : ℕ → List ℕ → Lists
list_with count key = (key, replicate count []) ∷ []

abbrev two_with : ℕ → ℕ → Lists
two_with m n = (codes "a", replicate m []) ∷ (codes "b", replicate n []) ∷ []

-- 64 times 64 choices are within the limit, 64 times 65 aren't
limit_of_choices : (are_too_many (two_with 64 64) ≡ false) × (are_too_many (two_with 64 65) ≡ true)
unfolding are_too_many
limit_of_choices = (refl, refl)

-- a list of 4,096 items is within the limit, one of 4,097 isn't, also beside an empty one
limit_of_items : (are_too_many (list_with 4096 []) ≡ false) × (are_too_many (list_with 4097 []) ≡ true) × (are_too_many (two_with 4097 0) ≡ true) × (are_too_many (two_with 4096 0) ≡ false)
unfolding are_too_many
limit_of_items = (refl, refl, refl, refl)
