-- Parts, to which one may be added, and places that are equal by their numbers.
use Rattle.std.proofs.Common.{◌≡◌, ℕ, ◌+◌, ◌<◌, ◌≤◌, Bool, true, false, cond, ◌&&◌, List, [], ◌∷◌, ◌++◌, length, take, get_or, All, sym, subst}
use Rattle.std.proofs.lemmas.List.{take_more, take_all}
use Rattle.std.specs.Prelude.{◌==◌}
use Rattle.std.proofs.lemmas.List.Elements.{All-push}
use Rattle.std.proofs.lemmas.Bool.{and_parts, eqb-true}
use Rattle.cfa_base.specs.declared.places.Place.{Place}

pub all_push : {X : Type 0} (P : X → Type 0) (is_added : Bool) (xs : List X) (x : X) → P x → All P xs → All P (cond is_added (xs ++ x ∷ []) xs)
all_push P true xs x this all = All-push P xs x all this
all_push P false xs x this all = all

pub same_place : (place other : Place) → (place.file == other.file && (place.line == other.line && place.col == other.col)) ≡ true → place ≡ other
same_place place other same =
    let parts = and_parts (place.file == other.file) (place.line == other.line && place.col == other.col) same in
    let rest = and_parts (place.line == other.line) (place.col == other.col) parts.1 in
    λ i. record { file = eqb-true place.file other.file parts.0 i; line = eqb-true place.line other.line rest.0 i; col = eqb-true place.col other.col rest.1 i }

pub all_more : {X : Type 0} (P : X → Type 0) (xs : List X) (n : ℕ) (d : X) → n < length xs → All P (take n xs) → P (get_or xs n d) → All P (take (n + 1) xs)
all_more P xs n d inside before this = subst (All P) (sym (take_more xs n d inside)) (All-push P (take n xs) (get_or xs n d) before this)

pub all_taken : {X : Type 0} (P : X → Type 0) (xs : List X) (n : ℕ) → length xs ≤ n → All P (take n xs) → All P xs
all_taken P xs n within all = subst (All P) (take_all n xs within) all
