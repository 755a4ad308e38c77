-- What a list is without the element at a place.
use Rattle.std.proofs.Common.{◌≡◌, List, [], ◌∷◌, ◌++◌, length, refl, ap}
use Rattle.std.specs.List.{remove}

pub remove_at : {X : Type 0} (xs : List X) (y : X) (ys : List X) → remove (xs ++ y ∷ ys) (length xs) ≡ xs ++ ys
remove_at [] y ys = refl
remove_at (x ∷ xs) y ys = ap (λ zs. x ∷ zs) (remove_at xs y ys)
