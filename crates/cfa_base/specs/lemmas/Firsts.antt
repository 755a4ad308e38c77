-- What a function makes of the first elements of a list, one more.
use Rattle.std.proofs.Common.{◌≡◌, ◌<◌, ◌+◌, ℕ, List, [], ◌∷◌, ◌++◌, length, take, get_or, map, ap, sym, ◌∙◌}
use Rattle.std.proofs.lemmas.List.{take_more, map-append}

pub one_taken : {X Y : Type 0} (f : X → Y) (xs : List X) (i : ℕ) (x : X) → i < length xs → x ≡ get_or xs i x → map f (take (i + 1) xs) ≡ map f (take i xs) ++ f x ∷ []
one_taken f xs i x within is =
    ap (map f) (take_more xs i x within) ∙ map-append f (take i xs) (get_or xs i x ∷ []) ∙ ap (λ y. map f (take i xs) ++ f y ∷ []) (sym is)
