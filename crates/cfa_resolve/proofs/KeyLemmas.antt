-- Texts that are added to a text with a byte between each two, one after the other.
use Rattle.std.proofs.Common.{◌≡◌, ◌∙◌, ◌<◌, ◌+◌, ℕ, false, List, [], ◌∷◌, ◌++◌, ◌==◌, length, map, take, get_or, if◌then◌else◌, ap, sym, refl, arith}
use Rattle.std.specs.List.{join_with_byte}
use Rattle.std.proofs.lemmas.Bool.{ne_eqb}
use Rattle.std.proofs.lemmas.List.{append_assoc, take_more, take-map, length-take, length-map, get_or-map}

abbrev pub separator : ℕ → ℕ → List ℕ
separator c place = if place == 0 then [] else c ∷ []

join_more : (c : ℕ) (x : List ℕ) (xs : List (List ℕ)) (y : List ℕ) → join_with_byte c (x ∷ (xs ++ y ∷ [])) ≡ join_with_byte c (x ∷ xs) ++ (c ∷ y)
join_more c x [] y = refl
join_more c x (z ∷ zs) y =
    ap (λ t. x ++ (c ∷ t)) (join_more c z zs y) ∙ sym (append_assoc x (c ∷ join_with_byte c (z ∷ zs)) (c ∷ y))

join_push : (c : ℕ) (xs : List (List ℕ)) (y : List ℕ) → join_with_byte c (xs ++ y ∷ []) ≡ join_with_byte c xs ++ (separator c (length xs) ++ y)
join_push c [] y = refl
join_push c (x ∷ xs) y =
    let some : (length (x ∷ xs) == 0) ≡ false = ne_eqb (length (x ∷ xs)) 0 (λ e. omega arith) in
    join_more c x xs y ∙ ap (λ b. join_with_byte c (x ∷ xs) ++ ((if b then [] else c ∷ []) ++ y)) (sym some)

pub join_step : (c : ℕ) (start : List ℕ) (xs : List (List ℕ)) (i : ℕ) (x : List ℕ) → i < length xs → x ≡ get_or xs i x → start ++ join_with_byte c (take (i + 1) xs) ≡ (start ++ join_with_byte c (take i xs)) ++ (separator c i ++ x)
join_step c start xs i x h is =
    let size : length (take i xs) ≡ i = omega (arith, length-take i xs) in
    ap (λ t. start ++ join_with_byte c t) (take_more xs i x h)
    ∙ ap (λ t. start ++ join_with_byte c (take i xs ++ t ∷ [])) (sym is)
    ∙ ap (λ t. start ++ t) (join_push c (take i xs) x)
    ∙ ap (λ n. start ++ (join_with_byte c (take i xs) ++ (separator c n ++ x))) size
    ∙ sym (append_assoc start (join_with_byte c (take i xs)) (separator c i ++ x))

pub join_map_step : (f : List ℕ → List ℕ) (c : ℕ) (start : List ℕ) (xs : List (List ℕ)) (i : ℕ) (x : List ℕ) → i < length xs → x ≡ get_or xs i x → start ++ join_with_byte c (map f (take (i + 1) xs)) ≡ (start ++ join_with_byte c (map f (take i xs))) ++ (separator c i ++ f x)
join_map_step f c start xs i x h is =
    ap (λ t. start ++ join_with_byte c t) (sym (take-map f (i + 1) xs))
    ∙ join_step c start (map f xs) i (f x) (omega (arith, h, length-map xs f)) (ap f is ∙ sym (get_or-map f xs i x (f x) h))
    ∙ ap (λ t. (start ++ join_with_byte c t) ++ (separator c i ++ f x)) (take-map f i xs)
