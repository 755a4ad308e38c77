-- Texts joined with a byte between each two, written one after the other.
use Rattle.std.proofs.Common.{◌≡◌, ℕ, ◌+◌, ◌<◌, Bool, true, false, List, [], ◌∷◌, ◌++◌, length, map, take, get_or, refl, sym, ap, ◌∙◌, arith}
use Rattle.std.specs.Prelude.{◌==◌}
use Rattle.std.specs.List.{join_with_byte}
use Rattle.std.proofs.lemmas.Bool.Decides.{nat_tests}
use Rattle.std.proofs.lemmas.List.{append_assoc, append-nil, length-map, length-take-le}
use Rattle.cfa_base.specs.lemmas.Firsts.{one_taken}

-- one more text at the end
join-push : (c : ℕ) (texts : List (List ℕ)) (text : List ℕ) → 0 < length texts → join_with_byte c (texts ++ text ∷ []) ≡ join_with_byte c texts ++ (c ∷ text)
join-push c [] text some = absurd (omega arith)
join-push c (first ∷ []) text some = refl
join-push c (first ∷ next ∷ texts) text some =
    ap (λ joined. first ++ (c ∷ joined)) (join-push c (next ∷ texts) text (omega arith)) ∙ sym (append_assoc first (c ∷ join_with_byte c (next ∷ texts)) (c ∷ text))

-- the first text
pub first_text : {X : Type 0} (c : ℕ) (start text : List ℕ) (f : X → List ℕ) (xs : List X) (i : ℕ) (x : X) → i < length xs → x ≡ get_or xs i x
    → text ≡ start ++ join_with_byte c (map f (take i xs)) → i ≡ 0 → text ++ f x ≡ start ++ join_with_byte c (map f (take (i + 1) xs))
first_text c start text f xs i x lt is so_far zero =
    ap (λ t. t ++ f x) (so_far ∙ ap (λ n. start ++ join_with_byte c (map f (take n xs))) zero ∙ append-nil start)
    ∙ ap (λ n. start ++ join_with_byte c (map f (take n xs) ++ f x ∷ [])) (sym zero)
    ∙ ap (λ texts. start ++ join_with_byte c texts) (sym (one_taken f xs i x lt is))

-- a later one, behind a separator
pub later_text : {X : Type 0} (c : ℕ) (start text : List ℕ) (f : X → List ℕ) (xs : List X) (i : ℕ) (x : X) → i < length xs → x ≡ get_or xs i x
    → text ≡ start ++ join_with_byte c (map f (take i xs)) → 0 < i → (text ++ c ∷ []) ++ f x ≡ start ++ join_with_byte c (map f (take (i + 1) xs))
later_text c start text f xs i x lt is so_far some =
    let texts = map f (take i xs) in
    let long : 0 < length texts = omega (arith, length-map (take i xs) f, length-take-le i xs (omega arith)) in
    ap (λ t. (t ++ c ∷ []) ++ f x) so_far
    ∙ append_assoc (start ++ join_with_byte c texts) (c ∷ []) (f x)
    ∙ append_assoc start (join_with_byte c texts) (c ∷ f x)
    ∙ ap (λ t. start ++ t) (sym (join-push c texts (f x) long) ∙ ap (join_with_byte c) (sym (one_taken f xs i x lt is)))

pub is_zero : (b : Bool) (i : ℕ) → b ≡ (i == 0) → b ≡ true → i ≡ 0
is_zero b i e f = grind (arith, nat_tests)

pub is_later : (b : Bool) (i : ℕ) → b ≡ (i == 0) → b ≡ false → 0 < i
is_later b i e f = grind (arith, nat_tests)

pub not_first : (i : ℕ) → false ≡ (i + 1 == 0)
not_first i = grind (arith, nat_tests)
