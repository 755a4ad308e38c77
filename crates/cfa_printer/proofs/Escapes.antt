-- A character other than `"` and a backslash stands in quotes as it is, and a text is escaped character by character.
use Rattle.std.proofs.Common.{◌≡◌, ◌==◌, refl, sym, ◌∙◌, ap, ℕ, suc, ◌<◌, Bool, true, false, List, [], ◌∷◌, ◌++◌, length, get_or, arith}
use Rattle.std.specs.List.{flat_map}
use Rattle.std.specs.Char.{encode_utf8}
use Rattle.std.specs.Str.{encode_utf8_all}
use Rattle.std.proofs.lemmas.Bool.{eqb-true}
use Rattle.std.proofs.lemmas.List.{append-nil, append_assoc}
use Rattle.std.proofs.lemmas.List.Concat.{flat_map-append}
use Rattle.std.proofs.lemmas.Str.{inside_one, encodes-append}
use Rattle.cfa_printer.specs.Printing.{escaped}

escaped_plain : (b : ℕ) → (b ≡ 34 → ⊥) → (b ≡ 92 → ⊥) → escaped b ≡ b ∷ []
escaped_plain b quote backslash = by_tests (b == 34) (b == 92) refl refl
  where
    by_tests : (p q : Bool) → (b == 34) ≡ p → (b == 92) ≡ q → escaped b ≡ b ∷ []
    by_tests true q is also = absurd (quote (eqb-true b 34 is))
    by_tests false true is also = absurd (backslash (eqb-true b 92 also))
    by_tests false false is also = rw (is, also) refl

plain_bytes : (xs : List ℕ) → ((k : ℕ) → k < length xs → (get_or xs k 0 ≡ 34 → ⊥) × (get_or xs k 0 ≡ 92 → ⊥)) → flat_map escaped xs ≡ xs
plain_bytes [] plain = refl
plain_bytes (x ∷ xs) plain =
    let here = plain 0 (omega arith) in
    let more = plain_bytes xs (λ k below. plain (suc k) (omega arith)) in
    ap (λ y. y ++ flat_map escaped xs) (escaped_plain x here.0 here.1) ∙ ap (λ y. x ∷ y) more

pub plain_character : (c : ℕ) → (c ≡ 34 → ⊥) → (c ≡ 92 → ⊥) → flat_map escaped (encode_utf8 c) ≡ encode_utf8 c
plain_character c quote backslash =
    plain_bytes (encode_utf8 c) (λ k below. (
      λ is. quote (inside_one c [] (encode_utf8 c) k (sym (append-nil (encode_utf8 c))) below (omega (arith, is)) ∙ is),
      λ is. backslash (inside_one c [] (encode_utf8 c) k (sym (append-nil (encode_utf8 c))) below (omega (arith, is)) ∙ is),
    ))

-- one character more
pub one_more : (before out new : List ℕ) (cs : List ℕ) (c : ℕ) → out ≡ before ++ flat_map escaped (encode_utf8_all cs) → new ≡ out ++ flat_map escaped (encode_utf8 c) →
    new ≡ before ++ flat_map escaped (encode_utf8_all (cs ++ c ∷ []))
one_more before out new cs c so_far added =
    added ∙ (ap (λ x. x ++ flat_map escaped (encode_utf8 c)) so_far
    ∙ (append_assoc before _ _ ∙ ap (λ x. before ++ x)
    (sym (flat_map-append escaped (encode_utf8_all cs) (encode_utf8 c))
    ∙ ap (flat_map escaped) (ap (λ x. encode_utf8_all cs ++ x) (sym (append-nil (encode_utf8 c))) ∙ sym (encodes-append cs (c ∷ []))))))
