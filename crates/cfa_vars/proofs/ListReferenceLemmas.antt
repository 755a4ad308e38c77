-- Where a text that is wholly a list reference may be cut.
use Rattle.std.proofs.Common.{◌≡◌, ◌<◌, ◌+◌, ◌⊎◌, inl, inr, ℕ, Bool, true, false, cond, eqb, List, [], ◌∷◌, length, take, drop, get_or, Option, Some, None, refl, arith, ap, subst, sym, add-suc, add-zero, ◌∙◌, lit<}
use Rattle.std.specs.Option.{option_map}
use Rattle.std.proofs.lemmas.Option.{cond_some, none-some, same_Some}
use Rattle.std.specs.Str.{IsUtf8, IsCharBoundary}
use Rattle.std.proofs.lemmas.Str.{IsCharBoundary-before_ascii, IsCharBoundary-after_ascii}
use Rattle.std.proofs.lemmas.Bool.{eqb-true}
use Rattle.cfa_base.specs.Lexing.{closing_of}
use Rattle.cfa_vars.specs.References.{name_before, reference_at, whole_name, list_reference_of}
use Rattle.cfa_vars.proofs.ReferenceLemmas.{Stands, stands}

pub record Wholly (text name : List ℕ) : Type 0 where
  pub fits : length name + 3 ≡ length text
  pub at_name : IsCharBoundary text 2
  pub behind_name : IsCharBoundary text (2 + length name)
  pub spelled : name ≡ take (length name) (drop 2 text)

whole_of : (size : ℕ) (o : Option (List ℕ)) (name : List ℕ) → whole_name size o ≡ Some name → (o ≡ Some name) × (length name + 1 ≡ size)
whole_of size None name h = absurd (none-some name h)
whole_of size (Some n) name h =
    let c = cond_some _ n name h in
    (ap (λ x. Some x) c.1, ap (λ x. length x + 1) (sym c.1) ∙ eqb-true _ _ c.0)

at_cases : (t : Bool) (o : Option (List ℕ)) (name : List ℕ) → cond t o None ≡ Some name → o ≡ Some name
at_cases true o name h = h
at_cases false o name h = absurd (none-some name h)

ascii : (b x y : ℕ) → (b ≡ x) ⊎ (b ≡ y) → x < 128 → y < 128 → b < 128
ascii b x y (inl e) p q = omega arith
ascii b x y (inr e) p q = omega arith

wholly_by : (at o : ℕ) (rest name : List ℕ) → IsUtf8 (at ∷ o ∷ rest) → length name + 1 ≡ length rest → Stands (36 ∷ o ∷ rest) name → Wholly (at ∷ o ∷ rest) name
wholly_by at o rest name utf8 size s =
    let text : List ℕ = at ∷ o ∷ rest in
    let closed = rw (add-suc, add-suc, add-zero) at s.closed in
    let place : length name + 2 ≡ 2 + length name = omega arith in
    let byte : get_or text (length name + 2) 0 < 128 = rw (add-suc, add-suc, add-zero) (ascii _ 41 125 closed (lit< tt) (lit< tt)) in
    record {
      fits = omega (arith, size);
      at_name = IsCharBoundary-after_ascii text 1 utf8 (omega (arith, size)) (ascii o 40 123 s.opened (lit< tt) (lit< tt));
      behind_name = subst (λ (n : ℕ). IsCharBoundary text n) place (IsCharBoundary-before_ascii text (length name + 2) (omega (arith, size)) byte);
      spelled = s.spelled;
    }

pub wholly : (text name : List ℕ) → IsUtf8 text → list_reference_of text ≡ Some name → Wholly text name
unfolding list_reference_of reference_at
wholly [] name utf8 h = absurd (none-some name h)
wholly (at ∷ []) name utf8 h = absurd (none-some name h)
wholly (at ∷ o ∷ rest) name utf8 h =
    let w = whole_of (length rest) (name_before (closing_of o) rest) name (at_cases (eqb at 64) _ name h) in
    wholly_by at o rest name utf8 w.1 (stands (36 ∷ o ∷ rest) name w.0)

-- the same by the length of the name alone
pub record OfSize (text : List ℕ) (size : ℕ) : Type 0 where
  pub fits : size + 3 ≡ length text
  pub at_name : IsCharBoundary text 2
  pub behind_name : IsCharBoundary text (2 + size)
  pub named : list_reference_of text ≡ Some (take size (drop 2 text))

of_name : (text name : List ℕ) → IsUtf8 text → list_reference_of text ≡ Some name → OfSize text (length name)
of_name text name utf8 h =
    let w = wholly text name utf8 h in
    record { fits = w.fits; at_name = w.at_name; behind_name = w.behind_name; named = h ∙ ap (λ n. Some n) w.spelled }

of_option : (text : List ℕ) (size : ℕ) (o : Option (List ℕ)) → IsUtf8 text → list_reference_of text ≡ o → option_map length o ≡ Some size → OfSize text size
of_option text size None utf8 e h = absurd (none-some size h)
of_option text size (Some name) utf8 e h = subst (λ (n : ℕ). OfSize text n) (same_Some (length name) size h) (of_name text name utf8 e)

pub of_size : (text bytes : List ℕ) (size : ℕ) → IsUtf8 text → bytes ≡ text → Some size ≡ option_map length (list_reference_of bytes) → OfSize text size
of_size text bytes size utf8 same h = of_option text size (list_reference_of text) utf8 refl (ap (λ t. option_map length (list_reference_of t)) (sym same) ∙ sym h)
