-- A plain text refers to nothing: it has no reference, and is no list reference.
use Rattle.std.proofs.Common.{◌≡◌, refl, ◌∙◌, ap, ℕ, Bool, true, false, ◌||◌, inl, inr, List, [], ◌∷◌, map, None, arith}
use Rattle.std.specs.Prelude.{not}
use Rattle.std.specs.List.{filter_map, list_any}
use Rattle.cfa_vars.specs.References.{reference_at, literal, begun_by, pieces, name_in, names_in, list_reference_of}
use Rattle.cfa_values.specs.Scope.{has_broken_reference, names_or_list, names_referred, refers_out, is_empty_list, is_literal}
use Rattle.cfa_demo_laws.proofs.Plain.{IsPlainByte, IsPlain, other_byte}

no_reference : (b : ℕ) (rest : List ℕ) → IsPlainByte b → reference_at (b ∷ rest) ≡ None
unfolding reference_at
no_reference b [] p = refl
no_reference b (c ∷ rest) p = rw (other_byte b 36 p (inl (omega arith))) refl

pub plain_pieces : (text : List ℕ) → IsPlain text → pieces text ≡ map literal text
unfolding pieces
plain_pieces [] p = refl
plain_pieces (b ∷ rest) p =
    ap (λ found. begun_by b found (pieces rest)) (no_reference b rest p.0) ∙ ap (λ more. literal b ∷ more) (plain_pieces rest p.1)

literals_name_none : (text : List ℕ) → filter_map name_in (map literal text) ≡ []
literals_name_none [] = refl
literals_name_none (b ∷ rest) = literals_name_none rest

pub plain_names_none : (text : List ℕ) → IsPlain text → names_in text ≡ []
plain_names_none text p = ap (filter_map name_in) (plain_pieces text p) ∙ literals_name_none text

not_broken : (text : List ℕ) → IsPlain text → has_broken_reference (map literal text) ≡ false
not_broken [] p = refl
not_broken (b ∷ rest) p = rw (other_byte b 36 p.0 (inl (omega arith))) (not_broken rest p.1)

pub plain_is_no_list : (text : List ℕ) → IsPlain text → list_reference_of text ≡ None
unfolding list_reference_of
plain_is_no_list [] p = refl
plain_is_no_list (b ∷ []) p = refl
plain_is_no_list (b ∷ c ∷ rest) p = rw (other_byte b 64 p.0 (inr (omega arith, omega arith))) refl

pub plain_is_literal : (text : List ℕ) → IsPlain text → is_literal text ≡ true
unfolding is_literal
plain_is_literal text p = ap is_empty_list (plain_names_none text p)

plain_refers_to_none : (text : List ℕ) → IsPlain text → names_referred text ≡ []
unfolding names_referred
plain_refers_to_none text p = ap (λ found. names_or_list found text) (plain_is_no_list text p) ∙ plain_names_none text p

pub plain_stays : (admitted : List ℕ → Bool) (text : List ℕ) → IsPlain text → refers_out admitted text ≡ false
unfolding refers_out
plain_stays admitted text p =
    let broken = ap has_broken_reference (plain_pieces text p) ∙ not_broken text p in
    λ i. broken i || list_any (λ name. not (admitted name)) (plain_refers_to_none text p i)
