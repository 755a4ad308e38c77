-- A text stands somewhere in a line exactly where the line is that text with bytes around it.
use Rattle.std.proofs.Common.{◌≡◌, ℕ, Bool, true, false, List, [], ◌∷◌, ◌++◌, length, drop, refl, sym, ap, ◌∙◌, ⊎_elim, ◌↔◌}
use Rattle.std.proofs.lemmas.Bool.{or_cases, or_left, or_right}
use Rattle.std.proofs.lemmas.Slice.Eq.{starts_is}
use Rattle.std.proofs.lemmas.Bool.Decides.{Decides-eqb}
use Rattle.std.specs.Str.Iter.{HasSubslice}
use Rattle.cfa_edit_proof.specs.Plain.{contains}
use Rattle.cfa_edit_proof.proofs.Occurrences.{begins}

begun : (text rest : List ℕ) → begins (text ++ rest) text ≡ true
begun text rest = (starts_is Decides-eqb (text ++ rest) text (begins (text ++ rest) text) refl).1 rest refl

here : (line text : List ℕ) → begins line text ≡ true → contains line text ≡ true
here [] text is = is
here (b ∷ bs) text is = or_left (begins (b ∷ bs) text) (contains bs text) is

found_in : (front text back : List ℕ) → contains (front ++ (text ++ back)) text ≡ true
found_in [] text back = here (text ++ back) text (begun text back)
found_in (b ∷ front) text back = or_right (begins (b ∷ (front ++ (text ++ back))) text) (contains (front ++ (text ++ back)) text) (found_in front text back)

at_front : (line text : List ℕ) → begins line text ≡ true → HasSubslice line text
at_front line text is = ([], drop (length text) line, (starts_is Decides-eqb line text (begins line text) refl).0 is)

parts_of : (line text : List ℕ) → contains line text ≡ true → HasSubslice line text
parts_of [] text is = at_front [] text is
parts_of (b ∷ bs) text is =
    ⊎_elim
    (λ front. at_front (b ∷ bs) text front)
    (λ later. let rest = parts_of bs text later in (b ∷ rest.0, rest.1, ap (λ (t : List ℕ). b ∷ t) rest.2))
    (or_cases (begins (b ∷ bs) text) (contains bs text) is)

same_test : (a b : Bool) → (a ≡ true → b ≡ true) → (b ≡ true → a ≡ true) → a ≡ b
same_test true b to back = sym (to refl)
same_test false true to back = back refl
same_test false false to back = refl

pub contained : (found : Bool) (line text : List ℕ) → (found ≡ true) ↔ HasSubslice line text → found ≡ contains line text
contained found line text has =
    same_test found (contains line text)
    (λ is. let parts = has.0 is in ap (λ (l : List ℕ). contains l text) parts.2 ∙ found_in parts.0 text parts.1)
    (λ is. has.1 (parts_of line text is))
