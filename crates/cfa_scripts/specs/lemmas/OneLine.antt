-- A text in which no newline is found is of one line.
use Rattle.std.proofs.Common.{◌≡◌, ◌≢◌, ℕ, ◌==◌, ◌||◌, Bool, true, false, List, [], ◌∷◌, refl, ap, arith}
use Rattle.std.specs.Prelude.{not}
use Rattle.std.specs.List.{list_any}
use Rattle.std.proofs.lemmas.Bool.Decides.{nat_tests}
use Rattle.std.proofs.lemmas.List.Elements.{All-nil, All-cons}
use Rattle.std.proofs.lemmas.Bool.{not-true}
use Rattle.cfa_edits.specs.Scripts.{IsOneLine}

pub not_newline : (b : ℕ) → (b == 10) ≡ false → b ≢ 10
not_newline b h = λ e. grind (arith, nat_tests)

one_line_by : (b : ℕ) (rest : List ℕ) (t u : Bool) → (b == 10) ≡ t → list_any (λ byte. byte == 10) rest ≡ u → not (t || u) ≡ true → (list_any (λ byte. byte == 10) rest ≡ false → IsOneLine rest) → IsOneLine (b ∷ rest)
one_line_by b rest true u here later h next = cc
one_line_by b rest false true here later h next = cc
one_line_by b rest false false here later h next = All-cons (λ byte. byte ≢ 10) b rest (not_newline b here) (next later)

no_newline : (content : List ℕ) → list_any (λ byte. byte == 10) content ≡ false → IsOneLine content
no_newline [] h = All-nil (λ byte. byte ≢ 10)
no_newline (b ∷ rest) h = one_line_by b rest (b == 10) (list_any (λ byte. byte == 10) rest) refl refl (ap not h) (no_newline rest)

pub one_line : (content : List ℕ) → not (list_any (λ byte. byte == 10) content) ≡ true → IsOneLine content
one_line content h = no_newline content (not-true (list_any (λ byte. byte == 10) content) h)
