-- A text in quotes, with what has to be escaped escaped, is a quoted text with that content.
use Rattle.std.proofs.Common.{◌≡◌, refl, sym, ◌∙◌, ap, subst, ℕ, ◌-◌, Bool, true, false, List, [], ◌∷◌, ◌++◌, length, take, arith}
use Rattle.std.specs.Prelude.{IsTrue, ◌==◌}
use Rattle.std.specs.List.{flat_map}
use Rattle.std.proofs.lemmas.Bool.{eqb-true}
use Rattle.std.proofs.lemmas.List.{append_assoc, length-append, take_at}
use Rattle.cfa_base.specs.Lexing.{is_quoted, closes, content_of, unescaped}
use Rattle.cfa_printer.specs.Printing.{escaped, quoted}

plain_closes : (b : ℕ) (xs : List ℕ) → (b == 34) ≡ false → (b == 92) ≡ false → IsTrue (closes 34 false xs) → IsTrue (closes 34 false (escaped b ++ xs))
plain_closes b xs quote backslash h = rw (quote, backslash) (rw (quote, backslash) h)

plain_unescaped : (b : ℕ) (xs : List ℕ) → (b == 34) ≡ false → (b == 92) ≡ false → unescaped false (escaped b ++ xs) ≡ b ∷ unescaped false xs
plain_unescaped b xs quote backslash = rw (quote, backslash) (rw (backslash) refl)

byte_closes : (b : ℕ) (xs : List ℕ) → IsTrue (closes 34 false xs) → IsTrue (closes 34 false (escaped b ++ xs))
byte_closes b xs h = by_quote (b == 34) refl
  where
    by_backslash : (q : Bool) → (b == 34) ≡ false → (b == 92) ≡ q → IsTrue (closes 34 false (escaped b ++ xs))
    by_backslash true quote is = subst (λ (x : ℕ). IsTrue (closes 34 false (escaped x ++ xs))) (sym (eqb-true b 92 is)) h
    by_backslash false quote is = plain_closes b xs quote is h

    by_quote : (q : Bool) → (b == 34) ≡ q → IsTrue (closes 34 false (escaped b ++ xs))
    by_quote true is = subst (λ (x : ℕ). IsTrue (closes 34 false (escaped x ++ xs))) (sym (eqb-true b 34 is)) h
    by_quote false is = by_backslash (b == 92) is refl

byte_unescaped : (b : ℕ) (xs : List ℕ) → unescaped false (escaped b ++ xs) ≡ b ∷ unescaped false xs
byte_unescaped b xs = by_quote (b == 34) refl
  where
    by_backslash : (q : Bool) → (b == 34) ≡ false → (b == 92) ≡ q → unescaped false (escaped b ++ xs) ≡ b ∷ unescaped false xs
    by_backslash true quote is = subst (λ (x : ℕ). unescaped false (escaped x ++ xs) ≡ x ∷ unescaped false xs) (sym (eqb-true b 92 is)) refl
    by_backslash false quote is = plain_unescaped b xs quote is

    by_quote : (q : Bool) → (b == 34) ≡ q → unescaped false (escaped b ++ xs) ≡ b ∷ unescaped false xs
    by_quote true is = subst (λ (x : ℕ). unescaped false (escaped x ++ xs) ≡ x ∷ unescaped false xs) (sym (eqb-true b 34 is)) refl
    by_quote false is = by_backslash (b == 92) is refl

closes_escaped : (content : List ℕ) → IsTrue (closes 34 false (flat_map escaped content ++ 34 ∷ []))
closes_escaped [] = refl
closes_escaped (b ∷ bs) =
    subst (λ (x : List ℕ). IsTrue (closes 34 false x)) (sym (append_assoc (escaped b) (flat_map escaped bs) (34 ∷ [])))
    (byte_closes b (flat_map escaped bs ++ 34 ∷ []) (closes_escaped bs))

unescaped_escaped : (content : List ℕ) → unescaped false (flat_map escaped content) ≡ content
unescaped_escaped [] = refl
unescaped_escaped (b ∷ bs) = byte_unescaped b (flat_map escaped bs) ∙ ap (λ x. b ∷ x) (unescaped_escaped bs)

pub quoted_is_quoted : (content : List ℕ) → IsTrue (is_quoted (quoted content))
quoted_is_quoted content = closes_escaped content

pub content_of_quoted : (content : List ℕ) → content_of (quoted content) ≡ content
content_of_quoted content =
    let inner : List ℕ = flat_map escaped content in
    let long : length (34 ∷ inner ++ 34 ∷ []) - 2 ≡ length inner = omega (arith, length-append inner (34 ∷ [])) in
    ap (λ n. unescaped false (take n (inner ++ 34 ∷ []))) long
    ∙ (ap (unescaped false) (take_at inner (34 ∷ []) (length inner) refl) ∙ unescaped_escaped content)
