-- What a token's spelling tells: its first byte, and with `:` whether more follows, determines its kind.
use Rattle.std.proofs.Common.{◌≡◌, ℕ, true, false, ◌||◌, List, [], ◌∷◌, ◌++◌, refl, ap, sym, ◌∙◌, subst, ⊎_elim}
use Rattle.std.specs.Prelude.{IsTrue, ◌==◌}
use Rattle.std.specs.Str.{bytes_eq}
use Rattle.std.proofs.lemmas.Bool.{false≢true, eqb-true, and_parts, or_cases, cond-true}
use Rattle.cfa_base.specs.declared.tokens.Kind.{Kind}
use Rattle.cfa_base.specs.declared.tokens.Kind.TheVariants.{Word, Text, Ref, ListRef, FatArrow, ThinArrow, DoubleColon, Colon, Comma, Semicolon, OpenBrace, CloseBrace, OpenParen, CloseParen, Bang, Dot, And, Or}
use Rattle.cfa_base.specs.Lexing.{is_word_byte, is_quote, is_name, name_of, is_reference, is_separator, is_hash, spells}
use Rattle.cfa_base.specs.Scanned.{kind_at}
use Rattle.cfa_base.specs.lemmas.EqualTexts.{is_text}

-- a text that is one of the table's texts
at_bytes : (kind : Kind) (text spelling : List ℕ) → kind_at spelling ≡ kind → IsTrue (bytes_eq text spelling) → kind_at text ≡ kind
at_bytes kind text spelling there same = ap kind_at (is_text text spelling same) ∙ there

pub quote_is : (b : ℕ) (bs : List ℕ) → IsTrue (is_quote b) → kind_at (b ∷ bs) ≡ Text
quote_is b bs h =
    ⊎_elim
    (λ double. ap (λ q. kind_at (q ∷ bs)) (eqb-true b 34 double))
    (λ single. ap (λ q. kind_at (q ∷ bs)) (eqb-true b 39 single))
    (or_cases (b == 34) (b == 39) h)

reference_is : (kind : Kind) (sign : ℕ) (text : List ℕ) →
    ((bs : List ℕ) → kind_at (sign ∷ bs) ≡ kind) → IsTrue (is_reference sign text) → kind_at text ≡ kind
reference_is kind sign text there h =
    let parts = and_parts (is_name (name_of text)) (bytes_eq text (sign ∷ 40 ∷ name_of text ++ 41 ∷ []) || bytes_eq text (sign ∷ 123 ∷ name_of text ++ 125 ∷ [])) h in
    ⊎_elim
    (λ same. ap kind_at (is_text text _ same) ∙ there (40 ∷ name_of text ++ 41 ∷ []))
    (λ same. ap kind_at (is_text text _ same) ∙ there (123 ∷ name_of text ++ 125 ∷ []))
    (or_cases (bytes_eq text (sign ∷ 40 ∷ name_of text ++ 41 ∷ [])) (bytes_eq text (sign ∷ 123 ∷ name_of text ++ 125 ∷ [])) parts.1)

pub kind_is : (kind : Kind) (text : List ℕ) → IsTrue (spells kind text) → kind_at text ≡ kind
kind_is Word [] h = absurd (false≢true h)
kind_is Word (b ∷ bs) h = cond-true (is_word_byte b) Word _ (and_parts (is_word_byte b) _ h).0
kind_is Text [] h = absurd (false≢true h)
kind_is Text (b ∷ bs) h = quote_is b bs (and_parts (is_quote b) _ h).0
kind_is Ref text h = reference_is Ref 36 text (λ bs. refl) h
kind_is ListRef text h = reference_is ListRef 64 text (λ bs. refl) h
kind_is FatArrow text h = at_bytes FatArrow text _ refl h
kind_is ThinArrow text h = at_bytes ThinArrow text _ refl h
kind_is DoubleColon text h = at_bytes DoubleColon text _ refl h
kind_is Colon text h = at_bytes Colon text _ refl h
kind_is Comma text h = at_bytes Comma text _ refl h
kind_is Semicolon text h = at_bytes Semicolon text _ refl h
kind_is OpenBrace text h = at_bytes OpenBrace text _ refl h
kind_is CloseBrace text h = at_bytes CloseBrace text _ refl h
kind_is OpenParen text h = at_bytes OpenParen text _ refl h
kind_is CloseParen text h = at_bytes CloseParen text _ refl h
kind_is Bang text h = at_bytes Bang text _ refl h
kind_is Dot text h = at_bytes Dot text _ refl h
kind_is And text h = at_bytes And text _ refl h
kind_is Or text h =
    ⊎_elim (λ one. at_bytes Or text (124 ∷ []) refl one) (λ two. at_bytes Or text (124 ∷ 124 ∷ []) refl two)
    (or_cases (bytes_eq text (124 ∷ [])) (bytes_eq text (124 ∷ 124 ∷ [])) h)

-- a text that spells a token spells one of its only kind
pub spelled_at : (kind : Kind) (text : List ℕ) → IsTrue (spells kind text) → IsTrue (spells (kind_at text) text)
spelled_at kind text h = subst (λ (k : Kind). IsTrue (spells k text)) (sym (kind_is kind text h)) h

-- no token is empty
pub nothing_spells : (kind : Kind) → IsTrue (spells kind []) → ⊥
nothing_spells kind h = false≢true (spelled_at kind [] h)

-- no token begins with a separator or with `#`
pub separator_begins_none : (kind : Kind) (b : ℕ) (bs : List ℕ) → IsTrue (is_separator b || is_hash b) → IsTrue (spells kind (b ∷ bs)) → ⊥
separator_begins_none kind b bs between h =
    ⊎_elim
    (λ separator. ⊎_elim (λ e. at 32 e (λ x. x))
    (λ more. ⊎_elim (λ e. at 9 e (λ x. x))
    (λ rest. ⊎_elim (λ e. at 13 e (λ x. x)) (λ e. at 10 e (λ x. x)) (or_cases (b == 13) (b == 10) rest))
    (or_cases (b == 9) ((b == 13) || (b == 10)) more))
    (or_cases (b == 32) ((b == 9) || ((b == 13) || (b == 10))) separator))
    (λ e. at 35 e (λ x. x))
    (or_cases (is_separator b) (is_hash b) between)
  where
    at : (n : ℕ) → IsTrue (b == n) → (IsTrue (spells (kind_at (n ∷ bs)) (n ∷ bs)) → false ≡ true) → ⊥
    at n e computed = false≢true (computed (subst (λ (x : ℕ). IsTrue (spells (kind_at (x ∷ bs)) (x ∷ bs))) (eqb-true b n e) (spelled_at kind (b ∷ bs) h)))
