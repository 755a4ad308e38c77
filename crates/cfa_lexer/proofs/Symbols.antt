-- The symbol that two bytes begin with is the longest token at the front.
use Rattle.std.proofs.Common.{◌≡◌, ℕ, ◌<◌, true, false, List, [], ◌∷◌, ◌++◌, length, get_or, refl, ap, sym, ◌∙◌, subst, arith, Option, Some, None}
use Rattle.std.specs.Prelude.{IsTrue, if◌then◌else◌, ◌==◌}
use Rattle.std.proofs.lemmas.Bool.{both_ways, eqb-true, eq-eqb, ne_eqb, not_from_false, cond-false, cond_both}
use Rattle.cfa_base.specs.declared.tokens.Kind.{Kind}
use Rattle.cfa_base.specs.declared.tokens.Kind.TheVariants.{FatArrow, ThinArrow, DoubleColon, Colon, Comma, Semicolon, OpenBrace, CloseBrace, OpenParen, CloseParen, Bang, Dot, And, Or}
use Rattle.cfa_base.specs.Lexing.{is_word_byte, is_quote, spells, Takes, BeginsNone}
use Rattle.cfa_base.specs.Scanned.{kind_from}
use Rattle.cfa_base.specs.lemmas.Taking.{fronted, bar_first, takes_fat_arrow, takes_thin_arrow, takes_double_colon, takes_colon, takes_double_bar, takes_bar, takes_comma, takes_semicolon, takes_open_brace, takes_close_brace, takes_open_paren, takes_close_paren, takes_bang, takes_dot, takes_and}
use Rattle.cfa_base.specs.lemmas.EqualTexts.{is_text}
use Rattle.cfa_lexer.specs.Fronts.{symbol_of, TellsFront}

-- the byte that follows, where one does
abbrev second : List ℕ → ℕ
second bs = get_or bs 0 0

-- an arrow that lacks its second byte begins no token
no_arrow : (first : ℕ) (bs : List ℕ) → ((tail : List ℕ) → IsTrue (spells (kind_from first tail) (first ∷ tail)) → tail ≡ 62 ∷ []) → (second bs == 62) ≡ false → BeginsNone (first ∷ bs)
no_arrow first bs only lacks kind front after cut spelled =
    let parts = fronted kind front after first bs cut spelled in
    let rest : 62 ∷ after ≡ bs = ap (λ x. x ++ after) (sym (only parts.0 parts.3)) ∙ parts.2 in
    both_ways (second bs == 62) lacks (ap (λ x. second x == 62) (sym rest))

fat_arrow_tail : (tail : List ℕ) → IsTrue (spells (kind_from 61 tail) (61 ∷ tail)) → tail ≡ 62 ∷ []
fat_arrow_tail tail spelled = let same = is_text (61 ∷ tail) (61 ∷ 62 ∷ []) spelled in cc

thin_arrow_tail : (tail : List ℕ) → IsTrue (spells (kind_from 45 tail) (45 ∷ tail)) → tail ≡ 62 ∷ []
thin_arrow_tail tail spelled = let same = is_text (45 ∷ tail) (45 ∷ 62 ∷ []) spelled in cc

fat_arrow : (bs : List ℕ) → TellsFront (61 ∷ bs) (if second bs == 62 then Some (FatArrow, 2) else None)
fat_arrow [] = no_arrow 61 [] fat_arrow_tail refl
fat_arrow (x ∷ xs) = cond_both (x == 62) (Some (FatArrow, 2)) None (TellsFront (61 ∷ x ∷ xs))
    (λ is. subst (λ (b : ℕ). TellsFront (61 ∷ b ∷ xs) (Some (FatArrow, 2))) (sym (eqb-true x 62 is)) (record { within = omega arith; takes = takes_fat_arrow xs }))
    (λ isnt. no_arrow 61 (x ∷ xs) fat_arrow_tail isnt)

thin_arrow : (bs : List ℕ) → TellsFront (45 ∷ bs) (if second bs == 62 then Some (ThinArrow, 2) else None)
thin_arrow [] = no_arrow 45 [] thin_arrow_tail refl
thin_arrow (x ∷ xs) = cond_both (x == 62) (Some (ThinArrow, 2)) None (TellsFront (45 ∷ x ∷ xs))
    (λ is. subst (λ (b : ℕ). TellsFront (45 ∷ b ∷ xs) (Some (ThinArrow, 2))) (sym (eqb-true x 62 is)) (record { within = omega arith; takes = takes_thin_arrow xs }))
    (λ isnt. no_arrow 45 (x ∷ xs) thin_arrow_tail isnt)

colons : (bs : List ℕ) → TellsFront (58 ∷ bs) (if second bs == 58 then Some (DoubleColon, 2) else Some (Colon, 1))
colons [] = record { within = omega arith; takes = takes_colon [] refl }
colons (x ∷ xs) = cond_both (x == 58) (Some (DoubleColon, 2)) (Some (Colon, 1)) (TellsFront (58 ∷ x ∷ xs))
    (λ is. subst (λ (b : ℕ). TellsFront (58 ∷ b ∷ xs) (Some (DoubleColon, 2))) (sym (eqb-true x 58 is)) (record { within = omega arith; takes = takes_double_colon xs }))
    (λ isnt. record { within = omega arith; takes = takes_colon (x ∷ xs) (not_from_false (x == 58) isnt) })

bars : (bs : List ℕ) → TellsFront (124 ∷ bs) (if second bs == 124 then Some (Or, 2) else Some (Or, 1))
bars [] = record { within = omega arith; takes = takes_bar [] refl }
bars (x ∷ xs) = cond_both (x == 124) (Some (Or, 2)) (Some (Or, 1)) (TellsFront (124 ∷ x ∷ xs))
    (λ is. subst (λ (b : ℕ). TellsFront (124 ∷ b ∷ xs) (Some (Or, 2))) (sym (eqb-true x 124 is)) (record { within = omega arith; takes = takes_double_bar xs }))
    (λ isnt. record { within = omega arith; takes = takes_bar (x ∷ xs) (not_from_false (x == 124) isnt) })

module _ (b : ℕ) (bs : List ℕ) where
  -- what holds at a byte holds at one that equals it
  at : (c : ℕ) (front : Option (Kind × ℕ)) → TellsFront (c ∷ bs) front → (b == c) ≡ true → TellsFront (b ∷ bs) front
  at c front tells is = subst (λ (x : ℕ). TellsFront (x ∷ bs) front) (sym (eqb-true b c is)) tells

  single : (kind : Kind) (c : ℕ) → Takes (c ∷ bs) kind (c ∷ []) bs → (b == c) ≡ true → TellsFront (b ∷ bs) (Some (kind, 1))
  single kind c takes is = at c (Some (kind, 1)) (record { within = omega arith; takes = takes }) is

  pub symbol_tells : is_word_byte b ≡ false → is_quote b ≡ false → (b == 36) ≡ false → (b == 64) ≡ false → TellsFront (b ∷ bs) (symbol_of b (second bs))
  symbol_tells word quote dollar at_sign =
      cond_both (b == 61) _ _ (TellsFront (b ∷ bs)) (at 61 _ (fat_arrow bs)) (λ n61.
      cond_both (b == 45) _ _ (TellsFront (b ∷ bs)) (at 45 _ (thin_arrow bs)) (λ n45.
      cond_both (b == 58) _ _ (TellsFront (b ∷ bs)) (at 58 _ (colons bs)) (λ n58.
      cond_both (b == 124) _ _ (TellsFront (b ∷ bs)) (at 124 _ (bars bs)) (λ n124.
      cond_both (b == 44) _ _ (TellsFront (b ∷ bs)) (single Comma 44 (takes_comma bs)) (λ n44.
      cond_both (b == 59) _ _ (TellsFront (b ∷ bs)) (single Semicolon 59 (takes_semicolon bs)) (λ n59.
      cond_both (b == 123) _ _ (TellsFront (b ∷ bs)) (single OpenBrace 123 (takes_open_brace bs)) (λ n123.
      cond_both (b == 125) _ _ (TellsFront (b ∷ bs)) (single CloseBrace 125 (takes_close_brace bs)) (λ n125.
      cond_both (b == 40) _ _ (TellsFront (b ∷ bs)) (single OpenParen 40 (takes_open_paren bs)) (λ n40.
      cond_both (b == 41) _ _ (TellsFront (b ∷ bs)) (single CloseParen 41 (takes_close_paren bs)) (λ n41.
      cond_both (b == 33) _ _ (TellsFront (b ∷ bs)) (single Bang 33 (takes_bang bs)) (λ n33.
      cond_both (b == 46) _ _ (TellsFront (b ∷ bs)) (single Dot 46 (takes_dot bs)) (λ n46.
      cond_both (b == 38) _ _ (TellsFront (b ∷ bs)) (single And 38 (takes_and bs)) (λ n38.
      λ kind front after cut spelled.
      let parts = fronted kind front after b bs cut spelled in
      let only : kind_from b parts.0 ≡ Or =
      cond-false (is_word_byte b) _ _ word ∙ (cond-false (is_quote b) _ _ quote ∙ (cond-false (b == 36) _ _ dollar ∙ (cond-false (b == 64) _ _ at_sign
      ∙ (cond-false (b == 61) _ _ n61 ∙ (cond-false (b == 45) _ _ n45 ∙ (cond-false (b == 58) _ _ n58 ∙ (cond-false (b == 44) _ _ n44 ∙ (cond-false (b == 59) _ _ n59
      ∙ (cond-false (b == 123) _ _ n123 ∙ (cond-false (b == 125) _ _ n125 ∙ (cond-false (b == 40) _ _ n40 ∙ (cond-false (b == 41) _ _ n41
      ∙ (cond-false (b == 33) _ _ n33 ∙ (cond-false (b == 46) _ _ n46 ∙ cond-false (b == 38) _ _ n38)))))))))))))) in
      let bar = bar_first b parts.0 (subst (λ (k : Kind). IsTrue (spells k (b ∷ parts.0))) only parts.3) in
      both_ways (b == 124) n124 (eq-eqb b 124 bar))))))))))))))

pub symbol_front : (bytes : List ℕ) → 0 < length bytes → is_word_byte (get_or bytes 0 0) ≡ false → is_quote (get_or bytes 0 0) ≡ false → (get_or bytes 0 0 ≡ 36 → ⊥) → (get_or bytes 0 0 ≡ 64 → ⊥) →
    TellsFront bytes (symbol_of (get_or bytes 0 0) (get_or bytes 1 0))
symbol_front [] some word quote dollar at_sign = absurd (omega arith)
symbol_front (b ∷ bs) some word quote dollar at_sign = symbol_tells b bs word quote (ne_eqb b 36 dollar) (ne_eqb b 64 at_sign)
