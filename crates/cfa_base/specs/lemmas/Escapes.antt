-- Escaped fields: a field ends where a byte stands that no field has, such as a space, a comma, a colon, a plus sign or
-- a newline, and tells its text.
use Rattle.std.proofs.Common.{◌≡◌, ◌≢◌, ℕ, ◌/◌, ◌%◌, ◌<◌, List, [], ◌∷◌, ◌++◌, true, false, All, refl, sym, ap, ◌∙◌, ⊎_elim, arith}
use Rattle.std.proofs.lemmas.Bool.{cases_Bool, cond-true, cond-false, both_ways}
use Rattle.std.proofs.lemmas.Bool.Decides.{nat_tests}
use Rattle.std.proofs.lemmas.List.Elements.{All-nil, All-cons, All-append}
use Rattle.std.specs.Fmt.{digit_glyph}
use Rattle.cfa_base.specs.Escapes.{is_kept, escape_of, escaped, is_field_byte, FieldsTellTexts}

-- no field has the byte
abbrev pub IsNoFieldByte : ℕ → Type 0
IsNoFieldByte b = is_field_byte b ≡ false

-- what stands behind a field: nothing, or a byte that no field has first
pub data EndsField : List ℕ → Type 0 where
  at_end : EndsField []
  at_byte : (b : ℕ) (rest : List ℕ) → IsNoFieldByte b → EndsField (b ∷ rest)

pub escaped-nil : escaped [] ≡ []
unfolding escaped
escaped-nil = refl

pub escaped_kept : (b : ℕ) (bs : List ℕ) → is_kept b ≡ true → escaped (b ∷ bs) ≡ b ∷ escaped bs
unfolding escaped
escaped_kept b bs kept = ap (λ x. x ++ escaped bs) (cond-true (is_kept b) (b ∷ []) (escape_of b) kept)

pub escaped_other : (b : ℕ) (bs : List ℕ) → is_kept b ≡ false → escaped (b ∷ bs) ≡ escape_of b ++ escaped bs
unfolding escaped
escaped_other b bs other = ap (λ x. x ++ escaped bs) (cond-false (is_kept b) (b ∷ []) (escape_of b) other)

glyph_tells : (d e : ℕ) → digit_glyph true d ≡ digit_glyph true e → d ≡ e
glyph_tells d e same = grind (arith, nat_tests)

digits_tell : (b c : ℕ) → b / 16 ≡ c / 16 → b % 16 ≡ c % 16 → b ≡ c
digits_tell b c high low = omega arith

percent_is_escaped : (b : ℕ) → b ≡ 37 → is_kept b ≡ false
percent_is_escaped b e = grind (arith, nat_tests)

-- the first byte of what a byte is escaped as is one that fields have
no_end_at_kept : (b : ℕ) (x rest : List ℕ) → is_kept b ≡ true → EndsField rest → rest ≡ b ∷ x → ⊥
no_end_at_kept b x _ kept at_end e = cc
no_end_at_kept b x _ kept (at_byte c rest none) e =
    let same : c ≡ b = cc in
    grind (arith, nat_tests)

no_end_at_percent : (x rest : List ℕ) → EndsField rest → rest ≡ 37 ∷ x → ⊥
no_end_at_percent x _ at_end e = cc
no_end_at_percent x _ (at_byte c rest none) e =
    let same : c ≡ 37 = cc in
    grind (arith, nat_tests)

kept_front : (b : ℕ) (bs rest : List ℕ) → is_kept b ≡ true → escaped (b ∷ bs) ++ rest ≡ b ∷ (escaped bs ++ rest)
kept_front b bs rest kept = ap (λ x. x ++ rest) (escaped_kept b bs kept)

other_front : (b : ℕ) (bs rest : List ℕ) → is_kept b ≡ false → escaped (b ∷ bs) ++ rest ≡ 37 ∷ digit_glyph true (b / 16) ∷ digit_glyph true (b % 16) ∷ (escaped bs ++ rest)
unfolding escape_of
other_front b bs rest other = ap (λ x. x ++ rest) (escaped_other b bs other)

no_end_before : (b : ℕ) (bs rest behind : List ℕ) → EndsField behind → behind ≡ escaped (b ∷ bs) ++ rest → ⊥
no_end_before b bs rest behind ends e =
    ⊎_elim
    (λ kept. no_end_at_kept b (escaped bs ++ rest) behind kept ends (e ∙ kept_front b bs rest kept))
    (λ other. no_end_at_percent (digit_glyph true (b / 16) ∷ digit_glyph true (b % 16) ∷ (escaped bs ++ rest)) behind ends (e ∙ other_front b bs rest other))
    (cases_Bool (is_kept b))

-- two fields with what stands behind them are one text only where the texts are equal, and so is what stands behind
pub escaped-cut : (text other rest behind : List ℕ) → EndsField rest → EndsField behind → escaped text ++ rest ≡ escaped other ++ behind → (text ≡ other) × (rest ≡ behind)
escaped-cut [] [] rest behind ends ends' e =
    let left = ap (λ x. x ++ rest) escaped-nil in
    let right = ap (λ x. x ++ behind) escaped-nil in
    (refl, sym left ∙ e ∙ right)
escaped-cut [] (c ∷ cs) rest behind ends ends' e = absurd (no_end_before c cs behind rest ends (sym (ap (λ x. x ++ rest) escaped-nil) ∙ e))
escaped-cut (b ∷ bs) [] rest behind ends ends' e = absurd (no_end_before b bs rest behind ends' (sym (ap (λ x. x ++ behind) escaped-nil) ∙ sym e))
escaped-cut (b ∷ bs) (c ∷ cs) rest behind ends ends' e =
    ⊎_elim
    (λ kept.
    let left = kept_front b bs rest kept in
    ⊎_elim
    (λ kept'.
    let both : b ∷ (escaped bs ++ rest) ≡ c ∷ (escaped cs ++ behind) = sym left ∙ e ∙ kept_front c cs behind kept' in
    let first : b ≡ c = cc in
    let tail : escaped bs ++ rest ≡ escaped cs ++ behind = cc in
    let more = escaped-cut bs cs rest behind ends ends' tail in
    let same : bs ≡ cs = more.0 in
    (cc, more.1))
    (λ other.
    let both : b ∷ (escaped bs ++ rest) ≡ 37 ∷ digit_glyph true (c / 16) ∷ digit_glyph true (c % 16) ∷ (escaped cs ++ behind) = sym left ∙ e ∙ other_front c cs behind other in
    let first : b ≡ 37 = cc in
    absurd (both_ways (is_kept b) (percent_is_escaped b first) kept))
    (cases_Bool (is_kept c)))
    (λ other.
    let left = other_front b bs rest other in
    ⊎_elim
    (λ kept.
    let both : 37 ∷ digit_glyph true (b / 16) ∷ digit_glyph true (b % 16) ∷ (escaped bs ++ rest) ≡ c ∷ (escaped cs ++ behind) = sym left ∙ e ∙ kept_front c cs behind kept in
    let first : c ≡ 37 = cc in
    absurd (both_ways (is_kept c) (percent_is_escaped c first) kept))
    (λ other'.
    let both : 37 ∷ digit_glyph true (b / 16) ∷ digit_glyph true (b % 16) ∷ (escaped bs ++ rest) ≡ 37 ∷ digit_glyph true (c / 16) ∷ digit_glyph true (c % 16) ∷ (escaped cs ++ behind) = sym left ∙ e ∙ other_front c cs behind other' in
    let high : digit_glyph true (b / 16) ≡ digit_glyph true (c / 16) = cc in
    let low : digit_glyph true (b % 16) ≡ digit_glyph true (c % 16) = cc in
    let first : b ≡ c = digits_tell b c (glyph_tells (b / 16) (c / 16) high) (glyph_tells (b % 16) (c % 16) low) in
    let tail : escaped bs ++ rest ≡ escaped cs ++ behind = cc in
    let more = escaped-cut bs cs rest behind ends ends' tail in
    let same : bs ≡ cs = more.0 in
    (cc, more.1))
    (cases_Bool (is_kept c)))
    (cases_Bool (is_kept b))

pub fields_tell_texts : FieldsTellTexts
fields_tell_texts text other same = (escaped-cut text other [] [] at_end at_end (ap (λ x. x ++ []) same)).0

kept_avoids : (b sep : ℕ) → is_field_byte sep ≡ false → is_kept b ≡ true → b ≡ sep → ⊥
kept_avoids b sep none kept e = grind (arith, nat_tests)

glyph_avoids : (d sep : ℕ) → sep < 65 → is_field_byte sep ≡ false → digit_glyph true d ≡ sep → ⊥
glyph_avoids d sep low none e = grind (arith, nat_tests)

percent_avoids : (sep : ℕ) → is_field_byte sep ≡ false → 37 ≡ sep → ⊥
percent_avoids sep none e = grind (arith, nat_tests)

avoids_3 : (a b c sep : ℕ) → (a ≡ sep → ⊥) → (b ≡ sep → ⊥) → (c ≡ sep → ⊥) → All (λ x. x ≢ sep) (a ∷ b ∷ c ∷ [])
avoids_3 a b c sep h i j =
    All-cons (λ x. x ≢ sep) a (b ∷ c ∷ []) h (All-cons (λ x. x ≢ sep) b (c ∷ []) i (All-cons (λ x. x ≢ sep) c [] j (All-nil (λ x. x ≢ sep))))

escape_avoids : (b sep : ℕ) → sep < 65 → is_field_byte sep ≡ false → All (λ x. x ≢ sep) (escape_of b)
unfolding escape_of
escape_avoids b sep low none =
    avoids_3 37 (digit_glyph true (b / 16)) (digit_glyph true (b % 16)) sep (percent_avoids sep none) (glyph_avoids (b / 16) sep low none) (glyph_avoids (b % 16) sep low none)

-- no field has a space, a newline, a comma, a colon, a semicolon, a plus or an equals sign
pub escaped-avoids : (sep : ℕ) (text : List ℕ) → sep < 65 → is_field_byte sep ≡ false → All (λ x. x ≢ sep) (escaped text)
escaped-avoids sep [] low none = rw escaped-nil (All-nil (λ x. x ≢ sep))
escaped-avoids sep (b ∷ bs) low none =
    let rest = escaped-avoids sep bs low none in
    ⊎_elim
    (λ kept. rw (escaped_kept b bs kept) (All-cons (λ x. x ≢ sep) b (escaped bs) (kept_avoids b sep none kept) rest))
    (λ other. rw (escaped_other b bs other) (All-append (λ x. x ≢ sep) (escape_of b) (escaped bs) (escape_avoids b sep low none) rest))
    (cases_Bool (is_kept b))
