-- Texts that are put together of parts with separators between them: the parts lack the separator, so the text tells them.
use Rattle.std.proofs.Common.{◌≡◌, ◌≢◌, ℕ, ◌+◌, ◌<◌, ◌^◌, ◌%◌, true, false, List, [], ◌∷◌, map, refl, sym, ap, ◌∙◌, arith, eqb, All, nat_eq}
use Rattle.std.specs.Fmt.{decimal}
use Rattle.std.specs.List.{join_with_byte, slice_split, list_all}
use Rattle.std.proofs.lemmas.Bool.{ne_eqb, true≢false, and_parts, eq-eqb}
use Rattle.std.proofs.lemmas.Bool.Decides.{nat_tests}
use Rattle.std.proofs.lemmas.Fmt.{decimal_by_steps}
use Rattle.std.proofs.lemmas.List.Elements.{All-nil, All-cons, All-head, All-tail, All-append, All-push, All-weaker}
use Rattle.std.proofs.lemmas.List.Splits.{slice_split_none, slice_split_at}
use Rattle.cfa_base.specs.Escapes.{escaped, is_field_byte}
use Rattle.cfa_base.specs.Lacking.{Lacks}
use Rattle.cfa_base.specs.lemmas.Escapes.{fields_tell_texts, escaped-avoids}

pub clash : (m n : ℕ) → nat_eq m n ≡ false → m ≡ n → ⊥
clash m n differ e = grind (arith, nat_tests)

-- ---- joined texts

split_at : (c : ℕ) (text : List ℕ) → Lacks c text → All (λ b. eqb b c ≡ false) text
split_at c text none = All-weaker (λ b. b ≢ c) (λ b. eqb b c ≡ false) (λ b ne. ne_eqb b c ne) text none

split_joined : (c : ℕ) (text : List ℕ) (texts : List (List ℕ)) → All (Lacks c) (text ∷ texts) → slice_split (λ b. eqb b c) (join_with_byte c (text ∷ texts)) ≡ text ∷ texts
split_joined c text [] all = slice_split_none (λ b. eqb b c) text (split_at c text (All-head (Lacks c) text [] all))
split_joined c text (next ∷ texts) all =
    slice_split_at (λ b. eqb b c) text c (join_with_byte c (next ∷ texts)) (split_at c text (All-head (Lacks c) text (next ∷ texts) all)) (eq-eqb c c refl)
    ∙ ap (λ parts. text ∷ parts) (split_joined c next texts (All-tail (Lacks c) text (next ∷ texts) all))

pub joined_tells : (c : ℕ) (text other : List ℕ) (texts others : List (List ℕ)) → All (Lacks c) (text ∷ texts) → All (Lacks c) (other ∷ others)
    → join_with_byte c (text ∷ texts) ≡ join_with_byte c (other ∷ others) → text ∷ texts ≡ other ∷ others
joined_tells c text other texts others all all' same =
    sym (split_joined c text texts all) ∙ ap (slice_split (λ b. eqb b c)) same ∙ split_joined c other others all'

-- a byte that no text has and that isn't the separator isn't in the joined texts
pub lacks_joined : (c separator : ℕ) (texts : List (List ℕ)) → separator ≢ c → All (Lacks c) texts → Lacks c (join_with_byte separator texts)
lacks_joined c separator [] ne all = All-nil (λ b. b ≢ c)
lacks_joined c separator (text ∷ []) ne all = All-head (Lacks c) text [] all
lacks_joined c separator (text ∷ next ∷ texts) ne all =
    All-append (λ b. b ≢ c) text (separator ∷ join_with_byte separator (next ∷ texts)) (All-head (Lacks c) text (next ∷ texts) all)
    (All-cons (λ b. b ≢ c) separator (join_with_byte separator (next ∷ texts)) ne (lacks_joined c separator (next ∷ texts) ne (All-tail (Lacks c) text (next ∷ texts) all)))

-- ---- bytes that no field has

pub record IsSeparator (c : ℕ) : Type 0 where
  pub low : c < 65
  pub none : is_field_byte c ≡ false
  pub no_digit : (d : ℕ) → d < 10 → 48 + d ≢ c

differs : (b c : ℕ) → is_field_byte c ≡ false → is_field_byte b ≡ true → b ≢ c
differs b c none field same = true≢false (sym field ∙ ap is_field_byte same ∙ none)

pub lacks_word : (c : ℕ) (word : List ℕ) → is_field_byte c ≡ false → list_all is_field_byte word ≡ true → Lacks c word
lacks_word c [] none all = All-nil (λ b. b ≢ c)
lacks_word c (b ∷ word) none all =
    let both = and_parts (is_field_byte b) (list_all is_field_byte word) all in
    All-cons (λ x. x ≢ c) b word (differs b c none both.0) (lacks_word c word none both.1)

pub lacks_escaped : (c : ℕ) (text : List ℕ) → IsSeparator c → Lacks c (escaped text)
lacks_escaped c text s = escaped-avoids c text s.low s.none

pub all_escaped : (c : ℕ) (texts : List (List ℕ)) → IsSeparator c → All (Lacks c) (map escaped texts)
all_escaped c [] s = All-nil (Lacks c)
all_escaped c (text ∷ texts) s = All-cons (Lacks c) (escaped text) (map escaped texts) (lacks_escaped c text s) (all_escaped c texts s)

pub lacks_decimal : (c n : ℕ) → IsSeparator c → n < 2 ^ 64 → Lacks c (decimal n)
lacks_decimal c n s small =
    decimal_by_steps (λ m ds. Lacks c ds)
    (λ d lt. All-cons (λ b. b ≢ c) (48 + d) [] (s.no_digit d lt) (All-nil (λ b. b ≢ c)))
    (λ m ds ge all. All-push (λ b. b ≢ c) ds (48 + m % 10) all (s.no_digit (m % 10) (omega arith)))
    n small

-- equal fields are those of equal texts
pub all_tell : (texts others : List (List ℕ)) → map escaped texts ≡ map escaped others → texts ≡ others
all_tell [] [] e = refl
all_tell [] (y ∷ ys) e = absurd cc
all_tell (x ∷ xs) [] e = absurd cc
all_tell (x ∷ xs) (y ∷ ys) e =
    let heads : escaped x ≡ escaped y = cc in
    let tails : map escaped xs ≡ map escaped ys = cc in
    let first : x ≡ y = fields_tell_texts x y heads in
    let rest : xs ≡ ys = all_tell xs ys tails in
    cc

pub comma : IsSeparator 44
comma = record { low = omega arith; none = refl; no_digit = λ d lt. λ e. omega arith }
