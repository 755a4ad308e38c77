-- What a word of a command line looks like, to the parser and to the definition.
use Rattle.std.proofs.Common.{◌≡◌, ◌∙◌, ◌==◌, ◌&&◌, ◌<◌, ◌++◌, ◌∷◌, [], List, ℕ, Bool, cond, Option, Some, None, true, false, true≢false, refl, sym, ap, subst}
use Rattle.std.specs.List.{list_any, slice_get}
use Rattle.std.specs.Option.{option_and_then}
use Rattle.std.specs.Str.{IsUtf8, bytes_eq, chars, encode_utf8_all}
use Rattle.std.proofs.lemmas.Bool.{eqb-true}
use Rattle.std.proofs.lemmas.Str.{IsUtf8-past_char, byte_from_char, chars-encodes, encode_ascii}
use lib.Utf8.{scalars}
use Rattle.clap.specs.Lexer.{long_of, long_of_rest, short_of, short_of_rest, strip_byte}
use Rattle.clap.specs.Walk.{Text}
use Rattle.cfa_words.specs.Words.{after_dash, after_two_dashes, any, is_dashed, letters, named, plain, plain_only, word_read}

abbrev pub is_end : Text → Bool
is_end word = bytes_eq word (45 ∷ 45 ∷ [])

pub data Look (word : Text) : Type 0 where
  own_look : is_end word ≡ false → long_of word ≡ None → short_of word ≡ None → word_read word ≡ (plain word ∷ [], any) → is_dashed word ≡ false → Look word
  end_look : is_end word ≡ true → word_read word ≡ ([], plain_only) → is_dashed word ≡ true → Look word
  long_look : (name : Text) (v : Option Text) → is_end word ≡ false → long_of word ≡ Some (name, v) → word_read word ≡ named name v → is_dashed word ≡ true → Look word
  letters_look : (c : ℕ) (more : Text) → word ≡ 45 ∷ c ∷ more → is_end word ≡ false → long_of word ≡ None → short_of word ≡ Some (c ∷ more)
      → word_read word ≡ letters (c ∷ more) → is_dashed word ≡ true → Look word

two_dashes : (more : Text) → Look (45 ∷ 45 ∷ more)
two_dashes [] = end_look refl refl refl
two_dashes (d ∷ ds) = long_look _ _ refl refl refl refl

one_dash : (tail : Text) → Look (45 ∷ tail)
one_dash [] = own_look refl refl refl refl refl
one_dash (c ∷ more) = go (c == 45) refl
  where
    go : (x : Bool) → (c == 45) ≡ x → Look (45 ∷ c ∷ more)
    go true e = subst (λ (b : ℕ). Look (45 ∷ b ∷ more)) (sym (eqb-true c 45 e)) (two_dashes more)
    go false e = letters_look c more refl (ap (λ x. x && bytes_eq more []) e) (ap (λ x. option_and_then long_of_rest (cond x (Some more) None)) e)
        (ap (λ x. cond x None (Some (c ∷ more))) e) (ap (λ x. cond x (after_two_dashes more) (letters (c ∷ more))) e) refl

not_dashed : (b : ℕ) (tail : Text) → (b == 45) ≡ false → is_dashed (b ∷ tail) ≡ false
not_dashed b [] e = refl
not_dashed b (c ∷ more) e = e

pub seen : (word : Text) → Look word
seen [] = own_look refl refl refl refl refl
seen (b ∷ tail) = go (b == 45) refl
  where
    go : (x : Bool) → (b == 45) ≡ x → Look (b ∷ tail)
    go true e = subst (λ (c : ℕ). Look (c ∷ tail)) (sym (eqb-true b 45 e)) (one_dash tail)
    go false e = own_look (ap (λ x. x && bytes_eq tail (45 ∷ [])) e) (ap (λ x. option_and_then long_of_rest (option_and_then (strip_byte 45) (cond x (Some tail) None))) e)
        (ap (λ x. option_and_then short_of_rest (cond x (Some tail) None)) e) (ap (λ x. cond x (after_dash tail) (plain (b ∷ tail) ∷ [], any)) e) (not_dashed b tail e)

-- ---- the first character of letters

nil≢cons : (b : ℕ) (bs : Text) → [] ≡ b ∷ bs → ⊥
nil≢cons b bs e = true≢false (ap (λ (xs : Text). list_any (λ _. true) xs) (sym e))

-- a text has a first character, which is its first byte where it is ASCII
pub first_char : (b : ℕ) (bs : Text) → IsUtf8 (b ∷ bs) → (x : ℕ) × ((slice_get (chars (b ∷ bs)) 0 ≡ Some x) × (x < 128 → x ≡ b))
first_char b bs u = go u.0 u.1.0 u.1.1
  where
    go : (cs : List ℕ) → scalars cs ≡ true → encode_utf8_all cs ≡ b ∷ bs → (x : ℕ) × ((slice_get (chars (b ∷ bs)) 0 ≡ Some x) × (x < 128 → x ≡ b))
    go [] sc e = absurd (nil≢cons b bs e)
    go (x ∷ xs) sc e = (
      x,
      (
        ap (λ (t : Text). slice_get (chars t) 0) (sym e) ∙ ap (λ (t : Text). slice_get t 0) (chars-encodes (x ∷ xs) sc),
        λ lt. sym (byte_from_char (b ∷ bs) (encode_utf8_all xs) x (sym e) lt),
      ),
    )

pub first_K : (bs : Text) → slice_get (chars (75 ∷ bs)) 0 ≡ Some 75
unfolding chars
first_K [] = refl
first_K (b ∷ bs) = refl

pub first_D : (bs : Text) → slice_get (chars (68 ∷ bs)) 0 ≡ Some 68
unfolding chars
first_D [] = refl
first_D (b ∷ bs) = refl

-- what follows an ASCII character is text
pub text_after : (b : ℕ) (bs : Text) → b < 128 → IsUtf8 (b ∷ bs) → IsUtf8 bs
text_after b bs lt u = IsUtf8-past_char (b ∷ bs) bs b u (ap (λ (t : Text). t ++ bs) (sym (encode_ascii b lt)))
