-- What holds of a line in which a value was written in the place of a plain text.
use Rattle.std.proofs.Common.{◌≡◌, ◌≢◌, ℕ, ◌+◌, ◌-◌, ◌<◌, ◌≤◌, zero, suc, true, false, List, [], ◌∷◌, ◌++◌, length, drop, get_or, sym, ap, ◌∙◌, subst, arith, nat_eq, slice_range, IsUtf8, IsCharBoundary, append_assoc}
use Rattle.std.proofs.lemmas.Bool.{true≢false, and_parts, eqb-true}
use Rattle.std.proofs.lemmas.List.{drop-drop, get_or-drop}
use Rattle.std.proofs.lemmas.List.Elements.{All-append, All-take, All-drop}
use Rattle.std.proofs.lemmas.Str.{IsUtf8-append, IsUtf8-drop, IsUtf8-between, IsCharBoundary-start, IsCharBoundary-before_ascii, IsCharBoundary-after_ascii}
use Rattle.cfa_base.specs.Patterns.{PatternText, replaced}
use Rattle.cfa_base.specs.declared.patterns.How.TheVariants.{Part}
use Rattle.cfa_edits.specs.Scripts.{IsOneLine}
use Rattle.cfa_edit_proof.specs.Plain.{is_plain, share, shares_character}
use Rattle.cfa_edit_proof.proofs.Occurrences.{begins, IsFree, free_joined, free_start, free_end}
use Rattle.cfa_edit_proof.proofs.PlainTexts.{AllPlain, plain_parts, all_ascii}
use Rattle.cfa_edit_proof.proofs.Searches.{nowhere, written, written_keeps, replaced_as_written}
use Rattle.cfa_edit_proof.proofs.Bytes.{text_bytes, bytes_apart}

-- a piece, the value and the rest
joined : (word : List ℕ) (piece value rest : List ℕ) → share value word ≡ false → 0 < length value → 0 < length word → IsFree piece word → IsFree rest word
    → IsFree ((piece ++ value) ++ rest) word
joined word piece value rest apart some filled front back =
    subst (λ (t : List ℕ). IsFree t word) (sym (append_assoc piece value rest)) (free_joined piece value rest word apart some filled front back)

-- the text itself stands nowhere then
written_free : (text line value : List ℕ) → 0 < length text → 0 < length value → share value text ≡ false
    → (n : ℕ) → length line + 1 ≤ n + 0 → IsFree (written text line value n 0) text
written_free text line value some filled apart n enough =
    written_keeps text line value some (λ t. IsFree t text) (λ at. Unit {0}) (λ at m here place. tt)
    (λ at here none. free_end at line text (λ k from. nowhere text line at some none k from))
    (λ at m rest here place back.
    joined text (slice_range line at m.start) value rest apart filled some
    (free_start (m.start - at) (drop at line) text some
    (λ k lt. ap (λ (t : List ℕ). begins t text) (drop-drop k at line) ∙ place.before (at + k) (omega arith) (omega arith)))
    back)
    n 0 enough (omega arith) tt

-- nor does another that stood nowhere
other_free : (text line value word : List ℕ) → 0 < length text → 0 < length value → 0 < length word → share value word ≡ false → IsFree line word
    → (n : ℕ) → length line + 1 ≤ n + 0 → IsFree (written text line value n 0) word
other_free text line value word some filled long apart free n enough =
    written_keeps text line value some (λ t. IsFree t word) (λ at. Unit {0}) (λ at m here place. tt)
    (λ at here none. free_end at line word (λ k from. free.at k))
    (λ at m rest here place back.
    joined word (slice_range line at m.start) value rest apart filled long
    (free_start (m.start - at) (drop at line) word long
    (λ k lt. ap (λ (t : List ℕ). begins t word) (drop-drop k at line) ∙ free.at (at + k)))
    back)
    n 0 enough (omega arith) tt

written_one_line : (text line value : List ℕ) → 0 < length text → IsOneLine line → IsOneLine value → (n : ℕ) → length line + 1 ≤ n + 0 → IsOneLine (written text line value n 0)
written_one_line text line value some one single n enough =
    let P = λ (b : ℕ). b ≢ 10 in
    written_keeps text line value some IsOneLine (λ at. Unit {0}) (λ at m here place. tt)
    (λ at here none. All-drop P at line one)
    (λ at m rest here place back.
    All-append P (slice_range line at m.start ++ value) rest
    (All-append P (slice_range line at m.start) value (All-take P (m.start - at) (drop at line) (All-drop P at line one)) single) back)
    n 0 enough (omega arith) tt

-- ---- UTF-8

begun_with : (t p : List ℕ) → begins t p ≡ true → (i : ℕ) → i < length p → get_or t i 0 ≡ get_or p i 0
begun_with t [] is i lt = absurd (omega arith)
begun_with [] (q ∷ p) is i lt = absurd (true≢false (sym is))
begun_with (c ∷ t) (q ∷ p) is zero lt = sym (eqb-true q c (and_parts (nat_eq q c) (begins t p) is).0)
begun_with (c ∷ t) (q ∷ p) is (suc i) lt = begun_with t p (and_parts (nat_eq q c) (begins t p) is).1 i (omega arith)

byte_of_text : (text line : List ℕ) (m i : ℕ) → AllPlain text → begins (drop m line) text ≡ true → i < length text → get_or line (m + i) 0 < 128
byte_of_text text line m i plain is lt =
    let ascii : get_or text i 0 < 128 = all_ascii text plain i in
    let same : get_or line (m + i) 0 ≡ get_or text i 0 = sym (get_or-drop m line i 0) ∙ begun_with (drop m line) text is i lt in
    omega (arith, ascii, same)

written_utf8 : (text line value : List ℕ) → 0 < length text → AllPlain text → IsUtf8 line → IsUtf8 value → (n : ℕ) → length line + 1 ≤ n + 0 → IsUtf8 (written text line value n 0)
written_utf8 text line value some plain utf8 good n enough =
    written_keeps text line value some IsUtf8 (IsCharBoundary line)
    (λ at m here place.
    let ends = place.ends in
    let within = place.within in
    let last : m.start + (length text - 1) + 1 ≡ m.trace.end = omega (arith, some, ends) in
    subst (IsCharBoundary line) last
    (IsCharBoundary-after_ascii line (m.start + (length text - 1)) utf8 (omega (arith, some, ends, within)) (byte_of_text text line m.start (length text - 1) plain place.here (omega (arith, some)))))
    (λ at here none. IsUtf8-drop line at utf8 here)
    (λ at m rest here place back.
    let ends = place.ends in
    let within = place.within in
    let first : m.start + 0 ≡ m.start = omega arith in
    let low : get_or line m.start 0 < 128 = subst (λ (i : ℕ). get_or line i 0 < 128) first (byte_of_text text line m.start 0 plain place.here some) in
    let cut = IsCharBoundary-before_ascii line m.start (omega (arith, some, ends, within)) low in
    IsUtf8-append (slice_range line at m.start ++ value) rest
    (IsUtf8-append (slice_range line at m.start) value (IsUtf8-between line at m.start utf8 place.from here cut) good) back)
    n 0 enough (omega arith) (IsCharBoundary-start line utf8)

-- ---- patterns

-- a replace that doesn't clash with itself
pub record IsPlainReplace (pattern : PatternText) (value : List ℕ) : Type 0 where
  pub part : pattern.how ≡ Part
  pub plain : is_plain pattern.text ≡ true
  pub filled : 0 < length value
  pub text : IsUtf8 value
  pub apart : shares_character value pattern.text ≡ false

pub replaced_free : (pattern : PatternText) (line value : List ℕ) → IsPlainReplace pattern value → IsUtf8 line → IsFree (replaced pattern line value true) pattern.text
replaced_free pattern line value is utf8 =
    let parts = plain_parts pattern.text is.plain in
    subst (λ (t : List ℕ). IsFree t pattern.text) (sym (replaced_as_written pattern line value is.part is.plain (text_bytes line utf8)))
    (written_free pattern.text line value parts.0 is.filled (bytes_apart value pattern.text is.text parts.1 is.apart) (length line + 1) (omega arith))

-- another plain text that shares no character with the value
pub replaced_lacks : (pattern : PatternText) (line value word : List ℕ) → IsPlainReplace pattern value → IsUtf8 line → is_plain word ≡ true
    → shares_character value word ≡ false → IsFree line word → IsFree (replaced pattern line value true) word
replaced_lacks pattern line value word is utf8 plain apart free =
    let parts = plain_parts pattern.text is.plain in
    let others = plain_parts word plain in
    subst (λ (t : List ℕ). IsFree t word) (sym (replaced_as_written pattern line value is.part is.plain (text_bytes line utf8)))
    (other_free pattern.text line value word parts.0 is.filled others.0 (bytes_apart value word is.text others.1 apart) free (length line + 1) (omega arith))

pub replaced_one_line : (pattern : PatternText) (line value : List ℕ) → IsPlainReplace pattern value → IsUtf8 line → IsOneLine line → IsOneLine value → IsOneLine (replaced pattern line value true)
replaced_one_line pattern line value is utf8 one single =
    let parts = plain_parts pattern.text is.plain in
    subst IsOneLine (sym (replaced_as_written pattern line value is.part is.plain (text_bytes line utf8)))
    (written_one_line pattern.text line value parts.0 one single (length line + 1) (omega arith))

pub replaced_utf8 : (pattern : PatternText) (line value : List ℕ) → IsPlainReplace pattern value → IsUtf8 line → IsUtf8 (replaced pattern line value true)
replaced_utf8 pattern line value is utf8 =
    let parts = plain_parts pattern.text is.plain in
    subst IsUtf8 (sym (replaced_as_written pattern line value is.part is.plain (text_bytes line utf8)))
    (written_utf8 pattern.text line value parts.0 parts.1 utf8 is.text (length line + 1) (omega arith))
