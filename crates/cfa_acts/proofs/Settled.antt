-- What a script leaves: its lines as code compares them, and contents that it keeps.
use Rattle.std.proofs.Common.{◌≡◌, ℕ, ◌≤◌, List, [], ◌∷◌, ◌++◌, length, Bool, true, false, cond, ◌&&◌, Option, Some, None, refl, sym, ap, subst, ◌∙◌, arith, length-append, append_assoc, ◌<◌, ◌≢◌, All}
use Rattle.std.proofs.lemmas.Bool.{false≢true, and_parts, and_from, eqb-true, ne_eqb, le-leb, leb-true}
use Rattle.std.proofs.lemmas.Slice.Eq.{bytes_eq-Decides, slice_eq-Decides}
use Rattle.std.proofs.lemmas.Str.{is_utf8-from_IsUtf8, IsUtf8-from_is_utf8}
use Rattle.std.proofs.lemmas.List.Elements.{All-head, All-tail}
use Rattle.std.proofs.lemmas.List.Splits.{join_with_byte-slice_split, length-slice_split}
use Rattle.std.specs.Prelude.{nat_eq, Result, Ok, Err, IfOk, IsTrue, ◌↔◌, IsUtf8}
use Rattle.std.specs.Cmp.Lexicographic.{pointwise}
use Rattle.std.specs.List.{join_with_byte, onto_first}
use Rattle.std.specs.Str.{bytes_eq, is_utf8}
use Rattle.cfa_base.specs.declared.limits.TheConstants.{MOST_FILE_BYTES}
use Rattle.cfa_lines.specs.Decks.{lines_of, lines_of_parts, parts_of, text_of, ended}
use Rattle.cfa_edits.specs.declared.edits.Edit.{Edit}
use Rattle.cfa_edits.specs.declared.edits.EditErr.{EditErr}
use Rattle.cfa_edits.specs.Edits.{Lines, edited}
use Rattle.cfa_edits.specs.Scripts.{IsOneLine}
use Rattle.cfa_outside.specs.declared.worlds.Node.{Node}
use Rattle.cfa_outside.specs.declared.worlds.Node.TheVariants.{File, Dir}
use Rattle.cfa_base.specs.declared.want_of_memory.NoMemory.{NoMemory}
use Rattle.cfa_acts.specs.declared.acts.Reason.TheVariants.{NotText}
use Rattle.cfa_acts.specs.declared.acts.Decision.{Decision}
use Rattle.cfa_acts.specs.declared.acts.Decision.TheVariants.{Fail}
use Rattle.cfa_acts.specs.Acts.{has_bytes}
use Rattle.cfa_acts.specs.Seeing.{line_decision, edit_decision}
use Rattle.cfa_acts.specs.Settling.{is_short, are_left, leaves, is_settled, keeps_content}
use Rattle.cfa_acts.specs.Laws.{SettlesAsLines}

-- a content is no longer than the text of its lines
parts_fit : (parts : List (List ℕ)) → length (join_with_byte 10 parts) ≤ length (text_of (lines_of_parts parts))
parts_fit [] = omega arith
parts_fit (last ∷ []) = by (nat_eq (length last) 0) refl where
  by : (b : Bool) → nat_eq (length last) 0 ≡ b → length last ≤ length (text_of (cond b [] (last ∷ [])))
  by true empty = let none = eqb-true (length last) 0 empty in omega (arith, none)
  by false _ = let front = length-append last (10 ∷ []) in let whole = length-append (ended last) [] in omega (arith, front, whole)
parts_fit (line ∷ next ∷ more) =
    let rest = parts_fit (next ∷ more) in
    let front = length-append line (10 ∷ []) in
    let joined = length-append line (10 ∷ join_with_byte 10 (next ∷ more)) in
    let whole = length-append (ended line) (text_of (lines_of_parts (next ∷ more))) in
    omega (arith, rest, front, joined, whole)

lines_fit : (content : List ℕ) → length content ≤ length (text_of (lines_of content))
lines_fit content = subst (λ (bytes : List ℕ). length bytes ≤ length (text_of (lines_of content))) (join_with_byte-slice_split 10 content) (parts_fit (parts_of content))

short_content : (content : List ℕ) → is_short (text_of (lines_of content)) ≡ true → is_short content ≡ true
short_content content short =
    let within = leb-true (length (text_of (lines_of content))) MOST_FILE_BYTES short in
    let fits = lines_fit content in
    le-leb (length content) MOST_FILE_BYTES (omega (arith, within, fits))

-- a file with a content that the script keeps is settled
pub settled_content : (script : List Edit) (content : List ℕ) (here : Option Node) → keeps_content script content ≡ true → has_bytes content here ≡ true → is_settled script here ≡ true
unfolding keeps_content
settled_content script content (Some (File present _)) kept has =
    let is : present ≡ content = (bytes_eq-Decides present content).0 has in
    let parts = and_parts (leaves script content) (is_short (text_of (lines_of content))) kept in
    subst (λ (text : List ℕ). (is_short text && leaves script text) ≡ true) (sym is)
    (and_from (is_short content) (leaves script content) (short_content content parts.1) parts.0)
settled_content script content (Some (Dir _)) kept has = absurd (false≢true has)
settled_content script content None kept has = absurd (false≢true has)

-- the test of a script on the lines of a text
abbrev made_of : Lines → Result Lines EditErr
made_of left = Ok left

left_lines : (left lines : Lines) (found same : Bool) → pointwise bytes_eq left lines ≡ same → IsTrue found ↔ (made_of left ≡ made_of lines) → found ≡ same
left_lines left lines true true is t = refl
left_lines left lines false false is t = refl
left_lines left lines true false is t =
    let made : made_of left ≡ made_of lines = t.0 refl in
    let equal : left ≡ lines = cc in
    absurd (false≢true (sym is ∙ (slice_eq-Decides bytes_eq-Decides left lines (pointwise bytes_eq left lines) refl).1 equal))
left_lines left lines false true is t = t.1 (ap made_of ((slice_eq-Decides bytes_eq-Decides left lines (pointwise bytes_eq left lines) refl).0 is))

left_by : (made : Result Lines EditErr) (lines : Lines) (found : Bool) → IsTrue found ↔ (made ≡ Ok lines) → found ≡ are_left made lines
left_by (Ok left) lines found test = left_lines left lines found (pointwise bytes_eq left lines) refl test
left_by (Err refused) lines true test = let made : Err refused ≡ Ok lines = test.0 refl in cc
left_by (Err refused) lines false test = refl

left_as_tested : (script : List Edit) (text : List ℕ) (found : Bool) → IsUtf8 text → IsTrue found ↔ (edited script (lines_of text) ≡ Ok (lines_of text)) → found ≡ leaves script text
unfolding leaves
left_as_tested script text found utf8 test =
    left_by (edited script (lines_of text)) (lines_of text) found test
    ∙ ap (λ b. b && are_left (edited script (lines_of text)) (lines_of text)) (sym (is_utf8-from_IsUtf8 text utf8))

pub tested_left : (script : List Edit) (text : List ℕ) (lines : Lines) (answer : Result Bool NoMemory) → IsUtf8 text → lines ≡ lines_of text → IfOk answer (λ found. IsTrue found ↔ (edited script lines ≡ Ok lines)) → IfOk answer (λ left. left ≡ leaves script text)
tested_left script text lines (Ok found) utf8 is test = left_as_tested script text found utf8 (subst (λ (l : Lines). IsTrue found ↔ (edited script l ≡ Ok l)) is test)
tested_left script text lines (Err _) utf8 is test = tt

-- bytes that aren't UTF-8 are left by no script
no_text : (text : List ℕ) → ¬ (IsUtf8 text) → is_utf8 text ≡ false
no_text text bad = by (is_utf8 text) refl where
  by : (b : Bool) → is_utf8 text ≡ b → b ≡ false
  by true is = absurd (bad (IsUtf8-from_is_utf8 text is))
  by false is = refl

and_no : (a b : Bool) → a ≡ false → false ≡ (a && b)
and_no true b is = absurd (false≢true (sym is))
and_no false b is = refl

pub unkept_bytes : (script : List Edit) (content : List ℕ) → ¬ (IsUtf8 content) → false ≡ keeps_content script content
unfolding keeps_content leaves
unkept_bytes script content bad =
    and_no (is_utf8 content && are_left (edited script (lines_of content)) (lines_of content)) (is_short (text_of (lines_of content)))
    (sym (and_no (is_utf8 content) (are_left (edited script (lines_of content)) (lines_of content)) (no_text content bad)))

pub unkept_lines : (script : List Edit) (content : List ℕ) → leaves script content ≡ false → false ≡ keeps_content script content
unfolding keeps_content
unkept_lines script content changed = and_no (leaves script content) (is_short (text_of (lines_of content))) changed

pub kept_lines : (script : List Edit) (content text : List ℕ) → leaves script content ≡ true → text ≡ text_of (lines_of content) → is_short text ≡ keeps_content script content
unfolding keeps_content
kept_lines script content text left is = ap is_short is ∙ ap (λ b. b && is_short (text_of (lines_of content))) (sym left)

-- what the code decides on bytes
pub text_decided : (path : List ℕ) (script : List Edit) (text : List ℕ) (lines : Lines) → IsUtf8 text → lines ≡ lines_of text → line_decision path script lines (edited script lines) ≡ edit_decision path script text
unfolding edit_decision
text_decided path script text lines utf8 is =
    ap (λ (l : Lines). line_decision path script l (edited script l)) is
    ∙ ap (λ b. cond b (line_decision path script (lines_of text) (edited script (lines_of text))) (Fail NotText)) (sym (is_utf8-from_IsUtf8 text utf8))

pub bytes_decided : (path : List ℕ) (script : List Edit) (text : List ℕ) → ¬ (IsUtf8 text) → Fail NotText ≡ edit_decision path script text
unfolding edit_decision
bytes_decided path script text bad = ap (λ b. cond b (line_decision path script (lines_of text) (edited script (lines_of text))) (Fail NotText)) (sym (no_text text bad))

pub same_decision : (answer : Result Decision NoMemory) (d e : Decision) → d ≡ e → IfOk answer (λ a. a ≡ d) → IfOk answer (λ a. a ≡ e)
same_decision answer d e is found = subst (λ (x : Decision). IfOk answer (λ a. a ≡ x)) is found

-- lines without a newline are the lines of their text
parted : (line rest : List ℕ) → IsOneLine line → parts_of (line ++ 10 ∷ rest) ≡ line ∷ parts_of rest
parted [] rest one = refl
parted (b ∷ bs) rest one =
    ap (λ (is : Bool). cond is ([] ∷ parts_of (bs ++ 10 ∷ rest)) (onto_first b (parts_of (bs ++ 10 ∷ rest)))) (ne_eqb b 10 (All-head (λ byte. byte ≢ 10) b bs one))
    ∙ ap (onto_first b) (parted bs rest (All-tail (λ byte. byte ≢ 10) b bs one))

some_part : (text : List ℕ) → 0 < length (parts_of text)
some_part text = let parts = length-slice_split (λ byte. nat_eq byte 10) text in omega (arith, parts)

line_first : (line : List ℕ) (parts : List (List ℕ)) → 0 < length parts → lines_of_parts (line ∷ parts) ≡ line ∷ lines_of_parts parts
line_first line [] some = absurd (omega arith)
line_first line (next ∷ more) some = refl

come_back : (lines : Lines) → All IsOneLine lines → lines_of (text_of lines) ≡ lines
come_back [] ones = refl
come_back (line ∷ lines) ones =
    ap lines_of_parts (ap parts_of (append_assoc line (10 ∷ []) (text_of lines)) ∙ parted line (text_of lines) (All-head IsOneLine line lines ones))
    ∙ line_first line (parts_of (text_of lines)) (some_part (text_of lines))
    ∙ ap (λ (more : Lines). line ∷ more) (come_back lines (All-tail IsOneLine line lines ones))

left_is : (made : Result Lines EditErr) (lines : Lines) → are_left made lines ≡ true → made ≡ Ok lines
left_is (Ok left) lines is = ap made_of ((slice_eq-Decides bytes_eq-Decides left lines (pointwise bytes_eq left lines) refl).0 is)
left_is (Err _) lines is = absurd (false≢true is)

left_same : (made : Result Lines EditErr) (lines : Lines) → made ≡ Ok lines → are_left made lines ≡ true
left_same made lines is = ap (λ (m : Result Lines EditErr). are_left m lines) is ∙ (slice_eq-Decides bytes_eq-Decides lines lines (pointwise bytes_eq lines lines) refl).1 refl

pub settles_as_lines : SettlesAsLines
unfolding leaves
settles_as_lines script lines ones utf8 =
    let back = come_back lines ones in
    let text = is_utf8-from_IsUtf8 (text_of lines) utf8 in
    let as_lines : leaves script (text_of lines) ≡ are_left (edited script lines) lines =
    ap (λ (b : Bool). b && are_left (edited script (lines_of (text_of lines))) (lines_of (text_of lines))) text
    ∙ ap (λ (l : Lines). are_left (edited script l) l) back in
    (λ left. left_is (edited script lines) lines (sym as_lines ∙ left), λ same. as_lines ∙ left_same (edited script lines) lines same)
