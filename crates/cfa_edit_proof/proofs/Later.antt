-- What one edit does, by the kinds of two edits: it brings about what it is to, and leaves what an earlier one brought about.
use Rattle.std.proofs.Common.{◌≡◌, ℕ, ◌≤◌, Bool, true, false, not, cond, ◌||◌, List, [], ◌∷◌, get_or, map, Option, Some, All, Ok, refl, sym, ap, ◌∙◌, subst, arith, ⊎_elim, inl, inr, IsUtf8}
use Rattle.std.proofs.lemmas.Bool.{false≢true, or_parts, or_cases, or_left, or_right, and_cases, not-true, not-false, both_ways, cond-false}
use Rattle.std.proofs.lemmas.List.Elements.{All-nil, All-cons, All-map, All-filter, filter_passes, All-weaker}
use Rattle.std.proofs.lemmas.Option.{same_Some}
use Rattle.std.specs.List.{list_any}
use Rattle.std.specs.Str.{bytes_eq}
use Rattle.cfa_base.specs.lemmas.EqualTexts.{same_text, is_text}
use Rattle.cfa_base.specs.Patterns.{PatternText, matches_in, replaced}
use Rattle.cfa_edits.specs.declared.edits.Edit.{Edit}
use Rattle.cfa_edits.specs.declared.edits.Edit.TheVariants.{Delete, Field, Insert, Replace}
use Rattle.cfa_edits.specs.Edits.{Lines, unmatched, with_field, field_edited, is_among, lacking, each_becomes, edited_by}
use Rattle.cfa_edits.specs.Scripts.{IsOneLine, rank}
use Rattle.cfa_edit_proof.specs.Plain.{contains, shares_character}
use Rattle.cfa_edit_proof.specs.Clashes.{has_field, wants_field, clash_by}
use Rattle.cfa_edit_proof.proofs.Occurrences.{IsFree, free_of_test}
use Rattle.cfa_edit_proof.proofs.Bytes.{text_bytes}
use Rattle.cfa_edit_proof.proofs.Searches.{unreplaced}
use Rattle.cfa_edit_proof.proofs.Written.{replaced_free, replaced_lacks, replaced_one_line, replaced_utf8}
use Rattle.cfa_edit_proof.proofs.Fields.{field_again, field_stays, field_utf8, field_one_line}
use Rattle.cfa_edit_proof.proofs.Kept.{Kept, IsSafe, plain_replace, made, each_holds, counted, inserted_holds, lacking_holds, inserted_has, covered, all_among}

-- ---- what holds of each line

-- what holds of a line holds of what the edit makes of it, and of each line that it inserts
abbrev pub Carries : (List ℕ → Type 0) → Edit → Type 0
Carries Q (Delete pattern) = Unit {0}
Carries Q (Field pattern separator number value) = (line changed : List ℕ) → Q line → with_field separator number value line ≡ Some changed → Q changed
Carries Q (Insert block spot) = All Q block
Carries Q (Replace pattern value all) = (line : List ℕ) → Q line → Q (replaced pattern line value all)

by_match : (Q : List ℕ → Type 0) (b : Bool) (o : Option (List ℕ)) (line changed : List ℕ) → Q line → (o ≡ Some changed → Q changed) → cond b o (Some line) ≡ Some changed → Q changed
by_match Q true o line changed h step e = step e
by_match Q false o line changed h step e = subst Q (same_Some line changed e) h

pub lines_hold : (Q : List ℕ → Type 0) (edit : Edit) (lines left : Lines) → Carries Q edit → All Q lines → edited_by edit lines ≡ Ok left → All Q left
lines_hold Q (Delete pattern) lines left carries all e =
    subst (All Q) (made (unmatched pattern lines) left e) (All-filter (λ line. not (matches_in pattern line)) Q lines all)
lines_hold Q (Field pattern separator number value) lines left carries all e =
    each_holds Q Q (λ line. field_edited pattern separator number value line)
    (λ line changed h is. by_match Q (matches_in pattern line) (with_field separator number value line) line changed h (carries line changed h) is)
    lines left all (counted (each_becomes (λ line. field_edited pattern separator number value line) lines) left e)
lines_hold Q (Insert block spot) lines left carries all e = inserted_holds Q spot (lacking lines block) lines left (lacking_holds Q lines block carries) all e
lines_hold Q (Replace pattern value every) lines left carries all e =
    subst (All Q) (made (map (λ line. replaced pattern line value every) lines) left e)
    (All-map Q (λ line. replaced pattern line value every) lines (All-weaker Q (λ line. Q (replaced pattern line value every)) carries lines all))

pub carries_utf8 : (edit : Edit) → IsSafe edit → Carries IsUtf8 edit
carries_utf8 (Delete pattern) safe = tt
carries_utf8 (Field pattern separator number value) safe = λ line changed text e. field_utf8 separator number value line changed safe.texts.0 safe.texts.1 text e
carries_utf8 (Insert block spot) safe = safe.texts
carries_utf8 (Replace pattern value all) safe = λ line text.
    let is = plain_replace pattern value all safe in
    subst (λ (every : Bool). IsUtf8 (replaced pattern line value every)) (sym is.1) (replaced_utf8 pattern line value is.0 text)

-- a text without newlines
abbrev pub IsLine : List ℕ → Type 0
IsLine line = IsUtf8 line × IsOneLine line

pub carries_line : (edit : Edit) → IsSafe edit → Carries IsLine edit
carries_line (Delete pattern) safe = tt
carries_line (Field pattern separator number value) safe = λ line changed is e. (
  field_utf8 separator number value line changed safe.texts.0 safe.texts.1 is.0 e,
  field_one_line separator number value line changed safe.edit_is.1 safe.texts.0 safe.texts.1 is.0 safe.edit_is.3 is.1 e,
)
carries_line (Insert block spot) safe = λ k d lt. (safe.texts k d lt, safe.edit_is.2 k d lt)
carries_line (Replace pattern value all) safe = λ line is.
    let plain = plain_replace pattern value all safe in
    subst (λ (every : Bool). IsLine (replaced pattern line value every)) (sym plain.1)
    (replaced_utf8 pattern line value plain.0 is.0, replaced_one_line pattern line value plain.0 is.0 is.1 safe.edit_is.1)

-- ---- an edit brings about what it is to

either_way : (b : Bool) (o : Option (List ℕ)) (line : List ℕ) → o ≡ Some line → cond b o (Some line) ≡ Some line
either_way true o line e = e
either_way false o line e = refl

field_kept : (pattern : PatternText) (separator number : ℕ) (value line changed : List ℕ) (b : Bool) → matches_in pattern line ≡ b
    → (with_field separator number value line ≡ Some changed → with_field separator number value changed ≡ Some changed)
    → cond b (with_field separator number value line) (Some line) ≡ Some changed → field_edited pattern separator number value changed ≡ Some changed
field_kept pattern separator number value line changed true is again e = either_way (matches_in pattern changed) (with_field separator number value changed) changed (again e)
field_kept pattern separator number value line changed false is again e =
    subst (λ (l : List ℕ). field_edited pattern separator number value l ≡ Some l) (same_Some line changed e)
    (cond-false (matches_in pattern line) (with_field separator number value line) (Some line) is)

pub brings_about : (edit : Edit) (lines left : Lines) → IsSafe edit → All IsUtf8 lines → edited_by edit lines ≡ Ok left → Kept edit left
brings_about (Delete pattern) lines left safe texts e =
    subst (All (λ line. matches_in pattern line ≡ false)) (made (unmatched pattern lines) left e)
    (All-weaker (λ line. not (matches_in pattern line) ≡ true) (λ line. matches_in pattern line ≡ false) (λ line is. not-true (matches_in pattern line) is) (unmatched pattern lines)
    (filter_passes (λ line. not (matches_in pattern line)) lines))
brings_about (Field pattern separator number value) lines left safe texts e =
    each_holds IsUtf8 (λ line. field_edited pattern separator number value line ≡ Some line) (λ line. field_edited pattern separator number value line)
    (λ line changed text is.
    field_kept pattern separator number value line changed (matches_in pattern line) refl
    (λ written. field_again separator number value line changed safe.texts.0 safe.texts.1 safe.alone text written) is)
    lines left texts (counted (each_becomes (λ line. field_edited pattern separator number value line) lines) left e)
brings_about (Insert block spot) lines left safe texts e =
    all_among block (λ line. is_among left line ≡ true)
    (λ line is. inserted_has spot (lacking lines block) lines left line e (⊎_elim (λ old. inr old) (λ new. inl new) (covered lines block line is)))
brings_about (Replace pattern value all) lines left safe texts e =
    let is = plain_replace pattern value all safe in
    subst (All (λ line. IsFree line pattern.text)) (made (map (λ line. replaced pattern line value all) lines) left e)
    (All-map (λ line. IsFree line pattern.text) (λ line. replaced pattern line value all) lines
    (λ k d lt. subst (λ (every : Bool). IsFree (replaced pattern (get_or lines k d) value every) pattern.text) (sym is.1) (replaced_free pattern (get_or lines k d) value is.0 (texts k d lt))))

-- ---- a later edit leaves it

any_none : (test : List ℕ → Bool) (lines : Lines) → list_any test lines ≡ false → All (λ line. test line ≡ false) lines
any_none test [] none = All-nil (λ line. test line ≡ false)
any_none test (line ∷ lines) none =
    let both = or_parts (test line) (list_any test lines) none in
    All-cons (λ l. test l ≡ false) line lines both.0 (any_none test lines both.1)

-- the rules leave open no pair of edits
abbrev pub Apart : Edit → Edit → Type 0
Apart first later = (rule : ℕ) → clash_by rule first later ≡ false

unwanted : (pattern : PatternText) (separator number : ℕ) (value line : List ℕ) → 1 ≤ number → IsUtf8 line → wants_field pattern separator number value line ≡ false
    → field_edited pattern separator number value line ≡ Some line
unwanted pattern separator number value line counted text none =
    ⊎_elim
    (λ miss. cond-false (matches_in pattern line) (with_field separator number value line) (Some line) miss)
    (λ has. either_way (matches_in pattern line) (with_field separator number value line) line
    (field_stays separator number value line counted text (not-false (has_field separator number value line) has)))
    (and_cases (matches_in pattern line) (not (has_field separator number value line)) none)

among_made : (f : List ℕ → List ℕ) (lines : Lines) (line : List ℕ) → is_among lines line ≡ true → f line ≡ line → is_among (map f lines) line ≡ true
among_made f [] line is stays = absurd (false≢true is)
among_made f (x ∷ lines) line is stays =
    ⊎_elim
    (λ same. let equal : line ≡ x = is_text line x same in
    or_left (bytes_eq line (f x)) (is_among (map f lines) line)
    (ap (λ (l : List ℕ). bytes_eq line l) (ap f (sym equal) ∙ stays) ∙ same_text line))
    (λ among. or_right (bytes_eq line (f x)) (is_among (map f lines) line) (among_made f lines line among stays))
    (or_cases (bytes_eq line x) (is_among lines line) is)

pub leaves : (first later : Edit) (lines left : Lines) → IsSafe first → IsSafe later → rank first ≤ rank later → Apart first later → All IsUtf8 lines
    → Kept first lines → edited_by later lines ≡ Ok left → Kept first left
leaves (Delete pattern) (Delete other) lines left safe good order apart texts kept e =
    lines_hold (λ line. matches_in pattern line ≡ false) (Delete other) lines left tt kept e
leaves (Delete pattern) (Field other separator number value) lines left safe good order apart texts kept e =
    absurd (both_ways (clash_by 4 (Delete pattern) (Field other separator number value)) (apart 4) refl)
leaves (Delete pattern) (Insert block spot) lines left safe good order apart texts kept e =
    let test = λ (line : List ℕ). matches_in pattern line in
    let none : (list_any test block || false) ≡ false = apart 2 in
    lines_hold (λ line. matches_in pattern line ≡ false) (Insert block spot) lines left (any_none test block (or_parts (list_any test block) false none).0) kept e
leaves (Delete pattern) (Replace other value all) lines left safe good order apart texts kept e =
    absurd (both_ways (clash_by 4 (Delete pattern) (Replace other value all)) (apart 4) refl)
leaves (Field pattern separator number value) (Delete other) lines left safe good order apart texts kept e = let below : 1 ≤ 0 = order in absurd (omega arith)
leaves (Field pattern separator number value) (Field other mark place written) lines left safe good order apart texts kept e =
    absurd (both_ways (clash_by 4 (Field pattern separator number value) (Field other mark place written)) (apart 4) refl)
leaves (Field pattern separator number value) (Insert block spot) lines left safe good order apart texts kept e =
    let test = λ (line : List ℕ). wants_field pattern separator number value line in
    let none : (list_any test block) ≡ false = apart 6 in
    let each = any_none test block none in
    lines_hold (λ line. field_edited pattern separator number value line ≡ Some line) (Insert block spot) lines left
    (λ k d lt. unwanted pattern separator number value _ safe.edit_is.1 (good.texts k d lt) (each k d lt)) kept e
leaves (Field pattern separator number value) (Replace other written all) lines left safe good order apart texts kept e =
    absurd (both_ways (clash_by 4 (Field pattern separator number value) (Replace other written all)) (apart 4) refl)
leaves (Insert block spot) (Delete other) lines left safe good order apart texts kept e = let below : 2 ≤ 0 = order in absurd (omega arith)
leaves (Insert block spot) (Field other separator number value) lines left safe good order apart texts kept e = let below : 2 ≤ 1 = order in absurd (omega arith)
leaves (Insert block spot) (Insert more place) lines left safe good order apart texts kept e =
    All-weaker (λ line. is_among lines line ≡ true) (λ line. is_among left line ≡ true)
    (λ line old. inserted_has place (lacking lines more) lines left line e (inr old)) block kept
leaves (Insert block spot) (Replace pattern value all) lines left safe good order apart texts kept e =
    let is = plain_replace pattern value all good in
    let test = λ (line : List ℕ). contains line pattern.text in
    let none : (list_any test block || false) ≡ false = apart 3 in
    let each = any_none test block (or_parts (list_any test block) false none).0 in
    subst (λ (ls : Lines). All (λ line. is_among ls line ≡ true) block) (made (map (λ line. replaced pattern line value all) lines) left e)
    (λ k d lt. among_made (λ line. replaced pattern line value all) lines (get_or block k d) (kept k d lt)
    (ap (λ (every : Bool). replaced pattern (get_or block k d) value every) is.1
    ∙ unreplaced pattern (get_or block k d) value is.0.part is.0.plain (text_bytes (get_or block k d) (safe.texts k d lt)) (free_of_test (get_or block k d) pattern.text (each k d lt))))
leaves (Replace pattern value all) (Delete other) lines left safe good order apart texts kept e = let below : 3 ≤ 0 = order in absurd (omega arith)
leaves (Replace pattern value all) (Field other separator number written) lines left safe good order apart texts kept e = let below : 3 ≤ 1 = order in absurd (omega arith)
leaves (Replace pattern value all) (Insert block spot) lines left safe good order apart texts kept e = let below : 3 ≤ 2 = order in absurd (omega arith)
leaves (Replace pattern value all) (Replace other written every) lines left safe good order apart texts kept e =
    let first = plain_replace pattern value all safe in
    let is = plain_replace other written every good in
    let none : (shares_character written pattern.text || false) ≡ false = apart 5 in
    subst (All (λ line. IsFree line pattern.text)) (made (map (λ line. replaced other line written every) lines) left e)
    (All-map (λ line. IsFree line pattern.text) (λ line. replaced other line written every) lines
    (λ k d lt. subst (λ (b : Bool). IsFree (replaced other (get_or lines k d) written b) pattern.text) (sym is.1)
    (replaced_lacks other (get_or lines k d) written pattern.text is.0 (texts k d lt) first.0.plain (or_parts (shares_character written pattern.text) false none).0 (kept k d lt))))
