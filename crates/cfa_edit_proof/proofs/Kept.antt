-- What an edit brought about, and that no later edit with which it doesn't clash undoes it.
use Rattle.std.proofs.Common.{◌≡◌, ℕ, ◌<◌, Bool, true, false, not, cond, ◌||◌, List, [], ◌∷◌, ◌++◌, length, map, filter, take, drop, Option, None, Some, All, Result, Ok, refl, sym, ap, ◌∙◌, subst, arith, ⊎_elim, ◌⊎◌, inl, inr, nat_eq, IsUtf8}
use Rattle.std.proofs.lemmas.Bool.{true≢false, false≢true, or_parts, or_cases, or_left, or_right, not-false, cond-true}
use Rattle.std.proofs.lemmas.List.{take-append-drop}
use Rattle.std.proofs.lemmas.List.Elements.{All-nil, All-cons, All-head, All-tail, All-append, All-take, All-drop, All-weaker}
use Rattle.std.proofs.lemmas.List.Folds.{list_any-append}
use Rattle.std.specs.Str.{bytes_eq}
use Rattle.cfa_base.specs.lemmas.EqualTexts.{same_text, is_text}
use Rattle.cfa_base.specs.Patterns.{PatternText, matches_in, replaced}
use Rattle.cfa_edits.specs.declared.edits.Edit.{Edit}
use Rattle.cfa_edits.specs.declared.edits.Edit.TheVariants.{Delete, Field, Insert, Replace}
use Rattle.cfa_edits.specs.declared.edits.Spot.{Spot}
use Rattle.cfa_edits.specs.declared.edits.EditErr.{EditErr}
use Rattle.cfa_edits.specs.Edits.{Lines, field_edited, led_by, each_becomes, is_among, lacking, spot_in, put_at, inserted, or_field_count, edited_by}
use Rattle.cfa_edits.specs.Scripts.{IsEdit}
use Rattle.cfa_edit_proof.specs.Plain.{is_plain, shares_character}
use Rattle.cfa_edit_proof.specs.Clashes.{clashes_alone}
use Rattle.cfa_edit_proof.specs.Quiet.{HasTexts}
use Rattle.cfa_edit_proof.proofs.Occurrences.{IsFree}
use Rattle.cfa_edit_proof.proofs.Bytes.{text_bytes}
use Rattle.cfa_edit_proof.proofs.Searches.{unreplaced}
use Rattle.cfa_edit_proof.proofs.Written.{IsPlainReplace}

-- the lines are as the edit leaves them
abbrev pub Kept : Edit → Lines → Type 0
Kept (Delete pattern) lines = All (λ line. matches_in pattern line ≡ false) lines
Kept (Field pattern separator number value) lines = All (λ line. field_edited pattern separator number value line ≡ Some line) lines
Kept (Insert block spot) lines = All (λ line. is_among lines line ≡ true) block
Kept (Replace pattern value all) lines = All (λ line. IsFree line pattern.text) lines

-- ---- an edit that doesn't clash with itself

pub record IsSafe (edit : Edit) : Type 0 where
  pub edit_is : IsEdit edit
  pub texts : HasTexts edit
  pub alone : clashes_alone edit ≡ false

none_filled : (value : List ℕ) → nat_eq (length value) 0 ≡ false → 0 < length value
none_filled [] e = absurd (true≢false e)
none_filled (b ∷ bs) e = omega arith

pub plain_replace : (pattern : PatternText) (value : List ℕ) (all : Bool) → IsSafe (Replace pattern value all) → IsPlainReplace pattern value × (all ≡ true)
plain_replace pattern value all safe =
    let first = or_parts (not all) (not (is_plain pattern.text) || (nat_eq (length value) 0 || shares_character value pattern.text)) safe.alone in
    let second = or_parts (not (is_plain pattern.text)) (nat_eq (length value) 0 || shares_character value pattern.text) first.1 in
    let third = or_parts (nat_eq (length value) 0) (shares_character value pattern.text) second.1 in
    (record { part = safe.edit_is.0; plain = not-false (is_plain pattern.text) second.0; filled = none_filled value third.0; text = safe.texts; apart = third.1 }, not-false all first.0)

-- ---- lists of lines

abbrev pub left_as : Lines → Result Lines EditErr
left_as lines = Ok lines

pub made : (x y : Lines) → left_as x ≡ left_as y → x ≡ y
made x y e = cc

all_leads : (P : List ℕ → Type 0) (o : Option (List ℕ)) (rest : Option Lines) (left : Lines) → led_by o rest ≡ Some left
    → (line : List ℕ) × (more : Lines) × (o ≡ Some line) × (rest ≡ Some more) × (left ≡ line ∷ more)
all_leads P None rest left e = absurd cc
all_leads P (Some line) None left e = absurd cc
all_leads P (Some line) (Some more) left e = let same : line ∷ more ≡ left = cc in (line, more, refl, refl, sym same)

pub each_holds : (P Q : List ℕ → Type 0) (f : List ℕ → Option (List ℕ)) → ((line changed : List ℕ) → P line → f line ≡ Some changed → Q changed)
    → (lines left : Lines) → All P lines → each_becomes f lines ≡ Some left → All Q left
each_holds P Q f step [] left all e = let same : left ≡ [] = cc in subst (All Q) (sym same) (All-nil Q)
each_holds P Q f step (line ∷ lines) left all e =
    let parts = all_leads P (f line) (each_becomes f lines) left e in
    subst (All Q) (sym parts.4)
    (All-cons Q parts.0 parts.1 (step line parts.0 (All-head P line lines all) parts.2) (each_holds P Q f step lines parts.1 (All-tail P line lines all) parts.3))

each_stays : (f : List ℕ → Option (List ℕ)) (lines : Lines) → All (λ line. f line ≡ Some line) lines → each_becomes f lines ≡ Some lines
each_stays f [] all = refl
each_stays f (line ∷ lines) all =
    ap (λ (o : Option (List ℕ)). led_by o (each_becomes f lines)) (All-head (λ l. f l ≡ Some l) line lines all)
    ∙ ap (λ (o : Option Lines). led_by (Some line) o) (each_stays f lines (All-tail (λ l. f l ≡ Some l) line lines all))

pub counted : (o : Option Lines) (left : Lines) → or_field_count o ≡ Ok left → o ≡ Some left
counted None left e = absurd cc
counted (Some lines) left e = let same : lines ≡ left = cc in ap Some same

-- ---- blocks

pub lacking_holds : (P : List ℕ → Type 0) (there block : Lines) → All P block → All P (lacking there block)
lacking_holds P there [] all = All-nil P
lacking_holds P there (line ∷ block) all = by (is_among there line) refl (lacking_holds P (line ∷ there) block (All-tail P line block all)) where
  by : (b : Bool) → is_among there line ≡ b → All P (lacking (line ∷ there) block) → All P (cond b (lacking (line ∷ there) block) (line ∷ lacking (line ∷ there) block))
  by true is rest = rest
  by false is rest = All-cons P line (lacking (line ∷ there) block) (All-head P line block all) rest

-- lines that were put in stand among the others
pub inserted_holds : (P : List ℕ → Type 0) (spot : Spot) (more lines left : Lines) → All P more → All P lines → inserted spot more lines ≡ Ok left → All P left
inserted_holds P spot [] lines left news olds e = subst (All P) (made lines left e) olds
inserted_holds P spot (line ∷ more) lines left news olds e = by (spot_in lines spot) e where
  by : (o : Option ℕ) → put_at o (line ∷ more) lines ≡ Ok left → All P left
  by None e = absurd cc
  by (Some place) e =
      subst (All P) (made (take place lines ++ ((line ∷ more) ++ drop place lines)) left e)
      (All-append P (take place lines) ((line ∷ more) ++ drop place lines) (All-take P place lines olds)
      (All-append P (line ∷ more) (drop place lines) news (All-drop P place lines olds)))

among_three : (front more back : Lines) (line : List ℕ) → (is_among more line ≡ true) ⊎ (is_among (front ++ back) line ≡ true) → is_among (front ++ (more ++ back)) line ≡ true
among_three front more back line is =
    let test = λ (other : List ℕ). bytes_eq line other in
    list_any-append test front (more ++ back) ∙ ap (λ (b : Bool). is_among front line || b) (list_any-append test more back)
    ∙ three (is_among front line) (is_among more line) (is_among back line)
    (⊎_elim (λ news. inl news) (λ olds. inr (sym (list_any-append test front back) ∙ olds)) is)
  where
    three : (a b c : Bool) → (b ≡ true) ⊎ ((a || c) ≡ true) → (a || (b || c)) ≡ true
    three true b c is = refl
    three false true c is = refl
    three false false c is = ⊎_elim (λ e. absurd (false≢true e)) (λ e. e) is

pub inserted_has : (spot : Spot) (more lines left : Lines) (line : List ℕ) → inserted spot more lines ≡ Ok left → (is_among more line ≡ true) ⊎ (is_among lines line ≡ true) → is_among left line ≡ true
inserted_has spot [] lines left line e is =
    subst (λ (ls : Lines). is_among ls line ≡ true) (made lines left e) (⊎_elim (λ none. absurd (false≢true none)) (λ old. old) is)
inserted_has spot (first ∷ more) lines left line e is = by (spot_in lines spot) e where
  by : (o : Option ℕ) → put_at o (first ∷ more) lines ≡ Ok left → is_among left line ≡ true
  by None e = absurd cc
  by (Some place) e =
      subst (λ (ls : Lines). is_among ls line ≡ true) (made (take place lines ++ ((first ∷ more) ++ drop place lines)) left e)
      (among_three (take place lines) (first ∷ more) (drop place lines) line
      (⊎_elim (λ new. inl new) (λ old. inr (ap (λ (ls : Lines). is_among ls line) (take-append-drop place lines) ∙ old)) is))

-- each line of a block is there or lacking
abbrev pub IsCovered : (there more : Lines) → List ℕ → Type 0
IsCovered there more line = (is_among there line ≡ true) ⊎ (is_among more line ≡ true)

or_swapped : (a b : Bool) → (a || b) ≡ true → a ≡ false → b ≡ true
or_swapped true b e no_first = absurd (true≢false no_first)
or_swapped false b e no_first = e

one_step : (there rest : Lines) (first line : List ℕ) (b : Bool) → is_among there first ≡ b → IsCovered (first ∷ there) rest line
    → IsCovered there (cond b rest (first ∷ rest)) line
one_step there rest first line true old is =
    ⊎_elim
    (λ front. ⊎_elim
    (λ same. inl (ap (λ (l : List ℕ). is_among there l) (is_text line first same) ∙ old))
    (λ among. inl among)
    (or_cases (bytes_eq line first) (is_among there line) front))
    (λ behind. inr behind) is
one_step there rest first line false old is =
    ⊎_elim
    (λ front. ⊎_elim
    (λ same. inr (or_left (bytes_eq line first) (is_among rest line) same))
    (λ among. inl among)
    (or_cases (bytes_eq line first) (is_among there line) front))
    (λ behind. inr (or_right (bytes_eq line first) (is_among rest line) behind)) is

pub covered : (there block : Lines) (line : List ℕ) → is_among block line ≡ true → IsCovered there (lacking there block) line
covered there [] line is = absurd (false≢true is)
covered there (first ∷ block) line is =
    one_step there (lacking (first ∷ there) block) first line (is_among there first) refl
    (⊎_elim
    (λ same. inl (or_left (bytes_eq line first) (is_among there line) same))
    (λ among. covered (first ∷ there) block line among)
    (or_cases (bytes_eq line first) (is_among block line) is))

pub all_among : (block : Lines) (P : List ℕ → Type 0) → ((line : List ℕ) → is_among block line ≡ true → P line) → All P block
all_among block P h = go block (λ line is. h line is) where
  go : (ls : Lines) → ((line : List ℕ) → is_among ls line ≡ true → P line) → All P ls
  go [] h = All-nil P
  go (l ∷ ls) h =
      All-cons P l ls (h l (or_left (bytes_eq l l) (is_among ls l) (same_text l)))
      (go ls (λ line is. h line (or_right (bytes_eq line l) (is_among ls line) is)))

nothing_lacks : (there block : Lines) → All (λ line. is_among there line ≡ true) block → lacking there block ≡ []
nothing_lacks there [] all = refl
nothing_lacks there (line ∷ block) all =
    cond-true (is_among there line) (lacking (line ∷ there) block) (line ∷ lacking (line ∷ there) block) (All-head (λ l. is_among there l ≡ true) line block all)
    ∙ nothing_lacks (line ∷ there) block
    (All-weaker (λ l. is_among there l ≡ true) (λ l. is_among (line ∷ there) l ≡ true) (λ l is. or_right (bytes_eq l line) (is_among there l) is) block
    (All-tail (λ l. is_among there l ≡ true) line block all))

map_stays : (f : List ℕ → List ℕ) (lines : Lines) → All (λ line. f line ≡ line) lines → map f lines ≡ lines
map_stays f [] all = refl
map_stays f (line ∷ lines) all =
    ap (λ (l : List ℕ). l ∷ map f lines) (All-head (λ l. f l ≡ l) line lines all) ∙ ap (λ (ls : Lines). line ∷ ls) (map_stays f lines (All-tail (λ l. f l ≡ l) line lines all))

filter_stays : (test : List ℕ → Bool) (lines : Lines) → All (λ line. test line ≡ true) lines → filter test lines ≡ lines
filter_stays test [] all = refl
filter_stays test (line ∷ lines) all =
    cond-true (test line) (line ∷ filter test lines) (filter test lines) (All-head (λ l. test l ≡ true) line lines all)
    ∙ ap (λ (ls : Lines). line ∷ ls) (filter_stays test lines (All-tail (λ l. test l ≡ true) line lines all))

-- ---- lines that are as the edit leaves them it leaves

pub kept_stays : (edit : Edit) (lines : Lines) → IsSafe edit → All IsUtf8 lines → Kept edit lines → edited_by edit lines ≡ Ok lines
kept_stays (Delete pattern) lines safe texts kept =
    ap (λ (ls : Lines). Ok ls)
    (filter_stays (λ line. not (matches_in pattern line)) lines
    (All-weaker (λ line. matches_in pattern line ≡ false) (λ line. not (matches_in pattern line) ≡ true) (λ line miss. ap not miss) lines kept))
kept_stays (Field pattern separator number value) lines safe texts kept =
    ap or_field_count (each_stays (λ line. field_edited pattern separator number value line) lines kept)
kept_stays (Insert block spot) lines safe texts kept =
    ap (λ (more : Lines). inserted spot more lines) (nothing_lacks lines block kept)
kept_stays (Replace pattern value all) lines safe texts kept =
    let is = plain_replace pattern value all safe in
    ap (λ (every : Bool). Ok (map (λ line. replaced pattern line value every) lines)) is.1
    ∙ ap (λ (ls : Lines). Ok ls)
    (map_stays (λ line. replaced pattern line value true) lines
    (λ k d lt. unreplaced pattern _ value is.0.part is.0.plain (text_bytes _ (texts k d lt)) (kept k d lt)))
