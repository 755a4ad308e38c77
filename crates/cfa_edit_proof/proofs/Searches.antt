-- What a search for a plain text finds: the first place from one on where the text stands.
use Rattle.std.proofs.Common.{◌≡◌, ℕ, ◌+◌, ◌<◌, ◌≤◌, zero, suc, Bool, true, false, not, cond, List, [], ◌∷◌, ◌++◌, length, drop, Option, None, Some, All, refl, sym, ap, ◌∙◌, subst, arith, ⊎_elim, nat_eq, slice_get, slice_range, length-drop}
use Rattle.std.proofs.lemmas.Bool.{true≢false, and_parts, eqb-true, ne_eqb, cond-false, cases_lt}
use Rattle.std.proofs.lemmas.Bool.Decides.{nat_tests}
use Rattle.std.proofs.lemmas.List.{drop_all}
use Rattle.std.proofs.lemmas.Option.{none-some, same_Some}
use mathlib.Core.Path.{fun_ext}
use Rattle.regex.specs.Replace.{replaced_by}
use Rattle.regex_hir.specs.Re.{Re, Trace, accept, attempt}
use Rattle.regex_hir.specs.Find.{Match, first_between, find_str, find_after, matches_from}
use Rattle.regex_hir.specs.Text.{has_bytes_at, is_boundary, is_none_or, is_some_and}
use Rattle.regex_hir.proofs.FindLemmas.{first_between_cong, none_of_first_between, IsFirst-of_first_between, first_between_none}
use Rattle.std.specs.Int.{is_in_range}
use Rattle.cfa_base.specs.Patterns.{PatternText, built_text, tree_of, replaced, replaced_in}
use Rattle.cfa_base.specs.declared.patterns.How.{How}
use Rattle.cfa_base.specs.declared.patterns.How.TheVariants.{Part}
use Rattle.cfa_edit_proof.specs.Plain.{is_plain_byte, is_plain}
use Rattle.cfa_edit_proof.proofs.Occurrences.{begins, begins_nothing, IsFree}
use Rattle.cfa_edit_proof.proofs.PlainTexts.{AllPlain, plain_ascii, plain_parts, plain_tree, IsTreeOf}

abbrev pub AreBytes : List ℕ → Type 0
AreBytes line = All (λ x. x < 256) line

-- the text stands at this place
abbrev pub place_of : (text line : List ℕ) → ℕ → Option Trace
place_of text line i = cond (begins (drop i line) text) (Some (record { end = i + length text; writes = [] })) None

abbrev pub search : (text line : List ℕ) → ℕ → Option Match
search text line start = first_between (place_of text line) start (length line)

-- ---- the tree of a plain text finds it

head_is : (line : List ℕ) (i q : ℕ) (p : List ℕ) → begins (drop i line) (q ∷ p) ≡ true → slice_get line i ≡ Some q
head_is [] zero q p is = absurd (true≢false (sym is))
head_is [] (suc i) q p is = absurd (true≢false (sym is))
head_is (b ∷ bs) zero q p is = ap Some (sym (eqb-true q b (and_parts (nat_eq q b) (begins bs p) is).0))
head_is (b ∷ bs) (suc i) q p is = head_is bs i q p is

low_boundary : (q : ℕ) → q < 128 → not (is_in_range 0x80 0xBF q) ≡ true
low_boundary q low = grind (arith, nat_tests)

at_boundary : (line : List ℕ) (i q : ℕ) (p : List ℕ) → q < 128 → begins (drop i line) (q ∷ p) ≡ true → is_boundary line i ≡ true
unfolding is_boundary
at_boundary line i q p low is =
    ap (λ (o : Option ℕ). is_none_or o (λ b. not (is_in_range 0x80 0xBF b))) (head_is line i q p is) ∙ low_boundary q low

at_text : (line : List ℕ) (i : ℕ) (text : List ℕ) → 0 < length text → AllPlain text → begins (drop i line) text ≡ true → is_boundary line i ≡ true
at_text line i [] some plain is = absurd (omega arith)
at_text line i (q ∷ p) some plain is = at_boundary line i q p (plain_ascii q (and_parts (is_plain_byte q) _ plain).0) is

only_there : (bound is : Bool) (t : Trace) → (is ≡ true → bound ≡ true) → cond bound (cond is (Some t) None) None ≡ cond is (Some t) None
only_there true is t h = refl
only_there false true t h = absurd (true≢false (sym (h refl)))
only_there false false t h = refl

pub found_there : (text line : List ℕ) (tree : Re) → IsTreeOf text tree → 0 < length text → AllPlain text → AreBytes line → (start : ℕ)
    → find_str tree line start ≡ search text line start
unfolding find_str attempt has_bytes_at
found_there text line tree reads some plain bytes start =
    first_between_cong (λ i. cond (is_boundary line i) (attempt line tree accept i) None) (place_of text line) start (length line)
    (λ i from to.
    ap (λ (o : Option Trace). cond (is_boundary line i) o None) (reads.same.at line bytes accept i)
    ∙ only_there (is_boundary line i) (begins (drop i line) text) (record { end = i + length text; writes = [] }) (λ is. at_text line i text some plain is))

-- ---- what a search finds

place_none : (b : Bool) (t : Trace) → cond b (Some t) None ≡ None → b ≡ false
place_none true t e = absurd (none-some t (sym e))
place_none false t e = refl

place_some : (b : Bool) (t u : Trace) → cond b (Some t) None ≡ Some u → (b ≡ true) × (t ≡ u)
place_some true t u e = (refl, same_Some t u e)
place_some false t u e = absurd (none-some u e)

pub nowhere : (text line : List ℕ) (start : ℕ) → 0 < length text → search text line start ≡ None → (i : ℕ) → start ≤ i → begins (drop i line) text ≡ false
nowhere text line start some none i from =
    ⊎_elim
    (λ (past : length line < i). ap (λ (t : List ℕ). begins t text) (drop_all i line (omega arith)) ∙ begins_nothing text some)
    (λ (inside : i ≤ length line). place_none (begins (drop i line) text) (record { end = i + length text; writes = [] }) (none_of_first_between (place_of text line) start (length line) none i from inside))
    (cases_lt (length line) i)

begins_within : (t p : List ℕ) → begins t p ≡ true → length p ≤ length t
begins_within t [] is = omega arith
begins_within [] (q ∷ p) is = absurd (true≢false (sym is))
begins_within (c ∷ t) (q ∷ p) is = let rest = begins_within t p (and_parts (nat_eq q c) (begins t p) is).1 in omega (arith, rest)

-- the first place from one on where the text stands
pub record IsPlace (text line : List ℕ) (start : ℕ) (m : Match) : Type 0 where
  pub from : start ≤ m.start
  pub here : begins (drop m.start line) text ≡ true
  pub ends : m.trace.end ≡ m.start + length text
  pub within : m.trace.end ≤ length line
  pub before : (i : ℕ) → start ≤ i → i < m.start → begins (drop i line) text ≡ false

pub somewhere : (text line : List ℕ) (start : ℕ) (m : Match) → search text line start ≡ Some m → IsPlace text line start m
somewhere text line start m found =
    let first = IsFirst-of_first_between (place_of text line) start (length line) m found in
    let parts = place_some (begins (drop m.start line) text) (record { end = m.start + length text; writes = [] }) m.trace first.here in
    let ends : m.trace.end ≡ m.start + length text = sym (ap (λ (t : Trace). t.end) parts.1) in
    let long = begins_within (drop m.start line) text parts.0 in
    let most = first.to in
    record {
      from = first.from;
      here = parts.0;
      ends = ends;
      within = omega (arith, ends, long, most, length-drop m.start line);
      before = λ i from lt. place_none (begins (drop i line) text) (record { end = i + length text; writes = [] }) (first.before i from lt);
    }

pub free_nowhere : (text line : List ℕ) (start : ℕ) → IsFree line text → search text line start ≡ None
free_nowhere text line start free =
    first_between_none (place_of text line) start (length line)
    (λ i from to. cond-false (begins (drop i line) text) (Some (record { end = i + length text; writes = [] })) None (free.at i))

-- ---- all that is found, one behind the other

ends_later : (o : Option Match) (i : ℕ) → ((m : Match) → o ≡ Some m → i < m.trace.end) → is_some_and o (λ m. nat_eq m.trace.end i) ≡ false
ends_later None i later = refl
ends_later (Some m) i later = let past = later m refl in ne_eqb m.trace.end i (λ same. omega (arith, past, same))

pub goes_on : (text line : List ℕ) (i : ℕ) → 0 < length text → find_after (search text line) i ≡ search text line i
goes_on text line i some =
    cond-false (is_some_and (search text line i) (λ m. nat_eq m.trace.end i)) (search text line (i + 1)) (search text line i)
    (ends_later (search text line i) i (λ m found. let at = somewhere text line i m found in let from = at.from in let ends = at.ends in omega (arith, some, from, ends)))

-- the line from a place on, with the value in the place of the text
abbrev pub written : (text line value : List ℕ) (n at : ℕ) → List ℕ
written text line value n at = replaced_by (λ m. value) line at (matches_from (search text line) n (search text line at))

-- what holds of the end of the line, and of a piece that goes on with the value and such a text, holds of the line that is written
pub written_keeps : (text line value : List ℕ) → 0 < length text → (Q : List ℕ → Type 0) (At : ℕ → Type 0)
    → ((at : ℕ) (m : Match) → At at → IsPlace text line at m → At m.trace.end)
    → ((at : ℕ) → At at → search text line at ≡ None → Q (drop at line))
    → ((at : ℕ) (m : Match) (rest : List ℕ) → At at → IsPlace text line at m → Q rest → Q ((slice_range line at m.start ++ value) ++ rest))
    → (n at : ℕ) → length line + 1 ≤ n + at → at ≤ length line → At at → Q (written text line value n at)
unfolding matches_from replaced_by
written_keeps text line value some Q At next last step zero at enough inside here = absurd (omega arith)
written_keeps text line value some Q At next last step (suc n) at enough inside here =
    by (search text line at) refl (λ later from within there. written_keeps text line value some Q At next last step n later from within there)
  where
    by : (o : Option Match) → search text line at ≡ o
        → ((later : ℕ) → length line + 1 ≤ n + later → later ≤ length line → At later → Q (written text line value n later))
        → Q (replaced_by (λ m. value) line at (matches_from (search text line) (suc n) o))
    by None found more = last at here found
    by (Some m) found more =
        let place = somewhere text line at m found in
        let from = place.from in
        let ends = place.ends in
        let rest = more m.trace.end (omega (arith, from, ends, some, enough)) place.within (next at m here place) in
        step at m (replaced_by (λ x. value) line m.trace.end (matches_from (search text line) n (find_after (search text line) m.trace.end))) here place
        (subst (λ (o : Option Match). Q (replaced_by (λ x. value) line m.trace.end (matches_from (search text line) n o))) (sym (goes_on text line m.trace.end some)) rest)

-- ---- patterns

text_as_built : (pattern : PatternText) → pattern.how ≡ Part → built_text pattern.how pattern.text ≡ pattern.text
text_as_built pattern part = ap (λ (h : How). built_text h pattern.text) part

pub replaced_as_written : (pattern : PatternText) (line value : List ℕ) → pattern.how ≡ Part → is_plain pattern.text ≡ true → AreBytes line
    → replaced pattern line value true ≡ written pattern.text line value (length line + 1) 0
unfolding replaced
replaced_as_written pattern line value part plain bytes =
    let parts = plain_parts pattern.text plain in
    let tree = plain_tree pattern.text parts.1 in
    let reads : tree_of (built_text pattern.how pattern.text) ≡ Some tree.0 = ap tree_of (text_as_built pattern part) ∙ tree.1.is in
    let same : find_str tree.0 line ≡ search pattern.text line = fun_ext (λ start. found_there pattern.text line tree.0 tree.1 parts.0 parts.1 bytes start) in
    ap (λ (o : Option Re). replaced_in o line value true) reads
    ∙ ap (λ (f : ℕ → Option Match). replaced_by (λ m. value) line 0 (matches_from f (length line + 1) (f 0))) same

none_written : (search_from : ℕ → Option Match) (line value : List ℕ) (n : ℕ) (o : Option Match) → o ≡ None → replaced_by (λ m. value) line 0 (matches_from search_from (suc n) o) ≡ line
unfolding matches_from replaced_by
none_written search_from line value n None none = refl
none_written search_from line value n (Some m) none = absurd (none-some m (sym none))

-- where the text doesn't stand nothing is replaced
pub unreplaced : (pattern : PatternText) (line value : List ℕ) → pattern.how ≡ Part → is_plain pattern.text ≡ true → AreBytes line → IsFree line pattern.text
    → replaced pattern line value true ≡ line
unreplaced pattern line value part plain bytes free =
    let more : length line + 1 ≡ suc (length line) = omega arith in
    replaced_as_written pattern line value part plain bytes
    ∙ ap (λ (n : ℕ). written pattern.text line value n 0) more
    ∙ none_written (search pattern.text line) line value (length line) (search pattern.text line 0) (free_nowhere pattern.text line 0 free)
