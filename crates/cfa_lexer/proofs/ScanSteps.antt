-- The loop of the lexer: what was read so far and what the rest scans to is what the whole scans to.
use Rattle.std.proofs.Common.{◌≡◌, ℕ, suc, ◌+◌, ◌≤◌, ◌<◌, false, ◌||◌, List, [], ◌∷◌, ◌++◌, length, get_or, take, drop, ap, sym, ◌∙◌, subst, ⊎_elim, arith, Option, Some, None, IsUtf8, add-one}
use Rattle.std.specs.Prelude.{IsTrue, not, ◌==◌}
use Rattle.std.specs.Str.{IsCharBoundary}
use Rattle.std.proofs.lemmas.Bool.{cond-true, cond-false, cond_both, or_from, or_cases, not_from_false, false_from_ne_true, eqb-true, cases_lt}
use Rattle.std.proofs.lemmas.List.{append_assoc, append-nil, length-take, length-take-le, length-drop, nil_from_length}
use Rattle.std.specs.List.{position_or_len}
use Rattle.std.proofs.lemmas.List.Sums.{prefix_len-le-length, passes_at_first}
use Rattle.std.proofs.lemmas.Str.{IsUtf8-drop, IsCharBoundary-after_ascii, IsCharBoundary-before_ascii, IsCharBoundary-end}
use Rattle.cfa_base.specs.declared.tokens.Kind.{Kind}
use Rattle.cfa_base.specs.declared.places.Place.{Place}
use Rattle.cfa_base.specs.Tokens.{Token}
use Rattle.cfa_base.specs.Lexing.{is_separator, is_hash, is_newline, line_of, past_line, place_past, place_after, first_place, fault_at, Fault, bad_byte, unclosed_text, BeginsNone, Scans, ends, a_separator, a_comment, a_token, stops, Lexes, FirstFault}
use Rattle.cfa_base.specs.lemmas.Boundaries.{boundary_behind}
use Rattle.cfa_lexer.specs.Fronts.{gap_len, IsFront}
use Rattle.cfa_lexer.specs.Lexed.{IsFaultOf, err_of}

-- Places grow by the bytes.
place_bounds : (place : Place) (bytes : List ℕ) → ((place_after place bytes).line ≤ place.line + length bytes) × ((place_after place bytes).col ≤ place.col + length bytes)
place_bounds place [] = (omega arith, omega arith)
place_bounds place (b ∷ bs) =
    let later = place_bounds (place_past place b) bs in
    let past = cond_both (is_newline b) (record { file = place.file; line = place.line + 1; col = 1 }) (record { file = place.file; line = place.line; col = place.col + 1 })
    (λ (p : Place). (p.line ≤ place.line + 1) × (p.col ≤ place.col + 1)) (λ is. (omega arith, omega arith)) (λ isnt. (omega arith, omega arith)) in
    (omega (arith, later.0, past.0), omega (arith, later.1, past.1))

-- what was read of a text is these tokens up to a place, and rest is what stands from there on
pub record ReadTo (text : List ℕ) (file : ℕ) (tokens : List Token) (place : Place) (rest : List ℕ) : Type 0 where
  pub on : (later : List Token) (fault : Option Fault) → Scans place rest later fault → Scans (first_place file) text (tokens ++ later) fault
  pub line : place.line + length rest ≤ 1 + length text
  pub col : place.col + length rest ≤ 1 + length text
  pub utf8 : IsUtf8 rest

pub read_none : (text : List ℕ) (file : ℕ) → IsUtf8 text → ReadTo text file [] (first_place file) text
read_none text file utf8 = record { on = λ later fault scans. scans; line = omega arith; col = omega arith; utf8 = utf8 }

-- Where a text may be cut behind a separator or a comment.

separator_is_ascii : (b : ℕ) → IsTrue (is_separator b) → b < 128
separator_is_ascii b separator =
    ⊎_elim (λ e. omega (arith, eqb-true b 32 e))
    (λ more. ⊎_elim (λ e. omega (arith, eqb-true b 9 e))
    (λ rest. ⊎_elim (λ e. omega (arith, eqb-true b 13 e)) (λ e. omega (arith, eqb-true b 10 e)) (or_cases (b == 13) (b == 10) rest))
    (or_cases (b == 9) ((b == 13) || (b == 10)) more))
    (or_cases (b == 32) ((b == 9) || ((b == 13) || (b == 10))) separator)

-- behind a gap of n bytes the text may be cut, and what stands there goes on
record GapOf (rest : List ℕ) (n : ℕ) : Type 0 where
  boundary : 0 < n → IsCharBoundary rest n
  goes : (place : Place) (later : List Token) (fault : Option Fault) → 0 < n → Scans (place_after place (take n rest)) (drop n rest) later fault → Scans place rest later fault

separator_gap : (b : ℕ) (bs : List ℕ) → IsUtf8 (b ∷ bs) → IsTrue (is_separator b) → GapOf (b ∷ bs) 1
separator_gap b bs utf8 separator = record {
  boundary = λ some. IsCharBoundary-after_ascii (b ∷ bs) 0 utf8 (omega arith) (separator_is_ascii b separator);
  goes = λ place later fault some scans. a_separator separator scans;
}

line_len : (bs : List ℕ) → length (line_of bs) ≡ position_or_len is_newline bs
line_len bs = length-take-le (position_or_len is_newline bs) bs (prefix_len-le-length (λ x. not (is_newline x)) bs)

comment_gap : (b : ℕ) (bs : List ℕ) → IsTrue (is_hash b) → GapOf (b ∷ bs) (suc (length (line_of bs)))
comment_gap b bs hash = record {
  boundary = λ some. ⊎_elim
      (λ (inside : position_or_len is_newline bs < length bs).
      let newline : get_or bs (length (line_of bs)) 0 ≡ 10 =
      eqb-true (get_or bs (length (line_of bs)) 0) 10 (ap (λ n. is_newline (get_or bs n 0)) (line_len bs) ∙ passes_at_first is_newline bs 0 inside) in
      IsCharBoundary-before_ascii (b ∷ bs) (suc (length (line_of bs))) (omega (arith, line_len bs)) (omega arith))
      (λ (past : length bs ≤ position_or_len is_newline bs).
      let all : length (b ∷ bs) ≡ suc (length (line_of bs)) = omega (arith, line_len bs, prefix_len-le-length (λ x. not (is_newline x)) bs) in
      subst (IsCharBoundary (b ∷ bs)) all (IsCharBoundary-end (b ∷ bs)))
      (cases_lt (position_or_len is_newline bs) (length bs));
  goes = λ place later fault some scans.
      a_comment hash (subst (λ (x : List ℕ). Scans (place_after (place_past place b) x) (past_line bs) later fault) (ap (λ n. take n bs) (line_len bs)) scans);
}

no_gap : (rest : List ℕ) → GapOf rest 0
no_gap rest = record { boundary = λ some. absurd (omega arith); goes = λ place later fault some. absurd (omega arith) }

gap_of : (rest : List ℕ) → IsUtf8 rest → GapOf rest (gap_len rest)
gap_of [] utf8 = no_gap []
gap_of (b ∷ bs) utf8 =
    cond_both (is_separator b) _ _ (GapOf (b ∷ bs)) (λ separator. separator_gap b bs utf8 separator)
    (λ other. cond_both (is_hash b) _ _ (GapOf (b ∷ bs))
    (λ hash. subst (GapOf (b ∷ bs)) (sym (add-one (length (line_of bs)))) (comment_gap b bs hash))
    (λ none. no_gap (b ∷ bs)))

pub gap_boundary : (rest : List ℕ) (n : ℕ) → n ≡ gap_len rest → 0 < n → IsUtf8 rest → IsCharBoundary rest n
gap_boundary rest n is some utf8 = subst (λ (m : ℕ). 0 < m → IsCharBoundary rest m) (sym is) (gap_of rest utf8).boundary some

pub front_boundary : (rest : List ℕ) (kind : Kind) (n : ℕ) → IsFront rest kind n → IsUtf8 rest → IsCharBoundary rest n
front_boundary rest kind n front utf8 = boundary_behind rest kind n utf8 front.within front.takes.spelled

-- where no gap and no token stands at the front, the first byte is neither a separator nor `#`
neither : (b : ℕ) (bs : List ℕ) → gap_len (b ∷ bs) ≡ 0 → IsTrue (not (is_separator b || is_hash b))
neither b bs none =
    not_from_false (is_separator b || is_hash b) (or_from (is_separator b) (is_hash b) no_separator
    (false_from_ne_true (is_hash b) (λ hash. omega (arith, sym none ∙ (cond-false (is_separator b) _ _ no_separator ∙ cond-true (is_hash b) _ _ hash)))))
  where
    no_separator : is_separator b ≡ false
    no_separator = false_from_ne_true (is_separator b) (λ separator. omega (arith, sym none ∙ cond-true (is_separator b) _ _ separator))

module _ {text : List ℕ} {file : ℕ} {tokens : List Token} {place : Place} {rest : List ℕ} (read : ReadTo text file tokens place rest) where
  -- a step over n bytes keeps the bounds
  step : (n : ℕ) → n ≤ length rest → IsCharBoundary rest n → (more : List Token) →
      ((later : List Token) (fault : Option Fault) → Scans (place_after place (take n rest)) (drop n rest) later fault → Scans place rest (more ++ later) fault) →
      ReadTo text file (tokens ++ more) (place_after place (take n rest)) (drop n rest)
  step n within boundary more goes =
      let bounds = place_bounds place (take n rest) in
      record {
        on = λ later fault scans. subst (λ (x : List Token). Scans (first_place file) text x fault) (sym (append_assoc tokens more later)) (read.on (more ++ later) fault (goes later fault scans));
        line = omega (arith, bounds.0, read.line, length-take n rest, length-drop n rest);
        col = omega (arith, bounds.1, read.col, length-take n rest, length-drop n rest);
        utf8 = IsUtf8-drop rest n read.utf8 boundary;
      }

  pub read_gap : (n : ℕ) → n ≡ gap_len rest → 0 < n → (front after : List ℕ) → front ≡ take n rest → after ≡ drop n rest → (next : Place) → next ≡ place_after place front →
      ReadTo text file tokens next after
  read_gap n is some front after front_is after_is next next_is =
      let boundary = gap_boundary rest n is some read.utf8 in
      let goes = subst (λ (m : ℕ). (place : Place) (later : List Token) (fault : Option Fault) → 0 < m → Scans (place_after place (take m rest)) (drop m rest) later fault → Scans place rest later fault) (sym is) (gap_of rest read.utf8).goes in
      let stepped = step n boundary.0 boundary [] (λ later fault scans. goes place later fault some scans) in
      let at_next : next ≡ place_after place (take n rest) = next_is ∙ ap (place_after place) front_is in
      subst (λ (p : Place). ReadTo text file tokens p after) (sym at_next)
      (subst (λ (x : List ℕ). ReadTo text file tokens (place_after place (take n rest)) x) (sym after_is)
      (subst (λ (x : List Token). ReadTo text file x (place_after place (take n rest)) (drop n rest)) (append-nil tokens) stepped))

  pub read_token : (kind : Kind) (n : ℕ) → IsFront rest kind n → (front after : List ℕ) → front ≡ take n rest → after ≡ drop n rest → (next : Place) → next ≡ place_after place front →
      ReadTo text file (tokens ++ record { kind = kind; text = front; place = place } ∷ []) next after
  read_token kind n is front after front_is after_is next next_is =
      let stepped = step n is.within (front_boundary rest kind n is read.utf8) (record { kind = kind; text = take n rest; place = place } ∷ []) (λ later fault scans. a_token is.takes scans) in
      let at_next : next ≡ place_after place (take n rest) = next_is ∙ ap (place_after place) front_is in
      subst (λ (p : Place). ReadTo text file (tokens ++ record { kind = kind; text = front; place = place } ∷ []) p after) (sym at_next)
      (subst (λ (x : List ℕ). ReadTo text file (tokens ++ record { kind = kind; text = front; place = place } ∷ []) (place_after place (take n rest)) x) (sym after_is)
      (subst (λ (x : List ℕ). ReadTo text file (tokens ++ record { kind = kind; text = x; place = place } ∷ []) (place_after place (take n rest)) (drop n rest)) (sym front_is) stepped))

  pub read_all : length rest ≡ 0 → Lexes (first_place file) text tokens
  read_all none =
      let at_end = subst (λ (x : List ℕ). Scans place x [] None) (sym (nil_from_length rest none)) ends in
      subst (λ (x : List Token). Lexes (first_place file) text x) (append-nil tokens) (read.on [] None at_end)

  pub read_to_fault : 0 < length rest → gap_len rest ≡ 0 → BeginsNone rest → FirstFault (first_place file) text (fault_at place (get_or rest 0 0))
  read_to_fault some no_gap none = (
    tokens,
    subst (λ (x : List Token). Scans (first_place file) text x (Some (fault_at place (get_or rest 0 0)))) (append-nil tokens)
        (read.on [] (Some (fault_at place (get_or rest 0 0))) (stopped rest some no_gap none)),
  )
    where
      stopped : (rest : List ℕ) → 0 < length rest → gap_len rest ≡ 0 → BeginsNone rest → Scans place rest [] (Some (fault_at place (get_or rest 0 0)))
      stopped [] some no_gap none = absurd (omega arith)
      stopped (b ∷ bs) some no_gap none = stops (neither b bs no_gap) none

-- the error of the first fault is one that may be answered
pub fault_of : (text : List ℕ) (file : ℕ) (fault : Fault) → FirstFault (first_place file) text fault → IsFaultOf text file (err_of fault)
fault_of text file (bad_byte place) first = first
fault_of text file (unclosed_text place) first = first
