-- What stands at the front of a class text, and what a guard becomes by it.
use Rattle.std.proofs.Common.{◌≡◌, ℕ, ◌<◌, Bool, true, false, ◌||◌, ◌&&◌, List, [], ◌∷◌, length, get_or, take, drop, Option, Some, None, refl, ap, sym, ◌∙◌, subst, ⊎_elim, arith}
use Rattle.std.specs.Prelude.{IsTrue, ◌==◌, if◌then◌else◌}
use Rattle.std.specs.List.{list_all}
use Rattle.std.specs.Option.{option_and_then}
use Rattle.std.proofs.lemmas.Bool.{both_ways, and_parts, or_left, or_right, or_cases, eqb-true, cond_both}
use Rattle.std.proofs.lemmas.List.{take-append-drop}
use Rattle.std.proofs.lemmas.List.Folds.{list_all-append}
use Rattle.cfa_base.specs.declared.tokens.Kind.{Kind}
use Rattle.cfa_base.specs.declared.places.Place.{Place}
use Rattle.cfa_base.specs.Tokens.{Token}
use Rattle.cfa_base.specs.Lexing.{is_separator, is_hash, place_past, place_after, Fault, BeginsNone, Scans, a_separator, a_comment, a_token, stops}
use Rattle.cfa_base.specs.Scanned.{scan}
use Rattle.cfa_base.specs.lemmas.Scanning.{scan_scans}
use Rattle.cfa_lexer.specs.Fronts as fronts
use Rattle.cfa_tree.specs.Tree.{ExprTree}
use Rattle.cfa_tree.specs.Grammar.{depth_limit}
use Rattle.cfa_tree.specs.Guards.{GuardState, guard_step}
use Rattle.cfa_tree.specs.ClassTexts.{stays_on_line, state_of, guard_by_all, guard_by_bytes}
use Rattle.cfa_tree.specs.ClassFronts.{is_blank, IsFront, EndsNone}
use Rattle.cfa_tree.proofs.ClassTextLaws.{by_scan}

-- A blank.

blank_separates : (b : ℕ) → IsTrue (is_blank b) → IsTrue (is_separator b) × IsTrue (stays_on_line b)
blank_separates b blank =
    ⊎_elim
    (λ space. at 32 space (refl, refl))
    (λ tab. at 9 tab (refl, refl))
    (or_cases (b == 32) (b == 9) blank)
  where
    at : (n : ℕ) → IsTrue (b == n) → IsTrue (is_separator n) × IsTrue (stays_on_line n) → IsTrue (is_separator b) × IsTrue (stays_on_line b)
    at n is there = subst (λ (x : ℕ). IsTrue (is_separator x) × IsTrue (stays_on_line x)) (sym (eqb-true b n is)) there

-- a blank leaves a guard as it was
pub by_blank : (place : Place) (b : ℕ) (bs : List ℕ) (g : GuardState) → IsTrue (is_blank b) → guard_by_bytes place (b ∷ bs) g ≡ guard_by_bytes (place_past place b) bs g
by_blank place b bs g blank =
    let is = blank_separates b blank in
    by_scan (a_separator is.0 (scan_scans (length bs) (place_past place b) bs (omega arith))) g
    ∙ ap (λ line. if line && list_all stays_on_line bs then guard_by_all (scan (length bs) (place_past place b) bs).tokens (scan (length bs) (place_past place b) bs).fault g else None) is.1

-- A token.

-- what a guard becomes by a token and the bytes behind it
abbrev pub by_next : Place → List ℕ → Option GuardState → Option ExprTree
by_next place rest next = option_and_then (guard_by_bytes place rest) next

token_by_all : (tokens : List Token) (fault : Option Fault) (next : Option GuardState) (one_line : Bool) →
    option_and_then (λ g. if one_line then guard_by_all tokens fault g else None) next ≡ (if one_line then option_and_then (guard_by_all tokens fault) next else None)
token_by_all tokens fault None true = refl
token_by_all tokens fault None false = refl
token_by_all tokens fault (Some g) one_line = refl

token_first : (t : Token) (tokens : List Token) (fault : Option Fault) (g : GuardState) →
    guard_by_all (t ∷ tokens) fault g ≡ option_and_then (guard_by_all tokens fault) (state_of (guard_step depth_limit g t.kind t.text))
token_first t tokens None g = refl
token_first t tokens (Some fault) g = none (state_of (guard_step depth_limit g t.kind t.text))
  where
    none : (next : Option GuardState) → None ≡ option_and_then (guard_by_all tokens (Some fault)) next
    none None = refl
    none (Some next) = refl

pub by_token : (place : Place) (bytes : List ℕ) (kind : Kind) (n : ℕ) (g : GuardState) → IsFront bytes kind n →
    guard_by_bytes place bytes g ≡ by_next (place_after place (take n bytes)) (drop n bytes) (state_of (guard_step depth_limit g kind (take n bytes)))
by_token place bytes kind n g front =
    let text = take n bytes in
    let rest = drop n bytes in
    let behind = place_after place text in
    let scanned = scan (length rest) behind rest in
    let next = state_of (guard_step depth_limit g kind text) in
    let line : list_all stays_on_line bytes ≡ list_all stays_on_line rest =
    ap (list_all stays_on_line) (sym front.takes.cut) ∙ (list_all-append stays_on_line text rest ∙ ap (λ z. z && list_all stays_on_line rest) front.on_line) in
    by_scan (a_token front.takes (scan_scans (length rest) behind rest (omega arith))) g
    ∙ (ap (λ z. if z then guard_by_all (record { kind = kind; text = text; place = place } ∷ scanned.tokens) scanned.fault g else None) line
    ∙ (ap (λ z. if list_all stays_on_line rest then z else None) (token_first (record { kind = kind; text = text; place = place }) scanned.tokens scanned.fault g)
    ∙ sym (token_by_all scanned.tokens scanned.fault next (list_all stays_on_line rest))))

-- No token on the line.

module _ (b : ℕ) where
  -- a separator that is no blank ends the line
  ends_line : is_blank b ≡ false → IsTrue (is_separator b) → stays_on_line b ≡ false
  ends_line no_blank separates = ⊎_elim
      (λ space. absurd (both_ways (is_blank b) no_blank (or_left (b == 32) (b == 9) space)))
      (λ more. ⊎_elim
      (λ tab. absurd (both_ways (is_blank b) no_blank (or_right (b == 32) (b == 9) tab)))
      (λ rest. ⊎_elim (λ e. ap stays_on_line (eqb-true b 13 e)) (λ e. ap stays_on_line (eqb-true b 10 e)) (or_cases (b == 13) (b == 10) rest))
      (or_cases (b == 9) ((b == 13) || (b == 10)) more))
      (or_cases (b == 32) ((b == 9) || ((b == 13) || (b == 10))) separates)

  hash_ends_line : IsTrue (is_hash b) → stays_on_line b ≡ false
  hash_ends_line hash = ap stays_on_line (eqb-true b 35 hash)

none_scans : {place : Place} {b : ℕ} {bs : List ℕ} {tokens : List Token} {fault : Option Fault} → Scans place (b ∷ bs) tokens fault →
    is_blank b ≡ false → BeginsNone (b ∷ bs) → IsTrue (stays_on_line b) → (g : GuardState) → guard_by_all tokens fault g ≡ None
none_scans (a_separator {b = b} is scans) no_blank none line g = absurd (both_ways (stays_on_line b) (ends_line b no_blank is) line)
none_scans (a_comment {b = b} is scans) no_blank none line g = absurd (both_ways (stays_on_line b) (hash_ends_line b is) line)
none_scans (a_token {text = text} {rest = rest} {kind = kind} takes scans) no_blank none line g = absurd (none kind text rest takes.cut takes.spelled)
none_scans (stops neither begins_none) no_blank none line g = refl

pub ends_none : (bytes : List ℕ) → 0 < length bytes → is_blank (get_or bytes 0 0) ≡ false → BeginsNone bytes → EndsNone bytes
ends_none [] some no_blank none place g = absurd (omega arith)
ends_none (b ∷ bs) some no_blank none place g =
    cond_both (list_all stays_on_line (b ∷ bs)) _ _ (λ z. z ≡ None)
    (λ line. none_scans (scan_scans (length (b ∷ bs)) place (b ∷ bs) (omega arith)) no_blank none (and_parts (stays_on_line b) (list_all stays_on_line bs) line).0 g)
    (λ breaks. refl)

-- a byte that ends the line is in no class text
pub line_ends : (bytes : List ℕ) (n : ℕ) → list_all stays_on_line (take n bytes) ≡ false → EndsNone bytes
line_ends bytes n breaks place g =
    let all : list_all stays_on_line bytes ≡ false =
    ap (list_all stays_on_line) (sym (take-append-drop n bytes)) ∙ (list_all-append stays_on_line (take n bytes) (drop n bytes) ∙ ap (λ z. z && list_all stays_on_line (drop n bytes)) breaks) in
    ap (λ z. if z then guard_by_all (scan (length bytes) place bytes).tokens (scan (length bytes) place bytes).fault g else None) all

-- the longest token, where it stays on the line
pub on_one_line : (bytes : List ℕ) (kind : Kind) (n : ℕ) → fronts.IsFront bytes kind n → IsTrue (list_all stays_on_line (take n bytes)) → IsFront bytes kind n
on_one_line bytes kind n front line = record { within = front.within; takes = front.takes; on_line = line }
