-- The bytes from a place on have one lexing or one first fault, and never both.
use Rattle.std.proofs.Common.{◌≡◌, ℕ, zero, suc, ◌≤◌, ◌<◌, Bool, true, false, ◌||◌, List, [], ◌∷◌, ◌++◌, length, take, drop, refl, ap, sym, ◌∙◌, subst, ◌⊎◌, inl, inr, ⊎_elim, arith, Option, Some, None}
use Rattle.std.specs.Prelude.{IsTrue, not}
use Rattle.std.proofs.lemmas.Bool.{or_left, or_right, eqb-true, not-true, both_ways, not_from_false, or_from, cases_lt}
use Rattle.std.proofs.lemmas.List.{take_at, drop_at, take-append-drop, length-take-le, length-append, length-drop, nil_from_length}
use Rattle.cfa_base.specs.declared.tokens.Kind.{Kind}
use Rattle.cfa_base.specs.declared.places.Place.{Place}
use Rattle.cfa_base.specs.Tokens.{Token}
use Rattle.cfa_base.specs.Lexing.{spells, is_separator, is_hash, line_of, past_line, place_past, place_after, Fault, Takes, BeginsNone, Scans, ends, a_separator, a_comment, a_token, stops, Lexes, FirstFault}
use Rattle.cfa_base.specs.Scanned.{kind_at, longer_if, longest_len, Scanned, at_front, at_byte, scan}
use Rattle.cfa_base.specs.lemmas.Spelled.{kind_is, spelled_at, nothing_spells, separator_begins_none}

-- two fronts of the same bytes that are equally long are one
pub same_front : (xs s ys t bytes : List ℕ) → xs ++ s ≡ bytes → ys ++ t ≡ bytes → length xs ≡ length ys → (xs ≡ ys) × (s ≡ t)
same_front xs s ys t bytes e f same = (
  sym (take_at xs s (length xs) refl) ∙ (ap (take (length xs)) (e ∙ sym f) ∙ take_at ys t (length xs) (sym same)),
  sym (drop_at xs s (length xs) refl) ∙ (ap (drop (length xs)) (e ∙ sym f) ∙ drop_at ys t (length xs) (sym same)),
)

-- a front that spells a token has the first byte of the bytes
pub front_first : (kind : Kind) (front after : List ℕ) (b : ℕ) (bs : List ℕ) → front ++ after ≡ b ∷ bs → IsTrue (spells kind front) →
    (tail : List ℕ) × (front ≡ b ∷ tail) × (tail ++ after ≡ bs)
front_first kind [] after b bs cut spelled = absurd (nothing_spells kind spelled)
front_first kind (x ∷ xs) after b bs cut spelled =
    let first : x ≡ b = cc in
    let rest : xs ++ after ≡ bs = cc in
    (xs, ap (λ y. y ∷ xs) first, rest)

-- The longest token is one.
pub takes_same : {bytes : List ℕ} {kind other : Kind} {text rest front after : List ℕ} → Takes bytes kind text rest → Takes bytes other front after →
    (kind ≡ other) × (text ≡ front) × (rest ≡ after)
takes_same {bytes} {kind} {other} {text} {rest} {front} {after} a b =
    let longer : length front ≤ length text = a.longest other front after b.cut b.spelled in
    let shorter : length text ≤ length front = b.longest kind text rest a.cut a.spelled in
    let same = same_front text rest front after bytes a.cut b.cut (omega arith) in
    (sym (kind_is kind text a.spelled) ∙ (ap kind_at same.0 ∙ kind_is other front b.spelled), same.0, same.1)

takes_nothing : {kind : Kind} {text rest : List ℕ} → Takes [] kind text rest → ⊥
takes_nothing {kind} {text} {rest} takes = nothing_spells kind (subst (λ (x : List ℕ). IsTrue (spells kind x)) empty takes.spelled)
  where
    empty : text ≡ []
    empty = nil_from_length text (omega (arith, length-append text rest, ap length takes.cut))

takes_separator : {b : ℕ} {bs : List ℕ} {kind : Kind} {text rest : List ℕ} → IsTrue (is_separator b || is_hash b) → Takes (b ∷ bs) kind text rest → ⊥
takes_separator {b} {bs} {kind} {text} {rest} between takes =
    let first = front_first kind text rest b bs takes.cut takes.spelled in
    separator_begins_none kind b first.0 between (subst (λ (x : List ℕ). IsTrue (spells kind x)) first.1 takes.spelled)

takes_none : {bytes : List ℕ} {kind : Kind} {text rest : List ℕ} → BeginsNone bytes → Takes bytes kind text rest → ⊥
takes_none {bytes} {kind} {text} {rest} none takes = none kind text rest takes.cut takes.spelled

hash_is_no_separator : (b : ℕ) → IsTrue (is_separator b) → IsTrue (is_hash b) → ⊥
hash_is_no_separator b s h = both_ways (is_separator b) (ap is_separator (eqb-true b 35 h)) s

-- The same bytes at the same place scan in one way.
pub scans_same : {place : Place} {bytes : List ℕ} {tokens others : List Token} {fault other : Option Fault} →
    Scans place bytes tokens fault → Scans place bytes others other → (tokens ≡ others) × (fault ≡ other)
scans_same ends ends = (refl, refl)
scans_same ends (a_token takes s) = absurd (takes_nothing takes)
scans_same (a_separator is s) (a_separator also t) = scans_same s t
scans_same (a_separator {b = b} is s) (a_comment also t) = absurd (hash_is_no_separator b is also)
scans_same (a_separator {b = b} is s) (a_token takes t) = absurd (takes_separator (or_left (is_separator b) (is_hash b) is) takes)
scans_same (a_separator {b = b} is s) (stops neither none) = absurd (both_ways (is_separator b || is_hash b) (not-true (is_separator b || is_hash b) neither) (or_left (is_separator b) (is_hash b) is))
scans_same (a_comment {b = b} is s) (a_separator also t) = absurd (hash_is_no_separator b also is)
scans_same (a_comment is s) (a_comment also t) = scans_same s t
scans_same (a_comment {b = b} is s) (a_token takes t) = absurd (takes_separator (or_right (is_separator b) (is_hash b) is) takes)
scans_same (a_comment {b = b} is s) (stops neither none) = absurd (both_ways (is_separator b || is_hash b) (not-true (is_separator b || is_hash b) neither) (or_right (is_separator b) (is_hash b) is))
scans_same (a_token takes s) ends = absurd (takes_nothing takes)
scans_same (a_token takes s) (a_separator {b = b} is t) = absurd (takes_separator (or_left (is_separator b) (is_hash b) is) takes)
scans_same (a_token takes s) (a_comment {b = b} is t) = absurd (takes_separator (or_right (is_separator b) (is_hash b) is) takes)
scans_same (a_token {place = place} {text = text} {rest = rest} {kind = kind} {tokens = ts} {fault = f} takes s) (a_token {text = front} {rest = after} {kind = other} {tokens = us} {fault = g} also t) =
    let same = takes_same takes also in
    let moved : Scans (place_after place text) rest us g =
    subst (λ (x : List ℕ). Scans (place_after place text) x us g) (sym same.2) (subst (λ (x : List ℕ). Scans (place_after place x) after us g) (sym same.1) t) in
    let later = scans_same s moved in
    (λ i. record { kind = same.0 i; text = same.1 i; place = place } ∷ later.0 i, later.1)
scans_same (a_token takes s) (stops neither none) = absurd (takes_none none takes)
scans_same (stops {b = b} neither none) (a_separator is t) = absurd (both_ways (is_separator b || is_hash b) (not-true (is_separator b || is_hash b) neither) (or_left (is_separator b) (is_hash b) is))
scans_same (stops {b = b} neither none) (a_comment is t) = absurd (both_ways (is_separator b || is_hash b) (not-true (is_separator b || is_hash b) neither) (or_right (is_separator b) (is_hash b) is))
scans_same (stops neither none) (a_token takes t) = absurd (takes_none none takes)
scans_same (stops neither none) (stops also none_too) = (refl, refl)

-- The bytes scan in some way.

-- what a length of the longest front says
abbrev pub Found : List ℕ → ℕ → Type 0
Found bytes zero = BeginsNone bytes
Found bytes (suc n) = Takes bytes (kind_at (take (suc n) bytes)) (take (suc n) bytes) (drop (suc n) bytes)

abbrev pub NoneLonger : List ℕ → ℕ → Type 0
NoneLonger bytes n = (kind : Kind) (front after : List ℕ) → front ++ after ≡ bytes → IsTrue (spells kind front) → length front ≤ n

none_longer_than : (bytes : List ℕ) (n : ℕ) → NoneLonger bytes (suc n) → spells (kind_at (take (suc n) bytes)) (take (suc n) bytes) ≡ false → NoneLonger bytes n
none_longer_than bytes n above fails kind front after cut spelled =
    ⊎_elim (λ (shorter : length front < suc n). omega arith) (λ (longer : suc n ≤ length front).
    let at_most = above kind front after cut spelled in
    let same : take (suc n) bytes ≡ front = ap (take (suc n)) (sym cut) ∙ take_at front after (suc n) (omega arith) in
    absurd (both_ways (spells (kind_at front) front) (sym (ap (λ x. spells (kind_at x) x) same) ∙ fails) (spelled_at kind front spelled)))
    (cases_lt (length front) (suc n))

found_by : (bytes : List ℕ) (n : ℕ) → suc n ≤ length bytes → NoneLonger bytes (suc n) → (NoneLonger bytes n → Found bytes (longest_len bytes n)) →
    (b : Bool) → spells (kind_at (take (suc n) bytes)) (take (suc n) bytes) ≡ b → Found bytes (longer_if b (suc n) (longest_len bytes n))
found_by bytes n within none shorter true is = record {
  cut = take-append-drop (suc n) bytes;
  spelled = is;
  longest = λ kind front after cut spelled. let at_most = none kind front after cut spelled in omega (arith, length-take-le (suc n) bytes within);
}
found_by bytes n within none shorter false is = shorter (none_longer_than bytes n none is)

found : (bytes : List ℕ) (n : ℕ) → n ≤ length bytes → NoneLonger bytes n → Found bytes (longest_len bytes n)
found bytes zero within none = λ kind front after cut spelled.
    nothing_spells kind (subst (λ (x : List ℕ). IsTrue (spells kind x)) (nil_from_length front (omega (arith, none kind front after cut spelled))) spelled)
found bytes (suc n) within none = found_by bytes n within none (found bytes n (omega arith)) (spells (kind_at (take (suc n) bytes)) (take (suc n) bytes)) refl

-- the longest token at the front of the bytes, or none
pub found_in : (bytes : List ℕ) → Found bytes (longest_len bytes (length bytes))
found_in bytes = found bytes (length bytes) (omega arith) (λ kind front after cut spelled. omega (arith, length-append front after, ap length cut))

abbrev pub ScansTo : Place → List ℕ → Scanned → Type 0
ScansTo place bytes scanned = Scans place bytes scanned.tokens scanned.fault

module _ (n : ℕ) (later : Place → List ℕ → Scanned) (each : (place : Place) (bytes : List ℕ) → length bytes ≤ n → ScansTo place bytes (later place bytes)) where
  front_scans : (place : Place) (b : ℕ) (rest : List ℕ) → length rest ≤ n → IsTrue (not (is_separator b || is_hash b)) → (m : ℕ) → Found (b ∷ rest) m →
      ScansTo place (b ∷ rest) (at_front later m place b rest)
  front_scans place b rest within neither zero none = stops neither none
  front_scans place b rest within neither (suc m) takes =
      a_token takes (each (place_after place (take (suc m) (b ∷ rest))) (drop (suc m) (b ∷ rest)) (omega (arith, length-drop m rest)))

  byte_scans : (place : Place) (b : ℕ) (rest : List ℕ) → length rest ≤ n → (s h : Bool) → is_separator b ≡ s → is_hash b ≡ h →
      ScansTo place (b ∷ rest) (at_byte later s h place b rest)
  byte_scans place b rest within true h is_s is_h = a_separator is_s (each (place_past place b) rest within)
  byte_scans place b rest within false true is_s is_h = a_comment is_h (each (place_after (place_past place b) (line_of rest)) (past_line rest) (omega (arith, length-drop (length (line_of rest)) rest)))
  byte_scans place b rest within false false is_s is_h =
      front_scans place b rest within (not_from_false (is_separator b || is_hash b) (or_from (is_separator b) (is_hash b) is_s is_h)) (longest_len (b ∷ rest) (length (b ∷ rest))) (found_in (b ∷ rest))

pub scan_scans : (n : ℕ) (place : Place) (bytes : List ℕ) → length bytes ≤ n → ScansTo place bytes (scan n place bytes)
scan_scans zero place [] within = ends
scan_scans zero place (b ∷ rest) within = absurd (omega arith)
scan_scans (suc n) place [] within = ends
scan_scans (suc n) place (b ∷ rest) within = byte_scans n (scan n) (scan_scans n) place b rest (omega arith) (is_separator b) (is_hash b) refl refl

-- Bytes have one list of tokens at most.
pub lexes_same : {place : Place} {bytes : List ℕ} {tokens others : List Token} → Lexes place bytes tokens → Lexes place bytes others → tokens ≡ others
lexes_same lexes also = (scans_same lexes also).0

-- Bytes have one first fault at most.
pub first_fault_same : {place : Place} {bytes : List ℕ} {fault other : Fault} → FirstFault place bytes fault → FirstFault place bytes other → fault ≡ other
first_fault_same (tokens, fails) (others, also) = let same = (scans_same fails also).1 in cc

-- Bytes that lex have no first fault.
pub lexes_without_fault : {place : Place} {bytes : List ℕ} {tokens : List Token} {fault : Fault} → Lexes place bytes tokens → FirstFault place bytes fault → ⊥
lexes_without_fault lexes (others, fails) = let same = (scans_same lexes fails).1 in cc

-- Bytes lex or have a first fault.
lexes_by : (place : Place) (bytes : List ℕ) (tokens : List Token) (fault : Option Fault) → Scans place bytes tokens fault →
    ((tokens : List Token) × Lexes place bytes tokens) ⊎ ((fault : Fault) × FirstFault place bytes fault)
lexes_by place bytes tokens None scans = inl (tokens, scans)
lexes_by place bytes tokens (Some fault) scans = inr (fault, (tokens, scans))

pub lexes_or_fails : (place : Place) (bytes : List ℕ) → ((tokens : List Token) × Lexes place bytes tokens) ⊎ ((fault : Fault) × FirstFault place bytes fault)
lexes_or_fails place bytes =
    let scanned = scan (length bytes) place bytes in
    lexes_by place bytes scanned.tokens scanned.fault (scan_scans (length bytes) place bytes (omega arith))
