-- One step over the lines of a deck: what stands before the place, and what is still to come.
use Rattle.std.proofs.Common.{◌≡◌, ℕ, ◌+◌, ◌<◌, ◌≤◌, Bool, true, false, List, [], ◌∷◌, ◌++◌, length, map, take, drop, Option, Some, None, suc, refl, sym, ap, ◌∙◌, arith, IfSome, ⊎_elim, add-one}
use Rattle.std.specs.Prelude.{slice_get, slice_set}
use Rattle.std.specs.List.{remove, position_from}
use Rattle.std.specs.Option.{option_map, option_or}
use Rattle.std.proofs.lemmas.List.{take_more, drop_more, take_at, drop_at, take_all, drop_all, append_assoc, length-take-le, length-append, length-set, set_at, drop-set-lt, take-append-drop}
use Rattle.std.proofs.lemmas.Option.{slice_get_within, get_or_from_slice_get, slice_get_cases}
use Rattle.cfa_base.specs.Patterns.{PatternText, matches_in}
use Rattle.cfa_base.specs.lemmas.Lists.{option_or-assoc}
use Rattle.cfa_edits.specs.Edits.{Lines, unmatched, led_by, each_becomes, last_from}

-- a line stands at the place
pub record Turn (lines : Lines) (place : ℕ) (line : List ℕ) : Type 0 where
  pub within : place < length lines
  pub rest : drop place lines ≡ line ∷ drop (place + 1) lines
  pub before : take (place + 1) lines ≡ take place lines ++ line ∷ []

pub turn : (lines : Lines) (place : ℕ) (line : List ℕ) → Some line ≡ slice_get lines place → Turn lines place line
turn lines place line e =
    let lt = slice_get_within lines place line (sym e) in
    let is = get_or_from_slice_get lines place line line (sym e) in
    record {
      within = lt;
      rest = drop_more lines place line lt ∙ ap (λ x. x ∷ drop (place + 1) lines) is;
      before = take_more lines place line lt ∙ ap (λ x. take place lines ++ x ∷ []) is;
    }

-- no line stands there
pub record End (lines : Lines) (place : ℕ) : Type 0 where
  pub past : length lines ≤ place
  pub rest : drop place lines ≡ []
  pub before : take place lines ≡ lines

pub end : (lines : Lines) (place : ℕ) → None ≡ slice_get lines place → End lines place
end lines place e =
    let past : length lines ≤ place =
    ⊎_elim (λ some. let is = some.2 in absurd cc) (λ none. none.0) (slice_get_cases lines place).1 in
    record { past = past; rest = drop_all place lines past; before = take_all place lines past }

length_before : (lines : Lines) (place : ℕ) (line : List ℕ) → Turn lines place line → length (take place lines) ≡ place
length_before lines place line t = length-take-le place lines (omega (arith, t.within))

-- the lines without the one at the place
pub removed_before : (lines : Lines) (place : ℕ) (line : List ℕ) → Turn lines place line → take place (remove lines place) ≡ take place lines
removed_before lines place line t = take_at (take place lines) (drop (suc place) lines) place (length_before lines place line t)

pub removed_rest : (lines : Lines) (place : ℕ) (line : List ℕ) → Turn lines place line → drop place (remove lines place) ≡ drop (place + 1) lines
removed_rest lines place line t = drop_at (take place lines) (drop (suc place) lines) place (length_before lines place line t) ∙ ap (λ n. drop n lines) (sym (add-one place))

pub removed_length : (lines : Lines) (place : ℕ) (line : List ℕ) → Turn lines place line → place ≤ length (remove lines place)
removed_length lines place line t = omega (arith, length-append (take place lines) (drop (suc place) lines), length_before lines place line t)

-- the lines with another one in its place
pub exchanged : (lines : Lines) (place : ℕ) (line new : List ℕ) → Turn lines place line
    → slice_set lines place new ≡ (take place lines ++ new ∷ []) ++ drop (place + 1) lines
exchanged lines place line new t =
    ap (λ ls. slice_set ls place new) (sym (take-append-drop place lines) ∙ ap (λ ls. take place lines ++ ls) t.rest)
    ∙ set_at (take place lines) line (drop (place + 1) lines) new place (length_before lines place line t)
    ∙ sym (append_assoc (take place lines) (new ∷ []) (drop (place + 1) lines))

pub exchanged_before : (lines : Lines) (place : ℕ) (line new : List ℕ) → Turn lines place line
    → take (place + 1) (slice_set lines place new) ≡ take place lines ++ new ∷ []
exchanged_before lines place line new t =
    let front = take place lines ++ new ∷ [] in
    ap (λ ls. take (place + 1) ls) (exchanged lines place line new t)
    ∙ take_at front (drop (place + 1) lines) (place + 1) (omega (arith, length-append (take place lines) (new ∷ []), length_before lines place line t))

pub exchanged_rest : (lines : Lines) (place : ℕ) (line new : List ℕ) → Turn lines place line
    → drop (place + 1) (slice_set lines place new) ≡ drop (place + 1) lines
exchanged_rest lines place line new t = drop-set-lt (place + 1) lines place new (omega arith)

pub exchanged_length : (lines : Lines) (place : ℕ) (line new : List ℕ) → Turn lines place line
    → place + 1 ≤ length (slice_set lines place new)
exchanged_length lines place line new t = omega (arith, length-set lines place new, t.within)

-- deletes
pub delete_keeps : (pattern : PatternText) (lines all : Lines) (place : ℕ) (line : List ℕ) → Turn lines place line → matches_in pattern line ≡ false
    → take place lines ++ unmatched pattern (drop place lines) ≡ all → take (place + 1) lines ++ unmatched pattern (drop (place + 1) lines) ≡ all
delete_keeps pattern lines all place line t miss so_far =
    rw (t.before, append_assoc) (rw (t.rest, miss) at so_far)

pub delete_takes : (pattern : PatternText) (lines all : Lines) (place : ℕ) (line : List ℕ) → Turn lines place line → matches_in pattern line ≡ true
    → take place lines ++ unmatched pattern (drop place lines) ≡ all → take place (remove lines place) ++ unmatched pattern (drop place (remove lines place)) ≡ all
delete_takes pattern lines all place line t hit so_far =
    rw (removed_before lines place line t, removed_rest lines place line t) (rw (t.rest, hit) at so_far)

-- replaces
pub map_steps : (f : List ℕ → List ℕ) (lines all : Lines) (place : ℕ) (line : List ℕ) → Turn lines place line
    → take place lines ++ map f (drop place lines) ≡ all
    → take (place + 1) (slice_set lines place (f line)) ++ map f (drop (place + 1) (slice_set lines place (f line))) ≡ all
map_steps f lines all place line t so_far =
    rw (exchanged_before lines place line (f line) t, exchanged_rest lines place line (f line) t, append_assoc) (rw t.rest at so_far)

pub map_keeps : (f : List ℕ → List ℕ) (lines all : Lines) (place : ℕ) (line : List ℕ) → Turn lines place line → f line ≡ line
    → take place lines ++ map f (drop place lines) ≡ all → take (place + 1) lines ++ map f (drop (place + 1) lines) ≡ all
map_keeps f lines all place line t kept so_far =
    rw (t.before, append_assoc) (rw (t.rest, kept) at so_far)

-- field edits
abbrev pub put_before : Lines → Option Lines → Option Lines
put_before before rest = option_map (λ lines. before ++ lines) rest

led_before : (before : Lines) (line : List ℕ) (rest : Option Lines) → put_before before (led_by (Some line) rest) ≡ put_before (before ++ line ∷ []) rest
led_before before line None = refl
led_before before line (Some rest) = ap Some (sym (append_assoc before (line ∷ []) rest))

pub fields_keep : (f : List ℕ → Option (List ℕ)) (lines : Lines) (all : Option Lines) (place : ℕ) (line : List ℕ) → Turn lines place line → f line ≡ Some line
    → put_before (take place lines) (each_becomes f (drop place lines)) ≡ all → put_before (take (place + 1) lines) (each_becomes f (drop (place + 1) lines)) ≡ all
fields_keep f lines all place line t kept so_far =
    rw t.before (sym (led_before (take place lines) line (each_becomes f (drop (place + 1) lines))) ∙ (rw (t.rest, kept) at so_far))

pub fields_step : (f : List ℕ → Option (List ℕ)) (lines : Lines) (all : Option Lines) (place : ℕ) (line new : List ℕ) → Turn lines place line → f line ≡ Some new
    → put_before (take place lines) (each_becomes f (drop place lines)) ≡ all
    → put_before (take (place + 1) (slice_set lines place new)) (each_becomes f (drop (place + 1) (slice_set lines place new))) ≡ all
fields_step f lines all place line new t changed so_far =
    rw (exchanged_before lines place line new t, exchanged_rest lines place line new t)
    (sym (led_before (take place lines) new (each_becomes f (drop (place + 1) lines))) ∙ (rw (t.rest, changed) at so_far))

pub fields_refuse : (f : List ℕ → Option (List ℕ)) (lines : Lines) (all : Option Lines) (place : ℕ) (line : List ℕ) → Turn lines place line → f line ≡ None
    → put_before (take place lines) (each_becomes f (drop place lines)) ≡ all → all ≡ None
fields_refuse f lines all place line t none so_far = sym (rw (t.rest, none) at so_far)

-- anchors
pub first_more : (test : List ℕ → Bool) (lines : Lines) (place : ℕ) (line : List ℕ) (all : Option ℕ) → Turn lines place line → test line ≡ false
    → position_from test place (drop place lines) ≡ all → position_from test (place + 1) (drop (place + 1) lines) ≡ all
first_more test lines place line all t miss so_far = rw (t.rest, miss) at so_far

pub first_here : (test : List ℕ → Bool) (lines : Lines) (place : ℕ) (line : List ℕ) (all : Option ℕ) → Turn lines place line → test line ≡ true
    → position_from test place (drop place lines) ≡ all → Some place ≡ all
first_here test lines place line all t hit so_far = rw (t.rest, hit) at so_far

pub last_more : (test : List ℕ → Bool) (lines : Lines) (place : ℕ) (line : List ℕ) (found all : Option ℕ) → Turn lines place line → test line ≡ false
    → option_or (last_from test place (drop place lines)) found ≡ all → option_or (last_from test (place + 1) (drop (place + 1) lines)) found ≡ all
last_more test lines place line found all t miss so_far =
    sym (option_or-assoc (last_from test (place + 1) (drop (place + 1) lines)) None found) ∙ (rw (t.rest, miss) at so_far)

pub last_here : (test : List ℕ → Bool) (lines : Lines) (place : ℕ) (line : List ℕ) (found all : Option ℕ) → Turn lines place line → test line ≡ true
    → option_or (last_from test place (drop place lines)) found ≡ all → option_or (last_from test (place + 1) (drop (place + 1) lines)) (Some place) ≡ all
last_here test lines place line found all t hit so_far =
    sym (option_or-assoc (last_from test (place + 1) (drop (place + 1) lines)) (Some place) found) ∙ (rw (t.rest, hit) at so_far)

pub found_before : (found : Option ℕ) (place : ℕ) → IfSome found (λ n. n < place) → IfSome found (λ n. n < place + 1)
found_before None place h = h
found_before (Some n) place h = omega arith

pub exchanged_same_length : (lines : Lines) (place : ℕ) (line new : List ℕ) → length (slice_set lines place new) ≡ length lines
exchanged_same_length lines place line new = length-set lines place new
