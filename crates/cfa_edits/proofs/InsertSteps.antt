-- The lines of a block that aren't there: what a set of lines has, step by step.
use Rattle.std.proofs.Common.{◌≡◌, ℕ, ◌+◌, ◌<◌, ◌≤◌, Bool, true, false, not, ◌&&◌, ◌||◌, cond, List, [], ◌∷◌, ◌++◌, length, take, drop, get_or, reverse, Option, Some, None, Ok, ⊎_elim, refl, sym, ap, ◌∙◌, arith}
use Rattle.std.specs.List.{insert}
use Rattle.std.specs.HashSet.{HashSet, UpdatesBy}
use Rattle.std.specs.Str.{bytes_eq}
use Rattle.std.proofs.lemmas.Bool.{cond-true, cond-false, cases_Bool}
use Rattle.std.proofs.lemmas.List.{append_assoc, append-nil, reverse-append, length-append, take_at, drop_at, drop_all, take_more, take-append-drop}
use Rattle.std.proofs.lemmas.Grind.{flat_map-append}
use denote.Ref.{Bor}
use Rattle.cfa_base.specs.lemmas.EqualTexts.{same_text, is_text, texts_turned}
use Rattle.cfa_base.specs.lemmas.Truths.{or_true, or_false, or_assoc}
use Rattle.cfa_edits.specs.Edits.{Lines, is_among, lacking, spot_in, put_at, inserted}
use Rattle.cfa_edits.specs.declared.edits.Edit.{Edit}
use Rattle.cfa_edits.specs.declared.edits.Spot.{Spot}
use Rattle.cfa_edits.specs.Steps.{has_line, block_of, blocks_of, AreAmong}

-- what the set has after a line was put in or taken out
pub has_updated : {S : Type 0} (line : List ℕ) (before after : HashSet (Bor (List ℕ)) S) (b : Bool)
    → UpdatesBy (λ x y. bytes_eq x.now y.now) (λ key. bytes_eq line key.now) before after b
    → (other : List ℕ) → has_line after other ≡ cond (bytes_eq line other) b (has_line before other)
has_updated line before after b updates other = updates.0 (record { ref_ptr = (0, 0); now = other })

among-push : (lines : Lines) (line other : List ℕ) → is_among (lines ++ line ∷ []) other ≡ (is_among lines other || bytes_eq other line)
among-push [] line other = or_false (bytes_eq other line)
among-push (x ∷ lines) line other = ap (λ b. bytes_eq other x || b) (among-push lines line other) ∙ sym (or_assoc (bytes_eq other x) (is_among lines other) (bytes_eq other line))

put_or : (b c : Bool) → cond b true c ≡ (c || b)
put_or true c = sym (or_true c)
put_or false c = sym (or_false c)

-- one more line of a block was put in
pub put_in_more : (had f g : List ℕ → Bool) (lines : Lines) (line : List ℕ)
    → ((other : List ℕ) → f other ≡ (had other || is_among lines other)) → ((other : List ℕ) → g other ≡ cond (bytes_eq line other) true (f other))
    → (other : List ℕ) → g other ≡ (had other || is_among (lines ++ line ∷ []) other)
put_in_more had f g lines line has updated other =
    updated other ∙ put_or (bytes_eq line other) (f other)
    ∙ ap (λ b. b || bytes_eq line other) (has other) ∙ ap (λ b. (had other || is_among lines other) || b) (texts_turned line other)
    ∙ or_assoc (had other) (is_among lines other) (bytes_eq other line)
    ∙ ap (λ b. had other || b) (sym (among-push lines line other))

taken_and : (b h a : Bool) → cond b false (h && not a) ≡ (h && not (a || b))
taken_and true true true = refl
taken_and true true false = refl
taken_and true false a = refl
taken_and false h true = refl
taken_and false h false = refl

-- one more line of a text was taken out
pub take_out_more : (wanted f g : List ℕ → Bool) (lines : Lines) (line : List ℕ)
    → ((other : List ℕ) → f other ≡ (wanted other && not (is_among lines other))) → ((other : List ℕ) → g other ≡ cond (bytes_eq line other) false (f other))
    → (other : List ℕ) → g other ≡ (wanted other && not (is_among (lines ++ line ∷ []) other))
take_out_more wanted f g lines line has updated other =
    updated other ∙ ap (λ b. cond (bytes_eq line other) false b) (has other)
    ∙ taken_and (bytes_eq line other) (wanted other) (is_among lines other)
    ∙ ap (λ b. wanted other && not (is_among lines other || b)) (texts_turned line other)
    ∙ ap (λ b. wanted other && not b) (sym (among-push lines line other))

or_comm : (a b : Bool) → (a || b) ≡ (b || a)
or_comm true b = sym (or_true b)
or_comm false b = sym (or_false b)

-- one line of the block was looked for, and taken out of the set
pub lacking_more : (f g : List ℕ → Bool) (block seen : Lines) (line : List ℕ)
    → ((other : List ℕ) → f other ≡ (is_among block other && not (is_among seen other))) → ((other : List ℕ) → g other ≡ cond (bytes_eq line other) false (f other))
    → (other : List ℕ) → g other ≡ (is_among block other && not (is_among (line ∷ seen) other))
lacking_more f g block seen line has updated other =
    updated other ∙ ap (λ b. cond (bytes_eq line other) false b) (has other)
    ∙ taken_and (bytes_eq line other) (is_among block other) (is_among seen other)
    ∙ ap (λ b. is_among block other && not b) (or_comm (is_among seen other) (bytes_eq line other) ∙ ap (λ b. b || is_among seen other) (texts_turned line other))

is_lacking : (a : Bool) → (true && not a) ≡ true → a ≡ false
is_lacking true e = absurd cc
is_lacking false e = refl

is_seen : (a : Bool) → (true && not a) ≡ false → a ≡ true
is_seen true e = refl
is_seen false e = absurd cc

-- a line that the set had goes to the answer, and any other doesn't
pub lacking_gets : (block seen rest : Lines) (line : List ℕ) (f : List ℕ → Bool)
    → ((other : List ℕ) → f other ≡ (is_among block other && not (is_among seen other))) → is_among block line ≡ true → f line ≡ true
    → lacking seen (line ∷ rest) ≡ line ∷ lacking (line ∷ seen) rest
lacking_gets block seen rest line f has there got =
    let fresh : is_among seen line ≡ false = is_lacking (is_among seen line) (ap (λ b. b && not (is_among seen line)) (sym there) ∙ sym (has line) ∙ got) in
    cond-false (is_among seen line) (lacking (line ∷ seen) rest) (line ∷ lacking (line ∷ seen) rest) fresh

pub lacking_skips : (block seen rest : Lines) (line : List ℕ) (f : List ℕ → Bool)
    → ((other : List ℕ) → f other ≡ (is_among block other && not (is_among seen other))) → is_among block line ≡ true → f line ≡ false
    → lacking seen (line ∷ rest) ≡ lacking (line ∷ seen) rest
lacking_skips block seen rest line f has there missed =
    let old : is_among seen line ≡ true = is_seen (is_among seen line) (ap (λ b. b && not (is_among seen line)) (sym there) ∙ sym (has line) ∙ missed) in
    cond-true (is_among seen line) (lacking (line ∷ seen) rest) (line ∷ lacking (line ∷ seen) rest) old

pub among_itself : (lines more : Lines) (line : List ℕ) → is_among (lines ++ line ∷ more) line ≡ true
among_itself [] more line = ap (λ b. b || is_among more line) (same_text line)
among_itself (x ∷ lines) more line = ap (λ b. bytes_eq line x || b) (among_itself lines more line) ∙ or_true (bytes_eq line x)

-- one more line of the block is gathered, or passed over
pub gathers : (answer seen more rest all : Lines) (line : List ℕ) → lacking seen (line ∷ rest) ≡ line ∷ lacking (line ∷ seen) rest → more ≡ line ∷ seen
    → answer ++ lacking seen (line ∷ rest) ≡ all → (answer ++ line ∷ []) ++ lacking more rest ≡ all
gathers answer seen more rest all line gets is so_far =
    append_assoc answer (line ∷ []) (lacking more rest) ∙ ap (λ s. answer ++ (line ∷ lacking s rest)) is ∙ ap (λ ls. answer ++ ls) (sym gets) ∙ so_far

pub passes_over : (answer seen more rest all : Lines) (line : List ℕ) → lacking seen (line ∷ rest) ≡ lacking (line ∷ seen) rest → more ≡ line ∷ seen
    → answer ++ lacking seen (line ∷ rest) ≡ all → answer ++ lacking more rest ≡ all
passes_over answer seen more rest all line skips is so_far =
    ap (λ s. answer ++ lacking s rest) is ∙ ap (λ ls. answer ++ ls) (sym skips) ∙ so_far

pub gathered_all : (answer block there : Lines) (i : ℕ) → length block ≤ i
    → answer ++ lacking (reverse (take i block) ++ there) (drop i block) ≡ lacking there block → answer ≡ lacking there block
gathered_all answer block there i past so_far =
    sym (append-nil answer) ∙ ap (λ ls. answer ++ lacking (reverse (take i block) ++ there) ls) (sym (drop_all i block past)) ∙ so_far

pub seen_more : (xs there : Lines) (y : List ℕ) → reverse (xs ++ y ∷ []) ++ there ≡ y ∷ (reverse xs ++ there)
seen_more xs there y = ap (λ ys. ys ++ there) (reverse-append xs (y ∷ []))

-- one more line was put in
pub put_more : (front middle rest lines : Lines) (n : ℕ) (line : List ℕ) → lines ≡ front ++ (middle ++ rest) → length front + length middle ≡ n
    → insert lines n line ≡ front ++ ((middle ++ line ∷ []) ++ rest)
put_more front middle rest lines n line are count =
    let whole : lines ≡ (front ++ middle) ++ rest = are ∙ sym (append_assoc front middle rest) in
    let long : length (front ++ middle) ≡ n = omega (arith, length-append front middle) in
    ap (λ ls. insert ls n line) whole
    ∙ ap (λ ls. ls ++ line ∷ drop n ((front ++ middle) ++ rest)) (take_at (front ++ middle) rest n long)
    ∙ ap (λ ls. (front ++ middle) ++ line ∷ ls) (drop_at (front ++ middle) rest n long)
    ∙ append_assoc front middle (line ∷ rest)
    ∙ ap (λ ls. front ++ ls) (sym (append_assoc middle (line ∷ []) rest))

pub inserted_some : (spot : Spot) (more lines : Lines) → 0 < length more → inserted spot more lines ≡ put_at (spot_in lines spot) more lines
inserted_some spot [] lines some = absurd (omega arith)
inserted_some spot (line ∷ more) lines some = refl

-- ---- lines among the blocks of all edits

pub among-append : (lines more : Lines) (line : List ℕ) → is_among (lines ++ more) line ≡ (is_among lines line || is_among more line)
among-append [] more line = refl
among-append (x ∷ lines) more line =
    ap (λ b. bytes_eq line x || b) (among-append lines more line) ∙ sym (or_assoc (bytes_eq line x) (is_among lines line) (is_among more line))

-- the blocks of one edit more
pub blocks_more : (edits : List Edit) (i : ℕ) (edit : Edit) → i < length edits → edit ≡ get_or edits i edit → (line : List ℕ)
    → (is_among (blocks_of (take i edits)) line || is_among (block_of edit) line) ≡ is_among (blocks_of (take (i + 1) edits)) line
blocks_more edits i edit lt is line =
    sym (among-append (blocks_of (take i edits)) (block_of edit) line)
    ∙ ap (λ ls. is_among ls line)
    (ap (λ ls. blocks_of (take i edits) ++ ls) (sym (append-nil (block_of edit)))
    ∙ sym (flat_map-append block_of (take i edits) (edit ∷ []))
    ∙ ap blocks_of (ap (λ e. take i edits ++ e ∷ []) is ∙ sym (take_more edits i edit lt)))

left_of : (a b : Bool) → a ≡ true → (a || b) ≡ true
left_of true b e = refl
left_of false b e = absurd cc

right_of : (a b : Bool) → b ≡ true → (a || b) ≡ true
right_of a true e = or_true a
right_of a false e = absurd cc

-- the block of an edit is among those of all
pub block_within : (edits : List Edit) (i : ℕ) (edit : Edit) → i < length edits → edit ≡ get_or edits i edit → AreAmong (block_of edit) (blocks_of edits)
block_within edits i edit lt is = λ line has.
    ap (λ es. is_among (blocks_of es) line) (sym (take-append-drop (i + 1) edits))
    ∙ ap (λ ls. is_among ls line) (flat_map-append block_of (take (i + 1) edits) (drop (i + 1) edits))
    ∙ among-append (blocks_of (take (i + 1) edits)) (blocks_of (drop (i + 1) edits)) line
    ∙ left_of (is_among (blocks_of (take (i + 1) edits)) line) (is_among (blocks_of (drop (i + 1) edits)) line)
    (sym (blocks_more edits i edit lt is line) ∙ right_of (is_among (blocks_of (take i edits)) line) (is_among (block_of edit) line) has)

-- ---- what stands in the deck after an insert

absorbed : (there : Lines) (y line : List ℕ) → is_among there y ≡ true → (b : Bool) → bytes_eq line y ≡ b → (b || is_among there line) ≡ is_among there line
absorbed there y line e true same = sym (ap (λ x. is_among there x) (is_text line y same) ∙ e)
absorbed there y line e false same = refl

turned_or : (a b c : Bool) → ((a || b) || c) ≡ (b || (a || c))
turned_or true b c = sym (or_true b)
turned_or false b c = refl

seen_front : (ys there : Lines) (y : List ℕ) → reverse (y ∷ ys) ++ there ≡ reverse ys ++ y ∷ there
seen_front ys there y = ap (λ ls. ls ++ there) (reverse-append (y ∷ []) ys) ∙ append_assoc (reverse ys) (y ∷ []) there

lines_gathered : (block there : Lines) (line : List ℕ) → (is_among (lacking there block) line || is_among there line) ≡ is_among (reverse block ++ there) line
lines_gathered [] there line = refl
lines_gathered (y ∷ ys) there line =
    ⊎_elim
    (λ (old : is_among there y ≡ true).
    ap (λ ls. is_among ls line || is_among there line) (cond-true (is_among there y) (lacking (y ∷ there) ys) (y ∷ lacking (y ∷ there) ys) old)
    ∙ ap (λ b. is_among (lacking (y ∷ there) ys) line || b) (sym (absorbed there y line old (bytes_eq line y) refl))
    ∙ lines_gathered ys (y ∷ there) line ∙ ap (λ ls. is_among ls line) (sym (seen_front ys there y)))
    (λ (fresh : is_among there y ≡ false).
    ap (λ ls. is_among ls line || is_among there line) (cond-false (is_among there y) (lacking (y ∷ there) ys) (y ∷ lacking (y ∷ there) ys) fresh)
    ∙ turned_or (bytes_eq line y) (is_among (lacking (y ∷ there) ys) line) (is_among there line)
    ∙ lines_gathered ys (y ∷ there) line ∙ ap (λ ls. is_among ls line) (sym (seen_front ys there y)))
    (cases_Bool (is_among there y))

swapped_or : (a b c : Bool) → (a || (b || c)) ≡ (b || (a || c))
swapped_or true b c = sym (or_true b)
swapped_or false b c = refl

put_among : (place : Option ℕ) (more lines new : Lines) (line : List ℕ) → put_at place more lines ≡ Ok new → is_among new line ≡ (is_among more line || is_among lines line)
put_among None more lines new line e = absurd cc
put_among (Some place) more lines new line e =
    let is : take place lines ++ (more ++ drop place lines) ≡ new = cc in
    ap (λ ls. is_among ls line) (sym is)
    ∙ among-append (take place lines) (more ++ drop place lines) line
    ∙ ap (λ b. is_among (take place lines) line || b) (among-append more (drop place lines) line)
    ∙ swapped_or (is_among (take place lines) line) (is_among more line) (is_among (drop place lines) line)
    ∙ ap (λ b. is_among more line || b)
    (sym (among-append (take place lines) (drop place lines) line) ∙ ap (λ ls. is_among ls line) (take-append-drop place lines))

inserted_among : (spot : Spot) (more lines new : Lines) (line : List ℕ) → inserted spot more lines ≡ Ok new → is_among new line ≡ (is_among more line || is_among lines line)
inserted_among spot [] lines new line e = let is : lines ≡ new = cc in ap (λ ls. is_among ls line) (sym is)
inserted_among spot (x ∷ more) lines new line e = put_among (spot_in lines spot) (x ∷ more) lines new line e

-- the lines that all blocks have and the deck lacks, after an insert
pub wanted_left : (left : List ℕ → Bool) (all block there new : Lines) (spot : Spot)
    → ((line : List ℕ) → left line ≡ (is_among all line && not (is_among (reverse block ++ there) line)))
    → inserted spot (lacking there block) there ≡ Ok new → (line : List ℕ) → left line ≡ (is_among all line && not (is_among new line))
wanted_left left all block there new spot has put line =
    has line
    ∙ ap (λ b. is_among all line && not b)
    (sym (inserted_among spot (lacking there block) there new line put ∙ lines_gathered block there line))
