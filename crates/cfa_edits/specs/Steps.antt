-- Of the code alone: what a set of lines has, lent lines as lines, the lines of a deck before and behind its place, and the
-- writing of a field character by character.
use Rattle.std.specs.Prelude.{◌≡◌, ℕ, ◌+◌, Bool, true, not, ◌&&◌, ◌==◌, List, [], ◌∷◌, ◌++◌, map, encode_utf8, if◌then◌else◌}
use Rattle.std.specs.List.{flat_map}
use Rattle.std.specs.HashSet.{HashSet, contains_by}
use Rattle.std.specs.Str.{bytes_eq}
use denote.Ref.{Bor}
use Rattle.cfa_edits.specs.Edits.{Lines, is_among}
use Rattle.cfa_edits.specs.declared.edits.Edit.{Edit}
use Rattle.cfa_edits.specs.declared.edits.Edit.TheVariants.{Delete, Field, Insert, Replace}

abbrev pub lines_lent : List (Bor (List ℕ)) → Lines
lines_lent lines = map (λ line. line.now) lines

abbrev pub has_line : {S : Type 0} → HashSet (Bor (List ℕ)) S → List ℕ → Bool
has_line set line = contains_by (λ key. bytes_eq line key.now) set

-- the set has the lines of the block that aren't there
abbrev pub HasLacking : {S : Type 0} → HashSet (Bor (List ℕ)) S → (block there : Lines) → Type 0
HasLacking set block there =
    (line : List ℕ) → has_line set line ≡ (is_among block line && not (is_among there line))

-- the lines that an edit may insert
abbrev pub block_of : Edit → Lines
block_of (Delete pattern) = []
block_of (Field pattern separator number value) = []
block_of (Insert block spot) = block
block_of (Replace pattern value all) = []

abbrev pub blocks_of : List Edit → Lines
blocks_of edits = flat_map block_of edits

-- each of the lines is one of the others
abbrev pub AreAmong : (lines others : Lines) → Type 0
AreAmong lines others = (line : List ℕ) → is_among lines line ≡ true → is_among others line ≡ true

-- what is left to write of a line whose field has this number, where the value stands for the field of another
abbrev pub written_from : (separator number : ℕ) → (value : List ℕ) → ℕ → List ℕ → List ℕ
written_from separator number value field [] = []
written_from separator number value field (c ∷ cs) =
    if c == separator
    then encode_utf8 c ++ ((if field + 1 == number then value else []) ++ written_from separator number value (field + 1) cs)
    else (if field == number then [] else encode_utf8 c) ++ written_from separator number value field cs
