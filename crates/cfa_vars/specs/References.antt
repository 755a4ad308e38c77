-- A text is literal bytes and references. A reference is `$(name)` or `${name}`, where a name is a word, or two words
-- with a dot between them; a `$` that begins no reference is itself.
use Rattle.std.specs.Prelude.{ℕ, ◌+◌, Bool, ◌&&◌, ◌==◌, List, [], ◌∷◌, length, drop, slice_index, take_while, Option, Some, None, if◌then◌else◌}
use Rattle.std.specs.List.{list_any, before_first, after_first, filter_map}
use Rattle.cfa_base.specs.Lexing.{is_dot, is_name_byte, is_name, closing_of}

-- whether a name is qualified, as `bundle.word` is
abbrev pub is_qualified : List ℕ → Bool
is_qualified name = list_any is_dot name

abbrev pub bundle_part : List ℕ → List ℕ
bundle_part name = before_first is_dot name

abbrev pub word_part : List ℕ → List ℕ
word_part name = after_first is_dot name

-- the name between an open bracket and the one that closes it
abbrev pub name_before : Option ℕ → List ℕ → Option (List ℕ)
name_before None rest = None
name_before (Some close) rest =
    let name = take_while is_name_byte rest in
    if is_name name && (slice_index rest (length name) == close) then Some name else None

-- the name of the reference that stands at the front of the text, if one stands there
unfoldable pub reference_at : List ℕ → Option (List ℕ)
reference_at [] = None
reference_at (dollar ∷ []) = None
reference_at (dollar ∷ open_bracket ∷ rest) = if dollar == 36 then name_before (closing_of open_bracket) rest else None

pub data Piece : Type 0 where
  literal : ℕ → Piece
  reference : List ℕ → Piece

abbrev pub begun_by : ℕ → Option (List ℕ) → List Piece → List Piece
begun_by b None after = literal b ∷ after
begun_by b (Some name) after = reference name ∷ drop (length name + 2) after

-- the literal bytes and the references of a text, in order. No `$` stands in a reference's brackets, so in what follows
-- its own `$` each byte of them is one piece; these are the pieces that the reference stands for
unfoldable pub pieces : List ℕ → List Piece
pieces [] = []
pieces (b ∷ rest) = begun_by b (reference_at (b ∷ rest)) (pieces rest)

abbrev pub name_in : Piece → Option (List ℕ)
name_in (literal b) = None
name_in (reference name) = Some name

-- the names that a text refers to, from left to right
abbrev pub names_in : List ℕ → List (List ℕ)
names_in text = filter_map name_in (pieces text)

abbrev pub whole_name : ℕ → Option (List ℕ) → Option (List ℕ)
whole_name size None = None
whole_name size (Some name) = if length name + 1 == size then Some name else None

-- the name of a text that is wholly a list reference, `@(name)` or `@{name}`
unfoldable pub list_reference_of : List ℕ → Option (List ℕ)
list_reference_of [] = None
list_reference_of (at ∷ []) = None
list_reference_of (at ∷ open_bracket ∷ rest) =
    if at == 64 then whole_name (length rest) (name_before (closing_of open_bracket) rest) else None
