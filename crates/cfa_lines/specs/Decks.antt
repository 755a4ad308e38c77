-- The lines of a text are its parts between newlines; a final newline ends the last line, and the empty text has no lines. A
-- carriage return is part of its line. The text of lines is each line followed by a newline.
use Rattle.std.specs.Prelude.{ℕ, List, [], ◌∷◌, ◌++◌, ◌==◌, length, if◌then◌else◌}
use Rattle.std.specs.List.{slice_split, flat_map}

-- an empty last part is no line
abbrev pub lines_of_parts : List (List ℕ) → List (List ℕ)
lines_of_parts [] = []
lines_of_parts (last ∷ []) = if length last == 0 then [] else last ∷ []
lines_of_parts (line ∷ next ∷ more) = line ∷ lines_of_parts (next ∷ more)

abbrev pub parts_of : List ℕ → List (List ℕ)
parts_of text = slice_split (λ byte. byte == 10) text

abbrev pub lines_of : List ℕ → List (List ℕ)
lines_of text = lines_of_parts (parts_of text)

abbrev pub ended : List ℕ → List ℕ
ended line = line ++ 10 ∷ []

abbrev pub text_of : List (List ℕ) → List ℕ
text_of lines = flat_map ended lines

-- a deck as contracts see it: its lines, and how many of them stand before the place
pub record PlacedLines : Type 0 where
  pub lines : List (List ℕ)
  pub place : ℕ

abbrev pub lines_at : List (List ℕ) → ℕ → PlacedLines
lines_at lines place = record { lines = lines; place = place }
