-- A file of rows is a line for each row: the row's one written form, ended by a newline. Which row may stand behind
-- which is the format's to say.
use Rattle.std.specs.Prelude.{◌≡◌, ℕ, ◌+◌, List, [], ◌∷◌, ◌++◌, length, Option, Some, None, ⊤}
use Rattle.std.specs.List.{flat_map}
use Rattle.cfa_base.specs.Lacking.{Lacks}

-- two fields with a space between them
infixr 64 ◌then◌
abbrev pub ◌then◌ : List ℕ → List ℕ → List ℕ
front then rest = front ++ 32 ∷ rest

-- the text of some rows, by the form of one
abbrev pub written : {R : Type 0} → (R → List ℕ) → List R → List ℕ
written form rows = flat_map (λ row. form row ++ 10 ∷ []) rows

-- the last of some rows behind a row, if there is one
abbrev pub last_after : {R : Type 0} → Option R → List R → Option R
last_after last [] = last
last_after last (row ∷ rows) = last_after (Some row) rows

abbrev pub last_of : {R : Type 0} → List R → Option R
last_of rows = last_after None rows

-- each row may stand behind the one before it, and the first one behind the row that is given, if there is one
abbrev pub InOrder : {R : Type 0} → (Option R → R → Type 0) → Option R → List R → Type 0
InOrder follows last [] = ⊤
InOrder follows last (row ∷ rows) = follows last row × InOrder follows (Some row) rows

-- what a text is read as: what has this form and is fit, or nothing where nothing fit has it
abbrev pub Reads : {R : Type 0} → (R → List ℕ) → (R → Type 0) → List ℕ → Option R → Type 0
Reads form fits text (Some row) = fits row × (form row ≡ text)
Reads form fits text None = (row : _) → fits row → form row ≡ text → ⊥

-- bytes are rows in order, and then a piece without a newline
pub record IsRows {R : Type 0} (form : R → List ℕ) (follows : Option R → R → Type 0) (bytes : List ℕ) (rows : List R) (rest : List ℕ) : Type 0 where
  pub whole : written form rows ++ rest ≡ bytes
  pub in_order : InOrder follows None rows
  pub torn : Lacks 10 rest

-- bytes are rows in order, and then a line that is no row in its place: the line's number, from 1
pub record HasBadLine {R : Type 0} (form : R → List ℕ) (follows : Option R → R → Type 0) (bytes : List ℕ) (number : ℕ) : Type 0 where
  pub before : List R
  pub line : List ℕ
  pub rest : List ℕ
  pub whole : written form before ++ (line ++ 10 ∷ rest) ≡ bytes
  pub in_order : InOrder follows None before
  pub a_line : Lacks 10 line
  pub no_row : Reads form (follows (last_of before)) line None
  pub counted : number ≡ length before + 1
