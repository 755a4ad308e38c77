-- Of the code alone: a line of four fields, with a space between them.
use Rattle.std.specs.Prelude.{◌≡◌, ℕ, List}
use Rattle.cfa_base.specs.Lacking.{Lacks}
use Rattle.cfa_rows.specs.Rows.{◌then◌}

-- the first three fields have no space
pub record IsFourFields (line first second third fourth : List ℕ) : Type 0 where
  pub whole : first then second then third then fourth ≡ line
  pub lacks_first : Lacks 32 first
  pub lacks_second : Lacks 32 second
  pub lacks_third : Lacks 32 third

-- no four fields are the line
abbrev pub HasFewerFields : List ℕ → Type 0
HasFewerFields line = (first second third fourth : List ℕ) → IsFourFields line first second third fourth → ⊥
