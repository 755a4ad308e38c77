-- The lines of a source are what stands between its newlines, numbered from 1. Sources are texts with their names.
use Rattle.std.specs.Prelude.{ℕ, List, Option, None, ◌==◌, ◌-◌, if◌then◌else◌, slice_get, All, Contains}
use Rattle.std.specs.List.{slice_split}
use Rattle.cfa_base.specs.Lexing.{is_newline}

abbrev pub line_at : (source : List ℕ) (number : ℕ) → Option (List ℕ)
line_at source number = if number == 0 then None else slice_get (slice_split is_newline source) (number - 1)

-- each of these texts has one of the names
abbrev pub AreNamed : (names : List (List ℕ)) (texts : List (List ℕ × List ℕ)) → Type 0
AreNamed names texts = All (λ text. Contains names text.0) texts
