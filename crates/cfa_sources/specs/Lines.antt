-- The line of a refusal at a place of a file, `NAME:LINE:COL CODE WORD`.
use Rattle.std.specs.Prelude.{ℕ, List}
use Rattle.cfa_base.specs.declared.places.Place.{Place}
use Rattle.cfa_output.specs.Lines.{refused_line}

abbrev pub line_at : (name : List ℕ) → Place → (code word : List ℕ) → List ℕ
line_at name place code word = refused_line name place.line place.col code word
