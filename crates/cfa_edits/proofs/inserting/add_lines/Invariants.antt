use Rattle.std.proofs.Common.{◌≡◌, ℕ, ◌||◌, List, take}
use Rattle.cfa_edits.specs.Edits.{is_among}
use Rattle.cfa_edits.specs.Steps.{has_line}
use Rattle.cfa_edits.proofs.inserting.add_lines.Given as goal

abbrev pub invariant-loop-line : goal.invariant-loop-line
invariant-loop-line l = (line : List ℕ) → has_line l.lines line ≡ (has_line l.fn.lines line || is_among (take l.line-index l.line-items) line)
