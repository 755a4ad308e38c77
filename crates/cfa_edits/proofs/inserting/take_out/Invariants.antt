use Rattle.std.proofs.Common.{◌≡◌, ℕ, ◌-◌, List, length, take, not, ◌&&◌}
use Rattle.cfa_edits.specs.Edits.{is_among}
use Rattle.cfa_edits.specs.Steps.{has_line}
use Rattle.cfa_edits.proofs.inserting.take_out.Given as goal

abbrev pub invariant-loop-line : goal.invariant-loop-line
invariant-loop-line l = (l.deck.lines ≡ l.fn.deck.lines)
    × ((line : List ℕ) → has_line l.wanted line ≡ (has_line l.fn.wanted line && not (is_among (take l.deck.place l.deck.lines) line)))

abbrev pub decreases-loop-line : goal.decreases-loop-line
decreases-loop-line l = length l.deck.lines - l.deck.place
