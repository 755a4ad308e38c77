use Rattle.std.proofs.Common.{◌≡◌, ◌-◌, ◌≤◌, ◌++◌, length, take, drop}
use Rattle.cfa_edits.specs.Edits.{unmatched}
use Rattle.cfa_edits.proofs.lining.take_out.Given as goal

abbrev pub invariant-loop-line : goal.invariant-loop-line
invariant-loop-line l = (l.matcher ≡ l.fn.matcher) × (l.deck.place ≤ length l.deck.lines)
    × (take l.deck.place l.deck.lines ++ unmatched l.fn.matcher (drop l.deck.place l.deck.lines) ≡ unmatched l.fn.matcher l.fn.deck.lines)

abbrev pub decreases-loop-line : goal.decreases-loop-line
decreases-loop-line l = length l.deck.lines - l.deck.place
