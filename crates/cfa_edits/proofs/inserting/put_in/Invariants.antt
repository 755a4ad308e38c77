use Rattle.std.proofs.Common.{◌≡◌, ◌+◌, ◌++◌, take, drop}
use Rattle.cfa_edits.specs.Steps.{lines_lent}
use Rattle.cfa_edits.proofs.inserting.put_in.Given as goal

abbrev pub invariant-loop-line : goal.invariant-loop-line
invariant-loop-line l = (l.deck.place ≡ l.fn.deck.place + l.line-index)
    × (l.deck.lines ≡ take l.fn.deck.place l.fn.deck.lines ++ (lines_lent (take l.line-index l.lines) ++ drop l.fn.deck.place l.fn.deck.lines))
