use Rattle.std.proofs.Common.{◌≡◌, ◌+◌}
use Rattle.cfa_lines.specs.Decks.{lines_at}
use Rattle.cfa_lines.proofs.deck.Deck.go_on.Given as goal

abbrev pub invariant-loop-passed : goal.invariant-loop-passed
invariant-loop-passed l = l.self ≡ lines_at l.fn.self.lines (l.fn.self.place + l._passed)
