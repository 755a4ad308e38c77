use Rattle.std.proofs.Common.{◌≡◌, ◌-◌, length, drop}
use Rattle.std.specs.List.{position_from}
use Rattle.cfa_base.specs.Patterns.{matches_in}
use Rattle.cfa_edits.proofs.inserting.first_in.Given as goal

abbrev pub invariant-loop-line : goal.invariant-loop-line
invariant-loop-line l = (l.place ≡ l.deck.place) × (l.deck.lines ≡ l.fn.deck.lines) × (l.matcher ≡ l.fn.matcher)
    × (position_from (λ line. matches_in l.fn.matcher line) l.place (drop l.place l.deck.lines) ≡ position_from (λ line. matches_in l.fn.matcher line) 0 l.fn.deck.lines)

abbrev pub decreases-loop-line : goal.decreases-loop-line
decreases-loop-line l = length l.deck.lines - l.deck.place
