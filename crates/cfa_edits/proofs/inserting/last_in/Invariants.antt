use Rattle.std.proofs.Common.{◌≡◌, ◌-◌, ◌<◌, length, drop, IfSome}
use Rattle.std.specs.Option.{option_or}
use Rattle.cfa_base.specs.Patterns.{matches_in}
use Rattle.cfa_edits.specs.Edits.{last_from}
use Rattle.cfa_edits.proofs.inserting.last_in.Given as goal

abbrev pub invariant-loop-line : goal.invariant-loop-line
invariant-loop-line l = (l.place ≡ l.deck.place) × (l.deck.lines ≡ l.fn.deck.lines) × (l.matcher ≡ l.fn.matcher)
    × (option_or (last_from (λ line. matches_in l.fn.matcher line) l.place (drop l.place l.deck.lines)) l.found ≡ last_from (λ line. matches_in l.fn.matcher line) 0 l.fn.deck.lines)
    × IfSome l.found (λ n. n < l.place)

abbrev pub decreases-loop-line : goal.decreases-loop-line
decreases-loop-line l = length l.deck.lines - l.deck.place
