use Rattle.std.proofs.Common.{◌≡◌, ◌-◌, ◌≤◌, ◌++◌, length, map, take, drop}
use Rattle.cfa_base.specs.Patterns.{replaced}
use Rattle.cfa_edits.proofs.lining.write_over.Given as goal

abbrev pub invariant-loop-line : goal.invariant-loop-line
invariant-loop-line l = (l.matcher ≡ l.fn.matcher) × (l.deck.place ≤ length l.deck.lines)
    × (take l.deck.place l.deck.lines ++ map (λ line. replaced l.fn.matcher line l.value l.all) (drop l.deck.place l.deck.lines)
    ≡ map (λ line. replaced l.fn.matcher line l.value l.all) l.fn.deck.lines)

abbrev pub decreases-loop-line : goal.decreases-loop-line
decreases-loop-line l = length l.deck.lines - l.deck.place
