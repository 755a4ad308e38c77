use Rattle.std.proofs.Common.{◌≡◌, ◌-◌, ◌≤◌, ◌++◌, length, take, drop}
use Rattle.std.specs.Option.{option_map}
use Rattle.cfa_edits.specs.Edits.{each_becomes, field_edited}
use Rattle.cfa_edits.proofs.lining.give_fields.Given as goal

abbrev pub invariant-loop-line : goal.invariant-loop-line
invariant-loop-line l = (l.matcher ≡ l.fn.matcher) × (l.deck.place ≤ length l.deck.lines)
    × (option_map (λ rest. take l.deck.place l.deck.lines ++ rest) (each_becomes (λ line. field_edited l.fn.matcher l.separator l.number l.value line) (drop l.deck.place l.deck.lines))
    ≡ each_becomes (λ line. field_edited l.fn.matcher l.separator l.number l.value line) l.fn.deck.lines)

abbrev pub decreases-loop-line : goal.decreases-loop-line
decreases-loop-line l = length l.deck.lines - l.deck.place
