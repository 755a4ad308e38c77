use Rattle.std.proofs.Common.{◌≡◌, ◌+◌, ◌≤◌, ◌++◌, reverse, vec_len, vec_capacity}
use Rattle.cfa_lines.proofs.deck.Deck.rewind.Given as goal

abbrev pub invariant-loop-line : goal.invariant-loop-line
invariant-loop-line l =
    (l.self-inside.before.items ++ reverse l.self-inside.after.items ≡ l.initial.self-inside.before.items ++ reverse l.initial.self-inside.after.items)
    × (vec_len l.self-inside.before + vec_len l.self-inside.after ≤ vec_capacity l.self-inside.before)
    × (vec_len l.self-inside.before + vec_len l.self-inside.after ≤ vec_capacity l.self-inside.after)

abbrev pub decreases-loop-line : goal.decreases-loop-line
decreases-loop-line l = vec_len l.self-inside.before
