use Rattle.std.proofs.Common.{◌≡◌, ◌+◌, ◌≤◌, ◌++◌, reverse, vec_len, vec_capacity}
use Rattle.cfa_lines.proofs.deck.Deck.into_names.Given as goal

abbrev pub invariant-loop-line : goal.invariant-loop-line
invariant-loop-line l =
    (l.before.items ++ reverse l.after.items ≡ l.initial.before.items ++ reverse l.initial.after.items)
    × (vec_len l.before + vec_len l.after ≤ vec_capacity l.before)

abbrev pub decreases-loop-line : goal.decreases-loop-line
decreases-loop-line l = vec_len l.after
