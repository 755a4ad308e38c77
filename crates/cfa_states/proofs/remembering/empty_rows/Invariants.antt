use Rattle.std.proofs.Common.{◌≡◌, ℕ, length, get_or, None}
use Rattle.cfa_states.proofs.remembering.empty_rows.Given as goal

-- nothing is in the rows so far
abbrev pub invariant-loop : goal.invariant-loop
invariant-loop l = (length l.rows.items ≡ l.index) × ((i : ℕ) → get_or l.rows.items i None ≡ None)
