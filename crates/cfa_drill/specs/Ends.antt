-- How several agents of one policy stand in the end: each has ended or is still open, with its counts.
use Rattle.std.specs.Prelude.{◌≡◌, ◌≤◌, ℕ, zero, suc, Bool, true, false, ◌&&◌, nat_le}
use Rattle.cfa_frames.specs.Moves.{Next, goes_on, is_too_large, Need, nothing, skipping, ending, over, need_of}
use Rattle.cfa_agent.specs.Agents.{history_at}
use Rattle.cfa_agent.specs.Runs.{Counts, tally_in}
use Rattle.cfa_drill.specs.Interleaving.{Together}

-- so are agents numbered
abbrev pub is_number : (agents : ℕ) → (number : ℕ) → Bool
is_number agents number = nat_le 1 number && nat_le number agents

-- nothing is left to do
abbrev pub HasEnded : Next → Type 0
HasEnded (goes_on st h) = need_of st ≡ over
HasEnded (is_too_large h) = ⊥

abbrev pub counts_at : Next → Counts
counts_at x = tally_in (history_at x)

-- all have ended, and no promise of theirs failed
abbrev pub AllEnd : (agents : ℕ) → Together → Type 0
AllEnd agents all = (number : ℕ) → is_number agents number ≡ true → HasEnded (all.stands number) × ((counts_at (all.stands number)).failed ≡ 0)
