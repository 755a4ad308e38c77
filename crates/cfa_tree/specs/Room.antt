-- Whether one more level may be opened where some are open.
use Rattle.std.specs.Prelude.{ℕ, ◌-◌, Bool, true, nat_lt, if◌then◌else◌, Option, Some, None}
use Rattle.cfa_tree.specs.Grammar.{Levels, at_most, unlimited}

abbrev pub has_room : Levels → (open_levels : ℕ) → Bool
has_room (at_most n) open_levels = nat_lt open_levels n
has_room unlimited open_levels = true

-- how many levels are left where some are open
abbrev pub left_of : Levels → (open_levels : ℕ) → Levels
left_of (at_most n) open_levels = at_most (n - open_levels)
left_of unlimited open_levels = unlimited

-- a state that is entered only where a test says so
abbrev pub only_if : {S : Type 0} → Bool → S → Option S
only_if allowed s = if allowed then Some s else None
