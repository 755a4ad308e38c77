-- A count of faults that rose behind some of the work rose in all of it.
use Rattle.std.proofs.Common.{ℕ, ◌≤◌, arith}
use Rattle.cfa_base.specs.Causes.{Rose}

pub rose_later : (a b c : ℕ) → a ≤ b → Rose b c → Rose a c
rose_later a b c le rose = omega (arith, le, rose)
