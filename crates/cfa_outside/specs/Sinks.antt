-- A put adds first bytes of its piece to the bytes so far.
use Rattle.std.specs.Prelude.{ℕ, ◌<◌, ◌≤◌, List, ◌++◌}

-- how many bytes of a piece are taken: no more than it has, and at least one of a piece that isn't empty
pub record TakesSome (length count : ℕ) : Type 0 where
  pub bound : count ≤ length
  pub some : 0 < length → 0 < count

abbrev pub adds_bytes : List ℕ → List ℕ → List ℕ
adds_bytes more so_far = so_far ++ more
