-- A text lacks a byte that doesn't stand in it.
use Rattle.std.specs.Prelude.{◌≢◌, ℕ, List, All}

abbrev pub Lacks : ℕ → List ℕ → Type 0
Lacks byte text = All (λ b. b ≢ byte) text
