-- A text is cut at the first place where a byte stands: into what stands before it and what stands behind it.
use Rattle.std.specs.Prelude.{◌≡◌, ℕ, List, ◌∷◌, ◌++◌}
use Rattle.cfa_base.specs.Lacking.{Lacks}

pub record IsCut (byte : ℕ) (text front rest : List ℕ) : Type 0 where
  pub whole : text ≡ front ++ byte ∷ rest
  pub first : Lacks byte front
