-- The law that a demo is accepted: the analysis of its policy finds no conflict, whatever classes are set from the start.
use Rattle.std.specs.Prelude.{◌≡◌, ℕ, ◌≤◌, Some}
use Rattle.cfa_conflict.specs.declared.verdicts.Verdict.TheVariants.{Accepted}
use Rattle.cfa_conflict.specs.Analyses.{analysis_of}
use Rattle.cfa_states.specs.Views.{Setting}
use Rattle.cfa_demo_laws.specs.Trees.{demo_tree}
use Rattle.cfa_demo_laws.specs.Laws.{most_promises}

-- with so many live instances
abbrev pub DemoIsAccepted : Type 0
DemoIsAccepted = (n : ℕ) → n ≤ most_promises → (s : Setting) → s.policy ≡ demo_tree n → (live : ℕ) × (analysis_of s ≡ Some (Accepted live))
