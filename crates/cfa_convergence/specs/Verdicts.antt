-- Where the analysis of a policy answers that it is accepted, its walks are free of conflicts. So a run without locks that ends with no
-- instance failed leaves a world on which the policy settles.
use Rattle.std.specs.Prelude.{◌≡◌, ℕ, false, Some}
use Rattle.cfa_conflict.specs.declared.verdicts.Verdict.TheVariants.{Accepted}
use Rattle.cfa_conflict.specs.Analyses.{analysis_of}
use Rattle.cfa_outside.specs.Worlds.{HasParents}
use Rattle.cfa_tree.specs.Tree.{PolicyTree}
use Rattle.cfa_states.specs.History.{History}
use Rattle.cfa_states.specs.Passes.{goes}
use Rattle.cfa_states.specs.Views.{Setting}
use Rattle.cfa_agent.specs.Runs.{Start, world_in, tally_in, run_of}
use Rattle.cfa_convergence.specs.Settled.{Settles}
use Rattle.cfa_convergence.specs.Settling.{IsFreeOfConflicts}

-- a policy in whatever context
abbrev pub AcceptedAreFree : PolicyTree → Type 0
AcceptedAreFree policy =
    (s : Setting) (live : ℕ) → s.policy ≡ policy → analysis_of s ≡ Some (Accepted live) →
    (kept : History) × (walk : History) × IsFreeOfConflicts s kept walk

abbrev pub AcceptedRunsSettle : PolicyTree → Type 0
AcceptedRunsSettle policy =
    (s : Setting) (live : ℕ) (start : Start) (h : History) → s.policy ≡ policy → analysis_of s ≡ Some (Accepted live) →
    HasParents start.world.nodes → start.has_locks ≡ false → run_of s start ≡ goes h → (tally_in h).failed ≡ 0 →
    Settles s (world_in start h)
