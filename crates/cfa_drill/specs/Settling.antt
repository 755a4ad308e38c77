-- Several agents of one accepted policy, moved in any order, all ended and no promise of theirs failed, leave a world on which the policy
-- settles, whatever failed calls their turns were marked with.
use Rattle.std.specs.Prelude.{◌≡◌, ◌<◌, ℕ, true, List, Some}
use Rattle.std.specs.List.{AllByRecursion as Each}
use Rattle.cfa_conflict.specs.declared.verdicts.Verdict.TheVariants.{Accepted}
use Rattle.cfa_conflict.specs.Analyses.{analysis_of}
use Rattle.cfa_outside.specs.declared.worlds.World.{World}
use Rattle.cfa_outside.specs.Sites.{after}
use Rattle.cfa_outside.specs.Worlds.{HasParents}
use Rattle.cfa_tree.specs.Tree.{PolicyTree}
use Rattle.cfa_states.specs.History.{History}
use Rattle.cfa_states.specs.Views.{Setting}
use Rattle.cfa_convergence.specs.Policies.{HasKnown}
use Rattle.cfa_convergence.specs.Settled.{Settles}
use Rattle.cfa_convergence.specs.Settling.{IsFreeOfConflicts}
use Rattle.cfa_drill.specs.Ends.{AllEnd, is_number}
use Rattle.cfa_drill.specs.Interleaving.{TurnMark, interleave}

-- where the walks are in no conflict
abbrev pub FreeAgentsSettle : Type 0
FreeAgentsSettle =
    (s : Setting) (kept walk : History) (moment agents : ℕ) (marks : List TurnMark) (world : World) (numbers : List ℕ) →
    HasKnown s.policy → IsFreeOfConflicts s kept walk → HasParents world.nodes → 0 < agents →
    Each (λ (number : ℕ). is_number agents number ≡ true) numbers → AllEnd agents (interleave s moment marks world numbers) →
    Settles s (after (interleave s moment marks world numbers).log world)

-- of a policy, in whatever context
abbrev pub AcceptedAgentsSettle : PolicyTree → Type 0
AcceptedAgentsSettle policy =
    (s : Setting) (live moment agents : ℕ) (marks : List TurnMark) (world : World) (numbers : List ℕ) →
    s.policy ≡ policy → analysis_of s ≡ Some (Accepted live) → HasParents world.nodes → 0 < agents →
    Each (λ (number : ℕ). is_number agents number ≡ true) numbers → AllEnd agents (interleave s moment marks world numbers) →
    Settles s (after (interleave s moment marks world numbers).log world)
