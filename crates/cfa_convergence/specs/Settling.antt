-- Convergence: where no live instance is in conflict and nothing is unsettled in the open walk, a run without locks that ends with
-- no instance failed has actuated each live instance, and the posts of its acts hold of the world that is left. So this is a world
-- on which the policy settles.
use Rattle.std.specs.Prelude.{◌≡◌, false}
use Rattle.cfa_outside.specs.Worlds.{HasParents}
use Rattle.cfa_resolve.specs.declared.instances.Instance.{Instance}
use Rattle.cfa_states.specs.History.{History}
use Rattle.cfa_states.specs.Passes.{goes, run}
use Rattle.cfa_states.specs.Tellers.{all_kept, open_walk, acts_of}
use Rattle.cfa_states.specs.Views.{Setting}
use Rattle.cfa_agent.specs.Runs.{Start, world_in, tally_in, run_of}
use Rattle.cfa_laws.specs.Keys.{IsKeyed}
use Rattle.cfa_convergence.specs.Conflicts.{AreFree, IsLive}
use Rattle.cfa_convergence.specs.Contained.{IsSettled, actuations}
use Rattle.cfa_convergence.specs.Lasting.{PostsHold, IsAmong}
use Rattle.cfa_convergence.specs.Policies.{HasKnown}
use Rattle.cfa_convergence.specs.Settled.{Settles}

-- the walk in which all is kept, and the open walk, come to these ends and are in no conflict
pub record IsFreeOfConflicts (s : Setting) (kept walk : History) : Type 0 where
  pub is_kept : run s all_kept ≡ goes kept
  pub is_open : run s open_walk ≡ goes walk
  pub settled : IsSettled s walk
  pub free : AreFree kept walk

-- lasting posts, of one run
abbrev pub LivePostsHold : Type 0
LivePostsHold =
    (s : Setting) (start : Start) (kept walk h : History) →
    HasKnown s.policy → IsFreeOfConflicts s kept walk → HasParents start.world.nodes →
    start.has_locks ≡ false → run_of s start ≡ goes h → (tally_in h).failed ≡ 0 →
    (i : Instance) → IsKeyed i → IsLive kept i → IsAmong i (actuations h) × PostsHold (world_in start h) (acts_of i.work)

abbrev pub FreeRunsSettle : Type 0
FreeRunsSettle =
    (s : Setting) (start : Start) (kept walk h : History) →
    HasKnown s.policy → IsFreeOfConflicts s kept walk → HasParents start.world.nodes →
    start.has_locks ≡ false → run_of s start ≡ goes h → (tally_in h).failed ≡ 0 → Settles s (world_in start h)
