-- Rerun: on a world on which the posts of all live instances hold, a run without locks and without a failed call is the walk in
-- which all is kept, and changes nothing.
use Rattle.std.specs.Prelude.{◌≡◌, ℕ, []}
use Rattle.cfa_outside.specs.declared.worlds.World.{World}
use Rattle.cfa_resolve.specs.declared.instances.Instance.{Instance}
use Rattle.cfa_states.specs.History.{History}
use Rattle.cfa_states.specs.Passes.{goes, run}
use Rattle.cfa_states.specs.Tellers.{all_kept, acts_of}
use Rattle.cfa_states.specs.Views.{Setting}
use Rattle.cfa_agent.specs.Runs.{run_of, log_of, quiet_start}
use Rattle.cfa_laws.specs.Keys.{IsKeyed}
use Rattle.cfa_convergence.specs.Conflicts.{IsLive}
use Rattle.cfa_convergence.specs.Lasting.{PostsHold}
use Rattle.cfa_convergence.specs.Policies.{HasKnown}

abbrev pub RerunsAreKept : Type 0
RerunsAreKept =
    (s : Setting) (kept : History) (world : World) (moment : ℕ) → HasKnown s.policy → run s all_kept ≡ goes kept →
    ((i : Instance) → IsKeyed i → IsLive kept i → PostsHold world (acts_of i.work)) →
    (run_of s (quiet_start world moment) ≡ goes kept) × (log_of s (quiet_start world moment) ≡ [])
