-- What in the open walk may be so or not has a source: the class that may be set or not, and the promise that first raised it by its
-- outcome. So where a walk lists no unsettled promise, none is unsettled.
use Rattle.std.specs.Prelude.{◌≡◌, []}
use Rattle.cfa_states.specs.History.{History}
use Rattle.cfa_states.specs.Passes.{goes, run}
use Rattle.cfa_states.specs.Tellers.{open_walk}
use Rattle.cfa_states.specs.Views.{Setting}
use Rattle.cfa_states.specs.Walks.{unsettled_promises}
use Rattle.cfa_convergence.specs.Contained.{IsSettled}
use Rattle.cfa_convergence.specs.Policies.{HasKnown}

abbrev pub UnlistedAreSettled : Type 0
UnlistedAreSettled =
    (s : Setting) (walk : History) → HasKnown s.policy → run s open_walk ≡ goes walk → unsettled_promises s walk ≡ [] → IsSettled s walk
