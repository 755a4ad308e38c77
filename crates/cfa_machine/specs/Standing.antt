-- Of the code alone: what a machine remembers holds, and what it keeps of a history.
use Rattle.std.specs.Prelude.{◌<◌, ⊤, List, All, length}
use Rattle.cfa_resolve.specs.declared.instances.Instance.{Instance}
use Rattle.cfa_tree.specs.Tree.{PolicyTree}
use Rattle.cfa_states.specs.declared.states.State.{State}
use Rattle.cfa_states.specs.Kept.{GuardsRepeat, RowsHold}
use Rattle.cfa_machine.specs.declared.frames.Doing.{Doing as Code}
use Rattle.cfa_machine.specs.declared.frames.Doing.TheVariants.{Idle, Asked, Running}
use Rattle.cfa_machine.specs.declared.frames.Frame.{Frame as Held}
use Rattle.cfa_visits.specs.Bundles.{AreCounted}
use Rattle.cfa_visits.specs.Counting.{IsAt}
use Rattle.cfa_machine.specs.Machines.{row_in, seen_promises}
use Rattle.cfa_visits.specs.Remembering.{BeforeHolds}

-- the instance of the visit in hand is one of those in hand
abbrev pub IsInRow : List Instance → Code → Type 0
IsInRow row Idle = ⊤
IsInRow row (Asked at status) = at < length row
IsInRow row (Running at status worst) = at < length row

-- what a frame remembers holds of the state, and its instances are of its activation
pub record FrameHolds (policy : PolicyTree) (st : State) (f : Held) : Type 0 where
  pub rows : RowsHold policy (seen_promises f) f.rows.items st f.activation
  pub repeats : GuardsRepeat f.promises.items
  pub counted : AreCounted (seen_promises f)
  pub before : BeforeHolds f.promises.items f.place f.before st f.activation
  pub at : All (IsAt f.activation.path) (row_in f.rows.items f.hand)
  pub in_hand : IsInRow (row_in f.rows.items f.hand) f.doing
