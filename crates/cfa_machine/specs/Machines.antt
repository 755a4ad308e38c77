-- Of the code alone: the frames of a machine, as those of the definition.
use Rattle.std.specs.Prelude.{ℕ, suc, Bool, true, false, List, [], length, drop, get_or, map, slice_get, Option, Some, None}
use Rattle.cfa_resolve.specs.declared.instances.Instance.{Instance}
use Rattle.cfa_statuses.specs.declared.levels.Status.{Status}
use Rattle.cfa_statuses.specs.declared.levels.Status.TheVariants.{No, Maybe, Yes}
use Rattle.cfa_states.specs.declared.activations.Activation.{Activation}
use Rattle.cfa_states.specs.declared.remembering.Found.{Found}
use Rattle.cfa_states.specs.declared.remembering.Known.{Known}
use Rattle.cfa_states.specs.History.{within}
use Rattle.cfa_states.specs.Kept.{home_of, seen_numbered}
use Rattle.cfa_states.specs.Numbered.{Numbered, agent_types}
use Rattle.cfa_frames.specs.Frames.{Doing, Frame, asked, idle, running}
use Rattle.cfa_machine.specs.declared.frames.Doing.{Doing as Code}
use Rattle.cfa_machine.specs.declared.frames.Doing.TheVariants.{Idle, Asked, Running}
use Rattle.cfa_machine.specs.declared.frames.Frame.{Frame as Held}
use Rattle.cfa_machine.specs.declared.frames.Hand.{Hand}
use Rattle.cfa_visits.specs.declared.remembered.Remembered.{Remembered}
use Rattle.cfa_machine.specs.declared.stepping.NextVisit.{NextVisit}
use Rattle.cfa_visits.specs.Counting.{instances_of}

-- ---- rows

abbrev pub Row : Type 0
Row = Option Found

abbrev pub row_of : List Row → (row : ℕ) → List Instance
row_of rows row = instances_of (get_or rows row None)

-- the instances in hand, those that were visited among them
abbrev pub row_in : List Row → Option Hand → List Instance
row_in rows None = []
row_in rows (Some hand) = row_of rows hand.row

-- those that weren't visited
abbrev pub left_in : List Row → Option Hand → List Instance
left_in rows None = []
left_in rows (Some hand) = drop hand.next (row_of rows hand.row)

-- ---- the visit in hand

abbrev pub asked_at : Status → Option Instance → Doing
asked_at status None = idle
asked_at status (Some instance) = asked instance status

abbrev pub running_at : Status → Option Instance → Doing
running_at status None = idle
running_at status (Some instance) = running instance status

abbrev pub seen_doing : List Instance → Code → Doing
seen_doing row Idle = idle
seen_doing row (Asked at status) = asked_at status (slice_get row at)
seen_doing row (Running at status worst) = running_at status (slice_get row at)

-- ---- a frame

abbrev pub seen_promises : Held → List Numbered
seen_promises f = map seen_numbered f.promises.items

abbrev pub seen_frame : Held → Frame
seen_frame f = record {
  depth = f.depth;
  raises_in = within f.activation.path;
  home = home_of f.activation;
  status = f.activation.status;
  all = seen_promises f;
  doing = seen_doing (row_in f.rows.items f.hand) f.doing;
  guard = f.guard;
  instances = left_in f.rows.items f.hand;
  types = drop f.kind agent_types;
  promises = drop f.place (seen_promises f);
  passes = f.passes;
}

-- the frame of an activation that begins
abbrev pub fresh_held : (depth : ℕ) → Activation → Remembered → Held
fresh_held depth a made = record {
  depth = depth;
  activation = a;
  promises = made.promises;
  rows = made.rows;
  passes = 3;
  kind = 6;
  place = length made.promises.items;
  before = None;
  guard = Yes;
  hand = None;
  doing = Idle;
}

-- ---- what a move makes of it

-- an instance with nothing new to be visited for is passed over
abbrev pub doing_for : (at : ℕ) → Status → Code
doing_for at No = Idle
doing_for at Maybe = Asked at Maybe
doing_for at Yes = Asked at Yes

abbrev pub asked_held : NextVisit → Held → Held
asked_held visit f = record f { hand = Some visit.hand; doing = doing_for visit.at visit.status }

-- the promise at the place was reached
abbrev pub reached_held : Known → (has_instances : Bool) → Held → Held
reached_held known true f = record f {
  guard = known.status;
  hand = Some (record { row = f.place; next = 0 });
  before = Some known;
  place = suc f.place;
}
reached_held known false f = record f { hand = None; before = Some known; place = suc f.place }
