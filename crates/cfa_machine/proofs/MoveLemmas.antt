-- What a machine comes to by a move of its innermost bundle.
use Rattle.std.proofs.Common.{◌≡◌, ◌∙◌, ℕ, zero, suc, ◌<◌, true, false, List, [], ◌∷◌, ◌++◌, length, map, reverse, slice_get, Option, Some, None, refl, ap, sym, subst, arith}
use Rattle.std.specs.Prelude.{Ok, Err}
use Rattle.std.specs.Option.{option_to_list}
use Rattle.std.specs.declared.alloc.Global.{Global}
use Rattle.std.specs.declared.vec.Vec.{Vec}
use Rattle.cfa_output.specs.declared.ends.Stop.{Stop}
use Rattle.cfa_output.specs.declared.ends.Stop.TheVariants.{Outside, Memory, Visits, Pattern}
use Rattle.cfa_outcomes.specs.declared.outcomes.Outcome.{Outcome}
use Rattle.cfa_resolve.specs.declared.instances.Instance.{Instance}
use Rattle.cfa_resolve.specs.declared.instances.Work.{Work}
use Rattle.cfa_resolve.specs.declared.instances.Work.TheVariants.{Acts, Call, Report}
use Rattle.cfa_statuses.specs.declared.levels.Status.{Status}
use Rattle.cfa_frames.specs.Frames.{Ahead, Doing, Frame, Stack}
use Rattle.cfa_frames.specs.Moves.{FrameNext, stays, leaves, goes_past, doing_moved, frame_moved, frame_next, goes_on, moved, stack}
use Rattle.cfa_frames.specs.Standing.{AreBelow, AreNested, RunsCall}
use Rattle.cfa_states.specs.declared.states.State.{State}
use Rattle.cfa_states.specs.History.{History}
use Rattle.cfa_states.specs.Kept.{KeepsLocally, SpareLocals}
use Rattle.cfa_states.specs.Levels.{EndedAs}
use Rattle.cfa_states.specs.Tellers.{inner_path, worst_in}
use Rattle.cfa_states.specs.Views.{Setting}
use Rattle.cfa_machine.specs.declared.commons.Common.{Common}
use Rattle.cfa_machine.specs.declared.frames.Doing.{Doing as Code}
use Rattle.cfa_machine.specs.declared.frames.Doing.TheVariants.{Idle, Asked, Running}
use Rattle.cfa_machine.specs.declared.frames.Frame.{Frame as Held}
use Rattle.cfa_machine.specs.declared.machines.Machine.{Machine}
use Rattle.cfa_machine.specs.declared.tops.Top.{Top}
use Rattle.cfa_machine.specs.declared.tops.Top.TheVariants as tops
use Rattle.cfa_visits.specs.Clear.{IsClear}
use Rattle.cfa_machine.specs.Commons.{CommonCame, seen_common}
use Rattle.cfa_machine.specs.Machines.{asked_at, row_in, running_at, seen_doing, seen_frame}
use Rattle.cfa_machine.specs.Stacks.{AreAll, CalledAs, Came, Holds, TopKeeps, seen_ahead, seen_frames, seen_stack}
use Rattle.cfa_machine.specs.Stacks.{Stands as MachineStands}
use Rattle.cfa_machine.specs.Standing.{IsInRow}
use Rattle.cfa_machine.specs.Stepping.{StepCame}
use Rattle.cfa_machine.specs.Tops.{NotRunning, called_top, with_worst}
use Rattle.cfa_machine.proofs.EnterLemmas.{reverse_more}
use Rattle.cfa_machine.proofs.GoneLemmas.{GoneTo, Longer, Row, goes, others, stack_is, top_holds, top_keeps, with_frame}

-- ---- stops

pub stops_came : (s : Setting) (m : Machine) (h : History) (f f' : Held) (st' : State) (stop : Stop) (x : FrameNext) (fs : List Frame) (a : Ahead) → StepCame s h f f' st' (Err stop) x →
    Came s m (Err stop) (frame_moved s x fs a h)
stops_came s m h f f' st' (Outside object) (stays g k) fs a came = absurd came
stops_came s m h f f' st' (Outside object) leaves fs a came = absurd came
stops_came s m h f f' st' (Outside object) (goes_past k) fs a came = absurd came
stops_came s m h f f' st' Memory (stays g k) fs a came = tt
stops_came s m h f f' st' Memory leaves fs a came = tt
stops_came s m h f f' st' Memory (goes_past k) fs a came = tt
stops_came s m h f f' st' Visits (stays g k) fs a came = absurd came
stops_came s m h f f' st' Visits leaves fs a came = absurd came
stops_came s m h f f' st' Visits (goes_past k) fs a came = tt
stops_came s m h f f' st' (Pattern text) (stays g k) fs a came = came
stops_came s m h f f' st' (Pattern text) leaves fs a came = absurd came
stops_came s m h f f' st' (Pattern text) (goes_past k) fs a came = came

pub common_stops_came : (s : Setting) (m : Machine) (depth : ℕ) (h : History) (c' : Common) (st' : State) (stop : Stop) (x : FrameNext) (fs : List Frame) (a : Ahead) →
    CommonCame s depth h c' st' (Err stop) x → Came s m (Err stop) (frame_moved s x fs a h)
common_stops_came s m depth h c' st' (Outside object) (stays g k) fs a came = absurd came
common_stops_came s m depth h c' st' (Outside object) leaves fs a came = absurd came
common_stops_came s m depth h c' st' (Outside object) (goes_past k) fs a came = absurd came
common_stops_came s m depth h c' st' Memory (stays g k) fs a came = tt
common_stops_came s m depth h c' st' Memory leaves fs a came = tt
common_stops_came s m depth h c' st' Memory (goes_past k) fs a came = tt
common_stops_came s m depth h c' st' Visits (stays g k) fs a came = absurd came
common_stops_came s m depth h c' st' Visits leaves fs a came = absurd came
common_stops_came s m depth h c' st' Visits (goes_past k) fs a came = tt
common_stops_came s m depth h c' st' (Pattern text) (stays g k) fs a came = came
common_stops_came s m depth h c' st' (Pattern text) leaves fs a came = absurd came
common_stops_came s m depth h c' st' (Pattern text) (goes_past k) fs a came = came

-- ---- an agent bundle

not_called : (row : Row) (k : History) (d : Code) → NotRunning d → CalledAs d row k
not_called row k Idle free = tt
not_called row k (Asked at status) free = tt
not_called row k (Running at status worst) free = absurd free

has_item : {X : Type 0} (xs : List X) (i : ℕ) → i < length xs → (x : X) × (slice_get xs i ≡ Some x)
has_item [] i inside = absurd (omega (arith, inside))
has_item (x ∷ xs) zero inside = (x, refl)
has_item (x ∷ xs) (suc i) inside = has_item xs i (omega (arith, inside))

ended_as : (work : Work) (i : Instance) (worst : Outcome) (h : History) → worst ≡ worst_in h (inner_path i) → EndedAs work i worst h
ended_as (Acts acts) i worst h same = tt
ended_as (Call name given) i worst h same = same
ended_as (Report content) i worst h same = tt

seen_worst : (g : Held) (worst : Outcome) (d : Code) → seen_doing (row_in g.rows.items g.hand) (with_worst worst d) ≡ seen_doing (row_in g.rows.items g.hand) d
seen_worst g worst Idle = refl
seen_worst g worst (Asked at status) = refl
seen_worst g worst (Running at status before) = refl

module _ (s : Setting) (m : Machine) (f : Held) (is : m.top ≡ tops.Agent f) (h : History) (stands : MachineStands s m h) (holds : Holds m) (longer : Longer) where
  abbrev row : Row
  row = row_in f.rows.items f.hand

  moved_is : (d : Code) → f.doing ≡ d → moved s (seen_stack m) h ≡ doing_moved s (seen_doing row d) (seen_frame f) (others s m f is) (seen_ahead m) h
  moved_is d doing =
      ap (λ (st : Stack). moved s st h) (stack_is s m f is)
      ∙ ap (λ (e : Code). doing_moved s (seen_doing row e) (seen_frame f) (others s m f is) (seen_ahead m) h) doing

  -- it has more to do
  stays_gone : (f' : Held) (st' : State) (x : FrameNext) → NotRunning f'.doing → StepCame s h f f' st' (Ok true) x →
      GoneTo s (with_frame s m f is f' st') (frame_moved s x (others s m f is) (seen_ahead m) h)
  stays_gone f' st' (stays g k) free came =
      goes s m f is h stands holds longer f' st' g k came.0 came.1.0.0 came.1.0.1 (not_called (row_in f'.rows.items f'.hand) k f'.doing free) came.1.1
  stays_gone f' st' leaves free came = absurd came
  stays_gone f' st' (goes_past k) free came = absurd came

  pub agent_stays : (f' : Held) (st' : State) → f.doing ≡ Idle → NotRunning f'.doing → StepCame s h f f' st' (Ok true) (frame_next s (seen_frame f) h) →
      GoneTo s (with_frame s m f is f' st') (moved s (seen_stack m) h)
  agent_stays f' st' idle_now free came =
      subst (GoneTo s (with_frame s m f is f' st')) (sym (moved_is Idle idle_now)) (stays_gone f' st' (frame_next s (seen_frame f) h) free came)

  pub agent_stops : (m' : Machine) (f' : Held) (st' : State) (stop : Stop) → f.doing ≡ Idle → StepCame s h f f' st' (Err stop) (frame_next s (seen_frame f) h) →
      Came s m' (Err stop) (moved s (seen_stack m) h)
  agent_stops m' f' st' stop idle_now came =
      subst (Came s m' (Err stop)) (sym (moved_is Idle idle_now)) (stops_came s m' h f f' st' stop (frame_next s (seen_frame f) h) (others s m f is) (seen_ahead m) came)

  -- it waits
  same_gone : GoneTo s m (goes_on (stack (seen_frame f ∷ others s m f is) (seen_ahead m)) h)
  same_gone = (stack_is s m f is, (stands.state, (stands.frames, stands.clear)))

  asked_waits : (status : Status) (o : Option Instance) (i : Instance) → o ≡ Some i → doing_moved s (asked_at status o) (seen_frame f) (others s m f is) (seen_ahead m) h
      ≡ goes_on (stack (seen_frame f ∷ others s m f is) (seen_ahead m)) h
  asked_waits status None i some = cc
  asked_waits status (Some j) i some = refl

  running_waits : (status : Status) (o : Option Instance) (i : Instance) → o ≡ Some i → doing_moved s (running_at status o) (seen_frame f) (others s m f is) (seen_ahead m) h
      ≡ goes_on (stack (seen_frame f ∷ others s m f is) (seen_ahead m)) h
  running_waits status None i some = cc
  running_waits status (Some j) i some = refl

  waits_gone : (d : Code) → (d ≡ Idle → ⊥) → f.doing ≡ d → IsInRow row d → GoneTo s m (moved s (seen_stack m) h)
  waits_gone Idle busy doing inside = absurd (busy refl)
  waits_gone (Asked at status) busy doing inside =
      let there = has_item row at inside in
      subst (GoneTo s m) (sym (moved_is (Asked at status) doing ∙ asked_waits status (slice_get row at) there.0 there.1)) same_gone
  waits_gone (Running at status worst) busy doing inside =
      let there = has_item row at inside in
      subst (GoneTo s m) (sym (moved_is (Running at status worst) doing ∙ running_waits status (slice_get row at) there.0 there.1)) same_gone

  pub agent_waits : (f.doing ≡ Idle → ⊥) → GoneTo s m (moved s (seen_stack m) h)
  agent_waits busy = waits_gone f.doing busy refl (top_holds s m f is holds).0.in_hand

  -- it is left
  module _ (v : Vec Held Global) (worst : Outcome) (is_worst : worst ≡ f.activation.worst) where
    called_below : (g : Held) (d : Code) → g.doing ≡ d → RunsCall (seen_doing (row_in g.rows.items g.hand) d) g.depth (seen_frame f) → CalledAs (with_worst worst d) (row_in g.rows.items g.hand) h
    called_below g Idle doing runs = absurd runs
    called_below g (Asked at status) doing runs = tt
    called_below g (Running at status before) doing runs = λ i there.
        let run : RunsCall (running_at status (Some i)) g.depth (seen_frame f) =
        subst (λ (o : Option Instance). RunsCall (running_at status o) g.depth (seen_frame f)) there runs in
        ended_as i.work i worst h (is_worst ∙ ((top_keeps s m f is h stands).0.1.1.0.0 ∙ ap (worst_in h) run.0))

    abbrev left_to : Option Held → Machine
    left_to left = record m { top = called_top left worst; below = v }

    left_gone : (left : Option Held) → m.below.items ≡ v.items ++ option_to_list left → (left ≡ None → m.below.items ≡ []) →
        GoneTo s (left_to left) (goes_on (stack (others s m f is) (seen_ahead m)) h)
    left_gone None items all = (
      ap (λ (fs : List Held). stack (map seen_frame (reverse fs)) (seen_ahead m)) (sym (all refl)),
      (stands.state, (tt, stands.clear)),
    )
    left_gone (Some g) items all =
        let turned : reverse m.below.items ≡ g ∷ reverse v.items = ap reverse items ∙ reverse_more v.items g in
        let keep : AreAll (λ (x : Held). KeepsLocally s x.activation h) (g ∷ reverse v.items) =
        subst (AreAll (λ (x : Held). KeepsLocally s x.activation h)) turned (top_keeps s m f is h stands).1.1 in
        let nested : AreBelow (seen_frame f) (seen_frame g ∷ map seen_frame (reverse v.items)) =
        subst (λ (fs : List Held). AreBelow (seen_frame f) (map seen_frame fs)) turned
        (subst (λ (top : Top). AreNested (seen_frames m.depth top (reverse m.below.items))) is stands.nested).1 in (
          ap (λ (d : Doing). stack (record (seen_frame g) { doing = d } ∷ map seen_frame (reverse v.items)) (seen_ahead m)) (seen_worst g worst g.doing)
              ∙ ap (λ (fs : List Held). stack (map seen_frame fs) (seen_ahead m)) (sym turned),
          (stands.state, ((keep.0, (called_below g g.doing refl nested.0, keep.1)), stands.clear)),
        )

    leaves_gone : (f' : Held) (st' : State) (left : Option Held) (x : FrameNext) → m.below.items ≡ v.items ++ option_to_list left → (left ≡ None → m.below.items ≡ []) →
        StepCame s h f f' st' (Ok false) x → GoneTo s (left_to left) (frame_moved s x (others s m f is) (seen_ahead m) h)
    leaves_gone f' st' left leaves items all came = left_gone left items all
    leaves_gone f' st' left (stays g k) items all came = absurd came
    leaves_gone f' st' left (goes_past k) items all came = absurd came

    pub agent_leaves : (f' : Held) (st' : State) (left : Option Held) → f.doing ≡ Idle → m.below.items ≡ v.items ++ option_to_list left → (left ≡ None → m.below.items ≡ []) →
        StepCame s h f f' st' (Ok false) (frame_next s (seen_frame f) h) → GoneTo s (left_to left) (moved s (seen_stack m) h)
    agent_leaves f' st' left idle_now items all came =
        subst (GoneTo s (left_to left)) (sym (moved_is Idle idle_now)) (leaves_gone f' st' left (frame_next s (seen_frame f) h) items all came)

-- ---- a common bundle

pub clear_after : (h k : History) → IsClear h → SpareLocals h k → IsClear k
clear_after h k clear spare = record {
  locals = λ path class. spare.locals path class ∙ clear.locals path class;
  sources = λ path class. spare.sources path class ∙ clear.sources path class;
  worst = λ path. spare.worst path ∙ clear.worst path;
  waits = λ s path. spare.waits s path ∙ clear.waits s path;
}

module _ (s : Setting) (m : Machine) (c : Common) (is : m.top ≡ tops.Common c) (h : History) (stands : MachineStands s m h) (holds : Holds m) where
  common_moved : moved s (seen_stack m) h ≡ frame_moved s (frame_next s (seen_common m.depth c) h) [] (seen_ahead m) h
  common_moved = ap (λ (top : Top). moved s (stack (seen_frames m.depth top (reverse m.below.items)) (seen_ahead m)) h) is

  abbrev with_common : Common → State → Machine
  with_common c' st' = record m { top = tops.Common c'; state = st' }

  common_stays : (c' : Common) (st' : State) (x : FrameNext) → CommonCame s m.depth h c' st' (Ok true) x → GoneTo s (with_common c' st') (frame_moved s x [] (seen_ahead m) h)
  common_stays c' st' (stays g k) came = (
    ap (λ (f : Frame). stack (f ∷ []) (seen_ahead m)) came.0,
    (came.1.0.0, (came.1.0.1, λ none. clear_after h k (stands.clear none) came.1.1)),
  )
  common_stays c' st' leaves came = absurd came
  common_stays c' st' (goes_past k) came = absurd came

  pub common_goes : (c' : Common) (st' : State) → CommonCame s m.depth h c' st' (Ok true) (frame_next s (seen_common m.depth c) h) → GoneTo s (with_common c' st') (moved s (seen_stack m) h)
  common_goes c' st' came = subst (GoneTo s (with_common c' st')) (sym common_moved) (common_stays c' st' (frame_next s (seen_common m.depth c) h) came)

  pub common_stopped_came : (m' : Machine) (c' : Common) (st' : State) (stop : Stop) → CommonCame s m.depth h c' st' (Err stop) (frame_next s (seen_common m.depth c) h) →
      Came s m' (Err stop) (moved s (seen_stack m) h)
  common_stopped_came m' c' st' stop came =
      subst (Came s m' (Err stop)) (sym common_moved) (common_stops_came s m' m.depth h c' st' stop (frame_next s (seen_common m.depth c) h) [] (seen_ahead m) came)

  pub common_keeps : KeepsLocally s c.activation h
  common_keeps = subst (λ (top : Top). TopKeeps s top (reverse m.below.items) h) is stands.frames

  common_left : (v : Vec Held Global) (c' : Common) (st' : State) (x : FrameNext) → CommonCame s m.depth h c' st' (Ok false) x →
      GoneTo s (record m { top = tops.Nothing; below = v }) (frame_moved s x [] (seen_ahead m) h)
  common_left v c' st' leaves came = (refl, (stands.state, (tt, stands.clear)))
  common_left v c' st' (stays g k) came = absurd came
  common_left v c' st' (goes_past k) came = absurd came

  pub common_leaves : (v : Vec Held Global) (c' : Common) (st' : State) → CommonCame s m.depth h c' st' (Ok false) (frame_next s (seen_common m.depth c) h) →
      GoneTo s (record m { top = tops.Nothing; below = v }) (moved s (seen_stack m) h)
  common_leaves v c' st' came = subst (GoneTo s (record m { top = tops.Nothing; below = v })) (sym common_moved) (common_left v c' st' (frame_next s (seen_common m.depth c) h) came)
