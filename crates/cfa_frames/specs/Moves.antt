-- A stack moves by itself, or waits for an answer: whether an instance is skipped, or how one ended. By itself it
-- begins with the next bundle, pass or type, reaches the next promise, takes the next instance in hand, or leaves a
-- bundle that is done. An instance that isn't skipped is listed, and the bundle that it calls begins; one that ended is
-- told.
use Rattle.std.specs.Prelude.{◌≡◌, ℕ, zero, suc, Bool, true, false, List, [], ◌∷◌, length, Option, Some, None}
use Rattle.cfa_defines.specs.VarsPromises.{setting_choices}
use Rattle.cfa_kinds.specs.declared.kinds.BundleType.{BundleType}
use Rattle.cfa_kinds.specs.declared.kinds.BundleType.TheVariants as bundles
use Rattle.cfa_kinds.specs.Kinds.{bundle_type}
use Rattle.cfa_kinds.specs.declared.kinds.PromiseType.{PromiseType}
use Rattle.cfa_kinds.specs.declared.kinds.PromiseType.TheVariants as promises
use Rattle.cfa_outcomes.specs.declared.outcomes.Outcome.{Outcome}
use Rattle.cfa_resolve.specs.Resolution.{resolution}
use Rattle.cfa_resolve.specs.declared.instances.Instance.{Instance}
use Rattle.cfa_resolve.specs.declared.instances.Resolved.{Resolved}
use Rattle.cfa_resolve.specs.declared.instances.Work.{Work}
use Rattle.cfa_resolve.specs.declared.instances.Work.TheVariants.{Acts, Call, Report}
use Rattle.cfa_served.specs.Served.{bundle_of, common_bundles_of}
use Rattle.cfa_states.specs.History.{History, Begun, Listed, Told, mark_in}
use Rattle.cfa_states.specs.Levels.{outcomes_of}
use Rattle.cfa_states.specs.Numbered.{Numbered, params_of, agent_types, is_type}
use Rattle.cfa_states.specs.Passes.{Course, goes, too_large, told, visit_status, reached, vars_reached, classes_reached, sets_variable, bind}
use Rattle.cfa_states.specs.Tellers.{Teller, inner_path}
use Rattle.cfa_states.specs.Views.{Setting, guard_status, scopes_in, reached_in_history}
use Rattle.cfa_statuses.specs.declared.levels.Status.{Status}
use Rattle.cfa_statuses.specs.declared.levels.Status.TheVariants.{No, Maybe, Yes}
use Rattle.cfa_tree.specs.Tree.{BlockTree, body, bundle}
use Rattle.cfa_vars.specs.declared.scoping.Datum.{Datum}
use Rattle.cfa_frames.specs.Frames.{Ahead, Doing, Frame, Stack, asked, common, fresh, idle, rest, running}

-- ---- what a stack waits for

pub data Need : Type 0 where
  -- nothing: it goes on by itself
  nothing : Need
  -- whether the instance is skipped
  skipping : (instance : Instance) (status : Status) → Need
  -- how the instance ended
  ending : (instance : Instance) (status : Status) → Need
  -- nothing is left to do
  over : Need

abbrev pub doing_need : Doing → Need
doing_need idle = nothing
doing_need (asked instance status) = skipping instance status
doing_need (running instance status) = ending instance status

abbrev pub ahead_need : List BlockTree → (rounds : ℕ) → List (List ℕ) → Need
ahead_need (block ∷ commons) rounds sequence = nothing
ahead_need [] (suc n) sequence = nothing
ahead_need [] zero (name ∷ sequence) = nothing
ahead_need [] zero [] = over

abbrev pub frames_need : List Frame → Ahead → Need
frames_need [] a = ahead_need a.commons a.rounds a.sequence
frames_need (f ∷ frames) a = doing_need f.doing

abbrev pub need_of : Stack → Need
need_of stack = frames_need stack.frames stack.ahead

-- ---- moves of a bundle in which no visit is in hand

pub data FrameNext : Type 0 where
  -- it has more to do
  stays : Frame → History → FrameNext
  -- it is done
  leaves : FrameNext
  -- more visits are counted than may be
  goes_past : History → FrameNext

-- a promise was reached
abbrev pub reached_by : Course → Frame → FrameNext
reached_by (goes h) f = stays f h
reached_by (too_large h) f = goes_past h

-- its visits are counted, and its instances are still to be visited
abbrev pub resolved_next : Frame → Numbered → (guard : Status) → Resolved → History → FrameNext
resolved_next f p guard resolved h =
    reached_by (reached f.home p guard false resolved.visits goes h)
    (record f { guard = guard; instances = resolved.instances })

module _ (s : Setting) where
  abbrev pub acting_next : Frame → Numbered → PromiseType → (guard : Status) → History → FrameNext
  acting_next f p type guard h = resolved_next f p guard (resolution (reached_in_history s h f.home type p)) h

  abbrev pub kept_next : Frame → Numbered → PromiseType → (guard : Status) → History → FrameNext
  kept_next f p promises.Vars guard h =
      reached_by (vars_reached s f.home p guard (setting_choices (scopes_in s h f.home) promises.Vars p.promise) h) f
  kept_next f p promises.Classes guard h =
      reached_by (classes_reached s f.raises_in f.home p guard
      (setting_choices (scopes_in s h f.home) promises.Classes p.promise) h) f
  kept_next f p promises.Files guard h = acting_next f p promises.Files guard h
  kept_next f p promises.Methods guard h = acting_next f p promises.Methods guard h
  kept_next f p promises.Services guard h = acting_next f p promises.Services guard h
  kept_next f p promises.Reports guard h = acting_next f p promises.Reports guard h
  kept_next f p type guard h = stays f h

  -- by the status of its guard, which is read here alone
  abbrev pub guarded_next : Frame → Numbered → (guard : Status) → History → FrameNext
  guarded_next f p No h = reached_by (reached f.home p No (sets_variable p.type) 1 goes h) f
  guarded_next f p Maybe h = kept_next f p p.type Maybe h
  guarded_next f p Yes h = kept_next f p p.type Yes h

  -- a promise of another type than that in hand is passed over
  abbrev pub promise_next : (is_of_type : Bool) → Frame → Numbered → History → FrameNext
  promise_next false f p h = stays f h
  promise_next true f p h = guarded_next f p (guard_status s h f.home.path p.promise.guard) h

  -- the next pass, where there is one
  abbrev pub pass_next : (passes : ℕ) → Frame → History → FrameNext
  pass_next zero f h = leaves
  pass_next (suc n) f h = stays (record f { types = agent_types; promises = f.all; passes = n }) h

  -- the next promise, else the next type, else the next pass
  abbrev pub type_next : List PromiseType → List Numbered → Frame → History → FrameNext
  type_next [] ps f h = pass_next f.passes f h
  type_next (type ∷ types) [] f h = stays (record f { types = types; promises = f.all }) h
  type_next (type ∷ types) (p ∷ ps) f h = promise_next (is_type type p.type) (record f { promises = ps }) p h

  -- an instance that has nothing new to be visited for is passed over
  abbrev pub visit_next : Status → Instance → Frame → History → FrameNext
  visit_next No instance f h = stays f h
  visit_next Maybe instance f h = stays (record f { doing = asked instance Maybe }) h
  visit_next Yes instance f h = stays (record f { doing = asked instance Yes }) h

  -- the next instance of the promise that was reached last, else the next promise
  abbrev pub instance_next : List Instance → Frame → History → FrameNext
  instance_next [] f h = type_next f.types f.promises f h
  instance_next (instance ∷ instances) f h =
      visit_next (visit_status f.guard f.status (mark_in h instance.path instance.text)) instance
      (record f { instances = instances }) h

  abbrev pub frame_next : Frame → History → FrameNext
  frame_next f h = instance_next f.instances f h

-- ---- moves of a stack

pub data Next : Type 0 where
  goes_on : Stack → History → Next
  is_too_large : History → Next

abbrev pub stack : List Frame → Ahead → Stack
stack frames a = record { frames = frames; ahead = a }

abbrev pub ahead : List BlockTree → (rounds : ℕ) → List (List ℕ) → Ahead
ahead commons rounds sequence = record { commons = commons; rounds = rounds; sequence = sequence }

-- a bundle is activated above these frames, where there is one
abbrev pub activated : (depth : ℕ) → (path : List ℕ) → Status → List Datum → Option BlockTree
    → List Frame → Ahead → History → Next
activated depth path status given None frames a h = goes_on (stack frames a) (Begun path given ∷ h)
activated depth path status given (Some block) frames a h =
    goes_on (stack (fresh depth path status block ∷ frames) a)
    (bind path (params_of block) given (Begun path given ∷ h))

module _ (s : Setting) where
  -- a common bundle isn't gone through again in the sequence
  abbrev pub by_type_next : (name : List ℕ) → Option BundleType → Option BlockTree → Ahead → History → Next
  by_type_next name None found a h = goes_on (stack [] a) h
  by_type_next name (Some bundles.Agent) found a h = activated (length s.policy) name Yes [] found [] a h
  by_type_next name (Some bundles.Common) found a h = goes_on (stack [] a) h
  by_type_next name (Some bundles.EditLine) found a h = goes_on (stack [] a) h

  abbrev pub named_next : (name : List ℕ) → Option BlockTree → Ahead → History → Next
  named_next name None a h = goes_on (stack [] a) h
  named_next name (Some (bundle type_name named params sections place)) a h =
      by_type_next name (bundle_type type_name.name) (Some (bundle type_name named params sections place)) a h
  named_next name (Some (body type_name named params attributes place)) a h = goes_on (stack [] a) h

  -- the next common bundle, else the next round, else the next bundle of the sequence
  abbrev pub ahead_next : List BlockTree → (rounds : ℕ) → List (List ℕ) → History → Next
  ahead_next (block ∷ commons) rounds sequence h =
      goes_on (stack (common s block ∷ []) (ahead commons rounds sequence)) h
  ahead_next [] (suc n) sequence h = goes_on (stack [] (ahead (common_bundles_of s.policy) n sequence)) h
  ahead_next [] zero (name ∷ sequence) h = named_next name (bundle_of s.policy name) (ahead [] zero sequence) h
  ahead_next [] zero [] h = goes_on (stack [] (ahead [] zero [])) h

  abbrev pub frame_moved : FrameNext → List Frame → Ahead → History → Next
  frame_moved (stays f k) frames a h = goes_on (stack (f ∷ frames) a) k
  frame_moved leaves frames a h = goes_on (stack frames a) h
  frame_moved (goes_past k) frames a h = is_too_large k

  abbrev pub doing_moved : Doing → Frame → List Frame → Ahead → History → Next
  doing_moved idle f frames a h = frame_moved (frame_next s f h) frames a h
  doing_moved (asked instance status) f frames a h = goes_on (stack (f ∷ frames) a) h
  doing_moved (running instance status) f frames a h = goes_on (stack (f ∷ frames) a) h

  abbrev pub frames_moved : List Frame → Ahead → History → Next
  frames_moved [] a h = ahead_next a.commons a.rounds a.sequence h
  frames_moved (f ∷ frames) a h = doing_moved f.doing f frames a h

  -- a stack that waits for nothing moves
  abbrev pub moved : Stack → History → Next
  moved st h = frames_moved st.frames st.ahead h

-- ---- answers

abbrev pub with_doing : Frame → Doing → Frame
with_doing f doing = record f { doing = doing }

abbrev pub doing_skipped : Doing → Frame → List Frame → Ahead → History → Next
doing_skipped (asked instance status) f frames a h =
    goes_on (stack (with_doing f idle ∷ frames) a) (Told instance [] ∷ Listed instance status ∷ h)
doing_skipped idle f frames a h = goes_on (stack (f ∷ frames) a) h
doing_skipped (running instance status) f frames a h = goes_on (stack (f ∷ frames) a) h

abbrev pub frames_skipped : List Frame → Ahead → History → Next
frames_skipped [] a h = goes_on (stack [] a) h
frames_skipped (f ∷ frames) a h = doing_skipped f.doing f frames a h

-- the instance in hand is skipped
abbrev pub skipped : Stack → History → Next
skipped st h = frames_skipped st.frames st.ahead h

module _ (s : Setting) where
  -- a call activates its bundle, unless it would be too deep
  abbrev pub called : (depth : ℕ) → Instance → Status → (name : List ℕ) → List Datum
      → List Frame → Ahead → History → Next
  called zero instance status name given frames a h = goes_on (stack frames a) (Begun (inner_path instance) [] ∷ h)
  called (suc n) instance status name given frames a h =
      activated n (inner_path instance) status given (bundle_of s.policy name) frames a h

  abbrev pub begun_by : (depth : ℕ) → Instance → Status → Work → List Frame → Ahead → History → Next
  begun_by depth instance status (Acts acts) frames a h = goes_on (stack frames a) h
  begun_by depth instance status (Report content) frames a h = goes_on (stack frames a) h
  begun_by depth instance status (Call name given) frames a h = called depth instance status name given frames a h

  abbrev pub doing_entered : Doing → Frame → List Frame → Ahead → History → Next
  doing_entered (asked instance status) f frames a h =
      begun_by f.depth instance status instance.work (with_doing f (running instance status) ∷ frames) a
      (Listed instance status ∷ h)
  doing_entered idle f frames a h = goes_on (stack (f ∷ frames) a) h
  doing_entered (running instance status) f frames a h = goes_on (stack (f ∷ frames) a) h

  abbrev pub frames_entered : List Frame → Ahead → History → Next
  frames_entered [] a h = goes_on (stack [] a) h
  frames_entered (f ∷ frames) a h = doing_entered f.doing f frames a h

  -- it isn't skipped
  abbrev pub entered : Stack → History → Next
  entered st h = frames_entered st.frames st.ahead h

abbrev pub doing_ended : List Outcome → Doing → Frame → List Frame → Ahead → History → Next
doing_ended outcomes (running instance status) f frames a h =
    goes_on (stack (with_doing f idle ∷ frames) a) (told instance outcomes status h)
doing_ended outcomes idle f frames a h = goes_on (stack (f ∷ frames) a) h
doing_ended outcomes (asked instance status) f frames a h = goes_on (stack (f ∷ frames) a) h

abbrev pub frames_ended : List Outcome → List Frame → Ahead → History → Next
frames_ended outcomes [] a h = goes_on (stack [] a) h
frames_ended outcomes (f ∷ frames) a h = doing_ended outcomes f.doing f frames a h

-- it may have ended with these outcomes
abbrev pub ended : List Outcome → Stack → History → Next
ended outcomes st h = frames_ended outcomes st.frames st.ahead h

-- ---- what is left

-- what is come to from there is the course
abbrev pub Meets : Setting → Teller → Next → Course → Type 0
Meets s t (goes_on st h) course = rest s t st h ≡ course
Meets s t (is_too_large h) course = too_large h ≡ course

-- ---- moves and answers, one after the other

module _ (s : Setting) (t : Teller) where
  abbrev pub asked_next : (is_skipped : Bool) → Stack → History → Next
  asked_next true st h = skipped st h
  asked_next false st h = entered s st h

  -- what the stack waits for is answered as the teller tells
  abbrev pub answered : Need → Stack → History → Next
  answered nothing st h = moved s st h
  answered (skipping instance status) st h = asked_next (t.skips h instance) st h
  answered (ending instance status) st h = ended (outcomes_of t h instance instance.work) st h
  answered over st h = goes_on st h

  abbrev pub then_moves : Next → (Stack → History → Course) → Course
  then_moves (goes_on st h) next = next st h
  then_moves (is_too_large h) next = too_large h

  -- the history after so many
  abbrev pub come_to : ℕ → Stack → History → Course
  come_to zero st h = goes h
  come_to (suc n) st h = then_moves (answered (need_of st) st h) (come_to n)
