-- Frames stay nested.
use Rattle.std.proofs.Common.{◌≡◌, ◌∙◌, ℕ, zero, suc, ◌<◌, ◌≤◌, Bool, true, false, List, [], ◌∷◌, length, length-append, arith, All, Option, Some, None, refl, ap, sym}
use Rattle.std.specs.Prelude.{⊤}
use Rattle.std.proofs.lemmas.List.Elements.{All-head, All-nil, All-tail}
use Rattle.cfa_defines.specs.VarsPromises.{setting_choices}
use Rattle.cfa_kinds.specs.Kinds.{bundle_type}
use Rattle.cfa_kinds.specs.declared.kinds.BundleType.{BundleType}
use Rattle.cfa_kinds.specs.declared.kinds.BundleType.TheVariants as bundles
use Rattle.cfa_kinds.specs.declared.kinds.PromiseType.{PromiseType}
use Rattle.cfa_kinds.specs.declared.kinds.PromiseType.TheVariants as promises
use Rattle.cfa_outcomes.specs.declared.outcomes.Outcome.{Outcome}
use Rattle.cfa_resolve.specs.Instances.{Reached}
use Rattle.cfa_resolve.specs.Laws.{InstancesAreNamed, IsInstanceOf}
use Rattle.cfa_resolve.specs.Resolution.{resolution}
use Rattle.cfa_resolve.specs.declared.instances.Instance.{Instance}
use Rattle.cfa_resolve.specs.declared.instances.Work.{Work}
use Rattle.cfa_resolve.specs.declared.instances.Work.TheVariants.{Acts, Call, Report}
use Rattle.cfa_served.specs.Served.{bundle_of}
use Rattle.cfa_states.specs.History.{History, Listed, mark_in}
use Rattle.cfa_states.specs.Numbered.{Numbered, is_type, name_of}
use Rattle.cfa_states.specs.Passes.{Course, goes, too_large, visit_status, reached, vars_reached, classes_reached, sets_variable}
use Rattle.cfa_states.specs.Tellers.{inner_path}
use Rattle.cfa_states.specs.Views.{Setting, guard_status, reached_in_history, scopes_in}
use Rattle.cfa_statuses.specs.declared.levels.Status.{Status}
use Rattle.cfa_statuses.specs.declared.levels.Status.TheVariants.{No, Maybe, Yes}
use Rattle.cfa_tree.specs.Tree.{BlockTree, body, bundle}
use Rattle.cfa_vars.specs.declared.scoping.Datum.{Datum}
use Rattle.cfa_frames.specs.Frames.{Ahead, Doing, Frame, Stack, asked, idle, running}
use Rattle.cfa_frames.specs.Moves.{FrameNext, stays, leaves, goes_past, reached_by, resolved_next, kept_next, guarded_next, promise_next, pass_next, type_next, visit_next, instance_next, frame_next, activated, by_type_next, named_next, ahead_next, frame_moved, doing_moved, frames_moved, moved, with_doing, doing_skipped, frames_skipped, skipped, begun_by, doing_entered, frames_entered, entered, doing_ended, frames_ended, ended}
use Rattle.cfa_frames.specs.Standing.{IsOf, IsInHand, HasOwn, RunsCall, AreBelow, AreNested, AreShorter, NextIsNested}

-- a frame of the same activation, with its own instances
record IsSame (f g : Frame) : Type 0 where
  path : g.home.path ≡ f.home.path
  depth : g.depth ≡ f.depth
  status : g.status ≡ f.status
  own : HasOwn g

runs_same : (d : Doing) (depth : ℕ) (f g : Frame) → IsSame f g → RunsCall d depth f → RunsCall d depth g
runs_same idle depth f g same runs = absurd runs
runs_same (asked i status) depth f g same runs = absurd runs
runs_same (running i status) depth f g same runs = (same.path ∙ runs.0, ap suc same.depth ∙ runs.1, same.status ∙ runs.2)

below_same : (f g : Frame) (frames : List Frame) → IsSame f g → AreBelow f frames → AreBelow g frames
below_same f g [] same below = tt
below_same f g (k ∷ frames) same below = (runs_same k.doing k.depth f g same below.0, below.1, below.2)

nested_below : (f : Frame) (frames : List Frame) → AreBelow f frames → AreNested frames
nested_below f [] below = tt
nested_below f (g ∷ frames) below = (below.1, below.2)

-- ---- a bundle

abbrev StaysSame : Frame → FrameNext → Type 0
StaysSame f (stays g k) = IsSame f g
StaysSame f leaves = ⊤
StaysSame f (goes_past k) = ⊤

itself : (f : Frame) → HasOwn f → IsSame f f
itself f own = record { path = refl; depth = refl; status = refl; own = own }

all_named : (r : Reached) (is : List Instance) → All (IsInstanceOf r) is → All (IsOf r.path) is
all_named r is named = λ k d within. (named k d within).path

module _ (named : InstancesAreNamed) (s : Setting) where
  -- a frame that differs from another in what is left of its passes alone
  abbrev passed : Frame → List PromiseType → List Numbered → ℕ → Frame
  passed f types ps n = record f { types = types; promises = ps; passes = n }

  reached_same : (f g : Frame) (c : Course) → IsSame f g → StaysSame f (reached_by c g)
  reached_same f g (goes k) same = same
  reached_same f g (too_large k) same = tt

  resolved_same : (f g : Frame) (p : Numbered) (type : PromiseType) (guard : Status) (h : History) → IsSame f g →
      StaysSame f (resolved_next g p guard (resolution (reached_in_history s h g.home type p)) h)
  resolved_same f g p type guard h same =
      let r : Reached = reached_in_history s h g.home type p in
      reached_same f (record g { guard = guard; instances = (resolution r).instances }) (reached g.home p guard false (resolution r).visits goes h)
      (record { path = same.path; depth = same.depth; status = same.status; own = record { doing = same.own.doing; instances = all_named r (resolution r).instances (named r) } })

  kept_same : (f g : Frame) (p : Numbered) (type : PromiseType) (guard : Status) (h : History) → IsSame f g → StaysSame f (kept_next s g p type guard h)
  kept_same f g p promises.Vars guard h same = reached_same f g (vars_reached s g.home p guard (setting_choices (scopes_in s h g.home) promises.Vars p.promise) h) same
  kept_same f g p promises.Classes guard h same =
      reached_same f g (classes_reached s g.raises_in g.home p guard (setting_choices (scopes_in s h g.home) promises.Classes p.promise) h) same
  kept_same f g p promises.Files guard h same = resolved_same f g p promises.Files guard h same
  kept_same f g p promises.Methods guard h same = resolved_same f g p promises.Methods guard h same
  kept_same f g p promises.Services guard h same = resolved_same f g p promises.Services guard h same
  kept_same f g p promises.Reports guard h same = resolved_same f g p promises.Reports guard h same
  kept_same f g p type guard h same = same

  guarded_same : (f g : Frame) (p : Numbered) (guard : Status) (h : History) → IsSame f g → StaysSame f (guarded_next s g p guard h)
  guarded_same f g p No h same = reached_same f g (reached g.home p No (sets_variable p.type) 1 goes h) same
  guarded_same f g p Maybe h same = kept_same f g p p.type Maybe h same
  guarded_same f g p Yes h same = kept_same f g p p.type Yes h same

  promise_same : (b : Bool) (f g : Frame) (p : Numbered) (h : History) → IsSame f g → StaysSame f (promise_next s b g p h)
  promise_same true f g p h same = guarded_same f g p (guard_status s h g.home.path p.promise.guard) h same
  promise_same false f g p h same = same

  left_same : (f : Frame) (types : List PromiseType) (ps : List Numbered) (n : ℕ) → HasOwn f → IsSame f (passed f types ps n)
  left_same f types ps n own = record { path = refl; depth = refl; status = refl; own = record { doing = own.doing; instances = own.instances } }

  pass_same : (n : ℕ) (f : Frame) (h : History) → HasOwn f → StaysSame f (pass_next s n f h)
  pass_same zero f h own = tt
  pass_same (suc n) f h own = left_same f _ _ n own

  type_same : (types : List PromiseType) (ps : List Numbered) (f : Frame) (h : History) → HasOwn f → StaysSame f (type_next s types ps f h)
  type_same [] ps f h own = pass_same f.passes f h own
  type_same (type ∷ types) [] f h own = left_same f types f.all f.passes own
  type_same (type ∷ types) (p ∷ ps) f h own = promise_same (is_type type p.type) f (record f { promises = ps }) p h (left_same f f.types ps f.passes own)

  visit_same : (status : Status) (i : Instance) (is : List Instance) (f : Frame) (h : History) → IsOf f.home.path i → All (IsOf f.home.path) is → IsInHand f.home.path f.doing →
      StaysSame f (visit_next s status i (record f { instances = is }) h)
  visit_same No i is f h first more doing = record { path = refl; depth = refl; status = refl; own = record { doing = doing; instances = more } }
  visit_same Maybe i is f h first more doing = record { path = refl; depth = refl; status = refl; own = record { doing = first; instances = more } }
  visit_same Yes i is f h first more doing = record { path = refl; depth = refl; status = refl; own = record { doing = first; instances = more } }

  instance_same : (is : List Instance) (f : Frame) (h : History) → HasOwn f → All (IsOf f.home.path) is → StaysSame f (instance_next s is f h)
  instance_same [] f h own all = type_same f.types f.promises f h own
  instance_same (i ∷ is) f h own all = visit_same (visit_status f.guard f.status (mark_in h i.path i.text)) i is f h (All-head (IsOf f.home.path) i is all) (All-tail (IsOf f.home.path) i is all) own.doing

  -- ---- a stack

  frame_moved_nested : (x : FrameNext) (f : Frame) (frames : List Frame) (a : Ahead) (h : History) → StaysSame f x → AreBelow f frames → NextIsNested (frame_moved s x frames a h)
  frame_moved_nested (stays g k) f frames a h same below = (same.own, below_same f g frames same below)
  frame_moved_nested leaves f frames a h same below = nested_below f frames below
  frame_moved_nested (goes_past k) f frames a h same below = tt

  doing_moved_nested : (d : Doing) (f : Frame) (frames : List Frame) (a : Ahead) (h : History) → HasOwn f → AreBelow f frames → NextIsNested (doing_moved s d f frames a h)
  doing_moved_nested idle f frames a h own below = frame_moved_nested (frame_next s f h) f frames a h (instance_same f.instances f h own own.instances) below
  doing_moved_nested (asked i status) f frames a h own below = (own, below)
  doing_moved_nested (running i status) f frames a h own below = (own, below)

-- a bundle that begins above these frames
activated_nested : (depth : ℕ) (path : List ℕ) (status : Status) (given : List Datum) (found : Option BlockTree) (frames : List Frame) (a : Ahead) (h : History) → AreNested frames →
    ((f : Frame) → f.home.path ≡ path → f.depth ≡ depth → f.status ≡ status → AreBelow f frames) → NextIsNested (activated depth path status given found frames a h)
activated_nested depth path status given None frames a h nested below = nested
activated_nested depth path status given (Some block) frames a h nested below = (record { doing = tt; instances = All-nil (IsOf path) }, below _ refl refl refl)

module _ (s : Setting) where
  by_type_nested : (name : List ℕ) (type : Option BundleType) (found : Option BlockTree) (a : Ahead) (h : History) → NextIsNested (by_type_next s name type found a h)
  by_type_nested name None found a h = tt
  by_type_nested name (Some bundles.Agent) found a h = activated_nested (length s.policy) name Yes [] found [] a h tt (λ f path depth status. tt)
  by_type_nested name (Some bundles.Common) found a h = tt
  by_type_nested name (Some bundles.EditLine) found a h = tt

  named_nested : (name : List ℕ) (found : Option BlockTree) (a : Ahead) (h : History) → NextIsNested (named_next s name found a h)
  named_nested name None a h = tt
  named_nested name (Some (bundle type_name named params sections place)) a h = by_type_nested name (bundle_type type_name.name) (Some (bundle type_name named params sections place)) a h
  named_nested name (Some (body type_name named params attributes place)) a h = tt

  ahead_nested : (commons : List BlockTree) (rounds : ℕ) (sequence : List (List ℕ)) (h : History) → NextIsNested (ahead_next s commons rounds sequence h)
  ahead_nested (block ∷ commons) rounds sequence h = (record { doing = tt; instances = All-nil (IsOf (name_of block)) }, tt)
  ahead_nested [] (suc n) sequence h = tt
  ahead_nested [] zero (name ∷ sequence) h = named_nested name (bundle_of s.policy name) (record { commons = []; rounds = zero; sequence = sequence }) h
  ahead_nested [] zero [] h = tt

  frames_moved_nested : InstancesAreNamed → (frames : List Frame) (a : Ahead) (h : History) → AreNested frames → NextIsNested (frames_moved s frames a h)
  frames_moved_nested named [] a h nested = ahead_nested a.commons a.rounds a.sequence h
  frames_moved_nested named (f ∷ frames) a h nested = doing_moved_nested named s f.doing f frames a h nested.0 nested.1

  pub moved_nested : InstancesAreNamed → (st : Stack) (h : History) → AreNested st.frames → NextIsNested (moved s st h)
  moved_nested named st h nested = frames_moved_nested named st.frames st.ahead h nested

-- ---- answers

answered_same : (f : Frame) (d : Doing) → HasOwn f → IsInHand f.home.path d → IsSame f (with_doing f d)
answered_same f d own hand = record { path = refl; depth = refl; status = refl; own = record { doing = hand; instances = own.instances } }

-- a frame whose visit in hand went on
hand_nested : (f : Frame) (d : Doing) (frames : List Frame) → HasOwn f → IsInHand f.home.path d → AreBelow f frames → AreNested (with_doing f d ∷ frames)
hand_nested f d frames own hand below = let same = answered_same f d own hand in (same.own, below_same f (with_doing f d) frames same below)

doing_skipped_nested : (d : Doing) (f : Frame) (frames : List Frame) (a : Ahead) (h : History) → HasOwn f → AreBelow f frames → NextIsNested (doing_skipped d f frames a h)
doing_skipped_nested (asked i status) f frames a h own below = hand_nested f idle frames own tt below
doing_skipped_nested idle f frames a h own below = (own, below)
doing_skipped_nested (running i status) f frames a h own below = (own, below)

frames_skipped_nested : (frames : List Frame) (a : Ahead) (h : History) → AreNested frames → NextIsNested (frames_skipped frames a h)
frames_skipped_nested [] a h nested = tt
frames_skipped_nested (f ∷ frames) a h nested = doing_skipped_nested f.doing f frames a h nested.0 nested.1

pub skipped_nested : (st : Stack) (h : History) → AreNested st.frames → NextIsNested (skipped st h)
skipped_nested st h nested = frames_skipped_nested st.frames st.ahead h nested

doing_ended_nested : (os : List Outcome) (d : Doing) (f : Frame) (frames : List Frame) (a : Ahead) (h : History) → HasOwn f → AreBelow f frames → NextIsNested (doing_ended os d f frames a h)
doing_ended_nested os (running i status) f frames a h own below = hand_nested f idle frames own tt below
doing_ended_nested os idle f frames a h own below = (own, below)
doing_ended_nested os (asked i status) f frames a h own below = (own, below)

frames_ended_nested : (os : List Outcome) (frames : List Frame) (a : Ahead) (h : History) → AreNested frames → NextIsNested (frames_ended os frames a h)
frames_ended_nested os [] a h nested = tt
frames_ended_nested os (f ∷ frames) a h nested = doing_ended_nested os f.doing f frames a h nested.0 nested.1

pub ended_nested : (os : List Outcome) (st : Stack) (h : History) → AreNested st.frames → NextIsNested (ended os st h)
ended_nested os st h nested = frames_ended_nested os st.frames st.ahead h nested

module _ (s : Setting) where
  begun_nested : (depth : ℕ) (i : Instance) (status : Status) (w : Work) (f : Frame) (frames : List Frame) (a : Ahead) (h : History) → f.depth ≡ depth →
      AreNested (with_doing f (running i status) ∷ frames) → NextIsNested (begun_by s depth i status w (with_doing f (running i status) ∷ frames) a h)
  begun_nested depth i status (Acts acts) f frames a h at nested = nested
  begun_nested depth i status (Report content) f frames a h at nested = nested
  begun_nested zero i status (Call name given) f frames a h at nested = nested
  begun_nested (suc n) i status (Call name given) f frames a h at nested =
      activated_nested n (inner_path i) status given (bundle_of s.policy name) (with_doing f (running i status) ∷ frames) a h nested
      (λ g path depth status. ((path, ap suc depth ∙ sym at, status), nested.0, nested.1))

  doing_entered_nested : (d : Doing) (f : Frame) (frames : List Frame) (a : Ahead) (h : History) → HasOwn f → IsInHand f.home.path d → AreBelow f frames →
      NextIsNested (doing_entered s d f frames a h)
  doing_entered_nested (asked i status) f frames a h own hand below =
      begun_nested f.depth i status i.work f frames a (Listed i status ∷ h) refl (hand_nested f (running i status) frames own hand below)
  doing_entered_nested idle f frames a h own hand below = (own, below)
  doing_entered_nested (running i status) f frames a h own hand below = (own, below)

  frames_entered_nested : (frames : List Frame) (a : Ahead) (h : History) → AreNested frames → NextIsNested (frames_entered s frames a h)
  frames_entered_nested [] a h nested = tt
  frames_entered_nested (f ∷ frames) a h nested = doing_entered_nested f.doing f frames a h nested.0 nested.0.doing nested.1

  pub entered_nested : (st : Stack) (h : History) → AreNested st.frames → NextIsNested (entered s st h)
  entered_nested st h nested = frames_entered_nested st.frames st.ahead h nested

-- ---- paths

caller_shorter : (d : Doing) (depth : ℕ) (above : Frame) (path : List ℕ) → IsInHand path d → RunsCall d depth above → length path < length above.home.path
caller_shorter idle depth above path hand runs = absurd runs
caller_shorter (asked i status) depth above path hand runs = absurd runs
caller_shorter (running i status) depth above path hand runs =
    let whole = ap length runs.0 in
    let parts = length-append i.path (10 ∷ i.text) in
    let same = ap length hand in omega (arith, whole, parts, same)

below_shorter : (above : Frame) (frames : List Frame) (n : ℕ) → AreBelow above frames → length above.home.path ≤ n → AreShorter n frames
below_shorter above [] n below most = tt
below_shorter above (f ∷ frames) n below most =
    let less : length f.home.path < length above.home.path = caller_shorter f.doing f.depth above f.home.path below.1.doing below.0 in
    (omega (arith, less, most), below_shorter f frames n below.2 (omega (arith, less, most)))

pub nested_shorter : (f : Frame) (frames : List Frame) → AreNested (f ∷ frames) → AreShorter (length f.home.path) frames
nested_shorter f frames nested = below_shorter f frames (length f.home.path) nested.1 (omega arith)
