-- What holds of each event that a teller needn't hear of, and of one history after the other, holds of a move; and of an answer
-- what holds besides of each event but an actuation.
use Rattle.std.proofs.Common.{◌≡◌, ℕ, zero, suc, ◌+◌, Bool, IsTrue, true, false, List, [], ◌∷◌, length, Option, Some, None, refl, nat_le}
use Rattle.cfa_defines.specs.ClassPromises.{Raise, raises_of}
use Rattle.cfa_defines.specs.FirstMaybe.{first_maybe_of_guard}
use Rattle.cfa_defines.specs.VarsPromises.{setting_choices, count_choices, data_set}
use Rattle.cfa_kinds.specs.Kinds.{bundle_type}
use Rattle.cfa_kinds.specs.declared.kinds.BundleType.{BundleType}
use Rattle.cfa_kinds.specs.declared.kinds.BundleType.TheVariants as bundles
use Rattle.cfa_kinds.specs.declared.kinds.PromiseType.{PromiseType}
use Rattle.cfa_kinds.specs.declared.kinds.PromiseType.TheVariants as promises
use Rattle.cfa_outcomes.specs.declared.outcomes.Outcome.{Outcome}
use Rattle.cfa_resolve.specs.Resolution.{resolution}
use Rattle.cfa_resolve.specs.declared.instances.Instance.{Instance}
use Rattle.cfa_resolve.specs.declared.instances.Resolved.{Resolved}
use Rattle.cfa_resolve.specs.declared.instances.Work.{Work}
use Rattle.cfa_resolve.specs.declared.instances.Work.TheVariants.{Acts, Call, Report}
use Rattle.cfa_served.specs.Served.{bundle_of}
use Rattle.cfa_states.specs.History.{History, Event, Home, Where, everywhere, Begun, Set, Raised, Reached, Listed, Told, mark_in, visits_in}
use Rattle.cfa_states.specs.Levels.{is_quiet}
use Rattle.cfa_states.specs.Numbered.{Numbered, params_of, is_type}
use Rattle.cfa_states.specs.Passes.{Course, goes, too_large, most_visits, visit_status, within_limit, reached, vars_reached, classes_reached, set_each, raise_all, raise_each, raise_event, raise_lists, raised_to, in_every_list, classes_for, handed, sets_variable, bind, told}
use Rattle.cfa_states.specs.Tellers.{inner_path}
use Rattle.cfa_states.specs.Views.{Setting, guard_status, reached_in_history, scopes_in, status_in}
use Rattle.cfa_statuses.specs.Status.{lesser}
use Rattle.cfa_statuses.specs.declared.levels.Status.{Status}
use Rattle.cfa_statuses.specs.declared.levels.Status.TheVariants.{No, Maybe, Yes}
use Rattle.cfa_tree.specs.Tree.{NamedTree, BlockTree, body, bundle}
use Rattle.cfa_vars.specs.declared.scoping.Datum.{Datum}
use Rattle.cfa_frames.specs.Frames.{Ahead, Doing, Frame, Stack, asked, idle, running}
use Rattle.cfa_frames.specs.Moves.{FrameNext, stays, leaves, goes_past, Next, goes_on, is_too_large, ending, doing_need, frames_need, need_of, reached_by, resolved_next, kept_next, guarded_next, promise_next, pass_next, type_next, visit_next, instance_next, frame_next, activated, by_type_next, named_next, ahead_next, frame_moved, doing_moved, frames_moved, moved, with_doing, doing_skipped, frames_skipped, skipped, begun_by, doing_entered, frames_entered, entered, doing_ended, frames_ended, ended}
use Rattle.cfa_frames.specs.Steps.{is_actuation}

-- what a teller needn't hear of is no actuation
pub quiet_is_none : (event : Event) → IsTrue (is_quiet event) → is_actuation event ≡ false
quiet_is_none (Begun path given) quiet = refl
quiet_is_none (Set path name datum) quiet = refl
quiet_is_none (Raised place class status source) quiet = refl
quiet_is_none (Reached home promise guard sets visits) quiet = refl
quiet_is_none (Listed instance status) quiet = absurd cc
quiet_is_none (Told instance outcomes) quiet = absurd cc

-- the history of what comes next is so related to the one before
abbrev pub NextHas : (History → History → Type 0) → History → Next → Type 0
NextHas R h (goes_on st k) = R h k
NextHas R h (is_too_large k) = R h k

module _ (R : History → History → Type 0) (same : (h : History) → R h h) (joined : (h k m : History) → R h k → R k m → R h m)
    (came : (event : Event) (h : History) → IsTrue (is_quiet event) → R h (event ∷ h)) where
  bind_has : (path : List ℕ) (params : List NamedTree) (given : List Datum) (h : History) → R h (bind path params given h)
  bind_has path [] given h = same h
  bind_has path (p ∷ params) [] h = same h
  bind_has path (p ∷ params) (datum ∷ given) h =
      let k : History = Set path p.name datum ∷ h in joined h k (bind path params given k) (came (Set path p.name datum) h refl) (bind_has path params given k)

  set_each_has : (path name : List ℕ) (set : List Datum) (h : History) → R h (set_each path name set h)
  set_each_has path name [] h = same h
  set_each_has path name (datum ∷ more) h =
      let k : History = Set path name datum ∷ h in joined h k (set_each path name more k) (came (Set path name datum) h refl) (set_each_has path name more k)

  raise_all_has : (before : History) (place : Where) (path : List ℕ) (guard : Status) (in_guard : Option (List ℕ)) (raises : List Raise) (h : History) →
      R h (raise_all before place path guard in_guard raises h)
  raise_all_has before place path guard in_guard [] h = same h
  raise_all_has before place path guard in_guard ((class, (status, first)) ∷ more) h =
      let k : History = raise_event before place path guard in_guard (class, (status, first)) h in
      joined h k (raise_all before place path guard in_guard more k) (came (Raised place class (lesser guard status) (handed before path in_guard first (lesser guard status))) h refl) (raise_all_has before place path guard in_guard more k)

  raise_each_has : (i : Instance) (os : List Outcome) (status : Status) (classes : List (List ℕ)) (h : History) → R h (raise_each i os status classes h)
  raise_each_has i os status [] h = same h
  raise_each_has i os status (class ∷ classes) h =
      let event : Event = Raised everywhere class (raised_to status (in_every_list i os class)) (Some i.source) in
      joined h (event ∷ h) (raise_each i os status classes (event ∷ h)) (came event h refl) (raise_each_has i os status classes (event ∷ h))

  raise_lists_have : (i : Instance) (os ps : List Outcome) (status : Status) (h : History) → R h (raise_lists i os ps status h)
  raise_lists_have i os [] status h = same h
  raise_lists_have i os (o ∷ ps) status h =
      let k : History = raise_each i os status (classes_for i o) h in
      joined h k (raise_lists i os ps status k) (raise_each_has i os status (classes_for i o) h) (raise_lists_have i os ps status k)

  pub told_raises : (i : Instance) (os : List Outcome) (status : Status) (h : History) → R (Told i os ∷ h) (told i os status h)
  unfolding told
  told_raises i os status h = raise_lists_have i os os status (Told i os ∷ h)

  -- ---- a bundle

  abbrev FrameHas : History → FrameNext → Type 0
  FrameHas h (stays f k) = R h k
  FrameHas h leaves = Unit {0}
  FrameHas h (goes_past k) = R h k

  abbrev CourseHas : History → Course → Type 0
  CourseHas h (goes k) = R h k
  CourseHas h (too_large k) = R h k

  module _ (s : Setting) where
    reached_has : (c : Course) (f : Frame) (h : History) → CourseHas h c → FrameHas h (reached_by c f)
    reached_has (goes k) f h grows = grows
    reached_has (too_large k) f h grows = grows

    limited_has : (within : Bool) (k m h : History) → R h k → R h m → CourseHas h (within_limit within (goes k) m)
    limited_has true k m h first past = first
    limited_has false k m h first past = past

    counted_has : (home : Home) (p : Numbered) (guard : Status) (sets : Bool) (n : ℕ) (h : History) → CourseHas h (reached home p guard sets n goes h)
    counted_has home p guard sets n h =
        limited_has (nat_le (n + visits_in h) most_visits) (Reached home p guard sets n ∷ h) (Reached home p guard sets n ∷ h) h
        (came (Reached home p guard sets n) h refl) (came (Reached home p guard sets n) h refl)

    vars_have : (home : Home) (p : Numbered) (guard : Status) (h : History) → CourseHas h (vars_reached s home p guard (setting_choices (scopes_in s h home) promises.Vars p.promise) h)
    vars_have home p guard h =
        let choices = setting_choices (scopes_in s h home) promises.Vars p.promise in
        let event : Event = Reached home p guard true (count_choices choices) in
        let set = data_set (scopes_in s h home) p.promise choices in
        limited_has (nat_le (count_choices choices + visits_in h) most_visits) (set_each home.path p.promise.promiser set (event ∷ h)) (event ∷ h) h
        (joined h (event ∷ h) (set_each home.path p.promise.promiser set (event ∷ h)) (came event h refl) (set_each_has home.path p.promise.promiser set (event ∷ h)))
        (came event h refl)

    classes_have : (place : Where) (home : Home) (p : Numbered) (guard : Status) (h : History) →
        CourseHas h (classes_reached s place home p guard (setting_choices (scopes_in s h home) promises.Classes p.promise) h)
    classes_have place home p guard h =
        let choices = setting_choices (scopes_in s h home) promises.Classes p.promise in
        let event : Event = Reached home p guard false (count_choices choices) in
        let waits = first_maybe_of_guard p.promise.guard (status_in s h home.path) in
        let raises : List Raise = raises_of (status_in s h home.path) (scopes_in s h home) p.promise choices in
        limited_has (nat_le (count_choices choices + visits_in h) most_visits) (raise_all h place home.path guard waits raises (event ∷ h)) (event ∷ h) h
        (joined h (event ∷ h) (raise_all h place home.path guard waits raises (event ∷ h)) (came event h refl) (raise_all_has h place home.path guard waits raises (event ∷ h)))
        (came event h refl)

    resolved_has : (f : Frame) (p : Numbered) (guard : Status) (r : Resolved) (h : History) → FrameHas h (resolved_next f p guard r h)
    resolved_has f p guard r h =
        reached_has (reached f.home p guard false r.visits goes h) (record f { guard = guard; instances = r.instances }) h (counted_has f.home p guard false r.visits h)

    kept_has : (f : Frame) (p : Numbered) (type : PromiseType) (guard : Status) (h : History) → FrameHas h (kept_next s f p type guard h)
    kept_has f p promises.Vars guard h =
        reached_has (vars_reached s f.home p guard (setting_choices (scopes_in s h f.home) promises.Vars p.promise) h) f h (vars_have f.home p guard h)
    kept_has f p promises.Classes guard h =
        reached_has (classes_reached s f.raises_in f.home p guard (setting_choices (scopes_in s h f.home) promises.Classes p.promise) h) f h (classes_have f.raises_in f.home p guard h)
    kept_has f p promises.Files guard h = resolved_has f p guard (resolution (reached_in_history s h f.home promises.Files p)) h
    kept_has f p promises.Methods guard h = resolved_has f p guard (resolution (reached_in_history s h f.home promises.Methods p)) h
    kept_has f p promises.Services guard h = resolved_has f p guard (resolution (reached_in_history s h f.home promises.Services p)) h
    kept_has f p promises.Reports guard h = resolved_has f p guard (resolution (reached_in_history s h f.home promises.Reports p)) h
    kept_has f p type guard h = same h

    guarded_has : (f : Frame) (p : Numbered) (guard : Status) (h : History) → FrameHas h (guarded_next s f p guard h)
    guarded_has f p No h = reached_has (reached f.home p No (sets_variable p.type) 1 goes h) f h (counted_has f.home p No (sets_variable p.type) 1 h)
    guarded_has f p Maybe h = kept_has f p p.type Maybe h
    guarded_has f p Yes h = kept_has f p p.type Yes h

    promise_has : (b : Bool) (f : Frame) (p : Numbered) (h : History) → FrameHas h (promise_next s b f p h)
    promise_has true f p h = guarded_has f p (guard_status s h f.home.path p.promise.guard) h
    promise_has false f p h = same h

    pass_has : (n : ℕ) (f : Frame) (h : History) → FrameHas h (pass_next s n f h)
    pass_has zero f h = tt
    pass_has (suc n) f h = same h

    type_has : (types : List PromiseType) (ps : List Numbered) (f : Frame) (h : History) → FrameHas h (type_next s types ps f h)
    type_has [] ps f h = pass_has f.passes f h
    type_has (type ∷ types) [] f h = same h
    type_has (type ∷ types) (p ∷ ps) f h = promise_has (is_type type p.type) (record f { promises = ps }) p h

    visit_has : (status : Status) (i : Instance) (f : Frame) (h : History) → FrameHas h (visit_next s status i f h)
    visit_has No i f h = same h
    visit_has Maybe i f h = same h
    visit_has Yes i f h = same h

    instance_has : (is : List Instance) (f : Frame) (h : History) → FrameHas h (instance_next s is f h)
    instance_has [] f h = type_has f.types f.promises f h
    instance_has (i ∷ is) f h = visit_has (visit_status f.guard f.status (mark_in h i.path i.text)) i (record f { instances = is }) h

    -- ---- a stack

    activated_has : (depth : ℕ) (path : List ℕ) (status : Status) (given : List Datum) (found : Option BlockTree) (frames : List Frame) (a : Ahead) (h : History) →
        NextHas R h (activated depth path status given found frames a h)
    activated_has depth path status given None frames a h = came (Begun path given) h refl
    activated_has depth path status given (Some block) frames a h =
        let k : History = Begun path given ∷ h in joined h k (bind path (params_of block) given k) (came (Begun path given) h refl) (bind_has path (params_of block) given k)

    by_type_has : (name : List ℕ) (type : Option BundleType) (found : Option BlockTree) (a : Ahead) (h : History) → NextHas R h (by_type_next s name type found a h)
    by_type_has name None found a h = same h
    by_type_has name (Some bundles.Agent) found a h = activated_has (length s.policy) name Yes [] found [] a h
    by_type_has name (Some bundles.Common) found a h = same h
    by_type_has name (Some bundles.EditLine) found a h = same h

    named_has : (name : List ℕ) (found : Option BlockTree) (a : Ahead) (h : History) → NextHas R h (named_next s name found a h)
    named_has name None a h = same h
    named_has name (Some (bundle type_name named params sections place)) a h = by_type_has name (bundle_type type_name.name) (Some (bundle type_name named params sections place)) a h
    named_has name (Some (body type_name named params attributes place)) a h = same h

    ahead_has : (commons : List BlockTree) (rounds : ℕ) (sequence : List (List ℕ)) (h : History) → NextHas R h (ahead_next s commons rounds sequence h)
    ahead_has (block ∷ commons) rounds sequence h = same h
    ahead_has [] (suc n) sequence h = same h
    ahead_has [] zero (name ∷ sequence) h = named_has name (bundle_of s.policy name) (record { commons = []; rounds = zero; sequence = sequence }) h
    ahead_has [] zero [] h = same h

    frame_moved_has : (x : FrameNext) (frames : List Frame) (a : Ahead) (h : History) → FrameHas h x → NextHas R h (frame_moved s x frames a h)
    frame_moved_has (stays f k) frames a h grows = grows
    frame_moved_has leaves frames a h grows = same h
    frame_moved_has (goes_past k) frames a h grows = grows

    doing_moved_has : (d : Doing) (f : Frame) (frames : List Frame) (a : Ahead) (h : History) → NextHas R h (doing_moved s d f frames a h)
    doing_moved_has idle f frames a h = frame_moved_has (frame_next s f h) frames a h (instance_has f.instances f h)
    doing_moved_has (asked i status) f frames a h = same h
    doing_moved_has (running i status) f frames a h = same h

    frames_moved_have : (frames : List Frame) (a : Ahead) (h : History) → NextHas R h (frames_moved s frames a h)
    frames_moved_have [] a h = ahead_has a.commons a.rounds a.sequence h
    frames_moved_have (f ∷ frames) a h = doing_moved_has f.doing f frames a h

    pub moved_has : (st : Stack) (h : History) → NextHas R h (moved s st h)
    moved_has st h = frames_moved_have st.frames st.ahead h

    pub next_has : (h k : History) (x : Next) → R h k → NextHas R k x → NextHas R h x
    next_has h k (goes_on st m) first next = joined h k m first next
    next_has h k (is_too_large m) first next = joined h k m first next

    pub begun_has : (depth : ℕ) (i : Instance) (status : Status) (w : Work) (frames : List Frame) (a : Ahead) (h : History) → NextHas R h (begun_by s depth i status w frames a h)
    begun_has depth i status (Acts acts) frames a h = same h
    begun_has depth i status (Report content) frames a h = same h
    begun_has zero i status (Call name given) frames a h = came (Begun (inner_path i) []) h refl
    begun_has (suc n) i status (Call name given) frames a h = activated_has n (inner_path i) status given (bundle_of s.policy name) frames a h

  -- ---- answers

  module _ (heard : (event : Event) (h : History) → is_actuation event ≡ false → R h (event ∷ h)) where
    module _ (s : Setting) where
      doing_entered_has : (d : Doing) (f : Frame) (frames : List Frame) (a : Ahead) (h : History) → NextHas R h (doing_entered s d f frames a h)
      doing_entered_has (asked i status) f frames a h =
          next_has s h (Listed i status ∷ h) (doing_entered s (asked i status) f frames a h) (heard (Listed i status) h refl)
          (begun_has s f.depth i status i.work (with_doing f (running i status) ∷ frames) a (Listed i status ∷ h))
      doing_entered_has idle f frames a h = same h
      doing_entered_has (running i status) f frames a h = same h

      frames_entered_have : (frames : List Frame) (a : Ahead) (h : History) → NextHas R h (frames_entered s frames a h)
      frames_entered_have [] a h = same h
      frames_entered_have (f ∷ frames) a h = doing_entered_has f.doing f frames a h

      pub entered_has : (st : Stack) (h : History) → NextHas R h (entered s st h)
      entered_has st h = frames_entered_have st.frames st.ahead h

    -- ---- answers that ask no policy

    doing_skipped_has : (d : Doing) (f : Frame) (frames : List Frame) (a : Ahead) (h : History) → NextHas R h (doing_skipped d f frames a h)
    doing_skipped_has (asked i status) f frames a h = joined h (Listed i status ∷ h) (Told i [] ∷ Listed i status ∷ h) (heard (Listed i status) h refl) (heard (Told i []) (Listed i status ∷ h) refl)
    doing_skipped_has idle f frames a h = same h
    doing_skipped_has (running i status) f frames a h = same h

    frames_skipped_have : (frames : List Frame) (a : Ahead) (h : History) → NextHas R h (frames_skipped frames a h)
    frames_skipped_have [] a h = same h
    frames_skipped_have (f ∷ frames) a h = doing_skipped_has f.doing f frames a h

    pub skipped_has : (st : Stack) (h : History) → NextHas R h (skipped st h)
    skipped_has st h = frames_skipped_have st.frames st.ahead h

    -- where the telling itself is so
    doing_ended_has : (os : List Outcome) (d : Doing) (f : Frame) (frames : List Frame) (a : Ahead) (h : History) →
        ((i : Instance) (status : Status) → doing_need d ≡ ending i status → R h (Told i os ∷ h)) → NextHas R h (doing_ended os d f frames a h)
    doing_ended_has os (running i status) f frames a h tells =
        joined h (Told i os ∷ h) (told i os status h) (tells i status refl) (told_raises i os status h)
    doing_ended_has os idle f frames a h tells = same h
    doing_ended_has os (asked i status) f frames a h tells = same h

    frames_ended_have : (os : List Outcome) (frames : List Frame) (a : Ahead) (h : History) →
        ((i : Instance) (status : Status) → frames_need frames a ≡ ending i status → R h (Told i os ∷ h)) → NextHas R h (frames_ended os frames a h)
    frames_ended_have os [] a h tells = same h
    frames_ended_have os (f ∷ frames) a h tells = doing_ended_has os f.doing f frames a h tells

    pub ended_has : (os : List Outcome) (st : Stack) (h : History) →
        ((i : Instance) (status : Status) → need_of st ≡ ending i status → R h (Told i os ∷ h)) → NextHas R h (ended os st h)
    ended_has os st h tells = frames_ended_have os st.frames st.ahead h tells
