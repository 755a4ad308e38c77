-- What a teller needn't hear of.
use Rattle.std.proofs.Common.{◌≡◌, ℕ, Bool, IsTrue, true, List, [], ◌∷◌, refl, subst}
use Rattle.cfa_outcomes.specs.declared.outcomes.Outcome.{Outcome}
use Rattle.cfa_resolve.specs.declared.instances.Instance.{Instance}
use Rattle.cfa_states.specs.History.{History, Event, Listed, Told}
use Rattle.cfa_states.specs.Levels.{Quietly, nothing as no_event, one_more, is_quiet}
use Rattle.cfa_states.specs.lemmas.Courses.{quietly_then}
use Rattle.cfa_states.specs.Passes.{told}
use Rattle.cfa_states.specs.Views.{Setting}
use Rattle.cfa_statuses.specs.declared.levels.Status.{Status}
use Rattle.cfa_frames.specs.Frames.{Ahead, Doing, Frame, Stack, asked, idle, running}
use Rattle.cfa_frames.specs.Hearing.{NextQuietly}
use Rattle.cfa_frames.specs.Moves.{Next, goes_on, is_too_large, Need, skipping, ending, doing_need, frames_need, need_of, moved, with_doing, doing_skipped, frames_skipped, skipped, begun_by, doing_entered, frames_entered, entered, doing_ended, frames_ended, ended}
use Rattle.cfa_frames.proofs.AddLemmas.{NextHas, moved_has, begun_has, told_raises}
use Rattle.cfa_frames.proofs.LightLemmas.{ahead_ends_not, ahead_skips_not}

came : (event : Event) (h : History) → IsTrue (is_quiet event) → Quietly h (event ∷ h)
came event h quiet = one_more event quiet no_event

same : (h : History) → Quietly h h
same h = no_event

joined : (h k m : History) → Quietly h k → Quietly k m → Quietly h m
joined h k m first second = quietly_then first second

has_quietly : (h : History) (x : Next) → NextHas Quietly h x → NextQuietly h x
has_quietly h (goes_on st k) has = has
has_quietly h (is_too_large k) has = has

pub moved_quietly : (s : Setting) (st : Stack) (h : History) → NextQuietly h (moved s st h)
moved_quietly s st h = has_quietly h (moved s st h) (moved_has Quietly same joined came s st h)

-- ---- answers

skipping_same : (i j : Instance) (status other : Status) → skipping i status ≡ skipping j other → (i ≡ j) × (status ≡ other)
skipping_same i j status other is = (cc, cc)

ending_same : (i j : Instance) (status other : Status) → ending i status ≡ ending j other → (i ≡ j) × (status ≡ other)
ending_same i j status other is = (cc, cc)

heard_skipped : (h : History) (x : Next) (i j : Instance) (status other : Status) → skipping j other ≡ skipping i status →
    NextQuietly (Told j [] ∷ Listed j other ∷ h) x → NextQuietly (Told i [] ∷ Listed i status ∷ h) x
heard_skipped h x i j status other is quietly =
    subst (λ (k : Instance). NextQuietly (Told k [] ∷ Listed k status ∷ h) x) (skipping_same j i other status is).0
    (subst (λ (one : Status). NextQuietly (Told j [] ∷ Listed j one ∷ h) x) (skipping_same j i other status is).1 quietly)

heard_entered : (h : History) (x : Next) (i j : Instance) (status other : Status) → skipping j other ≡ skipping i status →
    NextQuietly (Listed j other ∷ h) x → NextQuietly (Listed i status ∷ h) x
heard_entered h x i j status other is quietly =
    subst (λ (k : Instance). NextQuietly (Listed k status ∷ h) x) (skipping_same j i other status is).0
    (subst (λ (one : Status). NextQuietly (Listed j one ∷ h) x) (skipping_same j i other status is).1 quietly)

heard_ended : (os : List Outcome) (h : History) (x : Next) (i j : Instance) (status other : Status) → ending j other ≡ ending i status →
    NextQuietly (Told j os ∷ h) x → NextQuietly (Told i os ∷ h) x
heard_ended os h x i j status other is quietly =
    subst (λ (k : Instance). NextQuietly (Told k os ∷ h) x) (ending_same j i other status is).0 quietly

doing_skips : (d : Doing) (f : Frame) (frames : List Frame) (a : Ahead) (h : History) (i : Instance) (status : Status) → doing_need d ≡ skipping i status →
    NextQuietly (Told i [] ∷ Listed i status ∷ h) (doing_skipped d f frames a h)
doing_skips idle f frames a h i status need = absurd cc
doing_skips (asked j other) f frames a h i status need =
    heard_skipped h (doing_skipped (asked j other) f frames a h) i j status other need no_event
doing_skips (running j other) f frames a h i status need = absurd cc

frames_skip : (frames : List Frame) (a : Ahead) (h : History) (i : Instance) (status : Status) → frames_need frames a ≡ skipping i status →
    NextQuietly (Told i [] ∷ Listed i status ∷ h) (frames_skipped frames a h)
frames_skip [] a h i status need = absurd (ahead_skips_not a.commons a.rounds a.sequence i status need)
frames_skip (f ∷ frames) a h i status need = doing_skips f.doing f frames a h i status need

pub skipped_quietly : (st : Stack) (h : History) (i : Instance) (status : Status) → need_of st ≡ skipping i status →
    NextQuietly (Told i [] ∷ Listed i status ∷ h) (skipped st h)
skipped_quietly st h i status need = frames_skip st.frames st.ahead h i status need

module _ (s : Setting) where
  doing_enters : (d : Doing) (f : Frame) (frames : List Frame) (a : Ahead) (h : History) (i : Instance) (status : Status) → doing_need d ≡ skipping i status →
      NextQuietly (Listed i status ∷ h) (doing_entered s d f frames a h)
  doing_enters idle f frames a h i status need = absurd cc
  doing_enters (asked j other) f frames a h i status need =
      heard_entered h (doing_entered s (asked j other) f frames a h) i j status other need
      (has_quietly (Listed j other ∷ h) (doing_entered s (asked j other) f frames a h)
      (begun_has Quietly same joined came s f.depth j other j.work (with_doing f (running j other) ∷ frames) a (Listed j other ∷ h)))
  doing_enters (running j other) f frames a h i status need = absurd cc

  frames_enter : (frames : List Frame) (a : Ahead) (h : History) (i : Instance) (status : Status) → frames_need frames a ≡ skipping i status →
      NextQuietly (Listed i status ∷ h) (frames_entered s frames a h)
  frames_enter [] a h i status need = absurd (ahead_skips_not a.commons a.rounds a.sequence i status need)
  frames_enter (f ∷ frames) a h i status need = doing_enters f.doing f frames a h i status need

  pub entered_quietly : (st : Stack) (h : History) (i : Instance) (status : Status) → need_of st ≡ skipping i status →
      NextQuietly (Listed i status ∷ h) (entered s st h)
  entered_quietly st h i status need = frames_enter st.frames st.ahead h i status need

doing_ends : (os : List Outcome) (d : Doing) (f : Frame) (frames : List Frame) (a : Ahead) (h : History) (i : Instance) (status : Status) → doing_need d ≡ ending i status →
    NextQuietly (Told i os ∷ h) (doing_ended os d f frames a h)
doing_ends os idle f frames a h i status need = absurd cc
doing_ends os (asked j other) f frames a h i status need = absurd cc
doing_ends os (running j other) f frames a h i status need =
    heard_ended os h (doing_ended os (running j other) f frames a h) i j status other need
    (told_raises Quietly same joined came j os other h)

frames_end : (os : List Outcome) (frames : List Frame) (a : Ahead) (h : History) (i : Instance) (status : Status) → frames_need frames a ≡ ending i status →
    NextQuietly (Told i os ∷ h) (frames_ended os frames a h)
frames_end os [] a h i status need = absurd (ahead_ends_not a.commons a.rounds a.sequence i status need)
frames_end os (f ∷ frames) a h i status need = doing_ends os f.doing f frames a h i status need

pub ended_quietly : (st : Stack) (h : History) (i : Instance) (status : Status) (os : List Outcome) → need_of st ≡ ending i status →
    NextQuietly (Told i os ∷ h) (ended os st h)
ended_quietly st h i status os need = frames_end os st.frames st.ahead h i status need
