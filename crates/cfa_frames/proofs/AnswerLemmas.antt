-- An answer leaves what the history so far and the stack still come to as it was.
use Rattle.std.proofs.Common.{◌≡◌, ◌∙◌, ℕ, zero, suc, Bool, true, false, List, [], ◌∷◌, refl, ap, sym, subst}
use Rattle.cfa_resolve.specs.declared.instances.Instance.{Instance}
use Rattle.cfa_resolve.specs.declared.instances.Work.{Work}
use Rattle.cfa_resolve.specs.declared.instances.Work.TheVariants.{Acts, Call, Report}
use Rattle.cfa_served.specs.Served.{bundle_of}
use Rattle.cfa_states.specs.History.{History, Begun, Listed}
use Rattle.cfa_states.specs.Levels.{outcomes_of}
use Rattle.cfa_states.specs.Passes.{Course, goes, then_on, told, tell, worked, unless_skipped, activation, called_by, calls_of, common_passes}
use Rattle.cfa_states.specs.Tellers.{Teller, inner_path}
use Rattle.cfa_states.specs.Views.{Setting}
use Rattle.cfa_statuses.specs.declared.levels.Status.{Status}
use Rattle.cfa_tree.specs.Tree.{BlockTree}
use Rattle.cfa_vars.specs.declared.scoping.Datum.{Datum}
use Rattle.cfa_frames.specs.Frames.{Ahead, Doing, Frame, Stack, asked, idle, running, doing_rest, behind_visit, frames_rest, ahead_rest, rest}
use Rattle.cfa_frames.specs.Moves.{Meets, Next, skipping, ending, over, doing_need, ahead_need, frames_need, need_of, activated, with_doing, doing_skipped, frames_skipped, skipped, begun_by, doing_entered, frames_entered, entered, doing_ended, frames_ended, ended}
use Rattle.cfa_frames.proofs.MoveLemmas.{activated_meets, two_levels}

skipping_is : (i j : Instance) (status other : Status) → skipping i status ≡ skipping j other → i ≡ j
skipping_is i j status other is = cc

pub ending_is : (i j : Instance) (status other : Status) → ending i status ≡ ending j other → i ≡ j
ending_is i j status other is = cc

module _ (s : Setting) (t : Teller) where
  -- what is left behind the visit in hand, where it did this
  abbrev behind : Frame → List Frame → Ahead → Course → Course
  behind f frames a c = then_on (then_on c (behind_visit s t f)) (frames_rest s t frames a)

  -- what is left behind the telling of the visit in hand
  abbrev after : Frame → List Frame → Ahead → History → Course
  after f frames a h = then_on (behind_visit s t f h) (frames_rest s t frames a)

  abbrev tells_by : Instance → Status → Frame → List Frame → Ahead → Work → History → Course
  tells_by i status f frames a w h = after f frames a (told i (outcomes_of t h i w) status h)

  meets_as : (x : Next) (c d : Course) → c ≡ d → Meets s t x c → Meets s t x d
  meets_as x c d is meets = subst (Meets s t x) is meets

  -- ---- it isn't skipped

  call_meets : (n : ℕ) (f : Frame) (i : Instance) (status : Status) (name : List ℕ) (given : List Datum) (frames : List Frame) (a : Ahead) (h : History) → i.work ≡ Call name given →
      Meets s t (activated n (inner_path i) status given (bundle_of s.policy name) (with_doing f (running i status) ∷ frames) a h)
      (then_on (then_on (called_by s t (calls_of s t n) (inner_path i) i.work status h) (tell t i status)) (after f frames a))
  call_meets n f i status name given frames a h is =
      let begins : Course = activation s t (calls_of s t n) (inner_path i) status given (bundle_of s.policy name) h in
      meets_as (activated n (inner_path i) status given (bundle_of s.policy name) (with_doing f (running i status) ∷ frames) a h)
      (then_on begins (tells_by i status f frames a i.work))
      (then_on (then_on (called_by s t (calls_of s t n) (inner_path i) i.work status h) (tell t i status)) (after f frames a))
      (ap (λ (w : Work). then_on begins (tells_by i status f frames a w)) is
      ∙ (two_levels begins (tell t i status) (after f frames a)
      ∙ ap (λ (w : Work). then_on (then_on (called_by s t (calls_of s t n) (inner_path i) w status h) (tell t i status)) (after f frames a)) (sym is)))
      (activated_meets s t n (inner_path i) status given (bundle_of s.policy name) (with_doing f (running i status) ∷ frames) a h)

  begun_meets : (depth : ℕ) (f : Frame) (i : Instance) (status : Status) (w : Work) (frames : List Frame) (a : Ahead) (h : History) → i.work ≡ w →
      Meets s t (begun_by s depth i status w (with_doing f (running i status) ∷ frames) a h) (then_on (worked t (calls_of s t depth) i w status h) (after f frames a))
  unfolding calls_of
  begun_meets depth f i status (Acts acts) frames a h is = ap (λ (w : Work). tells_by i status f frames a w h) is
  begun_meets depth f i status (Report content) frames a h is = ap (λ (w : Work). tells_by i status f frames a w h) is
  begun_meets zero f i status (Call name given) frames a h is = ap (λ (w : Work). tells_by i status f frames a w (Begun (inner_path i) [] ∷ h)) is
  begun_meets (suc n) f i status (Call name given) frames a h is = call_meets n f i status name given frames a h is

  asked_entered : (f : Frame) (i : Instance) (status : Status) (skips : Bool) (frames : List Frame) (a : Ahead) (h : History) → skips ≡ false →
      Meets s t (begun_by s f.depth i status i.work (with_doing f (running i status) ∷ frames) a h) (behind f frames a (unless_skipped t (calls_of s t f.depth) i status skips h))
  asked_entered f i status true frames a h is = cc
  asked_entered f i status false frames a h is =
      let work : Course = worked t (calls_of s t f.depth) i i.work status h in
      meets_as (begun_by s f.depth i status i.work (with_doing f (running i status) ∷ frames) a h) (then_on work (after f frames a)) (behind f frames a work)
      (two_levels work (behind_visit s t f) (frames_rest s t frames a))
      (begun_meets f.depth f i status i.work frames a h refl)

  doing_as : (x : Next) (f : Frame) (d : Doing) (frames : List Frame) (a : Ahead) (h : History) → f.doing ≡ d →
      Meets s t x (behind f frames a (doing_rest s t f.depth d h)) → Meets s t x (frames_rest s t (f ∷ frames) a h)
  doing_as x f d frames a h is meets = subst (λ (d : Doing). Meets s t x (behind f frames a (doing_rest s t f.depth d h))) (sym is) meets

  doing_enters : (d : Doing) (f : Frame) (frames : List Frame) (a : Ahead) (h : History) (i : Instance) (status : Status) → f.doing ≡ d → doing_need d ≡ skipping i status → t.skips h i ≡ false →
      Meets s t (doing_entered s d f frames a h) (frames_rest s t (f ∷ frames) a h)
  doing_enters idle f frames a h i status is need none = refl
  doing_enters (running j other) f frames a h i status is need none = refl
  doing_enters (asked j other) f frames a h i status is need none =
      doing_as (begun_by s f.depth j other j.work (with_doing f (running j other) ∷ frames) a (Listed j other ∷ h)) f (asked j other) frames a h is
      (asked_entered f j other (t.skips h j) frames a (Listed j other ∷ h) (ap (λ (i : Instance). t.skips h i) (skipping_is j i other status need) ∙ none))

  frames_enter : (frames : List Frame) (a : Ahead) (h : History) (i : Instance) (status : Status) → frames_need frames a ≡ skipping i status → t.skips h i ≡ false →
      Meets s t (frames_entered s frames a h) (frames_rest s t frames a h)
  frames_enter [] a h i status need none = refl
  frames_enter (f ∷ frames) a h i status need none = doing_enters f.doing f frames a h i status refl need none

  pub entered_meets : (st : Stack) (h : History) (i : Instance) (status : Status) → need_of st ≡ skipping i status → t.skips h i ≡ false → Meets s t (entered s st h) (rest s t st h)
  entered_meets st h i status need none = frames_enter st.frames st.ahead h i status need none

  -- ---- it is skipped

  asked_skipped : (f : Frame) (i : Instance) (status : Status) (skips : Bool) (frames : List Frame) (a : Ahead) (h : History) → skips ≡ true →
      Meets s t (doing_skipped (asked i status) f frames a h) (behind f frames a (unless_skipped t (calls_of s t f.depth) i status skips (Listed i status ∷ h)))
  asked_skipped f i status false frames a h is = cc
  asked_skipped f i status true frames a h is = refl

  doing_skips : (d : Doing) (f : Frame) (frames : List Frame) (a : Ahead) (h : History) (i : Instance) (status : Status) → f.doing ≡ d → doing_need d ≡ skipping i status → t.skips h i ≡ true →
      Meets s t (doing_skipped d f frames a h) (frames_rest s t (f ∷ frames) a h)
  doing_skips idle f frames a h i status is need so = refl
  doing_skips (running j other) f frames a h i status is need so = refl
  doing_skips (asked j other) f frames a h i status is need so =
      doing_as (doing_skipped (asked j other) f frames a h) f (asked j other) frames a h is
      (asked_skipped f j other (t.skips h j) frames a h (ap (λ (i : Instance). t.skips h i) (skipping_is j i other status need) ∙ so))

  frames_skip : (frames : List Frame) (a : Ahead) (h : History) (i : Instance) (status : Status) → frames_need frames a ≡ skipping i status → t.skips h i ≡ true →
      Meets s t (frames_skipped frames a h) (frames_rest s t frames a h)
  frames_skip [] a h i status need so = refl
  frames_skip (f ∷ frames) a h i status need so = doing_skips f.doing f frames a h i status refl need so

  pub skipped_meets : (st : Stack) (h : History) (i : Instance) (status : Status) → need_of st ≡ skipping i status → t.skips h i ≡ true → Meets s t (skipped st h) (rest s t st h)
  skipped_meets st h i status need so = frames_skip st.frames st.ahead h i status need so

  -- ---- it ended

  doing_ends : (d : Doing) (f : Frame) (frames : List Frame) (a : Ahead) (h : History) (i : Instance) (status : Status) → f.doing ≡ d → doing_need d ≡ ending i status →
      Meets s t (doing_ended (outcomes_of t h i i.work) d f frames a h) (frames_rest s t (f ∷ frames) a h)
  doing_ends idle f frames a h i status is need = refl
  doing_ends (asked j other) f frames a h i status is need = refl
  doing_ends (running j other) f frames a h i status is need =
      doing_as (doing_ended (outcomes_of t h i i.work) (running j other) f frames a h) f (running j other) frames a h is
      (ap (λ (x : Instance). after f frames a (told j (outcomes_of t h x x.work) other h)) (sym (ending_is j i other status need)))

  frames_end : (frames : List Frame) (a : Ahead) (h : History) (i : Instance) (status : Status) → frames_need frames a ≡ ending i status →
      Meets s t (frames_ended (outcomes_of t h i i.work) frames a h) (frames_rest s t frames a h)
  frames_end [] a h i status need = refl
  frames_end (f ∷ frames) a h i status need = doing_ends f.doing f frames a h i status refl need

  pub ended_meets : (st : Stack) (h : History) (i : Instance) (status : Status) → need_of st ≡ ending i status → Meets s t (ended (outcomes_of t h i i.work) st h) (rest s t st h)
  ended_meets st h i status need = frames_end st.frames st.ahead h i status need

  -- ---- nothing is left

  ahead_over : (commons : List BlockTree) (rounds : ℕ) (sequence : List (List ℕ)) (h : History) → ahead_need commons rounds sequence ≡ over →
      ahead_rest s t (record { commons = commons; rounds = rounds; sequence = sequence }) h ≡ goes h
  unfolding common_passes
  ahead_over (block ∷ commons) rounds sequence h is = cc
  ahead_over [] (suc n) sequence h is = cc
  ahead_over [] zero (name ∷ sequence) h is = cc
  ahead_over [] zero [] h is = refl

  not_over : (d : Doing) → doing_need d ≡ over → ⊥
  not_over idle is = cc
  not_over (asked i status) is = cc
  not_over (running i status) is = cc

  frames_over : (frames : List Frame) (a : Ahead) (h : History) → frames_need frames a ≡ over → frames_rest s t frames a h ≡ goes h
  frames_over [] a h is = ahead_over a.commons a.rounds a.sequence h is
  frames_over (f ∷ frames) a h is = absurd (not_over f.doing is)

  pub over_is : (st : Stack) (h : History) → need_of st ≡ over → rest s t st h ≡ goes h
  over_is st h is = frames_over st.frames st.ahead h is
