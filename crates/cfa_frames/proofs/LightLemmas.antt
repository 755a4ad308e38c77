-- Each move of a stack, and each answer, lowers its weight.
use Rattle.std.proofs.Common.{◌≡◌, ℕ, zero, suc, ◌+◌, ◌-◌, ◌*◌, ◌<◌, ◌≤◌, Bool, true, false, List, [], ◌∷◌, length, find, cond, Option, Some, None, option_and_then, refl, ap, arith, mul-suc, suc-mul}
use Rattle.std.specs.Prelude.{⊤}
use Rattle.cfa_kinds.specs.Kinds.{bundle_type}
use Rattle.cfa_kinds.specs.declared.kinds.BundleType.{BundleType}
use Rattle.cfa_kinds.specs.declared.kinds.BundleType.TheVariants as bundles
use Rattle.cfa_outcomes.specs.declared.outcomes.Outcome.{Outcome}
use Rattle.cfa_resolve.specs.Laws.{InstancesAreFew}
use Rattle.cfa_resolve.specs.declared.instances.Instance.{Instance}
use Rattle.cfa_resolve.specs.declared.instances.Work.{Work}
use Rattle.cfa_resolve.specs.declared.instances.Work.TheVariants.{Acts, Call, Report}
use Rattle.cfa_served.specs.Served.{bundle_of, common_bundles_of, if_bundle, is_bundle_of}
use Rattle.cfa_states.specs.History.{History, Begun, Listed, visits_in}
use Rattle.cfa_states.specs.Numbered.{numbered_in, params_of}
use Rattle.cfa_states.specs.Passes.{most_visits, bind, told}
use Rattle.cfa_states.specs.Tellers.{inner_path}
use Rattle.cfa_states.specs.Views.{Setting}
use Rattle.cfa_statuses.specs.declared.levels.Status.{Status}
use Rattle.cfa_statuses.specs.declared.levels.Status.TheVariants.{Yes}
use Rattle.cfa_tree.specs.Tree.{BlockTree, body, bundle}
use Rattle.cfa_vars.specs.declared.scoping.Datum.{Datum}
use Rattle.cfa_frames.specs.Frames.{Ahead, Doing, Frame, Stack, asked, idle, running}
use Rattle.cfa_frames.specs.Moves.{FrameNext, stays, leaves, goes_past, goes_on, nothing, skipping, ending, doing_need, ahead_need, frames_need, need_of, frame_next, stack, ahead, activated, by_type_next, named_next, ahead_next, frame_moved, doing_moved, frames_moved, moved, with_doing, doing_skipped, frames_skipped, skipped, begun_by, doing_entered, frames_entered, entered, doing_ended, frames_ended, ended}
use Rattle.cfa_frames.specs.Weights.{doing_weight, pass_weight, fresh_weight, heaviest, commons_weight, types_weight, frame_weight, frames_weight, ahead_weight, free_visits, weight, IsLighter}
use Rattle.cfa_frames.proofs.VisitLemmas.{bind_counts, told_counts}
use Rattle.cfa_frames.proofs.WeightLemmas.{FrameLighter, frame_lighter}

-- ---- numbers

lifted : (x x' y z fr fr' : ℕ) → x' + fr' < x + fr → x' + y + z + fr' < x + y + z + fr
lifted x x' y z fr fr' less = omega (arith, less)

leaving_pays : (p t i d y z fr : ℕ) → y + z + fr < 1 + p + t + i + d + y + z + fr
leaving_pays p t i d y z fr = omega arith

common_pays : (n b c r q fr : ℕ) →
    1 + 0 * (1 + 6 * (1 + n)) + (1 + n + 1 * (1 + n)) + (b + 3) * 0 + 0 + 0 + (c + r + q) + fr < 0 + (2 + 2 * (1 + n) + c + r + q) + fr
common_pays n b c r q fr = omega arith

round_pays : (n r q fr : ℕ) → 0 + (r + n * (1 + r) + q) + fr < 0 + (0 + suc n * (1 + r) + q) + fr
round_pays n r q fr = let e = suc-mul n (1 + r) in omega (arith, e)

name_pays : (b r l fr : ℕ) → b + (0 + (0 + 0 * (1 + r) + (b + 1) * l) + fr) < 0 + (0 + 0 * (1 + r) + (b + 1) * suc l) + fr
name_pays b r l fr = let e = mul-suc (b + 1) l in omega (arith, e)

lighter_still : (b w v : ℕ) → b + w < v → w < v
lighter_still b w v less = omega (arith, less)

fresh_pays : (n b y z v v' most w : ℕ) → v' ≡ v → 1 + 3 * (1 + 6 * (1 + n)) ≤ b → b + (y + z + (b + 3) * (most - v)) < w →
    1 + 3 * (1 + 6 * (1 + n)) + 0 + (b + 3) * 0 + 0 + y + z + (b + 3) * (most - v') < w
fresh_pays n b y z v v' most w same fits less =
    let e = ap (λ (v : ℕ). (b + 3) * (most - v)) same in omega (arith, e, fits, less)

call_pays : (x b y z fr : ℕ) → b + (x + 1 + y + z + fr) < x + (b + 2) + y + z + fr
call_pays x b y z fr = omega arith

skip_pays : (x b y z fr : ℕ) → x + 0 + y + z + fr < x + (b + 2) + y + z + fr
skip_pays x b y z fr = omega arith

end_pays : (x b y z v v' most : ℕ) → v' ≡ v → x + 0 + y + z + (b + 3) * (most - v') < x + 1 + y + z + (b + 3) * (most - v)
end_pays x b y z v v' most same = let e = ap (λ (v : ℕ). (b + 3) * (most - v)) same in omega (arith, e)

-- ---- a bundle of a policy weighs no more than the heaviest

abbrev Fits : (b : ℕ) → Option BlockTree → Type 0
Fits b None = ⊤
Fits b (Some block) = fresh_weight (length (numbered_in block)) ≤ b

fits_more : (b c : ℕ) (found : Option BlockTree) → b ≤ c → Fits b found → Fits c found
fits_more b c None more fits = tt
fits_more b c (Some block) more fits = omega (arith, more, fits)

found_fits : (test : BlockTree → Bool) (policy : List BlockTree) → Fits (heaviest policy) (find test policy)
found_fits test [] = tt
found_fits test (block ∷ blocks) = chosen (test block) (found_fits test blocks)
  where
    chosen : (b : Bool) → Fits (heaviest blocks) (find test blocks) → Fits (heaviest (block ∷ blocks)) (cond b (Some block) (find test blocks))
    chosen true fits = omega arith
    chosen false fits = fits_more (heaviest blocks) (heaviest (block ∷ blocks)) (find test blocks) (omega arith) fits

bundle_fits : (b : ℕ) (found : Option BlockTree) → Fits b found → Fits b (option_and_then if_bundle found)
bundle_fits b None fits = tt
bundle_fits b (Some (bundle type_name named params sections place)) fits = fits
bundle_fits b (Some (body type_name named params attributes place)) fits = tt

called_fits : (policy : List BlockTree) (name : List ℕ) → Fits (heaviest policy) (bundle_of policy name)
unfolding bundle_of
called_fits policy name = bundle_fits (heaviest policy) (find (is_bundle_of name) policy) (found_fits (is_bundle_of name) policy)

-- ---- what waits for no answer

pub ahead_skips_not : (commons : List BlockTree) (rounds : ℕ) (sequence : List (List ℕ)) (i : Instance) (status : Status) → ahead_need commons rounds sequence ≡ skipping i status → ⊥
ahead_skips_not (block ∷ commons) rounds sequence i status is = cc
ahead_skips_not [] (suc n) sequence i status is = cc
ahead_skips_not [] zero (name ∷ sequence) i status is = cc
ahead_skips_not [] zero [] i status is = cc

pub ahead_ends_not : (commons : List BlockTree) (rounds : ℕ) (sequence : List (List ℕ)) (i : Instance) (status : Status) → ahead_need commons rounds sequence ≡ ending i status → ⊥
ahead_ends_not (block ∷ commons) rounds sequence i status is = cc
ahead_ends_not [] (suc n) sequence i status is = cc
ahead_ends_not [] zero (name ∷ sequence) i status is = cc
ahead_ends_not [] zero [] i status is = cc

-- ---- moves

module _ (s : Setting) where
  abbrev most : ℕ
  most = heaviest s.policy

  abbrev round : ℕ
  round = commons_weight (common_bundles_of s.policy)

  -- a frame without its visit in hand
  abbrev resting : Frame → ℕ
  resting f = 1 + f.passes * pass_weight (length f.all) + types_weight (length f.all) (length f.promises) f.types + (most + 3) * length f.instances

  activated_lighter : (depth : ℕ) (path : List ℕ) (status : Status) (given : List Datum) (found : Option BlockTree) (frames : List Frame) (a : Ahead) (h : History) (w : ℕ) → Fits most found →
      most + weight s (stack frames a) h < w → IsLighter s (activated depth path status given found frames a h) w
  activated_lighter depth path status given None frames a h w fits less = lighter_still most (weight s (stack frames a) h) w less
  activated_lighter depth path status given (Some block) frames a h w fits less =
      fresh_pays (length (numbered_in block)) most (frames_weight most frames) (ahead_weight most round a) (visits_in h)
      (visits_in (bind path (params_of block) given (Begun path given ∷ h))) most_visits w (bind_counts path (params_of block) given (Begun path given ∷ h)) fits less

  -- a name of the sequence that isn't gone through
  passed_by : (name : List ℕ) (sequence : List (List ℕ)) (h : History) →
      IsLighter s (goes_on (stack [] (ahead [] zero sequence)) h) (weight s (stack [] (ahead [] zero (name ∷ sequence))) h)
  passed_by name sequence h =
      lighter_still most (weight s (stack [] (ahead [] zero sequence)) h) (weight s (stack [] (ahead [] zero (name ∷ sequence))) h)
      (name_pays most round (length sequence) ((most + 3) * free_visits h))

  by_type_lighter : (name : List ℕ) (type : Option BundleType) (found : Option BlockTree) (sequence : List (List ℕ)) (h : History) → Fits most found →
      IsLighter s (by_type_next s name type found (ahead [] zero sequence) h) (weight s (stack [] (ahead [] zero (name ∷ sequence))) h)
  by_type_lighter name None found sequence h fits = passed_by name sequence h
  by_type_lighter name (Some bundles.Common) found sequence h fits = passed_by name sequence h
  by_type_lighter name (Some bundles.EditLine) found sequence h fits = passed_by name sequence h
  by_type_lighter name (Some bundles.Agent) found sequence h fits =
      activated_lighter (length s.policy) name Yes [] found [] (ahead [] zero sequence) h (weight s (stack [] (ahead [] zero (name ∷ sequence))) h) fits
      (name_pays most round (length sequence) ((most + 3) * free_visits h))

  named_lighter : (name : List ℕ) (found : Option BlockTree) (sequence : List (List ℕ)) (h : History) → Fits most found →
      IsLighter s (named_next s name found (ahead [] zero sequence) h) (weight s (stack [] (ahead [] zero (name ∷ sequence))) h)
  named_lighter name None sequence h fits = passed_by name sequence h
  named_lighter name (Some (bundle type_name named params sections place)) sequence h fits =
      by_type_lighter name (bundle_type type_name.name) (Some (bundle type_name named params sections place)) sequence h fits
  named_lighter name (Some (body type_name named params attributes place)) sequence h fits = passed_by name sequence h

  ahead_lighter : (commons : List BlockTree) (rounds : ℕ) (sequence : List (List ℕ)) (h : History) → ahead_need commons rounds sequence ≡ nothing →
      IsLighter s (ahead_next s commons rounds sequence h) (weight s (stack [] (ahead commons rounds sequence)) h)
  ahead_lighter (block ∷ commons) rounds sequence h is =
      common_pays (length (numbered_in block)) most (commons_weight commons) (rounds * (1 + round)) ((most + 1) * length sequence) ((most + 3) * free_visits h)
  ahead_lighter [] (suc n) sequence h is = round_pays n round ((most + 1) * length sequence) ((most + 3) * free_visits h)
  ahead_lighter [] zero (name ∷ sequence) h is = named_lighter name (bundle_of s.policy name) sequence h (called_fits s.policy name)
  ahead_lighter [] zero [] h is = absurd (cc)

  frame_moved_lighter : (x : FrameNext) (f : Frame) (frames : List Frame) (a : Ahead) (h : History) → FrameLighter most x (frame_weight most f + (most + 3) * free_visits h) →
      IsLighter s (frame_moved s x frames a h) (weight s (stack (f ∷ frames) a) h)
  frame_moved_lighter (stays g k) f frames a h less =
      lifted (frame_weight most f) (frame_weight most g) (frames_weight most frames) (ahead_weight most round a) ((most + 3) * free_visits h) ((most + 3) * free_visits k) less
  frame_moved_lighter leaves f frames a h less =
      leaving_pays (f.passes * pass_weight (length f.all)) (types_weight (length f.all) (length f.promises) f.types) ((most + 3) * length f.instances) (doing_weight most f.doing)
      (frames_weight most frames) (ahead_weight most round a) ((most + 3) * free_visits h)
  frame_moved_lighter (goes_past k) f frames a h less = tt

  doing_moved_lighter : InstancesAreFew → (d : Doing) (f : Frame) (frames : List Frame) (a : Ahead) (h : History) → f.doing ≡ d → doing_need d ≡ nothing →
      IsLighter s (doing_moved s d f frames a h) (weight s (stack (f ∷ frames) a) h)
  doing_moved_lighter few idle f frames a h is need = frame_moved_lighter (frame_next s f h) f frames a h (frame_lighter few s most f h is)
  doing_moved_lighter few (asked i status) f frames a h is need = absurd (cc)
  doing_moved_lighter few (running i status) f frames a h is need = absurd (cc)

  frames_moved_lighter : InstancesAreFew → (frames : List Frame) (a : Ahead) (h : History) → frames_need frames a ≡ nothing →
      IsLighter s (frames_moved s frames a h) (weight s (stack frames a) h)
  frames_moved_lighter few [] a h need = ahead_lighter a.commons a.rounds a.sequence h need
  frames_moved_lighter few (f ∷ frames) a h need = doing_moved_lighter few f.doing f frames a h refl need

  pub moved_lighter : InstancesAreFew → (st : Stack) (h : History) → need_of st ≡ nothing → IsLighter s (moved s st h) (weight s st h)
  moved_lighter few st h need = frames_moved_lighter few st.frames st.ahead h need

  -- ---- answers

  doing_skipped_lighter : (d : Doing) (f : Frame) (frames : List Frame) (a : Ahead) (h : History) (i : Instance) (status : Status) → doing_need d ≡ skipping i status →
      IsLighter s (doing_skipped d f frames a h) (weight s (stack (with_doing f d ∷ frames) a) h)
  doing_skipped_lighter idle f frames a h i status need = absurd (cc)
  doing_skipped_lighter (running j other) f frames a h i status need = absurd (cc)
  doing_skipped_lighter (asked j other) f frames a h i status need =
      skip_pays (resting f) most (frames_weight most frames) (ahead_weight most round a) ((most + 3) * free_visits h)

  frames_skipped_lighter : (frames : List Frame) (a : Ahead) (h : History) (i : Instance) (status : Status) → frames_need frames a ≡ skipping i status →
      IsLighter s (frames_skipped frames a h) (weight s (stack frames a) h)
  frames_skipped_lighter [] a h i status need = absurd (ahead_skips_not a.commons a.rounds a.sequence i status need)
  frames_skipped_lighter (f ∷ frames) a h i status need = doing_skipped_lighter f.doing f frames a h i status need

  pub skipped_lighter : (st : Stack) (h : History) (i : Instance) (status : Status) → need_of st ≡ skipping i status → IsLighter s (skipped st h) (weight s st h)
  skipped_lighter st h i status need = frames_skipped_lighter st.frames st.ahead h i status need

  visit_begins : (i : Instance) (status : Status) (f : Frame) (frames : List Frame) (a : Ahead) (h : History) →
      weight s (stack (with_doing f (running i status) ∷ frames) a) h < weight s (stack (with_doing f (asked i status) ∷ frames) a) h
  visit_begins i status f frames a h =
      lighter_still most (weight s (stack (with_doing f (running i status) ∷ frames) a) h) (weight s (stack (with_doing f (asked i status) ∷ frames) a) h)
      (call_pays (resting f) most (frames_weight most frames) (ahead_weight most round a) ((most + 3) * free_visits h))

  begun_lighter : (depth : ℕ) (i : Instance) (status : Status) (w : Work) (f : Frame) (frames : List Frame) (a : Ahead) (h : History) →
      IsLighter s (begun_by s depth i status w (with_doing f (running i status) ∷ frames) a h) (weight s (stack (with_doing f (asked i status) ∷ frames) a) h)
  begun_lighter depth i status (Acts acts) f frames a h = visit_begins i status f frames a h
  begun_lighter depth i status (Report content) f frames a h = visit_begins i status f frames a h
  begun_lighter zero i status (Call name given) f frames a h = visit_begins i status f frames a h
  begun_lighter (suc n) i status (Call name given) f frames a h =
      activated_lighter n (inner_path i) status given (bundle_of s.policy name) (with_doing f (running i status) ∷ frames) a h
      (weight s (stack (with_doing f (asked i status) ∷ frames) a) h) (called_fits s.policy name)
      (call_pays (resting f) most (frames_weight most frames) (ahead_weight most round a) ((most + 3) * free_visits h))

  doing_entered_lighter : (d : Doing) (f : Frame) (frames : List Frame) (a : Ahead) (h : History) (i : Instance) (status : Status) → doing_need d ≡ skipping i status →
      IsLighter s (doing_entered s d f frames a h) (weight s (stack (with_doing f d ∷ frames) a) h)
  doing_entered_lighter idle f frames a h i status need = absurd (cc)
  doing_entered_lighter (running j other) f frames a h i status need = absurd (cc)
  doing_entered_lighter (asked j other) f frames a h i status need = begun_lighter f.depth j other j.work f frames a (Listed j other ∷ h)

  frames_entered_lighter : (frames : List Frame) (a : Ahead) (h : History) (i : Instance) (status : Status) → frames_need frames a ≡ skipping i status →
      IsLighter s (frames_entered s frames a h) (weight s (stack frames a) h)
  frames_entered_lighter [] a h i status need = absurd (ahead_skips_not a.commons a.rounds a.sequence i status need)
  frames_entered_lighter (f ∷ frames) a h i status need = doing_entered_lighter f.doing f frames a h i status need

  pub entered_lighter : (st : Stack) (h : History) (i : Instance) (status : Status) → need_of st ≡ skipping i status → IsLighter s (entered s st h) (weight s st h)
  entered_lighter st h i status need = frames_entered_lighter st.frames st.ahead h i status need

  doing_ended_lighter : (outcomes : List Outcome) (d : Doing) (f : Frame) (frames : List Frame) (a : Ahead) (h : History) (i : Instance) (status : Status) → doing_need d ≡ ending i status →
      IsLighter s (doing_ended outcomes d f frames a h) (weight s (stack (with_doing f d ∷ frames) a) h)
  doing_ended_lighter outcomes idle f frames a h i status need = absurd (cc)
  doing_ended_lighter outcomes (asked j other) f frames a h i status need = absurd (cc)
  doing_ended_lighter outcomes (running j other) f frames a h i status need =
      end_pays (resting f) most (frames_weight most frames) (ahead_weight most round a) (visits_in h) (visits_in (told j outcomes other h)) most_visits (told_counts j outcomes other h)

  frames_ended_lighter : (outcomes : List Outcome) (frames : List Frame) (a : Ahead) (h : History) (i : Instance) (status : Status) → frames_need frames a ≡ ending i status →
      IsLighter s (frames_ended outcomes frames a h) (weight s (stack frames a) h)
  frames_ended_lighter outcomes [] a h i status need = absurd (ahead_ends_not a.commons a.rounds a.sequence i status need)
  frames_ended_lighter outcomes (f ∷ frames) a h i status need = doing_ended_lighter outcomes f.doing f frames a h i status need

  pub ended_lighter : (outcomes : List Outcome) (st : Stack) (h : History) (i : Instance) (status : Status) → need_of st ≡ ending i status → IsLighter s (ended outcomes st h) (weight s st h)
  ended_lighter outcomes st h i status need = frames_ended_lighter outcomes st.frames st.ahead h i status need
