-- A move leaves what the history so far and the stack still come to as it was.
use Rattle.std.proofs.Common.{◌≡◌, ℕ, zero, suc, ◌+◌, Bool, true, false, List, [], ◌∷◌, length, Option, Some, None, refl, ap, sym, subst, cond, nat_le}
use Rattle.cfa_kinds.specs.Kinds.{bundle_type}
use Rattle.cfa_kinds.specs.declared.kinds.BundleType.{BundleType}
use Rattle.cfa_kinds.specs.declared.kinds.BundleType.TheVariants as bundles
use Rattle.cfa_kinds.specs.declared.kinds.PromiseType.{PromiseType}
use Rattle.cfa_kinds.specs.declared.kinds.PromiseType.TheVariants as promises
use Rattle.cfa_resolve.specs.Resolution.{resolution}
use Rattle.cfa_resolve.specs.declared.instances.Instance.{Instance}
use Rattle.cfa_resolve.specs.declared.instances.Resolved.{Resolved}
use Rattle.cfa_served.specs.Served.{bundle_of, common_bundles_of}
use Rattle.cfa_states.specs.History.{History, Home, Where, everywhere, Reached, mark_in, visits_in}
use Rattle.cfa_states.specs.Numbered.{Numbered, name_of, numbered_in, is_type, of_type}
use Rattle.cfa_states.specs.Passes.{Calls, Course, goes, too_large, then_on, most_visits, visit_status, visited, within_limit, instances_from, instances_reached, guarded, kept_by, reach, visit, promises_from, types_from, passes, calls_of, activation, by_type, in_sequence, all_calls, through_common, commons_from, common_passes, sequence_from, run}
use Rattle.cfa_states.specs.Tellers.{Teller}
use Rattle.cfa_states.specs.Views.{Setting, guard_status, reached_in_history}
use Rattle.cfa_statuses.specs.declared.levels.Status.{Status}
use Rattle.cfa_statuses.specs.declared.levels.Status.TheVariants.{No, Maybe, Yes}
use Rattle.cfa_tree.specs.Tree.{BlockTree, body, bundle}
use Rattle.cfa_vars.specs.declared.scoping.Datum.{Datum}
use Rattle.cfa_frames.specs.Frames.{Ahead, Doing, Frame, Stack, asked, idle, running, behind_visit, frame_rest, frames_rest, ahead_rest, passes_rest, beginning, rest}
use Rattle.cfa_frames.specs.Moves.{Meets, FrameNext, stays, leaves, goes_past, reached_by, resolved_next, kept_next, guarded_next, promise_next, pass_next, type_next, visit_next, instance_next, frame_next, activated, by_type_next, named_next, ahead_next, frame_moved, doing_moved, frames_moved, moved}

-- what goes on from a course in three levels, at once or one after the other
three_levels : (c : Course) (f g k : History → Course) → then_on c (λ h. then_on (then_on (f h) g) k) ≡ then_on (then_on (then_on c f) g) k
three_levels (goes h) f g k = refl
three_levels (too_large h) f g k = refl

pub two_levels : (c : Course) (f g : History → Course) → then_on c (λ h. then_on (f h) g) ≡ then_on (then_on c f) g
two_levels (goes h) f g = refl
two_levels (too_large h) f g = refl

-- a level that does nothing lies between
two_behind_none : (c : Course) (none f g : History → Course) → ((h : History) → none h ≡ goes h) → then_on (then_on c none) (λ h. then_on (f h) g) ≡ then_on (then_on c f) g
two_behind_none (goes h) none f g is = ap (λ (c : Course). then_on c (λ h. then_on (f h) g)) (is h)
two_behind_none (too_large h) none f g is = refl

-- ---- a bundle

module _ (s : Setting) (t : Teller) where
  -- what is left to a bundle once it moved
  abbrev FrameMeets : FrameNext → History → Course → Type 0
  FrameMeets (stays f k) h c = frame_rest s t f k ≡ c
  FrameMeets leaves h c = goes h ≡ c
  FrameMeets (goes_past k) h c = too_large k ≡ c

  module _ (depth : ℕ) (raises_in : Where) (home : Home) (status : Status) (all : List Numbered) where
    -- a bundle with no visit in hand
    abbrev at : (guard : Status) → List Instance → List PromiseType → List Numbered → (passes : ℕ) → Frame
    at guard instances types promises passes = record {
      depth = depth;
      raises_in = raises_in;
      home = home;
      status = status;
      all = all;
      doing = idle;
      guard = guard;
      instances = instances;
      types = types;
      promises = promises;
      passes = passes;
    }

    abbrev calls : Calls
    calls = calls_of s t depth

    visit_meets : (visited_as : Status) (guard : Status) (i : Instance) (is : List Instance) (types : List PromiseType) (ps : List Numbered) (n : ℕ) (h : History) →
        FrameMeets (visit_next s visited_as i (at guard is types ps n) h) h (then_on (then_on (visited t calls i visited_as h) (instances_from t calls guard status is)) (passes_rest s t (at guard is types ps n)))
    visit_meets No guard i is types ps n h = refl
    visit_meets Maybe guard i is types ps n h = two_levels (visited t calls i Maybe h) (instances_from t calls guard status is) (passes_rest s t (at guard is types ps n))
    visit_meets Yes guard i is types ps n h = two_levels (visited t calls i Yes h) (instances_from t calls guard status is) (passes_rest s t (at guard is types ps n))

    -- behind a promise
    abbrev more_promises : (type : PromiseType) → List Numbered → History → Course
    more_promises type ps = promises_from s t calls raises_in home status (of_type type ps)

    abbrev more_types : List PromiseType → History → Course
    more_types types = types_from s t calls raises_in home status all types

    abbrev more_passes : ℕ → History → Course
    more_passes n = passes s t calls raises_in home status all n

    abbrev behind : (type : PromiseType) → List PromiseType → List Numbered → ℕ → Course → Course
    behind type types ps n c = then_on (then_on (then_on c (more_promises type ps)) (more_types types)) (more_passes n)

    reached_meets : (c : Course) (guard : Status) (type : PromiseType) (types : List PromiseType) (ps : List Numbered) (n : ℕ) (h : History) →
        FrameMeets (reached_by c (at guard [] (type ∷ types) ps n)) h (behind type types ps n c)
    reached_meets (goes k) guard type types ps n h = refl
    reached_meets (too_large k) guard type types ps n h = refl

    -- its instances are still to be visited
    limited_meets : (b : Bool) (k : History) (found : List Instance) (guard : Status) (type : PromiseType) (types : List PromiseType) (ps : List Numbered) (n : ℕ) (h : History) →
        FrameMeets (reached_by (within_limit b (goes k) k) (at guard found (type ∷ types) ps n)) h (behind type types ps n (within_limit b (instances_from t calls guard status found k) k))
    limited_meets true k found guard type types ps n h = three_levels (instances_from t calls guard status found k) (more_promises type ps) (more_types types) (more_passes n)
    limited_meets false k found guard type types ps n h = refl

    resolved_meets : (p : Numbered) (r : Resolved) (old guard : Status) (type : PromiseType) (types : List PromiseType) (ps : List Numbered) (n : ℕ) (h : History) →
        FrameMeets (resolved_next (at old [] (type ∷ types) ps n) p guard r h) h (behind type types ps n (instances_reached s t calls home status p guard r h))
    resolved_meets p r old guard type types ps n h =
        limited_meets (nat_le (r.visits + visits_in h) most_visits) (Reached home p guard false r.visits ∷ h) r.instances guard type types ps n h

    acting_meets : (p : Numbered) (ptype : PromiseType) (old guard : Status) (type : PromiseType) (types : List PromiseType) (ps : List Numbered) (n : ℕ) (h : History) →
        FrameMeets (resolved_next (at old [] (type ∷ types) ps n) p guard (resolution (reached_in_history s h home ptype p)) h) h
        (behind type types ps n (instances_reached s t calls home status p guard (resolution (reached_in_history s h home ptype p)) h))
    acting_meets p ptype old guard type types ps n h = resolved_meets p (resolution (reached_in_history s h home ptype p)) old guard type types ps n h

    kept_meets : (p : Numbered) (ptype : PromiseType) (old guard : Status) (type : PromiseType) (types : List PromiseType) (ps : List Numbered) (n : ℕ) (h : History) →
        FrameMeets (kept_next s (at old [] (type ∷ types) ps n) p ptype guard h) h (behind type types ps n (kept_by s t calls raises_in home status p ptype guard h))
    kept_meets p promises.Files old guard type types ps n h = acting_meets p promises.Files old guard type types ps n h
    kept_meets p promises.Methods old guard type types ps n h = acting_meets p promises.Methods old guard type types ps n h
    kept_meets p promises.Services old guard type types ps n h = acting_meets p promises.Services old guard type types ps n h
    kept_meets p promises.Reports old guard type types ps n h = acting_meets p promises.Reports old guard type types ps n h
    kept_meets p promises.Vars old guard type types ps n h =
        reached_meets (kept_by s t calls raises_in home status p promises.Vars guard h) old type types ps n h
    kept_meets p promises.Classes old guard type types ps n h =
        reached_meets (kept_by s t calls raises_in home status p promises.Classes guard h) old type types ps n h
    kept_meets p other old guard type types ps n h = refl

    guarded_meets : (p : Numbered) (old guard : Status) (type : PromiseType) (types : List PromiseType) (ps : List Numbered) (n : ℕ) (h : History) →
        FrameMeets (guarded_next s (at old [] (type ∷ types) ps n) p guard h) h (behind type types ps n (guarded s t calls raises_in home status p guard h))
    guarded_meets p old No type types ps n h = reached_meets (guarded s t calls raises_in home status p No h) old type types ps n h
    guarded_meets p old Maybe type types ps n h = kept_meets p p.type old Maybe type types ps n h
    guarded_meets p old Yes type types ps n h = kept_meets p p.type old Yes type types ps n h

    -- what is left of the type where a promise is of it, or isn't
    abbrev left_of_type : Bool → Numbered → List Numbered → PromiseType → History → Course
    left_of_type true p ps type h = then_on (reach s t calls raises_in home status p h) (more_promises type ps)
    left_of_type false p ps type h = more_promises type ps h

    promise_meets : (b : Bool) (p : Numbered) (old : Status) (type : PromiseType) (types : List PromiseType) (ps : List Numbered) (n : ℕ) (h : History) →
        FrameMeets (promise_next s b (at old [] (type ∷ types) ps n) p h) h (then_on (then_on (left_of_type b p ps type h) (more_types types)) (more_passes n))
    unfolding reach
    promise_meets true p old type types ps n h = guarded_meets p old (guard_status s h home.path p.promise.guard) type types ps n h
    promise_meets false p old type types ps n h = refl

    of_type_is : (b : Bool) (p : Numbered) (ps : List Numbered) (type : PromiseType) (h : History) → is_type type p.type ≡ b → left_of_type b p ps type h ≡ more_promises type (p ∷ ps) h
    of_type_is true p ps type h is = ap (λ (b : Bool). promises_from s t calls raises_in home status (cond b (p ∷ of_type type ps) (of_type type ps)) h) (sym is)
    of_type_is false p ps type h is = ap (λ (b : Bool). promises_from s t calls raises_in home status (cond b (p ∷ of_type type ps) (of_type type ps)) h) (sym is)

    frame_as : (x : FrameNext) (h : History) (c d : Course) → c ≡ d → FrameMeets x h c → FrameMeets x h d
    frame_as x h c d is meets = subst (FrameMeets x h) is meets

    next_promise_meets : (p : Numbered) (old : Status) (type : PromiseType) (types : List PromiseType) (ps : List Numbered) (n : ℕ) (h : History) →
        FrameMeets (promise_next s (is_type type p.type) (at old [] (type ∷ types) ps n) p h) h (then_on (then_on (more_promises type (p ∷ ps) h) (more_types types)) (more_passes n))
    next_promise_meets p old type types ps n h =
        frame_as (promise_next s (is_type type p.type) (at old [] (type ∷ types) ps n) p h) h _ _
        (ap (λ (c : Course). then_on (then_on c (more_types types)) (more_passes n)) (of_type_is (is_type type p.type) p ps type h refl))
        (promise_meets (is_type type p.type) p old type types ps n h)

    pass_meets : (old : Status) (ps : List Numbered) (n : ℕ) (h : History) → FrameMeets (pass_next s n (at old [] [] ps n) h) h (more_passes n h)
    unfolding passes
    pass_meets old ps zero h = refl
    pass_meets old ps (suc n) h = refl

    type_meets : (old : Status) (types : List PromiseType) (ps : List Numbered) (n : ℕ) (h : History) → FrameMeets (type_next s types ps (at old [] types ps n) h) h (passes_rest s t (at old [] types ps n) h)
    type_meets old [] ps n h = pass_meets old ps n h
    type_meets old (type ∷ []) [] n h = refl
    type_meets old (type ∷ (next ∷ types)) [] n h = refl
    type_meets old (type ∷ types) (p ∷ ps) n h = next_promise_meets p old type types ps n h

    instance_meets : (guard : Status) (is : List Instance) (types : List PromiseType) (ps : List Numbered) (n : ℕ) (h : History) →
        FrameMeets (instance_next s is (at guard is types ps n) h) h (behind_visit s t (at guard is types ps n) h)
    unfolding visit
    instance_meets guard [] types ps n h = type_meets guard types ps n h
    instance_meets guard (i ∷ is) types ps n h = visit_meets (visit_status guard status (mark_in h i.path i.text)) guard i is types ps n h

  frame_meets : (f : Frame) (h : History) → f.doing ≡ idle → FrameMeets (frame_next s f h) h (frame_rest s t f h)
  frame_meets f h is =
      subst (λ (d : Doing). FrameMeets (frame_next s (record f { doing = d }) h) h (frame_rest s t (record f { doing = d }) h)) (sym is)
      (instance_meets f.depth f.raises_in f.home f.status f.all f.guard f.instances f.types f.promises f.passes h)

  -- ---- a stack

  moved_as : (x : FrameNext) (frames : List Frame) (a : Ahead) (h : History) (c : Course) → FrameMeets x h c →
      Meets s t (frame_moved s x frames a h) (then_on c (frames_rest s t frames a))
  moved_as (stays f k) frames a h c meets = ap (λ (c : Course). then_on c (frames_rest s t frames a)) meets
  moved_as leaves frames a h c meets = ap (λ (c : Course). then_on c (frames_rest s t frames a)) meets
  moved_as (goes_past k) frames a h c meets = ap (λ (c : Course). then_on c (frames_rest s t frames a)) meets

  doing_meets : (d : Doing) (f : Frame) (frames : List Frame) (a : Ahead) (h : History) → f.doing ≡ d →
      Meets s t (doing_moved s d f frames a h) (then_on (frame_rest s t f h) (frames_rest s t frames a))
  doing_meets idle f frames a h is = moved_as (frame_next s f h) frames a h (frame_rest s t f h) (frame_meets f h is)
  doing_meets (asked i status) f frames a h is = refl
  doing_meets (running i status) f frames a h is = refl

  -- ---- what has no frame yet

  pub activated_meets : (depth : ℕ) (path : List ℕ) (status : Status) (given : List Datum) (found : Option BlockTree) (frames : List Frame) (a : Ahead) (h : History) →
      Meets s t (activated depth path status given found frames a h) (then_on (activation s t (calls_of s t depth) path status given found h) (frames_rest s t frames a))
  activated_meets depth path status given None frames a h = refl
  activated_meets depth path status given (Some block) frames a h = refl

  by_type_meets : (name : List ℕ) (type : Option BundleType) (found : Option BlockTree) (a : Ahead) (h : History) →
      Meets s t (by_type_next s name type found a h) (then_on (by_type s t name type found h) (ahead_rest s t a))
  by_type_meets name None found a h = refl
  by_type_meets name (Some bundles.Agent) found a h = activated_meets (length s.policy) name Yes [] found [] a h
  by_type_meets name (Some bundles.Common) found a h = refl
  by_type_meets name (Some bundles.EditLine) found a h = refl

  named_meets : (name : List ℕ) (found : Option BlockTree) (a : Ahead) (h : History) →
      Meets s t (named_next s name found a h) (then_on (in_sequence s t name found h) (ahead_rest s t a))
  named_meets name None a h = refl
  named_meets name (Some (bundle type_name named params sections place)) a h =
      by_type_meets name (bundle_type type_name.name) (Some (bundle type_name named params sections place)) a h
  named_meets name (Some (body type_name named params attributes place)) a h = refl

  ahead_meets : (commons : List BlockTree) (rounds : ℕ) (sequence : List (List ℕ)) (h : History) →
      Meets s t (ahead_next s commons rounds sequence h) (ahead_rest s t (record { commons = commons; rounds = rounds; sequence = sequence }) h)
  unfolding common_passes passes
  ahead_meets (block ∷ commons) rounds sequence h =
      let home : Home = record { path = name_of block; bundle = name_of block } in
      two_behind_none (through_common s t block h) (passes s t (all_calls s t) everywhere home Yes (numbered_in block) zero) (commons_from s t commons)
      (λ h. then_on (common_passes s t rounds h) (sequence_from s t sequence)) (λ h. refl)
  ahead_meets [] (suc n) sequence h =
      two_levels (commons_from s t (common_bundles_of s.policy) h) (common_passes s t n) (sequence_from s t sequence)
  ahead_meets [] zero (name ∷ sequence) h = named_meets name (bundle_of s.policy name) (record { commons = []; rounds = zero; sequence = sequence }) h
  ahead_meets [] zero [] h = refl

  frames_meet : (frames : List Frame) (a : Ahead) (h : History) → Meets s t (frames_moved s frames a h) (frames_rest s t frames a h)
  frames_meet [] a h = ahead_meets a.commons a.rounds a.sequence h
  frames_meet (f ∷ frames) a h = doing_meets f.doing f frames a h refl

  pub moved_meets : (st : Stack) (h : History) → Meets s t (moved s st h) (rest s t st h)
  moved_meets st h = frames_meet st.frames st.ahead h

  pub begins : rest s t (beginning s) [] ≡ run s t
  unfolding run
  begins = refl
