-- Each move, and each answer, lowers the weight.
use Rattle.std.proofs.Common.{◌≡◌, ℕ, zero, suc, ◌+◌, ◌-◌, ◌*◌, ◌<◌, ◌≤◌, Bool, true, false, List, [], ◌∷◌, length, refl, sym, subst, arith, nat_le, mul-suc, suc-mul, mul-add, mul-le-mul_left}
use Rattle.std.specs.Prelude.{⊤}
use Rattle.std.proofs.lemmas.Bool.{leb-true}
use Rattle.cfa_defines.specs.ClassPromises.{Raise, raises_of}
use Rattle.cfa_defines.specs.FirstMaybe.{first_maybe_of_guard}
use Rattle.cfa_defines.specs.VarsPromises.{setting_choices, count_choices, data_set}
use Rattle.cfa_kinds.specs.declared.kinds.PromiseType.{PromiseType}
use Rattle.cfa_kinds.specs.declared.kinds.PromiseType.TheVariants as promises
use Rattle.cfa_resolve.specs.Resolution.{resolution}
use Rattle.cfa_resolve.specs.declared.instances.Instance.{Instance}
use Rattle.cfa_resolve.specs.declared.instances.Resolved.{Resolved}
use Rattle.cfa_resolve.specs.Laws.{InstancesAreFew}
use Rattle.cfa_states.specs.History.{History, Home, Where, Reached, mark_in, visits_in}
use Rattle.cfa_states.specs.Numbered.{Numbered, is_type}
use Rattle.cfa_states.specs.Passes.{Course, goes, too_large, most_visits, visit_status, within_limit, reached, vars_reached, classes_reached, set_each, raise_all, sets_variable}
use Rattle.cfa_states.specs.Views.{Setting, guard_status, reached_in_history, scopes_in, status_in}
use Rattle.cfa_statuses.specs.declared.levels.Status.{Status}
use Rattle.cfa_statuses.specs.declared.levels.Status.TheVariants.{No, Maybe, Yes}
use Rattle.cfa_frames.specs.Frames.{Doing, Frame, idle}
use Rattle.cfa_frames.specs.Moves.{FrameNext, stays, leaves, goes_past, reached_by, resolved_next, kept_next, guarded_next, promise_next, pass_next, type_next, visit_next, instance_next, frame_next}
use Rattle.cfa_frames.specs.Weights.{pass_weight, types_weight, frame_weight, free_visits}
use Rattle.cfa_frames.proofs.VisitLemmas.{set_each_counts, raise_all_counts}

-- ---- numbers

-- a visit that comes pays for the visit in hand
visit_pays : (a b l d fr : ℕ) → d ≤ b + 2 → a + (b + 3) * l + d + fr < a + (b + 3) * suc l + 0 + fr
visit_pays a b l d fr few = let e = mul-suc (b + 3) l in omega (arith, few, e)

-- visits that were free pay for instances
reach_pays : (p m l b found fr fr' : ℕ) → found + fr' ≤ fr →
    1 + p + (1 + m + l) + (b + 3) * found + 0 + (b + 3) * fr' < 1 + p + (1 + suc m + l) + (b + 3) * 0 + 0 + (b + 3) * fr
reach_pays p m l b found fr fr' few =
    let more = mul-le-mul_left (b + 3) few in
    let e = mul-add (b + 3) found fr' in omega (arith, more, e)

type_pays : (p n b fr : ℕ) (types : List PromiseType) →
    1 + p + types_weight n n types + (b + 3) * 0 + 0 + fr < 1 + p + (1 + 0 + length types * (1 + n)) + (b + 3) * 0 + 0 + fr
type_pays p n b fr [] = omega arith
type_pays p n b fr (type ∷ types) = let e = suc-mul (length types) (1 + n) in omega (arith, e)

pass_pays : (m n b fr : ℕ) →
    1 + m * (1 + 6 * (1 + n)) + (1 + n + 5 * (1 + n)) + (b + 3) * 0 + 0 + fr < 1 + suc m * (1 + 6 * (1 + n)) + 0 + (b + 3) * 0 + 0 + fr
pass_pays m n b fr = let e = suc-mul m (1 + 6 * (1 + n)) in omega (arith, e)

still_free : (n v most found : ℕ) → n + v ≤ most → found ≤ n → found + (most - (n + v)) ≤ most - v
still_free n v most found within few = omega (arith, within, few)

fewer_free : (v v' most : ℕ) → v ≤ v' → 0 + (most - v') ≤ most - v
fewer_free v v' most more = omega (arith, more)

-- ---- a bundle

-- a bundle that moved, with the visits that are free, is lighter than so much
abbrev pub FrameLighter : (b : ℕ) → FrameNext → ℕ → Type 0
FrameLighter b (stays f k) w = frame_weight b f + (b + 3) * free_visits k < w
FrameLighter b leaves w = ⊤
FrameLighter b (goes_past k) w = ⊤

-- no visits are taken back
abbrev IsLater : Course → History → Type 0
IsLater (goes k) h = visits_in h ≤ visits_in k
IsLater (too_large k) h = ⊤

module _ (few : InstancesAreFew) (s : Setting) (b : ℕ) where
  module _ (depth : ℕ) (raises_in : Where) (home : Home) (status : Status) (all : List Numbered) where
    abbrev at : (guard : Status) → List Instance → List PromiseType → List Numbered → (passes : ℕ) → Frame
    at guard instances types promises passes = record {
      depth = depth;
      raises_in = raises_in;
      home = home;
      status = status;
      all = all;
      doing = idle;
      guard = guard;
      instances = instances;
      types = types;
      promises = promises;
      passes = passes;
    }

    abbrev heavy : Frame → History → ℕ
    heavy f h = frame_weight b f + (b + 3) * free_visits h

    visit_lighter : (visited : Status) (guard : Status) (i : Instance) (is : List Instance) (types : List PromiseType) (ps : List Numbered) (n : ℕ) (h : History) →
        FrameLighter b (visit_next s visited i (at guard is types ps n) h) (heavy (at guard (i ∷ is) types ps n) h)
    visit_lighter No guard i is types ps n h = visit_pays (1 + n * pass_weight (length all) + types_weight (length all) (length ps) types) b (length is) 0 ((b + 3) * free_visits h) (omega arith)
    visit_lighter Maybe guard i is types ps n h = visit_pays (1 + n * pass_weight (length all) + types_weight (length all) (length ps) types) b (length is) (b + 2) ((b + 3) * free_visits h) (omega arith)
    visit_lighter Yes guard i is types ps n h = visit_pays (1 + n * pass_weight (length all) + types_weight (length all) (length ps) types) b (length is) (b + 2) ((b + 3) * free_visits h) (omega arith)

    reached_lighter : (c : Course) (guard : Status) (type : PromiseType) (types : List PromiseType) (p : Numbered) (ps : List Numbered) (n : ℕ) (h : History) → IsLater c h →
        FrameLighter b (reached_by c (at guard [] (type ∷ types) ps n)) (heavy (at guard [] (type ∷ types) (p ∷ ps) n) h)
    reached_lighter (goes k) guard type types p ps n h later =
        reach_pays (n * pass_weight (length all)) (length ps) (length types * (1 + length all)) b 0 (free_visits h) (free_visits k) (fewer_free (visits_in h) (visits_in k) most_visits later)
    reached_lighter (too_large k) guard type types p ps n h later = tt

    limited_lighter : (within : Bool) (p : Numbered) (r : Resolved) (old guard : Status) (type : PromiseType) (types : List PromiseType) (ps : List Numbered) (n : ℕ) (h : History) →
        nat_le (r.visits + visits_in h) most_visits ≡ within → length r.instances ≤ r.visits →
        FrameLighter b (reached_by (within_limit within (goes (Reached home p guard false r.visits ∷ h)) (Reached home p guard false r.visits ∷ h)) (at guard r.instances (type ∷ types) ps n))
        (heavy (at old [] (type ∷ types) (p ∷ ps) n) h)
    limited_lighter true p r old guard type types ps n h within found =
        reach_pays (n * pass_weight (length all)) (length ps) (length types * (1 + length all)) b (length r.instances) (free_visits h) (free_visits (Reached home p guard false r.visits ∷ h))
        (still_free r.visits (visits_in h) most_visits (length r.instances) (leb-true (r.visits + visits_in h) most_visits within) found)
    limited_lighter false p r old guard type types ps n h within found = tt

    resolved_lighter : (p : Numbered) (r : Resolved) (old guard : Status) (type : PromiseType) (types : List PromiseType) (ps : List Numbered) (n : ℕ) (h : History) → length r.instances ≤ r.visits →
        FrameLighter b (resolved_next (at old [] (type ∷ types) ps n) p guard r h) (heavy (at old [] (type ∷ types) (p ∷ ps) n) h)
    resolved_lighter p r old guard type types ps n h found =
        limited_lighter (nat_le (r.visits + visits_in h) most_visits) p r old guard type types ps n h refl found

    -- what a promise of another kind does
    limited_later : (within : Bool) (k m h : History) → visits_in h ≤ visits_in k → IsLater (within_limit within (goes k) m) h
    limited_later true k m h more = more
    limited_later false k m h more = tt

    counted_later : (p : Numbered) (guard : Status) (sets : Bool) (n : ℕ) (h : History) → IsLater (reached home p guard sets n goes h) h
    counted_later p guard sets n h =
        limited_later (nat_le (n + visits_in h) most_visits) (Reached home p guard sets n ∷ h) (Reached home p guard sets n ∷ h) h (omega arith)

    vars_later : (p : Numbered) (guard : Status) (h : History) → IsLater (vars_reached s home p guard (setting_choices (scopes_in s h home) promises.Vars p.promise) h) h
    vars_later p guard h =
        let choices = setting_choices (scopes_in s h home) promises.Vars p.promise in
        let k : History = Reached home p guard true (count_choices choices) ∷ h in
        let same = set_each_counts home.path p.promise.promiser (data_set (scopes_in s h home) p.promise choices) k in
        limited_later (nat_le (count_choices choices + visits_in h) most_visits) (set_each home.path p.promise.promiser (data_set (scopes_in s h home) p.promise choices) k) k h
        (omega (arith, same))

    classes_later : (p : Numbered) (guard : Status) (h : History) → IsLater (classes_reached s raises_in home p guard (setting_choices (scopes_in s h home) promises.Classes p.promise) h) h
    classes_later p guard h =
        let choices = setting_choices (scopes_in s h home) promises.Classes p.promise in
        let k : History = Reached home p guard false (count_choices choices) ∷ h in
        let waits = first_maybe_of_guard p.promise.guard (status_in s h home.path) in
        let raises : List Raise = raises_of (status_in s h home.path) (scopes_in s h home) p.promise choices in
        let same = raise_all_counts h raises_in home.path guard waits raises k in
        limited_later (nat_le (count_choices choices + visits_in h) most_visits) (raise_all h raises_in home.path guard waits raises k) k h (omega (arith, same))

    kept_lighter : (p : Numbered) (ptype : PromiseType) (old guard : Status) (type : PromiseType) (types : List PromiseType) (ps : List Numbered) (n : ℕ) (h : History) →
        FrameLighter b (kept_next s (at old [] (type ∷ types) ps n) p ptype guard h) (heavy (at old [] (type ∷ types) (p ∷ ps) n) h)
    kept_lighter p promises.Files old guard type types ps n h =
        resolved_lighter p (resolution (reached_in_history s h home promises.Files p)) old guard type types ps n h (few (reached_in_history s h home promises.Files p))
    kept_lighter p promises.Methods old guard type types ps n h =
        resolved_lighter p (resolution (reached_in_history s h home promises.Methods p)) old guard type types ps n h (few (reached_in_history s h home promises.Methods p))
    kept_lighter p promises.Services old guard type types ps n h =
        resolved_lighter p (resolution (reached_in_history s h home promises.Services p)) old guard type types ps n h (few (reached_in_history s h home promises.Services p))
    kept_lighter p promises.Reports old guard type types ps n h =
        resolved_lighter p (resolution (reached_in_history s h home promises.Reports p)) old guard type types ps n h (few (reached_in_history s h home promises.Reports p))
    kept_lighter p promises.Vars old guard type types ps n h =
        reached_lighter (vars_reached s home p guard (setting_choices (scopes_in s h home) promises.Vars p.promise) h) old type types p ps n h (vars_later p guard h)
    kept_lighter p promises.Classes old guard type types ps n h =
        reached_lighter (classes_reached s raises_in home p guard (setting_choices (scopes_in s h home) promises.Classes p.promise) h) old type types p ps n h (classes_later p guard h)
    kept_lighter p other old guard type types ps n h = reached_lighter (goes h) old type types p ps n h (omega arith)

    guarded_lighter : (p : Numbered) (old guard : Status) (type : PromiseType) (types : List PromiseType) (ps : List Numbered) (n : ℕ) (h : History) →
        FrameLighter b (guarded_next s (at old [] (type ∷ types) ps n) p guard h) (heavy (at old [] (type ∷ types) (p ∷ ps) n) h)
    guarded_lighter p old No type types ps n h =
        reached_lighter (reached home p No (sets_variable p.type) 1 goes h) old type types p ps n h (counted_later p No (sets_variable p.type) 1 h)
    guarded_lighter p old Maybe type types ps n h = kept_lighter p p.type old Maybe type types ps n h
    guarded_lighter p old Yes type types ps n h = kept_lighter p p.type old Yes type types ps n h

    promise_lighter : (of_type : Bool) (p : Numbered) (old : Status) (type : PromiseType) (types : List PromiseType) (ps : List Numbered) (n : ℕ) (h : History) →
        FrameLighter b (promise_next s of_type (at old [] (type ∷ types) ps n) p h) (heavy (at old [] (type ∷ types) (p ∷ ps) n) h)
    promise_lighter true p old type types ps n h = guarded_lighter p old (guard_status s h home.path p.promise.guard) type types ps n h
    promise_lighter false p old type types ps n h = reached_lighter (goes h) old type types p ps n h (omega arith)

    pass_lighter : (old : Status) (ps : List Numbered) (n : ℕ) (h : History) → FrameLighter b (pass_next s n (at old [] [] ps n) h) (heavy (at old [] [] ps n) h)
    pass_lighter old ps zero h = tt
    pass_lighter old ps (suc n) h = pass_pays n (length all) b ((b + 3) * free_visits h)

    type_lighter : (old : Status) (types : List PromiseType) (ps : List Numbered) (n : ℕ) (h : History) →
        FrameLighter b (type_next s types ps (at old [] types ps n) h) (heavy (at old [] types ps n) h)
    type_lighter old [] ps n h = pass_lighter old ps n h
    type_lighter old (type ∷ types) [] n h = type_pays (n * pass_weight (length all)) (length all) b ((b + 3) * free_visits h) types
    type_lighter old (type ∷ types) (p ∷ ps) n h = promise_lighter (is_type type p.type) p old type types ps n h

    instance_lighter : (guard : Status) (is : List Instance) (types : List PromiseType) (ps : List Numbered) (n : ℕ) (h : History) →
        FrameLighter b (instance_next s is (at guard is types ps n) h) (heavy (at guard is types ps n) h)
    instance_lighter guard [] types ps n h = type_lighter guard types ps n h
    instance_lighter guard (i ∷ is) types ps n h = visit_lighter (visit_status guard status (mark_in h i.path i.text)) guard i is types ps n h

  pub frame_lighter : (f : Frame) (h : History) → f.doing ≡ idle → FrameLighter b (frame_next s f h) (frame_weight b f + (b + 3) * free_visits h)
  frame_lighter f h is =
      subst (λ (d : Doing). FrameLighter b (frame_next s (record f { doing = d }) h) (frame_weight b (record f { doing = d }) + (b + 3) * free_visits h)) (sym is)
      (instance_lighter f.depth f.raises_in f.home f.status f.all f.guard f.instances f.types f.promises f.passes h)
