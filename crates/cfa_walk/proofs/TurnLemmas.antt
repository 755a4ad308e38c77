-- Turns of a run, one after the other.
use Rattle.std.proofs.Common.{◌≡◌, ◌∙◌, ℕ, ◌+◌, ◌-◌, ◌*◌, ◌<◌, ◌≤◌, Bool, true, false, IsTrue, List, [], ◌∷◌, ◌++◌, All, refl, ap, sym, subst, arith, inl, inr, Some, slice_get}
use Rattle.std.specs.Prelude.{Result, Ok, Err, OnOk, IfErr}
use Rattle.cfa_base.specs.Causes.{Rose}
use Rattle.cfa_base.specs.Shown.{Shown}
use Rattle.cfa_base.specs.lemmas.Causes.{rose_later}
use Rattle.cfa_output.specs.declared.ends.Object.TheVariants.{Inputs, Site, Sink}
use Rattle.cfa_output.specs.declared.ends.Stop.{Stop}
use Rattle.cfa_output.specs.declared.ends.Stop.TheVariants.{Outside, Memory, Visits, Pattern}
use Rattle.cfa_outcomes.specs.declared.outcomes.Outcome.{Outcome}
use Rattle.cfa_resolve.specs.declared.instances.Instance.{Instance}
use Rattle.cfa_schema.specs.Seen.{tree_of}
use Rattle.cfa_served.specs.Served.{common_bundles_of}
use Rattle.cfa_statuses.specs.declared.levels.Status.{Status}
use Rattle.cfa_statuses.specs.declared.levels.Status.TheVariants as statuses
use Rattle.cfa_kinds.specs.declared.kinds.PromiseType.{PromiseType}
use Rattle.cfa_tree.specs.Tree.{PolicyTree}
use Rattle.cfa_frames.specs.Frames.{Stack, beginning, rest}
use Rattle.cfa_frames.specs.Growing.{CourseGrows, Grows}
use Rattle.cfa_frames.specs.Hearing.{NextQuietly}
use Rattle.cfa_frames.specs.Moves.{Meets, Need, Next, answered, asked_next, ended, ending, entered, goes_on, is_too_large, moved, need_of, nothing, over, skipped, skipping}
use Rattle.cfa_frames.specs.Weights.{IsLighter, commons_weight, free_visits, heaviest, stack_weight, weight}
use Rattle.cfa_machine.specs.Stacks.{Came, Holds, Stands, next_built, seen_stack}
use Rattle.cfa_machine.specs.declared.machines.Machine.{Machine}
use Rattle.cfa_states.specs.Builds.{BuiltIn, BuiltOn}
use Rattle.cfa_states.specs.declared.endings.Ending.{Ending}
use Rattle.cfa_states.specs.declared.states.State.{State}
use Rattle.cfa_states.specs.History.{History, Event, Begun, Set, Raised, Reached, Listed, Told, visits_in}
use Rattle.cfa_states.specs.Kept.{Keeps}
use Rattle.cfa_states.specs.Levels.{EndedAs, Faults, FaultsAre, GoesTo, HasTold, HasVisited, IsTellersStop, IsTooLarge, Later, PatternsAre, Quietly, nothing as no_event, one_more, Stops, is_quiet, outcomes_of, visited_by}
use Rattle.cfa_states.specs.Passes.{Course, goes, too_large, most_visits, run}
use Rattle.cfa_states.specs.Tellers.{Teller, outcomes_in}
use Rattle.cfa_states.specs.Views.{Setting}
use Rattle.cfa_walk.specs.Ended.{to_state}
use Rattle.cfa_walk.specs.Turns.{GoesOn, Relation, IsLeft, IsAnswered, HasGone, GoesPastLimit, TurnDone, TurnHasBuilt, machine_weight, policy_weight, visit_answered}
use Rattle.cfa_walk.specs.Walked.{HasRunTo}
use Rattle.cfa_states.specs.lemmas.Later.{at_most}

-- ---- what holds whatever is answered

pub counted_still : (P : Type 0) (result : Result (Unit {0}) Stop) → P → OnOk result P
counted_still P (Ok done) holds = holds
counted_still P (Err stop) holds = tt

-- ---- what was built

built_more : (s : Setting) (text : List ℕ) (event : Event) (h : History) → BuiltIn s h text → BuiltIn s (event ∷ h) text
built_more s text (Begun path given) h built = built
built_more s text (Set path name datum) h built = built
built_more s text (Raised place class status source) h built = built
built_more s text (Reached home promise guard sets visits) h built = inr built
built_more s text (Listed instance status) h built = built
built_more s text (Told instance outcomes) h built = built

built_since : (s : Setting) (text : List ℕ) (h : History) (since : List Event) → BuiltIn s h text → BuiltIn s (since ++ h) text
built_since s text h [] built = built
built_since s text h (event ∷ since) built = built_more s text event (since ++ h) (built_since s text h since built)

built_grown : (s : Setting) (text : List ℕ) (h k : History) → Grows h k → BuiltIn s h text → BuiltIn s k text
built_grown s text h k grows built = subst (λ (m : History). BuiltIn s m text) (sym grows.1) (built_since s text h grows.0 built)

built_on : (s : Setting) (text : List ℕ) (h : History) (c : Course) → CourseGrows h c → BuiltIn s h text → BuiltOn s c text
built_on s text h (goes k) grows built = built_grown s text h k grows built
built_on s text h (too_large k) grows built = built_grown s text h k grows built

-- ---- what came of a move

-- a history after it, of which this holds
abbrev HasCome : Setting → Teller → Machine → (before : Course) → Next → (P : History → Type 0) → Type 0
HasCome s t m before next P = (k : History) × (Stands s m k × (P k × ((rest s t (seen_stack m) k ≡ before) × (next ≡ goes_on (seen_stack m) k))))

-- where one goes on
came_to : (s : Setting) (t : Teller) (m : Machine) (next : Next) (h : History) (before : Course) →
    Came s m (Ok tt) next → Meets s t next before → NextQuietly h next → HasCome s t m before next (λ k. Quietly h k)
came_to s t m (goes_on st k) h before came meets quiet =
    (k, (came.1, (quiet, (ap (λ (x : Stack). rest s t x k) came.0 ∙ meets, ap (λ (x : Stack). goes_on x k) (sym came.0)))))
came_to s t m (is_too_large k) h before came meets quiet = absurd came

past_there : (s : Setting) (t : Teller) (m : Machine) (next : Next) (h : History) (before : Course) →
    Came s m (Err Visits) next → Meets s t next before → NextQuietly h next → IsTooLarge before × ((k : History) × (Quietly h k × (next ≡ is_too_large k)))
past_there s t m (goes_on st k) h before came meets quiet = absurd came
past_there s t m (is_too_large k) h before came meets quiet = (subst (λ (c : Course). IsTooLarge c) meets tt, (k, (quiet, refl)))

built_there : (s : Setting) (t : Teller) (m : Machine) (text : List ℕ) (next : Next) (before : Course) →
    ((st : Stack) (h : History) → CourseGrows h (rest s t st h)) → Came s m (Err (Pattern text)) next → Meets s t next before → BuiltOn s before text
built_there s t m text (goes_on st k) before grow came meets =
    subst (λ (c : Course). BuiltOn s c text) meets (built_on s text k (rest s t st k) (grow st k) came)
built_there s t m text (is_too_large k) before grow came meets = subst (λ (c : Course). BuiltOn s c text) meets came

-- ---- weights

-- a machine weighs what its stack does
weighs : (s : Setting) (m : Machine) (h : History) → Stands s m h → weight s (seen_stack m) h ≡ machine_weight m
weighs s m h stands =
    let counted : m.state.left + visits_in h ≡ most_visits = stands.state.1.1.1.1.0 in
    let free : free_visits h ≡ m.state.left = omega (arith, counted) in
    ap (λ (n : ℕ). policy_weight s.policy (seen_stack m) n) free ∙ ap (λ (p : PolicyTree). policy_weight p (seen_stack m) m.state.left) stands.policy

stands_there : (s : Setting) (m : Machine) (next : Next) → Came s m (Ok tt) next → (k : History) × Stands s m k
stands_there s m (goes_on st k) came = (k, came.1)
stands_there s m (is_too_large k) came = absurd came

lighter_there : (s : Setting) (m m' : Machine) (next : Next) (h : History) → Stands s m h → Came s m' (Ok tt) next → IsLighter s next (weight s (seen_stack m) h) →
    machine_weight m' < machine_weight m
lighter_there s m m' (goes_on st k) h stands came light =
    let now : weight s (seen_stack m') k ≡ machine_weight m' = weighs s m' k came.1 in
    let before : weight s (seen_stack m) h ≡ machine_weight m = weighs s m h stands in
    let same : weight s (seen_stack m') k ≡ weight s st k = ap (λ (x : Stack). weight s x k) came.0 in
    subst (λ (n : ℕ). machine_weight m' < n) before (subst (λ (n : ℕ). n < weight s (seen_stack m) h) (sym same ∙ now) light)
lighter_there s m m' (is_too_large k) h stands came light = absurd came

-- where a move or an answer is lighter, the machine goes on
pub goes_there : (m m' : Machine) → ((s : Setting) (h : History) → Stands s m h →
    (next : Next) × (Came s m' (Ok tt) next × IsLighter s next (weight s (seen_stack m) h))) → GoesOn m m'
goes_there m m' came = λ s h stands.
    let there = came s h stands in
    (lighter_there s m m' there.0 h stands there.1.0 there.1.1, stands_there s m' there.0 there.1.0)

-- ---- results that are handed on

pub ok_then : {P Q : Type 0} (result : Result (Unit {0}) Stop) → OnOk result P → (P → Q) → OnOk result Q
ok_then (Ok done) p f = f p
ok_then (Err stop) p f = tt

-- ---- the laws of moves, at an answer

abbrev SkippedMeets : Type 0
SkippedMeets = (s : Setting) (t : Teller) (st : Stack) (h : History) (i : Instance) (status : Status) → need_of st ≡ skipping i status →
    t.skips h i ≡ true → Meets s t (skipped st h) (rest s t st h)

abbrev EnteredMeets : Type 0
EnteredMeets = (s : Setting) (t : Teller) (st : Stack) (h : History) (i : Instance) (status : Status) → need_of st ≡ skipping i status →
    t.skips h i ≡ false → Meets s t (entered s st h) (rest s t st h)

pub visit_meets : (st : Stack) (i : Instance) (status : Status) → need_of st ≡ skipping i status → (is_skipped : Bool) → SkippedMeets → EnteredMeets →
    (s : Setting) (t : Teller) (h : History) → t.skips h i ≡ is_skipped → Meets s t (visit_answered s is_skipped st h) (rest s t st h)
visit_meets st i status is true skip enter = λ s t h said. skip s t st h i status is said
visit_meets st i status is false skip enter = λ s t h said. enter s t st h i status is said

abbrev SkippedQuietly : Type 0
SkippedQuietly = (st : Stack) (h : History) (i : Instance) (status : Status) → need_of st ≡ skipping i status →
    NextQuietly (Told i [] ∷ (Listed i status ∷ h)) (skipped st h)

abbrev EnteredQuietly : Type 0
EnteredQuietly = (s : Setting) (st : Stack) (h : History) (i : Instance) (status : Status) → need_of st ≡ skipping i status →
    NextQuietly (Listed i status ∷ h) (entered s st h)

pub visit_quiet : (st : Stack) (i : Instance) (status : Status) → need_of st ≡ skipping i status → (is_skipped : Bool) → SkippedQuietly → EnteredQuietly →
    (s : Setting) (h : History) → NextQuietly (visited_by i status is_skipped h) (visit_answered s is_skipped st h)
visit_quiet st i status is true skip enter = λ s h. skip st h i status is
visit_quiet st i status is false skip enter = λ s h. enter s st h i status is

abbrev SkippedLighter : Type 0
SkippedLighter = (s : Setting) (st : Stack) (h : History) (i : Instance) (status : Status) → need_of st ≡ skipping i status →
    IsLighter s (skipped st h) (weight s st h)

abbrev EnteredLighter : Type 0
EnteredLighter = (s : Setting) (st : Stack) (h : History) (i : Instance) (status : Status) → need_of st ≡ skipping i status →
    IsLighter s (entered s st h) (weight s st h)

visit_light : (st : Stack) (i : Instance) (status : Status) → need_of st ≡ skipping i status → (is_skipped : Bool) → SkippedLighter → EnteredLighter →
    (s : Setting) (h : History) → IsLighter s (visit_answered s is_skipped st h) (weight s st h)
visit_light st i status is true skip enter = λ s h. skip s st h i status is
visit_light st i status is false skip enter = λ s h. enter s st h i status is

-- ---- where a machine goes on

pub visit_goes : (m m' : Machine) (i : Instance) (status : Status) → need_of (seen_stack m) ≡ skipping i status → (is_skipped : Bool) → SkippedLighter → EnteredLighter →
    (result : Result (Unit {0}) Stop) →
    OnOk result ((s : Setting) (h : History) → Stands s m h → Came s m' (Ok tt) (visit_answered s is_skipped (seen_stack m) h)) → OnOk result (GoesOn m m')
visit_goes m m' i status is is_skipped skip enter (Ok done) came =
    goes_there m m' (λ s h stands. (visit_answered s is_skipped (seen_stack m) h, (came s h stands, visit_light (seen_stack m) i status is is_skipped skip enter s h)))
visit_goes m m' i status is is_skipped skip enter (Err stop) came = tt

abbrev EndedLighter : Type 0
EndedLighter = (s : Setting) (st : Stack) (h : History) (i : Instance) (status : Status) (outcomes : List Outcome) → need_of st ≡ ending i status →
    IsLighter s (ended outcomes st h) (weight s st h)

pub ending_goes : (m m' : Machine) (i : Instance) (status : Status) → need_of (seen_stack m) ≡ ending i status → (outcomes : List Outcome) → EndedLighter →
    (result : Result (Unit {0}) Stop) →
    OnOk result ((s : Setting) (h : History) → Stands s m h → Came s m' (Ok tt) (ended outcomes (seen_stack m) h)) → OnOk result (GoesOn m m')
ending_goes m m' i status is outcomes light (Ok done) came =
    goes_there m m' (λ s h stands. (ended outcomes (seen_stack m) h, (came s h stands, light s (seen_stack m) h i status outcomes is)))
ending_goes m m' i status is outcomes light (Err stop) came = tt

abbrev MovedLighter : Type 0
MovedLighter = (s : Setting) (st : Stack) (h : History) → need_of st ≡ nothing → IsLighter s (moved s st h) (weight s st h)

pub move_goes : (m m' : Machine) → need_of (seen_stack m) ≡ nothing → MovedLighter → (result : Result (Unit {0}) Stop) →
    ((s : Setting) (h : History) → Stands s m h → Came s m' result (moved s (seen_stack m) h)) → OnOk result (GoesOn m m')
move_goes m m' is light (Ok done) came = goes_there m m' (λ s h stands. (moved s (seen_stack m) h, (came s h stands, light s (seen_stack m) h is)))
move_goes m m' is light (Err stop) came = tt

-- ---- counts of faults, and the builder of patterns

pub later_same : (f : Faults) → Later f f
later_same f = (same f.0, refl)
  where
    same : (n : ℕ) → n ≤ n
    same n = omega arith

pub later_then : (f g k : Faults) → Later f g → Later g k → Later f k
later_then f g k fg gk = (at_most f.0 g.0 k.0 fg.0 gk.0, gk.1 ∙ fg.1)

rose_same : (a b c : ℕ) → b ≡ a → Rose b c → Rose a c
rose_same a b c same rose = subst (λ (n : ℕ). Rose n c) same rose

stops_later : (f g k : Faults) (stop : Stop) → Later f g → Stops g k stop → Stops f k stop
stops_later f g k (Outside Inputs) later stops = stops
stops_later f g k (Outside Site) later stops = (rose_later f.0 g.0 k.0 later.0 stops.0, stops.1 ∙ later.1)
stops_later f g k (Outside Sink) later stops = rose_same f.1 g.1 k.1 later.1 stops
stops_later f g k Memory later stops = stops ∙ later.1
stops_later f g k Visits later stops = stops ∙ later.1
stops_later f g k (Pattern text) later stops = stops ∙ later.1

pub faults_then : (f g k : Faults) (result : Result (Unit {0}) Stop) → Later f g → FaultsAre g k result → FaultsAre f k result
faults_then f g k (Ok done) later are = later_then f g k later are
faults_then f g k (Err stop) later are = stops_later f g k stop later are

pub patterns_then : (p q r : Shown (List (List ℕ))) (result : Result (Unit {0}) Stop) → q ≡ p → PatternsAre result q r → PatternsAre result p r
patterns_then p q r result same are = subst (λ (x : Shown (List (List ℕ))). PatternsAre result x r) same are

-- who tells stops at no pattern
pub own_patterns : (stop : Stop) (p : Shown (List (List ℕ))) → IsTellersStop stop → PatternsAre (Err stop) p p
own_patterns (Outside object) p own = refl
own_patterns Memory p own = refl
own_patterns Visits p own = refl
own_patterns (Pattern text) p own = absurd own

-- no move asks who tells
pub move_faults : (s : Setting) (m : Machine) (result : Result (Unit {0}) Stop) (next : Next) (f : Faults) → Came s m result next → FaultsAre f f result
move_faults s m (Ok done) next f came = later_same f
move_faults s m (Err (Outside object)) next f came = absurd came
move_faults s m (Err Memory) next f came = refl
move_faults s m (Err Visits) next f came = refl
move_faults s m (Err (Pattern text)) next f came = refl

-- want of memory in an answer
pub memory_own : (result : Result (Unit {0}) Stop) → IfErr result (λ stop. stop ≡ Memory) → IfErr result IsTellersStop
memory_own (Ok done) memory = tt
memory_own (Err stop) memory = subst IsTellersStop (sym memory) tt

pub memory_faults : (f g : Faults) (result : Result (Unit {0}) Stop) → Later f g → IfErr result (λ stop. stop ≡ Memory) → FaultsAre f g result
memory_faults f g (Ok done) later memory = later
memory_faults f g (Err stop) later memory = subst (Stops f g) (sym memory) later.1

-- ---- the facts of the laws

abbrev MovedMeets : Type 0
MovedMeets = (s : Setting) (t : Teller) (st : Stack) (h : History) → Meets s t (moved s st h) (rest s t st h)

abbrev MovedQuietly : Type 0
MovedQuietly = (s : Setting) (st : Stack) (h : History) → NextQuietly h (moved s st h)

abbrev RestGrows : Type 0
RestGrows = (s : Setting) (t : Teller) (st : Stack) (h : History) → CourseGrows h (rest s t st h)

-- ---- what is answered

abbrev answer : Setting → Teller → Stack → History → Next
answer s t st h = answered s t (need_of st) st h

moves_by : (s : Setting) (t : Teller) (st : Stack) (h : History) → need_of st ≡ nothing → answer s t st h ≡ moved s st h
moves_by s t st h is = ap (λ (need : Need). answered s t need st h) is

asked_by : (s : Setting) (t : Teller) (st : Stack) (h : History) (is_skipped : Bool) → asked_next s t is_skipped st h ≡ visit_answered s is_skipped st h
asked_by s t st h true = refl
asked_by s t st h false = refl

visits_by : (s : Setting) (t : Teller) (st : Stack) (h : History) (i : Instance) (status : Status) (is_skipped : Bool) → need_of st ≡ skipping i status →
    t.skips h i ≡ is_skipped → answer s t st h ≡ visit_answered s is_skipped st h
visits_by s t st h i status is_skipped is said =
    ap (λ (need : Need). answered s t need st h) is ∙ (ap (λ (b : Bool). asked_next s t b st h) said ∙ asked_by s t st h is_skipped)

ends_by : (s : Setting) (t : Teller) (st : Stack) (h : History) (i : Instance) (status : Status) (outcomes : List Outcome) → need_of st ≡ ending i status →
    outcomes_of t h i i.work ≡ outcomes → answer s t st h ≡ ended outcomes st h
ends_by s t st h i status outcomes is said =
    ap (λ (need : Need). answered s t need st h) is ∙ ap (λ (os : List Outcome). ended os st h) said

-- ---- relations

-- two relations that make a third
abbrev pub Compose : Relation → Stack → Relation → Relation → Type 0
Compose R mid Q T =
    (s : Setting) (t : Teller) (st : Stack) (h : History) (k : History) (st' : Stack) (l : History) → R s t st h mid k → Q s t mid k st' l → T s t st h st' l

pub left_then : (mid : Stack) → Compose IsLeft mid IsAnswered IsLeft
left_then mid s t st h k st' l before turned = turned.0 ∙ before

-- ---- turns

module _ {W X : Type 0} (teller : X → Teller) (agrees : W → X → Type 0) (behind : W → X → History → Type 0) where
  abbrev Steady : W → Type 0
  Steady w = (x : X) (event : Event) (h : History) → IsTrue (is_quiet event) → behind w x h → behind w x (event ∷ h)

  still_behind : (w : W) (x : X) → Steady w → {h k : History} → Quietly h k → behind w x h → behind w x k
  still_behind w x steady no_event stays = stays
  still_behind w x steady (one_more event quiet more) stays = steady x event _ quiet (still_behind w x steady more stays)

  -- a move
  pub advanced : (w : W) → Steady w → MovedMeets → MovedQuietly → RestGrows → (m m' : Machine) → need_of (seen_stack m) ≡ nothing → (result : Result (Unit {0}) Stop) →
      ((s : Setting) (h : History) → Stands s m h → Came s m' result (moved s (seen_stack m) h)) → TurnDone teller agrees behind w w m m' result
  advanced w steady meets quiet grow m m' is (Ok done) came = λ s x h agree. (
    agree,
    λ stands stays.
        let next = came_to s (teller x) m' (moved s (seen_stack m) h) h (rest s (teller x) (seen_stack m) h)
        (came s h stands) (meets s (teller x) (seen_stack m) h) (quiet s (seen_stack m) h) in (
          next.0,
          (
            next.1.0,
            (
              still_behind w x steady next.1.1.0 stays,
              (next.1.1.1.0, moves_by s (teller x) (seen_stack m) h is ∙ next.1.1.1.1),
            ),
          ),
        ),
  )
  advanced w steady meets quiet grow m m' is (Err (Outside object)) came = tt
  advanced w steady meets quiet grow m m' is (Err Memory) came = tt
  advanced w steady meets quiet grow m m' is (Err Visits) came = λ s x h agree. (
    agree,
    λ stands stays.
        let past = past_there s (teller x) m' (moved s (seen_stack m) h) h (rest s (teller x) (seen_stack m) h)
        (came s h stands) (meets s (teller x) (seen_stack m) h) (quiet s (seen_stack m) h) in
        (past.0, (past.1.0, (still_behind w x steady past.1.1.0 stays, moves_by s (teller x) (seen_stack m) h is ∙ past.1.1.1))),
  )
  advanced w steady meets quiet grow m m' is (Err (Pattern text)) came = λ s x h agree. (
    agree,
    λ stands stays. built_there s (teller x) m' text (moved s (seen_stack m) h) (rest s (teller x) (seen_stack m) h)
        (grow s (teller x)) (came s h stands) (meets s (teller x) (seen_stack m) h),
  )

  -- an answer that is no move adds nothing that is built, so it stops for want of memory or by who tells alone
  pub stopped_by : (w w' : W) (m m' : Machine) (stop : Stop) → IsTellersStop stop → TurnDone teller agrees behind w w' m m' (Err stop)
  stopped_by w w' m m' (Outside object) own = tt
  stopped_by w w' m m' Memory own = tt
  stopped_by w w' m m' Visits own = absurd own
  stopped_by w w' m m' (Pattern text) own = absurd own

  -- a visit that was answered
  pub visited : (w w' : W) → Steady w' → (m m' : Machine) (i : Instance) (status : Status) → need_of (seen_stack m) ≡ skipping i status → (is_skipped : Bool) →
      ((s : Setting) (t : Teller) (h : History) → t.skips h i ≡ is_skipped → Meets s t (visit_answered s is_skipped (seen_stack m) h) (rest s t (seen_stack m) h)) →
      ((s : Setting) (h : History) → NextQuietly (visited_by i status is_skipped h) (visit_answered s is_skipped (seen_stack m) h)) →
      HasVisited teller agrees behind w w' i status is_skipped →
      ((s : Setting) (h : History) → Stands s m h → Came s m' (Ok tt) (visit_answered s is_skipped (seen_stack m) h)) → HasGone teller agrees behind IsAnswered w w' m m'
  visited w w' steady m m' i status is is_skipped meets quiet told came = λ s x h agree.
      let heard = told x h agree in (
        heard.0,
        λ stands stays.
            let so = heard.1 stays in
            let next = came_to s (teller x) m' (visit_answered s is_skipped (seen_stack m) h) (visited_by i status is_skipped h) (rest s (teller x) (seen_stack m) h)
            (came s h stands) (meets s (teller x) h so.0) (quiet s h) in (
              next.0,
              (
                next.1.0,
                (
                  still_behind w' x steady next.1.1.0 so.1,
                  (next.1.1.1.0, visits_by s (teller x) (seen_stack m) h i status is_skipped is so.0 ∙ next.1.1.1.1),
                ),
              ),
            ),
      )

  -- an instance that was told
  pub told_so : (w w' : W) → Steady w' → (m m' : Machine) (i : Instance) (status : Status) → need_of (seen_stack m) ≡ ending i status → (called : Outcome) (ending : Ending) →
      ((s : Setting) (t : Teller) (h : History) → Meets s t (ended (outcomes_of t h i i.work) (seen_stack m) h) (rest s t (seen_stack m) h)) →
      ((h : History) → NextQuietly (Told i (outcomes_in ending) ∷ h) (ended (outcomes_in ending) (seen_stack m) h)) →
      ((s : Setting) (h : History) → Stands s m h → EndedAs i.work i called h) →
      HasTold teller agrees behind w w' i called ending →
      ((s : Setting) (h : History) → Stands s m h → Came s m' (Ok tt) (ended (outcomes_in ending) (seen_stack m) h)) → HasGone teller agrees behind IsAnswered w w' m m'
  told_so w w' steady m m' i status is inner how meets quiet worst told came = λ s x h agree.
      let heard = told x h agree in (
        heard.0,
        λ stands stays.
            let so = heard.1 stays (worst s h stands) in
            let meet : Meets s (teller x) (ended (outcomes_in how) (seen_stack m) h) (rest s (teller x) (seen_stack m) h) =
            subst (λ (os : List Outcome). Meets s (teller x) (ended os (seen_stack m) h) (rest s (teller x) (seen_stack m) h)) so.0 (meets s (teller x) h) in
            let next = came_to s (teller x) m' (ended (outcomes_in how) (seen_stack m) h) (Told i (outcomes_in how) ∷ h) (rest s (teller x) (seen_stack m) h)
            (came s h stands) meet (quiet h) in (
              next.0,
              (
                next.1.0,
                (
                  still_behind w' x steady next.1.1.0 so.1,
                  (next.1.1.1.0, ends_by s (teller x) (seen_stack m) h i status (outcomes_in how) is so.0 ∙ next.1.1.1.1),
                ),
              ),
            ),
      )

  -- an answer that was made leaves the run turned, and else memory was wanting
  pub by_answer : (w w' : W) (m m' : Machine) (result : Result (Unit {0}) Stop) → OnOk result (HasGone teller agrees behind IsAnswered w w' m m') →
      IfErr result (λ stop. stop ≡ Memory) → TurnDone teller agrees behind w w' m m' result
  by_answer w w' m m' (Ok done) turned memory = turned
  by_answer w w' m m' (Err stop) turned memory = subst (λ (e : Stop). TurnDone teller agrees behind w w' m m' (Err e)) (sym memory) tt

  -- ---- one after the other

  -- who tells and where a machine stands, before and after
  pub none_gone : (R : Relation) → ((s : Setting) (t : Teller) (st : Stack) (h : History) → R s t st h st h) → (w : W) (m : Machine) → HasGone teller agrees behind R w w m m
  none_gone R same w m = λ s x h agree. (agree, λ stands stays. (h, (stands, (stays, same s (teller x) (seen_stack m) h))))

  pub gone_then : (R Q T : Relation) (w w' w'' : W) (m m' m'' : Machine) → Compose R (seen_stack m') Q T →
      HasGone teller agrees behind R w w' m m' → HasGone teller agrees behind Q w' w'' m' m'' → HasGone teller agrees behind T w w'' m m''
  gone_then R Q T w w' w'' m m' m'' compose first second = λ s x h agree.
      let last = second s x h agree in
      let before = first s x h last.0 in (
        before.0,
        λ stands stays.
            let mid = before.1 stands stays in
            let end = (second s x mid.0 agree).1 mid.1.0 mid.1.1.0 in
            (end.0, (end.1.0, (end.1.1.0, compose s (teller x) (seen_stack m) h mid.0 (seen_stack m'') end.0 mid.1.1.1 end.1.1.1))),
      )

  -- where more visits are needed than may be made
  pub past_then : (R : Relation) (next next' : Setting → Teller → Stack → History → Next) (w w' w'' : W) (m m' : Machine) →
      ((s : Setting) (t : Teller) (st : Stack) (h : History) (k : History) → R s t st h (seen_stack m') k → (l : History) →
      next s t (seen_stack m') k ≡ is_too_large l → next' s t st h ≡ is_too_large l) →
      ((s : Setting) (t : Teller) (st : Stack) (h : History) (k : History) → R s t st h (seen_stack m') k → rest s t (seen_stack m') k ≡ rest s t st h) →
      HasGone teller agrees behind R w w' m m' → GoesPastLimit teller agrees behind next w' w'' m' → GoesPastLimit teller agrees behind next' w w'' m
  past_then R next next' w w' w'' m m' same left first second = λ s x h agree.
      let last = second s x h agree in
      let before = first s x h last.0 in (
        before.0,
        λ stands stays.
            let mid = before.1 stands stays in
            let past = (second s x mid.0 agree).1 mid.1.0 mid.1.1.0 in
            let on : R s (teller x) (seen_stack m) h (seen_stack m') mid.0 = mid.1.1.1 in (
              subst (λ (c : Course). IsTooLarge c) (left s (teller x) (seen_stack m) h mid.0 on) past.0,
              (past.1.0, (past.1.1.0, same s (teller x) (seen_stack m) h mid.0 on past.1.0 past.1.1.1)),
            ),
      )

  pub built_then : (R : Relation) (w w' w'' : W) (m m' : Machine) (text : List ℕ) →
      ((s : Setting) (t : Teller) (st : Stack) (h : History) (k : History) → R s t st h (seen_stack m') k → rest s t (seen_stack m') k ≡ rest s t st h) →
      HasGone teller agrees behind R w w' m m' → TurnHasBuilt teller agrees behind w' w'' m' text → TurnHasBuilt teller agrees behind w w'' m text
  built_then R w w' w'' m m' text left first second = λ s x h agree.
      let last = second s x h agree in
      let before = first s x h last.0 in (
        before.0,
        λ stands stays.
            let mid = before.1 stands stays in
            subst (λ (c : Course). BuiltOn s c text) (left s (teller x) (seen_stack m) h mid.0 mid.1.1.1) ((second s x mid.0 agree).1 mid.1.0 mid.1.1.0),
      )

  -- what holds between two turns
  pub record AfterTurns (R : Relation) (faults : W → Faults) (w w' : W) (m m' : Machine) (pats pats' : Shown (List (List ℕ))) : Type 0 where
    pub holds : Holds m'
    pub stands : (s : Setting) × ((h : History) × Stands s m' h)
    pub turned : HasGone teller agrees behind R w w' m m'
    pub lighter : machine_weight m' ≤ machine_weight m
    pub faults_are : Later (faults w) (faults w')
    pub patterns_are : pats' ≡ pats

  pub after_turn : (R : Relation) (faults : W → Faults) (w w' w'' : W) (m m' m'' : Machine) (p q r : Shown (List (List ℕ))) → Compose R (seen_stack m') IsAnswered R →
      AfterTurns R faults w w' m m' p q → HasGone teller agrees behind IsAnswered w' w'' m' m'' → GoesOn m' m'' → Holds m'' → Later (faults w') (faults w'') → r ≡ q →
      AfterTurns R faults w w'' m m'' p r
  after_turn R faults w w' w'' m m' m'' p q r compose before turned on holds later same =
      let there = on before.stands.0 before.stands.1.0 before.stands.1.1 in
      record {
        holds = holds;
        stands = (before.stands.0, there.1);
        turned = gone_then R IsAnswered R w w' w'' m m' m'' compose before.turned turned;
        lighter = omega (arith, there.0, before.lighter);
        faults_are = later_then (faults w) (faults w') (faults w'') before.faults_are later;
        patterns_are = same ∙ before.patterns_are;
      }

  -- ---- the whole run

  pub run_over : (s : Setting) (w w' : W) (m m' : Machine) →
      ((t : Teller) → rest s t (beginning s) [] ≡ run s t) → ((t : Teller) (h : History) → rest s t (seen_stack m') h ≡ goes h) →
      Stands s m [] → seen_stack m ≡ beginning s → HasGone teller agrees behind IsLeft w w' m m' → HasRunTo teller agrees behind s w w' (Ok m'.state)
  run_over s w w' m m' begins ends stands is turned = λ x agree.
      let all = turned s x [] agree in (
        all.0,
        λ stays.
            let end = all.1 stands stays in
            let course : goes end.0 ≡ run s (teller x) =
            sym (ends (teller x) end.0) ∙ (end.1.1.1 ∙ (ap (λ (st : Stack). rest s (teller x) st []) is ∙ begins (teller x))) in
            subst (λ (c : Course). GoesTo c (λ k. Keeps s m'.state k × behind w' x k)) course (end.1.0.state, end.1.1.0),
      )

  pub run_stopped : (s : Setting) (w w' w'' : W) (m m' m'' : Machine) (stop : Stop) → ((t : Teller) → rest s t (beginning s) [] ≡ run s t) →
      Stands s m [] → seen_stack m ≡ beginning s → HasGone teller agrees behind IsLeft w w' m m' → TurnDone teller agrees behind w' w'' m' m'' (Err stop) →
      HasRunTo teller agrees behind s w w'' (Err stop)
  run_stopped s w w' w'' m m' m'' (Outside object) begins stands is first done = tt
  run_stopped s w w' w'' m m' m'' Memory begins stands is first done = tt
  run_stopped s w w' w'' m m' m'' Visits begins stands is first done = λ x agree.
      let last = done s x [] agree in
      let before = first s x [] last.0 in (
        before.0,
        λ stays.
            let mid = before.1 stands stays in
            let past = (done s x mid.0 agree).1 mid.1.0 mid.1.1.0 in
            subst (λ (c : Course). IsTooLarge c) (mid.1.1.1 ∙ (ap (λ (st : Stack). rest s (teller x) st []) is ∙ begins (teller x))) past.0,
      )
  run_stopped s w w' w'' m m' m'' (Pattern text) begins stands is first done = λ x agree.
      let all = built_then IsLeft w w' w'' m m' text (λ s t st h k left. left) first done s x [] agree in
      (all.0, λ stays. subst (λ (c : Course). BuiltOn s c text) (ap (λ (st : Stack). rest s (teller x) st []) is ∙ begins (teller x)) (all.1 stands stays))
