-- The moves of an activation are those of the definition.
use Rattle.std.proofs.Common.{◌≡◌, ◌∙◌, ℕ, zero, suc, ◌<◌, ◌≤◌, Bool, true, false, List, [], ◌∷◌, length, drop, get_or, map, set, Option, Some, None, All, refl, ap, sym, subst, arith, slice_get}
use Rattle.std.specs.Prelude.{Result, Ok, Err}
use Rattle.std.proofs.lemmas.List.{get_or-set_same, length-map}
use Rattle.std.proofs.lemmas.List.Elements.{All-get_or}
use Rattle.std.proofs.lemmas.Option.{slice_get_within}
use Rattle.std.specs.declared.alloc.Global.{Global}
use Rattle.std.specs.declared.vec.Vec.{Vec}
use Rattle.cfa_kinds.specs.declared.kinds.PromiseType.{PromiseType}
use Rattle.cfa_output.specs.declared.ends.Stop.{Stop}
use Rattle.cfa_output.specs.declared.ends.Stop.TheVariants.{Outside, Memory, Visits, Pattern}
use Rattle.cfa_resolve.specs.declared.instances.Instance.{Instance}
use Rattle.cfa_statuses.specs.declared.levels.Status.{Status}
use Rattle.cfa_statuses.specs.declared.levels.Status.TheVariants.{No, Maybe, Yes}
use Rattle.cfa_tree.specs.Tree.{PolicyTree}
use Rattle.cfa_frames.specs.Frames.{Doing, Frame, idle}
use Rattle.cfa_frames.specs.Moves.{FrameNext, stays, leaves, goes_past, frame_next, guarded_next, instance_next, pass_next, promise_next, type_next, visit_next}
use Rattle.cfa_states.specs.declared.activations.Activation.{Activation}
use Rattle.cfa_states.specs.declared.numbered.Numbered.{Numbered as Promise}
use Rattle.cfa_states.specs.declared.remembering.Known.{Known}
use Rattle.cfa_states.specs.declared.states.State.{State}
use Rattle.cfa_states.specs.History.{History, Home, within, mark_in}
use Rattle.cfa_states.specs.Kept.{Stands, guard_now, home_of, seen_numbered}
use Rattle.cfa_states.specs.Numbered.{Numbered, agent_types, is_type}
use Rattle.cfa_states.specs.Passes.{visit_status}
use Rattle.cfa_states.specs.Views.{Setting}
use Rattle.cfa_states.specs.lemmas.Spared.{spare_none}
use Rattle.std.specs.Vec.{vec_len}
use Rattle.cfa_schema.specs.Laws.{IsCounted}
use Rattle.cfa_visits.specs.lemmas.Served.{all_held}
use Rattle.cfa_visits.specs.Bundles.{AreCounted}
use Rattle.cfa_machine.specs.declared.frames.Doing.TheVariants.{Idle}
use Rattle.cfa_machine.specs.declared.frames.Frame.{Frame as Held}
use Rattle.cfa_machine.specs.declared.frames.Hand.{Hand}
use Rattle.cfa_machine.specs.declared.stepping.NextVisit.{NextVisit}
use Rattle.cfa_visits.specs.Counting.{IsAt, instances_of}
use Rattle.cfa_machine.specs.Machines.{Row, asked_at, asked_held, doing_for, left_in, reached_held, row_in, row_of, seen_doing, seen_frame, seen_promises}
use Rattle.cfa_machine.specs.Reaching.{ReachedTo, Reaches, with_hand}
use Rattle.cfa_machine.specs.Standing.{FrameHolds, IsInRow}
use Rattle.cfa_machine.specs.Stepping.{IsVisit, StepCame}
use Rattle.cfa_visits.specs.lemmas.Remembered.{guard_read, seen_at}

-- ---- parts of lists

pub drop_at : {X : Type 0} (xs : List X) (k : ℕ) (x : X) → slice_get xs k ≡ Some x → drop k xs ≡ x ∷ drop (suc k) xs
drop_at [] k x is = cc
drop_at (y ∷ ys) zero x is = grind (arith, is)
drop_at (y ∷ ys) (suc k) x is = drop_at ys k x is

pub drop_past : {X : Type 0} (xs : List X) (k : ℕ) → length xs ≤ k → drop k xs ≡ []
drop_past [] zero past = refl
drop_past [] (suc k) past = refl
drop_past (x ∷ xs) zero past = absurd (omega (arith, past))
drop_past (x ∷ xs) (suc k) past = drop_past xs k (omega (arith, past))

pub drop_none : {X : Type 0} (xs : List X) (k : ℕ) → slice_get xs k ≡ None → drop k xs ≡ []
drop_none [] zero is = refl
drop_none [] (suc k) is = refl
drop_none (x ∷ xs) zero is = cc
drop_none (x ∷ xs) (suc k) is = drop_none xs k is

pub drop_next : {X : Type 0} (xs : List X) (k : ℕ) (x : X) (ys : List X) → drop k xs ≡ x ∷ ys → drop (suc k) xs ≡ ys
drop_next [] zero x ys is = cc
drop_next [] (suc k) x ys is = cc
drop_next (z ∷ zs) zero x ys is = cc
drop_next (z ∷ zs) (suc k) x ys is = drop_next zs k x ys is

pub got : {X : Type 0} (xs : List X) (k : ℕ) (d x : X) → k < length xs → x ≡ get_or xs k d → slice_get xs k ≡ Some x
got [] k d x inside is = absurd (omega (arith, inside))
got (y ∷ ys) zero d x inside is = grind (arith, is)
got (y ∷ ys) (suc k) d x inside is = got ys k d x (omega (arith, inside)) is

pub drop_item : {X : Type 0} (xs : List X) (k : ℕ) (x : X) → k < length xs → x ≡ get_or xs k x → drop k xs ≡ x ∷ drop (suc k) xs
drop_item xs k x inside is = drop_at xs k x (got xs k x x inside is)

-- ---- the next visit

module _ (s : Setting) (h : History) (f : Held) (st : State) (visit : NextVisit) (is : IsVisit f st.environment visit) (none : f.doing ≡ Idle) (stands : Stands s st f.activation h) where
  abbrev row : List Instance
  row = row_of f.rows.items visit.hand.row

  abbrev left : List Instance
  left = drop visit.hand.next row

  left_is : left_in f.rows.items f.hand ≡ is.instance ∷ left
  left_is =
      ap (left_in f.rows.items) is.hand
      ∙ (drop_at row visit.at is.instance is.found ∙ ap (λ (n : ℕ). is.instance ∷ drop n row) (sym is.behind))

  abbrev behind : Frame
  behind = record (seen_frame f) { instances = left }

  visit_came : (status : Status) → StepCame s h f (asked_held (record visit { status = status }) f) st (Ok true) (visit_next s status is.instance behind h)
  visit_came No = (
    ap (λ (d : Doing). record (seen_frame f) { instances = left; doing = d }) (sym (ap (seen_doing (row_in f.rows.items f.hand)) none)),
    (stands, spare_none (length f.activation.path) h),
  )
  visit_came Maybe = (
    ap (λ (o : Option Instance). record (seen_frame f) { instances = left; doing = asked_at Maybe o }) is.found,
    (stands, spare_none (length f.activation.path) h),
  )
  visit_came Yes = (
    ap (λ (o : Option Instance). record (seen_frame f) { instances = left; doing = asked_at Yes o }) is.found,
    (stands, spare_none (length f.activation.path) h),
  )

  status_is : visit.status ≡ visit_status f.guard f.activation.status (mark_in h is.instance.path is.instance.text)
  status_is = is.status ∙ ap (visit_status f.guard f.activation.status) (stands.0.1.1.0 is.instance.path is.instance.text)

  pub asked_came : StepCame s h f (asked_held visit f) st (Ok true) (frame_next s (seen_frame f) h)
  asked_came =
      subst (StepCame s h f (asked_held visit f) st (Ok true))
      (ap (λ (status : Status). visit_next s status is.instance behind h) status_is ∙ sym (ap (λ (xs : List Instance). instance_next s xs (seen_frame f) h) left_is))
      (visit_came visit.status)

in_row_for : (items : List Instance) (at : ℕ) (status : Status) → at < length items → IsInRow items (doing_for at status)
in_row_for items at No inside = tt
in_row_for items at Maybe inside = inside
in_row_for items at Yes inside = inside

pub asked_holds : (policy : PolicyTree) (st : State) (f : Held) (visit : NextVisit) → IsVisit f st.environment visit → FrameHolds policy st f → FrameHolds policy st (asked_held visit f)
asked_holds policy st f visit is holds = record {
  rows = holds.rows;
  repeats = holds.repeats;
  counted = holds.counted;
  before = holds.before;
  at = subst (λ (hand : Option Hand). All (IsAt f.activation.path) (row_in f.rows.items hand)) is.hand holds.at;
  in_hand = in_row_for (row_of f.rows.items visit.hand.row) visit.at visit.status (slice_get_within (row_of f.rows.items visit.hand.row) visit.at is.instance is.found);
}

-- ---- the next pass

module _ (s : Setting) (h : History) (f : Held) (st : State) (none : left_in f.rows.items f.hand ≡ []) (stands : Stands s st f.activation h) where
  no_instance : frame_next s (seen_frame f) h ≡ type_next s (drop f.kind agent_types) (seen_frame f).promises (seen_frame f) h
  no_instance = ap (λ (xs : List Instance). instance_next s xs (seen_frame f) h) none

  no_type : slice_get agent_types f.kind ≡ None → frame_next s (seen_frame f) h ≡ pass_next s f.passes (seen_frame f) h
  no_type is = no_instance ∙ ap (λ (types : List PromiseType). type_next s types (seen_frame f).promises (seen_frame f) h) (drop_none agent_types f.kind is)

  abbrev again : (passes : ℕ) → Held
  again n = record f { passes = n; kind = 0; place = 0; before = None }

  pub pass_came : (n : ℕ) → slice_get agent_types f.kind ≡ None → suc n ≡ f.passes → StepCame s h f (again n) st (Ok true) (frame_next s (seen_frame f) h)
  pass_came n is one =
      subst (StepCame s h f (again n) st (Ok true)) (sym (no_type is ∙ ap (λ (m : ℕ). pass_next s m (seen_frame f) h) (sym one)))
      (refl, (stands, spare_none (length f.activation.path) h))

  pub pass_leaves : (f' : Held) (st' : State) → slice_get agent_types f.kind ≡ None → f.passes ≡ 0 → StepCame s h f f' st' (Ok false) (frame_next s (seen_frame f) h)
  pass_leaves f' st' is last =
      subst (StepCame s h f f' st' (Ok false)) (sym (no_type is ∙ ap (λ (m : ℕ). pass_next s m (seen_frame f) h) last)) tt

  pub type_came : (type : PromiseType) (f' : Held) (st' : State) (result : Result Bool Stop) → slice_get agent_types f.kind ≡ Some type →
      ((types : List PromiseType) → drop f.kind agent_types ≡ type ∷ types → StepCame s h f f' st' result (type_next s (type ∷ types) (seen_frame f).promises (seen_frame f) h)) →
      StepCame s h f f' st' result (frame_next s (seen_frame f) h)
  type_came type f' st' result is came =
      let at : drop f.kind agent_types ≡ type ∷ drop (suc f.kind) agent_types = drop_at agent_types f.kind type is in
      subst (StepCame s h f f' st' result)
      (sym (no_instance ∙ ap (λ (types : List PromiseType). type_next s types (seen_frame f).promises (seen_frame f) h) at))
      (came (drop (suc f.kind) agent_types) at)

pub unknown_holds : (policy : PolicyTree) (st : State) (f : Held) (passes kind place : ℕ) → FrameHolds policy st f →
    FrameHolds policy st (record f { passes = passes; kind = kind; place = place; before = None })
unknown_holds policy st f passes kind place holds = record {
  rows = holds.rows;
  repeats = holds.repeats;
  counted = holds.counted;
  before = tt;
  at = holds.at;
  in_hand = holds.in_hand;
}

-- ---- the next type

pub next_type_came : (s : Setting) (h : History) (f : Held) (st : State) (type : PromiseType) (types : List PromiseType) → Stands s st f.activation h →
    drop f.kind agent_types ≡ type ∷ types → length f.promises.items ≤ f.place →
    StepCame s h f (record f { kind = suc f.kind; place = 0; before = None }) st (Ok true) (type_next s (type ∷ types) (seen_frame f).promises (seen_frame f) h)
next_type_came s h f st type types stands is past =
    let long : length (seen_promises f) ≡ length f.promises.items = length-map f.promises.items seen_numbered in
    let none : drop f.place (seen_promises f) ≡ [] = drop_past (seen_promises f) f.place (omega (arith, long, past)) in
    let G : List PromiseType → Frame = λ ts. record (seen_frame f) { types = ts; promises = seen_promises f } in
    subst (StepCame s h f (record f { kind = suc f.kind; place = 0; before = None }) st (Ok true))
    (sym (ap (λ (ps : List Numbered). type_next s (type ∷ types) ps (seen_frame f) h) none))
    (ap G (drop_next agent_types f.kind type types is), (stands, spare_none (length f.activation.path) h))

-- ---- the promise at the place

module _ (s : Setting) (h : History) (f : Held) (p : Promise) (inside : f.place < length f.promises.items) (is : p ≡ get_or f.promises.items f.place p) where
  abbrev seen : Numbered
  seen = seen_numbered p

  abbrev others : List Numbered
  others = drop (suc f.place) (seen_promises f)

  abbrev past : Frame
  past = record (seen_frame f) { promises = others }

  promises_are : drop f.place (seen_promises f) ≡ seen ∷ others
  promises_are =
      let long : length (seen_promises f) ≡ length f.promises.items = length-map f.promises.items seen_numbered in
      drop_item (seen_promises f) f.place seen (omega (arith, long, inside)) (seen_at f.promises.items f.place p seen inside is)

  next_is : (type : PromiseType) (types : List PromiseType) (same : Bool) → is_type type seen.type ≡ same →
      promise_next s same past seen h ≡ type_next s (type ∷ types) (seen_frame f).promises (seen_frame f) h
  next_is type types same e =
      ap (λ (b : Bool). promise_next s b past seen h) (sym e) ∙ sym (ap (λ (ps : List Numbered). type_next s (type ∷ types) ps (seen_frame f) h) promises_are)

  pub passed_came : (st : State) (type : PromiseType) (types : List PromiseType) → Stands s st f.activation h → is_type type seen.type ≡ false →
      StepCame s h f (record f { place = suc f.place; before = None }) st (Ok true) (type_next s (type ∷ types) (seen_frame f).promises (seen_frame f) h)
  passed_came st type types stands other =
      subst (StepCame s h f (record f { place = suc f.place; before = None }) st (Ok true)) (next_is type types false other)
      (refl, (stands, spare_none (length f.activation.path) h))

  -- it was reached
  module _ (policy : PolicyTree) (st st' : State) (a' : Activation) (rows : Vec Row Global) (kept : Row) (known : Known) (set_rows : rows.items ≡ set f.rows.items f.place kept)
      (fits : f.place < length f.rows.items) (none : left_in f.rows.items f.hand ≡ []) (idle_now : f.doing ≡ Idle) where
    abbrev after : Held
    after = record f { activation = a'; rows = rows }

    abbrev shown : (doing : Doing) → (instances : List Instance) → (guard : Status) → Home → Status → Frame
    shown doing instances guard home status = record {
      depth = f.depth;
      raises_in = within home.path;
      home = home;
      status = status;
      all = seen_promises f;
      doing = doing;
      guard = guard;
      instances = instances;
      types = drop f.kind agent_types;
      promises = others;
      passes = f.passes;
    }

    idle_as : (row : List Instance) → seen_doing row f.doing ≡ idle
    idle_as row = ap (seen_doing row) idle_now

    at_home : (doing : Doing) (instances : List Instance) (guard : Status) → home_of a' ≡ home_of f.activation → a'.status ≡ f.activation.status →
        shown doing instances guard (home_of a') a'.status ≡ shown doing instances guard (home_of f.activation) f.activation.status
    at_home doing instances guard home status =
        ap (λ (x : Home). shown doing instances guard x a'.status) home ∙ ap (λ (x : Status). shown doing instances guard (home_of f.activation) x) status

    seen_reached : (has : Bool) → home_of a' ≡ home_of f.activation → a'.status ≡ f.activation.status →
        seen_frame (reached_held known has after) ≡ with_hand has known.status kept past
    seen_reached false home status =
        at_home (seen_doing [] f.doing) [] f.guard home status
        ∙ (ap (λ (d : Doing). shown d [] f.guard (home_of f.activation) f.activation.status) (idle_as [] ∙ sym (idle_as (row_in f.rows.items f.hand)))
        ∙ ap (λ (xs : List Instance). shown (seen_doing (row_in f.rows.items f.hand) f.doing) xs f.guard (home_of f.activation) f.activation.status) (sym none))
    seen_reached true home status =
        let found : row_of rows.items f.place ≡ instances_of kept =
        ap (λ (xs : List Row). row_of xs f.place) set_rows ∙ ap instances_of (get_or-set_same f.rows.items f.place kept None fits) in
        at_home (seen_doing (row_of rows.items f.place) f.doing) (row_of rows.items f.place) known.status home status
        ∙ (ap (λ (d : Doing). shown d (row_of rows.items f.place) known.status (home_of f.activation) f.activation.status)
        (idle_as (row_of rows.items f.place) ∙ sym (idle_as (row_in f.rows.items f.hand)))
        ∙ ap (λ (xs : List Instance). shown (seen_doing (row_in f.rows.items f.hand) f.doing) xs known.status (home_of f.activation) f.activation.status) found)

    reached_to : (has : Bool) (x : FrameNext) → ReachedTo policy false s past h known.status kept st' a' (Ok has) x → StepCame s h f (reached_held known has after) st' (Ok true) x
    reached_to false (stays g k) to = (seen_reached false to.1.0.1.0 to.1.0.1.1.0 ∙ to.0, (to.1.0.1.1.1, to.1.1.0))
    reached_to true (stays g k) to = (seen_reached true to.1.0.1.0 to.1.0.1.1.0 ∙ to.0, (to.1.0.1.1.1, to.1.1.0))
    reached_to has leaves to = absurd to
    reached_to has (goes_past k) to = absurd to

    reach_is : (type : PromiseType) (types : List PromiseType) → is_type type seen.type ≡ true → known.status ≡ guard_now seen st f.activation → Stands s st f.activation h →
        guarded_next s past seen known.status h ≡ type_next s (type ∷ types) (seen_frame f).promises (seen_frame f) h
    reach_is type types same guard stands =
        ap (λ (g : Status). guarded_next s past seen g h) (guard_read st f.activation seen known.status guard s h stands) ∙ next_is type types true same

    pub reached_came : (type : PromiseType) (types : List PromiseType) (has : Bool) → is_type type seen.type ≡ true → known.status ≡ guard_now seen st f.activation →
        s.policy ≡ policy → Stands s st f.activation h → Reaches policy false seen known.status kept st st' f.activation a' (Ok has) →
        StepCame s h f (reached_held known has after) st' (Ok true) (type_next s (type ∷ types) (seen_frame f).promises (seen_frame f) h)
    reached_came type types has same guard policy_is stands reaches =
        subst (StepCame s h f (reached_held known has after) st' (Ok true)) (reach_is type types same guard stands)
        (reached_to has (guarded_next s past seen known.status h) (reaches s past h (policy_is, (refl, (refl, stands))) refl))

  -- it was not
  module _ (policy : PolicyTree) (st st' : State) (a' : Activation) (kept : Row) (known : Known) (f' : Held) where
    stops_as : (stop : Stop) (x : FrameNext) → ReachedTo policy false s past h known.status kept st' a' (Err stop) x → StepCame s h f f' st' (Err stop) x
    stops_as (Outside object) (stays g k) to = to
    stops_as (Outside object) leaves to = to
    stops_as (Outside object) (goes_past k) to = to
    stops_as Memory (stays g k) to = tt
    stops_as Memory leaves to = tt
    stops_as Memory (goes_past k) to = tt
    stops_as Visits (stays g k) to = to
    stops_as Visits leaves to = to
    stops_as Visits (goes_past k) to = tt
    stops_as (Pattern text) (stays g k) to = to
    stops_as (Pattern text) leaves to = to
    stops_as (Pattern text) (goes_past k) to = to

    pub reach_stopped : (type : PromiseType) (types : List PromiseType) (stop : Stop) → is_type type seen.type ≡ true → known.status ≡ guard_now seen st f.activation →
        s.policy ≡ policy → Stands s st f.activation h → Reaches policy false seen known.status kept st st' f.activation a' (Err stop) →
        StepCame s h f f' st' (Err stop) (type_next s (type ∷ types) (seen_frame f).promises (seen_frame f) h)
    reach_stopped type types stop same guard policy_is stands reaches =
        subst (StepCame s h f f' st' (Err stop))
        (ap (λ (g : Status). guarded_next s past seen g h) (guard_read st f.activation seen known.status guard s h stands) ∙ next_is type types true same)
        (stops_as stop (guarded_next s past seen known.status h) (reaches s past h (policy_is, (refl, (refl, stands))) refl))

-- ---- the promise at the place, by what the frame holds

of_item : {X : Type 0} (P : X → Type 0) (xs : List X) (i : ℕ) (x : X) → i < length xs → x ≡ get_or xs i x → All P xs → P x
of_item P xs i x inside is all = subst P (sym is) (All-get_or P xs i x inside all)

pub counted_at : (ps : List Promise) (i : ℕ) (p : Promise) → i < length ps → p ≡ get_or ps i p → AreCounted (map seen_numbered ps) → IsCounted p.id
counted_at ps i p inside is counted = of_item (λ (x : Promise). IsCounted x.id) ps i p inside is (all_held seen_numbered (λ (x : Numbered). IsCounted x.id) ps counted)

pub rows_inside : (policy : PolicyTree) (st : State) (f : Held) → FrameHolds policy st f → f.place < length f.promises.items → f.place < length f.rows.items
rows_inside policy st f holds inside =
    let long : length (seen_promises f) ≡ length f.promises.items = length-map f.promises.items seen_numbered in
    let rows = holds.rows.count in omega (arith, long, rows, inside)

pub past_length : (f : Held) → vec_len f.promises ≤ f.place → length f.promises.items ≤ f.place
past_length f past = subst (λ (n : ℕ). n ≤ f.place) f.promises.ok.0 past
