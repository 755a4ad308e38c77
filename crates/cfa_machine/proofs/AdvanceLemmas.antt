-- What a move makes of a machine, by its innermost bundle.
use Rattle.std.proofs.Common.{◌≡◌, ◌∙◌, ◌++◌, ℕ, Bool, true, false, List, [], ◌∷◌, append-nil, refl, ap, sym, subst, Vec, Global, Option, Some, None}
use Rattle.std.specs.Option.{option_to_list}
use Rattle.std.specs.Prelude.{Result, Ok, Err, reverse}
use Rattle.cfa_outcomes.specs.declared.outcomes.Outcome.{Outcome}
use Rattle.cfa_outcomes.specs.declared.outcomes.Outcome.TheVariants.{Kept}
use Rattle.cfa_output.specs.declared.ends.Stop.{Stop}
use Rattle.cfa_resolve.specs.declared.instances.Instance.{Instance}
use Rattle.cfa_schema.specs.Seen.{tree_of}
use Rattle.cfa_statuses.specs.declared.levels.Status.{Status}
use Rattle.cfa_tree.specs.Tree.{PolicyTree}
use Rattle.cfa_frames.specs.Moves.{moved}
use Rattle.cfa_frames.specs.Standing.{NextIsNested}
use Rattle.cfa_states.specs.declared.states.State.{State}
use Rattle.cfa_states.specs.History.{History}
use Rattle.cfa_states.specs.Kept.{IsLater}
use Rattle.cfa_states.specs.Views.{Setting}
use Rattle.cfa_machine.specs.declared.commons.Common.{Common}
use Rattle.cfa_machine.specs.declared.frames.Doing.{Doing as Code}
use Rattle.cfa_machine.specs.declared.frames.Doing.TheVariants.{Idle, Asked, Running}
use Rattle.cfa_machine.specs.declared.frames.Frame.{Frame as Held}
use Rattle.cfa_machine.specs.declared.machines.Machine.{Machine}
use Rattle.cfa_machine.specs.declared.tops.Top.{Top}
use Rattle.cfa_machine.specs.declared.tops.Top.TheVariants as tops
use Rattle.cfa_machine.specs.Stacks.{AreAll, Came, Holds, NotAgent, NotCommon, TopHolds, seen_stack}
use Rattle.cfa_machine.specs.Stacks.{Stands as MachineStands}
use Rattle.cfa_machine.specs.Machines.{row_in}
use Rattle.cfa_machine.specs.Standing.{FrameHolds, IsInRow}
use Rattle.cfa_machine.specs.Tops.{AgentSteps, TopRemembers, TopSteps, called_top, with_worst, worst_of}
use Rattle.cfa_machine.proofs.EnterLemmas.{reverse_more}
use Rattle.cfa_machine.proofs.GoneLemmas.{GoneTo, Longer, gone_came, top_keeps}
use Rattle.cfa_machine.proofs.HoldLemmas.{all_later}
use Rattle.cfa_machine.proofs.MoveLemmas.{agent_leaves, agent_stays, agent_stops, agent_waits, common_goes, common_keeps, common_leaves, common_stopped_came}

-- ---- what differs

asked_busy : {at : ℕ} {status : Status} → Asked at status ≡ Idle → ⊥
asked_busy e = cc

running_busy : {at : ℕ} {status : Status} {worst : Outcome} → Running at status worst ≡ Idle → ⊥
running_busy e = cc

abbrev ok_bool : Bool → Result Bool Stop
ok_bool b = Ok b

left_apart : ok_bool false ≡ ok_bool true → ⊥
left_apart e = cc

-- ---- it stays

module _ (policy : PolicyTree) (st st' : State) (later : IsLater st st') (result : Result Bool Stop) where
  holds_on : (top top' : Top) (below : List Held) → TopSteps policy st st' top top' result → TopRemembers policy st' top' → TopHolds policy st top below → TopHolds policy st' top' below
  holds_on tops.Nothing top' below steps sound holds = subst (λ (x : Top). TopHolds policy st' x below) (sym steps.1.0) holds
  holds_on (tops.Common c) (tops.Common c') below steps sound holds = holds
  holds_on (tops.Common c) tops.Nothing below steps sound holds = absurd steps
  holds_on (tops.Common c) (tops.Agent f') below steps sound holds = absurd steps
  holds_on (tops.Agent f) (tops.Agent f') below steps sound holds = (sound, all_later policy st st' below later holds.1)
  holds_on (tops.Agent f) tops.Nothing below steps sound holds = absurd steps
  holds_on (tops.Agent f) (tops.Common c') below steps sound holds = absurd steps

  no_common : (top top' : Top) → TopSteps policy st st' top top' result → NotCommon top → NotCommon top'
  no_common tops.Nothing top' steps free = subst NotCommon (sym steps.1.0) tt
  no_common (tops.Common c) top' steps free = absurd free
  no_common (tops.Agent f) (tops.Agent f') steps free = tt
  no_common (tops.Agent f) tops.Nothing steps free = absurd steps
  no_common (tops.Agent f) (tops.Common c') steps free = absurd steps

  no_agent : (top top' : Top) → TopSteps policy st st' top top' result → NotAgent top → NotAgent top'
  no_agent tops.Nothing top' steps free = subst NotAgent (sym steps.1.0) tt
  no_agent (tops.Common c) (tops.Common c') steps free = tt
  no_agent (tops.Common c) tops.Nothing steps free = absurd steps
  no_agent (tops.Common c) (tops.Agent f') steps free = absurd steps
  no_agent (tops.Agent f) top' steps free = absurd free

module _ (m : Machine) (holds : Holds m) (top' : Top) (st' : State) where
  abbrev pub stepped : Machine
  stepped = record m { state = st'; top = top' }

  pub stays_holds : (result : Result Bool Stop) → IsLater m.state st' → TopSteps (tree_of m.checked.now) m.state st' m.top top' result → TopRemembers (tree_of m.checked.now) st' top' → Holds stepped
  stays_holds result later steps sound = record {
    top = holds_on (tree_of m.checked.now) m.state st' later result m.top top' (reverse m.below.items) steps sound holds.top;
    depth = holds.depth;
    commons = holds.commons;
    names = holds.names;
    begun = λ some. record {
      rounds = (holds.begun some).rounds;
      round = (holds.begun some).round;
      top = no_common (tree_of m.checked.now) m.state st' later result m.top top' steps (holds.begun some).top;
    };
    unbegun = λ none. no_agent (tree_of m.checked.now) m.state st' later result m.top top' steps (holds.unbegun none);
  }

  module _ (s : Setting) (h : History) (stands : MachineStands s m h) (longer : Longer) (nested : NextIsNested (moved s (seen_stack m) h)) where
    waits_on : (f f' : Held) → m.top ≡ tops.Agent f → top' ≡ tops.Agent f' → (f.doing ≡ Idle → ⊥) → f' ≡ f → st' ≡ m.state → GoneTo s stepped (moved s (seen_stack m) h)
    waits_on f f' is is' busy same still =
        let back : top' ≡ m.top = is' ∙ ap tops.Agent same ∙ sym is in
        subst (λ (x : Top). GoneTo s (record m { state = st'; top = x }) (moved s (seen_stack m) h)) (sym back)
        (subst (λ (x : State). GoneTo s (record m { state = x }) (moved s (seen_stack m) h)) (sym still)
        (agent_waits s m f is h stands holds longer busy))

    agent_goes : (f f' : Held) (d : Code) → m.top ≡ tops.Agent f → top' ≡ tops.Agent f' → f.doing ≡ d → AgentSteps (tree_of m.checked.now) m.state st' d f f' (Ok true) →
        GoneTo s stepped (moved s (seen_stack m) h)
    agent_goes f f' Idle is is' doing steps =
        subst (λ (x : Top). GoneTo s (record m { state = st'; top = x }) (moved s (seen_stack m) h)) (sym is')
        (agent_stays s m f is h stands holds longer f' st' doing steps.1 (steps.0 s h stands.policy (stands.state, (top_keeps s m f is h stands).0)))
    agent_goes f f' (Asked at status) is is' doing steps = waits_on f f' is is' (λ idle. asked_busy (sym doing ∙ idle)) steps.1.0 steps.1.1
    agent_goes f f' (Running at status worst) is is' doing steps = waits_on f f' is is' (λ idle. running_busy (sym doing ∙ idle)) steps.1.0 steps.1.1

    stays_gone : (top : Top) → (top ≡ tops.Nothing → ⊥) → m.top ≡ top → (next : Top) → top' ≡ next → TopSteps (tree_of m.checked.now) m.state st' top next (Ok true) →
        GoneTo s stepped (moved s (seen_stack m) h)
    stays_gone tops.Nothing some is next is' steps = absurd (some refl)
    stays_gone (tops.Common c) some is (tops.Common c') is' steps =
        subst (λ (x : Top). GoneTo s (record m { state = st'; top = x }) (moved s (seen_stack m) h)) (sym is')
        (common_goes s m c is h stands holds c' st' (steps s m.depth h stands.policy (stands.state, common_keeps s m c is h stands holds)))
    stays_gone (tops.Common c) some is tops.Nothing is' steps = absurd steps
    stays_gone (tops.Common c) some is (tops.Agent f') is' steps = absurd steps
    stays_gone (tops.Agent f) some is (tops.Agent f') is' steps = agent_goes f f' f.doing is is' refl steps
    stays_gone (tops.Agent f) some is tops.Nothing is' steps = absurd steps
    stays_gone (tops.Agent f) some is (tops.Common c') is' steps = absurd steps

    pub stays_came : (m.top ≡ tops.Nothing → ⊥) → TopSteps (tree_of m.checked.now) m.state st' m.top top' (Ok true) → Came s stepped (Ok tt) (moved s (seen_stack m) h)
    stays_came some steps = gone_came s stepped (moved s (seen_stack m) h) stands.policy nested (stays_gone m.top some refl top' refl steps)

    -- ---- it stops

    agent_stopped : (m' : Machine) (f f' : Held) (d : Code) (stop : Stop) → m.top ≡ tops.Agent f → f.doing ≡ d → AgentSteps (tree_of m.checked.now) m.state st' d f f' (Err stop) →
        Came s m' (Err stop) (moved s (seen_stack m) h)
    agent_stopped m' f f' Idle stop is doing steps =
        agent_stops s m f is h stands holds longer m' f' st' stop doing (steps.0 s h stands.policy (stands.state, (top_keeps s m f is h stands).0))
    agent_stopped m' f f' (Asked at status) stop is doing steps = absurd cc
    agent_stopped m' f f' (Running at status worst) stop is doing steps = absurd cc

    stopped_by : (m' : Machine) (stop : Stop) (top : Top) → m.top ≡ top → (next : Top) → TopSteps (tree_of m.checked.now) m.state st' top next (Err stop) →
        Came s m' (Err stop) (moved s (seen_stack m) h)
    stopped_by m' stop tops.Nothing is next steps = absurd cc
    stopped_by m' stop (tops.Common c) is (tops.Common c') steps =
        common_stopped_came s m c is h stands holds m' c' st' stop (steps s m.depth h stands.policy (stands.state, common_keeps s m c is h stands holds))
    stopped_by m' stop (tops.Common c) is tops.Nothing steps = absurd steps
    stopped_by m' stop (tops.Common c) is (tops.Agent f') steps = absurd steps
    stopped_by m' stop (tops.Agent f) is (tops.Agent f') steps = agent_stopped m' f f' f.doing stop is refl steps
    stopped_by m' stop (tops.Agent f) is tops.Nothing steps = absurd steps
    stopped_by m' stop (tops.Agent f) is (tops.Common c') steps = absurd steps

    pub stops_came_here : (m' : Machine) (stop : Stop) → TopSteps (tree_of m.checked.now) m.state st' m.top top' (Err stop) → Came s m' (Err stop) (moved s (seen_stack m) h)
    stops_came_here m' stop steps = stopped_by m' stop m.top refl top' steps

-- ---- it leaves

-- nothing is below a common bundle
none_left : (m : Machine) (holds : Holds m) (v : Vec Held Global) (left : Option Held) → m.below.items ≡ v.items ++ option_to_list left → (left ≡ None → m.below.items ≡ []) →
    (c : Common) → m.top ≡ tops.Common c → left ≡ None
none_left m holds v None items all c is = refl
none_left m holds v (Some g) items all c is =
    let none : reverse m.below.items ≡ [] = subst (λ (top : Top). TopHolds (tree_of m.checked.now) m.state top (reverse m.below.items)) is holds.top in
    let more : reverse m.below.items ≡ g ∷ reverse v.items = ap reverse items ∙ reverse_more v.items g in
    let both : g ∷ reverse v.items ≡ [] = sym more ∙ none in cc

module _ (m : Machine) (holds : Holds m) (v : Vec Held Global) (left : Option Held) (items : m.below.items ≡ v.items ++ option_to_list left) (all : left ≡ None → m.below.items ≡ []) where
  abbrev pub left_machine : Machine
  left_machine = record m { top = called_top left (worst_of m.top); below = v }

  module _ (s : Setting) (h : History) (stands : MachineStands s m h) (longer : Longer) (nested : NextIsNested (moved s (seen_stack m) h)) where
    agent_left : (f f' : Held) (d : Code) (st' : State) → m.top ≡ tops.Agent f → f.doing ≡ d → AgentSteps (tree_of m.checked.now) m.state st' d f f' (Ok false) →
        GoneTo s (record m { top = called_top left f.activation.worst; below = v }) (moved s (seen_stack m) h)
    agent_left f f' Idle st' is doing steps =
        agent_leaves s m f is h stands holds longer v f.activation.worst refl f' st' left doing items all (steps.0 s h stands.policy (stands.state, (top_keeps s m f is h stands).0))
    agent_left f f' (Asked at status) st' is doing steps = absurd (left_apart steps.0)
    agent_left f f' (Running at status worst) st' is doing steps = absurd (left_apart steps.0)

    leaves_gone : (top : Top) → (top ≡ tops.Nothing → ⊥) → m.top ≡ top → (next : Top) (st' : State) → TopSteps (tree_of m.checked.now) m.state st' top next (Ok false) →
        GoneTo s (record m { top = called_top left (worst_of top); below = v }) (moved s (seen_stack m) h)
    leaves_gone tops.Nothing some is next st' steps = absurd (some refl)
    leaves_gone (tops.Common c) some is (tops.Common c') st' steps =
        subst (λ (x : Option Held). GoneTo s (record m { top = called_top x Kept; below = v }) (moved s (seen_stack m) h)) (sym (none_left m holds v left items all c is))
        (common_leaves s m c is h stands holds v c' st' (steps s m.depth h stands.policy (stands.state, common_keeps s m c is h stands holds)))
    leaves_gone (tops.Common c) some is tops.Nothing st' steps = absurd steps
    leaves_gone (tops.Common c) some is (tops.Agent f') st' steps = absurd steps
    leaves_gone (tops.Agent f) some is (tops.Agent f') st' steps = agent_left f f' f.doing st' is refl steps
    leaves_gone (tops.Agent f) some is tops.Nothing st' steps = absurd steps
    leaves_gone (tops.Agent f) some is (tops.Common c') st' steps = absurd steps

    pub leaves_came : (m.top ≡ tops.Nothing → ⊥) → (next : Top) (st' : State) → TopSteps (tree_of m.checked.now) m.state st' m.top next (Ok false) →
        Came s left_machine (Ok tt) (moved s (seen_stack m) h)
    leaves_came some next st' steps = gone_came s left_machine (moved s (seen_stack m) h) stands.policy nested (leaves_gone m.top some refl next st' steps)

  -- ---- what is remembered then

  row_as : (row : List Instance) (worst : Outcome) (d : Code) → IsInRow row d → IsInRow row (with_worst worst d)
  row_as row worst Idle inside = tt
  row_as row worst (Asked at status) inside = inside
  row_as row worst (Running at status before) inside = inside

  frame_as : (worst : Outcome) (g : Held) → FrameHolds (tree_of m.checked.now) m.state g → FrameHolds (tree_of m.checked.now) m.state (record g { doing = with_worst worst g.doing })
  frame_as worst g held = record {
    rows = held.rows;
    repeats = held.repeats;
    counted = held.counted;
    before = held.before;
    at = held.at;
    in_hand = row_as (row_in g.rows.items g.hand) worst g.doing held.in_hand;
  }

  all_below : (top : Top) → TopHolds (tree_of m.checked.now) m.state top (reverse m.below.items) → AreAll (FrameHolds (tree_of m.checked.now) m.state) (reverse m.below.items)
  all_below tops.Nothing held = subst (AreAll (FrameHolds (tree_of m.checked.now) m.state)) (sym held) tt
  all_below (tops.Common c) held = subst (AreAll (FrameHolds (tree_of m.checked.now) m.state)) (sym held) tt
  all_below (tops.Agent f) held = held.1

  left_top : (l : Option Held) (worst : Outcome) → m.below.items ≡ v.items ++ option_to_list l → (l ≡ None → m.below.items ≡ []) →
      TopHolds (tree_of m.checked.now) m.state (called_top l worst) (reverse v.items)
  left_top None worst is none =
      let empty : v.items ++ [] ≡ [] = sym is ∙ none refl in
      ap reverse (sym (append-nil v.items) ∙ empty)
  left_top (Some g) worst is none =
      let more : reverse m.below.items ≡ g ∷ reverse v.items = ap reverse is ∙ reverse_more v.items g in
      let held : AreAll (FrameHolds (tree_of m.checked.now) m.state) (g ∷ reverse v.items) =
      subst (AreAll (FrameHolds (tree_of m.checked.now) m.state)) more (all_below m.top holds.top) in
      (frame_as worst g held.0, held.1)

  not_common : (l : Option Held) (worst : Outcome) → NotCommon (called_top l worst)
  not_common None worst = tt
  not_common (Some g) worst = tt

  -- a bundle below is called by an agent bundle
  below_agent : (g : Held) → m.below.items ≡ v.items ++ g ∷ [] → (top : Top) → TopHolds (tree_of m.checked.now) m.state top (reverse m.below.items) → NotAgent top → ⊥
  below_agent g is tops.Nothing held free =
      let more : reverse m.below.items ≡ g ∷ reverse v.items = ap reverse is ∙ reverse_more v.items g in
      let both : g ∷ reverse v.items ≡ [] = sym more ∙ held in cc
  below_agent g is (tops.Common c) held free =
      let more : reverse m.below.items ≡ g ∷ reverse v.items = ap reverse is ∙ reverse_more v.items g in
      let both : g ∷ reverse v.items ≡ [] = sym more ∙ held in cc
  below_agent g is (tops.Agent f) held free = free

  not_agent : (l : Option Held) (worst : Outcome) → m.below.items ≡ v.items ++ option_to_list l → m.at ≡ 0 → NotAgent (called_top l worst)
  not_agent None worst is none = tt
  not_agent (Some g) worst is none = absurd (below_agent g is m.top holds.top (holds.unbegun none))

  pub left_holds : Holds left_machine
  left_holds = record {
    top = left_top left (worst_of m.top) items all;
    depth = holds.depth;
    commons = holds.commons;
    names = holds.names;
    begun = λ some. record { rounds = (holds.begun some).rounds; round = (holds.begun some).round; top = not_common left (worst_of m.top) };
    unbegun = λ none. not_agent left (worst_of m.top) items none;
  }

-- what is left of it is that
abbrev pub LeftAs : Machine → Top → State → Machine → Type 0
LeftAs m top' st' m' = (left : Option Held)
    × (m.below.items ≡ m'.below.items ++ option_to_list left)
    × (left ≡ None → m.below.items ≡ [])
    × (m' ≡ record m { state = st'; top = called_top left (worst_of top'); below = m'.below })

left_same : (m : Machine) (top' : Top) (st' : State) (m' : Machine) → top' ≡ m.top → st' ≡ m.state → LeftAs m top' st' m' → LeftAs m m.top m.state m'
left_same m top' st' m' same still l =
    subst (λ (x : State). LeftAs m m.top x m') still (subst (λ (x : Top). LeftAs m x st' m') same l)

pub left_came : (m : Machine) (holds : Holds m) (top' : Top) (st' : State) (m' : Machine) → top' ≡ m.top → st' ≡ m.state → LeftAs m top' st' m' → (m.top ≡ tops.Nothing → ⊥) →
    TopSteps (tree_of m.checked.now) m.state st' m.top top' (Ok false) → (s : Setting) (h : History) → MachineStands s m h → Longer → NextIsNested (moved s (seen_stack m) h) →
    Came s m' (Ok tt) (moved s (seen_stack m) h)
left_came m holds top' st' m' same still l some steps s h stands longer nested =
    let k : LeftAs m m.top m.state m' = left_same m top' st' m' same still l in
    subst (λ (x : Machine). Came s x (Ok tt) (moved s (seen_stack m) h)) (sym k.3)
    (leaves_came m holds m'.below k.0 k.1 k.2 s h stands longer nested some top' st' steps)

pub left_then_holds : (m : Machine) (holds : Holds m) (top' : Top) (st' : State) (m' : Machine) → top' ≡ m.top → st' ≡ m.state → LeftAs m top' st' m' → Holds m'
left_then_holds m holds top' st' m' same still l =
    let k : LeftAs m m.top m.state m' = left_same m top' st' m' same still l in
    subst Holds (sym k.3) (left_holds m holds m'.below k.0 k.1 k.2)

pub left_policy : (m : Machine) (top' : Top) (st' : State) (m' : Machine) → LeftAs m top' st' m' → m'.checked.now ≡ m.checked.now
left_policy m top' st' m' l = ap (λ (x : Machine). x.checked.now) l.3
