-- What a machine remembers, and what it comes to, where its innermost bundle answers.
use Rattle.std.proofs.Common.{◌≡◌, ◌∙◌, ℕ, List, [], ◌∷◌, ◌++◌, ◌-◌, get_or, reverse, slice_get, Option, Some, None, All, refl, ap, sym, subst}
use Rattle.std.specs.Prelude.{Ok}
use Rattle.std.specs.declared.alloc.Global.{Global}
use Rattle.std.specs.declared.vec.Vec.{Vec}
use Rattle.cfa_outcomes.specs.declared.outcomes.Outcome.{Outcome}
use Rattle.cfa_resolve.specs.declared.instances.Instance.{Instance}
use Rattle.cfa_schema.specs.Seen.{tree_of}
use Rattle.cfa_tree.specs.Tree.{PolicyTree}
use Rattle.cfa_frames.specs.Frames.{Ahead, Stack}
use Rattle.cfa_frames.specs.Moves.{Next, ended, entered, goes_on, skipped, stack}
use Rattle.cfa_frames.specs.Standing.{IsNested, NextIsNested}
use Rattle.cfa_states.specs.declared.activations.Activation.{Activation}
use Rattle.cfa_states.specs.declared.endings.Ending.{Ending}
use Rattle.cfa_states.specs.declared.remembering.Known.{Known}
use Rattle.cfa_states.specs.declared.states.State.{State}
use Rattle.cfa_states.specs.declared.numbered.Numbered.{Numbered as Promise}
use Rattle.cfa_states.specs.History.{History}
use Rattle.cfa_states.specs.Kept.{AreLater, IsLater, IsSame, Stands, seen_numbered}
use Rattle.cfa_states.specs.Tellers.{outcomes_in}
use Rattle.cfa_states.specs.Views.{Setting}
use Rattle.cfa_machine.specs.declared.frames.Doing.{Doing as Code}
use Rattle.cfa_machine.specs.declared.frames.Doing.TheVariants.{Idle, Asked, Running}
use Rattle.cfa_machine.specs.declared.frames.Frame.{Frame as Held}
use Rattle.cfa_machine.specs.declared.machines.Machine.{Machine}
use Rattle.cfa_machine.specs.declared.tops.Top.{Top}
use Rattle.cfa_machine.specs.declared.tops.Top.TheVariants as tops
use Rattle.cfa_machine.specs.Answering.{Enters, ended_by, ended_doing, entered_doing, skipped_by, unasked}
use Rattle.cfa_visits.specs.Counting.{IsAt}
use Rattle.cfa_machine.specs.Machines.{row_in, seen_promises}
use Rattle.cfa_visits.specs.Remembering.{BeforeHolds}
use Rattle.cfa_machine.specs.Stacks.{AreAll, Came, Holds, NotAgent, PushesOnto, TopHolds, seen_ahead, seen_frames, seen_stack}
use Rattle.cfa_machine.specs.Stacks.{Stands as MachineStands}
use Rattle.cfa_machine.specs.Standing.{FrameHolds, IsInRow}
use Rattle.cfa_machine.specs.Tops.{TopEnters, TopRemembers}
use Rattle.cfa_visits.specs.lemmas.Remembered.{guard_later, row_later}
use Rattle.cfa_machine.proofs.AnswerLemmas.{path_at}
use Rattle.cfa_machine.proofs.EnterLemmas.{enter_gone, reverse_more}
use Rattle.cfa_machine.proofs.GoneLemmas.{Longer, end_gone, gone_came, skip_gone, top_keeps}
use Rattle.cfa_machine.proofs.HoldLemmas.{all_later, later_holds}

-- ---- no agent bundle is the innermost

pub none_skipped : (depth : ℕ) (top : Top) (below : List Held) (a : Ahead) (h : History) → NotAgent top →
    skipped (stack (seen_frames depth top below) a) h ≡ goes_on (stack (seen_frames depth top below) a) h
none_skipped depth tops.Nothing below a h none = refl
none_skipped depth (tops.Common c) below a h none = refl
none_skipped depth (tops.Agent f) below a h none = absurd none

pub none_entered : (s : Setting) (depth : ℕ) (top : Top) (below : List Held) (a : Ahead) (h : History) → NotAgent top →
    entered s (stack (seen_frames depth top below) a) h ≡ goes_on (stack (seen_frames depth top below) a) h
none_entered s depth tops.Nothing below a h none = refl
none_entered s depth (tops.Common c) below a h none = refl
none_entered s depth (tops.Agent f) below a h none = absurd none

pub none_ended : (outcomes : List Outcome) (depth : ℕ) (top : Top) (below : List Held) (a : Ahead) (h : History) → NotAgent top →
    ended outcomes (stack (seen_frames depth top below) a) h ≡ goes_on (stack (seen_frames depth top below) a) h
none_ended outcomes depth tops.Nothing below a h none = refl
none_ended outcomes depth (tops.Common c) below a h none = refl
none_ended outcomes depth (tops.Agent f) below a h none = absurd none

pub same_came : (s : Setting) (m : Machine) (h : History) (x : Next) → x ≡ goes_on (seen_stack m) h → MachineStands s m h → Came s m (Ok tt) x
same_came s m h x is stands = subst (Came s m (Ok tt)) (sym is) (refl, stands)

-- ---- what is remembered

pub top_remembers : (policy : PolicyTree) (st : State) (top : Top) (below : List Held) → TopHolds policy st top below → TopRemembers policy st top
top_remembers policy st tops.Nothing below holds = tt
top_remembers policy st (tops.Common c) below holds = tt
top_remembers policy st (tops.Agent f) below holds = holds.0

in_unasked : (row : List Instance) (d : Code) → IsInRow row d → IsInRow row (unasked d)
in_unasked row Idle inside = tt
in_unasked row (Asked at status) inside = tt
in_unasked row (Running at status worst) inside = inside

in_entered : (row : List Instance) (d : Code) → IsInRow row d → IsInRow row (entered_doing d)
in_entered row Idle inside = tt
in_entered row (Asked at status) inside = inside
in_entered row (Running at status worst) inside = inside

in_ended : (row : List Instance) (d : Code) → IsInRow row d → IsInRow row (ended_doing d)
in_ended row Idle inside = tt
in_ended row (Asked at status) inside = inside
in_ended row (Running at status worst) inside = tt

before_on : (ps : List Promise) (i : ℕ) (before : Option Known) (st st' : State) (a a' : Activation) → AreLater st st' a a' → BeforeHolds ps i before st a → BeforeHolds ps i before st' a'
before_on ps i None st st' a a' later holds = tt
before_on ps i (Some known) st st' a a' later holds = (holds.0, λ p. guard_later (seen_numbered (get_or ps (i - 1) p)) known st st' a a' later (holds.1 p))

-- the activation goes on, and the visit in hand with it
frame_on : (policy : PolicyTree) (st st' : State) (f : Held) (a' : Activation) (d : Code) → AreLater st st' f.activation a' → IsInRow (row_in f.rows.items f.hand) d → FrameHolds policy st f →
    FrameHolds policy st' (record f { activation = a'; doing = d })
frame_on policy st st' f a' d later inside holds = record {
  rows = record {
    count = holds.rows.count;
    each = λ i p within. row_later policy (get_or (seen_promises f) i p) (get_or f.rows.items i None) st st' f.activation a' later (holds.rows.each i p within);
  };
  repeats = holds.repeats;
  counted = holds.counted;
  before = before_on f.promises.items f.place f.before st st' f.activation a' later holds.before;
  at = subst (λ (path : List ℕ). All (IsAt path) (row_in f.rows.items f.hand)) (sym later.here.path) holds.at;
  in_hand = inside;
}

doing_on : (policy : PolicyTree) (st st' : State) (f : Held) (d : Code) → IsLater st st' → IsInRow (row_in f.rows.items f.hand) d → FrameHolds policy st f → FrameHolds policy st' (record f { doing = d })
doing_on policy st st' f d later inside holds =
    let on : FrameHolds policy st' f = later_holds policy st st' f later holds in
    record { rows = on.rows; repeats = on.repeats; counted = on.counted; before = on.before; at = on.at; in_hand = inside }

module _ (m : Machine) (f : Held) (is : m.top ≡ tops.Agent f) (holds : Holds m) where
  abbrev policy : PolicyTree
  policy = tree_of m.checked.now

  not_begun : m.at ≡ 0 → ⊥
  not_begun none = subst NotAgent is (holds.unbegun none)

  frames_hold : FrameHolds policy m.state f × AreAll (FrameHolds policy m.state) (reverse m.below.items)
  frames_hold = subst (λ (top : Top). TopHolds policy m.state top (reverse m.below.items)) is holds.top

  frame_machine : (f' : Held) (st' : State) → IsLater m.state st' → FrameHolds policy st' f' → Holds (record m { top = tops.Agent f'; state = st' })
  frame_machine f' st' later now = record {
    top = (now, all_later policy m.state st' (reverse m.below.items) later frames_hold.1);
    depth = holds.depth;
    commons = holds.commons;
    names = holds.names;
    begun = λ some. record { rounds = (holds.begun some).rounds; round = (holds.begun some).round; top = tt };
    unbegun = λ none. absurd (not_begun none);
  }

  pub skip_holds : (f' : Held) (st' : State) → f' ≡ record f { doing = unasked f.doing } → IsLater m.state st' → Holds (record m { top = tops.Agent f'; state = st' })
  skip_holds f' st' same later =
      frame_machine f' st' later
      (subst (FrameHolds policy st') (sym same) (doing_on policy m.state st' f (unasked f.doing) later (in_unasked (row_in f.rows.items f.hand) f.doing frames_hold.0.in_hand) frames_hold.0))

  pub end_holds : (f' : Held) (st' : State) (a' : Activation) → f' ≡ record f { activation = a'; doing = ended_doing f.doing } → AreLater m.state st' f.activation a' →
      Holds (record m { top = tops.Agent f'; state = st' })
  end_holds f' st' a' same later =
      frame_machine f' st' later.state
      (subst (FrameHolds policy st') (sym same) (frame_on policy m.state st' f a' (ended_doing f.doing) later (in_ended (row_in f.rows.items f.hand) f.doing frames_hold.0.in_hand) frames_hold.0))

  caller_holds : (caller : Held) (st' : State) → caller ≡ record f { doing = entered_doing f.doing } → IsLater m.state st' → FrameHolds policy st' caller
  caller_holds caller st' same later =
      subst (FrameHolds policy st') (sym same) (doing_on policy m.state st' f (entered_doing f.doing) later (in_entered (row_in f.rows.items f.hand) f.doing frames_hold.0.in_hand) frames_hold.0)

  pub enter_holds : (caller : Held) (st' : State) → caller ≡ record f { doing = entered_doing f.doing } → IsLater m.state st' → Holds (record m { top = tops.Agent caller; state = st' })
  enter_holds caller st' same later = frame_machine caller st' later (caller_holds caller st' same later)

  pub push_holds : (caller g : Held) (st' : State) (v : Vec Held Global) → caller ≡ record f { doing = entered_doing f.doing } → IsLater m.state st' → FrameHolds policy st' g → v.items ≡ m.below.items ++ caller ∷ [] →
      Holds (record m { top = tops.Agent g; below = v; state = st' })
  push_holds caller g st' v same later now to =
      let turned : reverse v.items ≡ caller ∷ reverse m.below.items = ap reverse to ∙ reverse_more m.below.items caller in record {
        top = (
          now,
          subst (AreAll (FrameHolds policy st')) (sym turned) (caller_holds caller st' same later, all_later policy m.state st' (reverse m.below.items) later frames_hold.1),
        );
        depth = holds.depth;
        commons = holds.commons;
        names = holds.names;
        begun = λ some. record { rounds = (holds.begun some).rounds; round = (holds.begun some).round; top = tt };
        unbegun = λ none. absurd (not_begun none);
      }

  -- ---- what it comes to

  paths : (at : ℕ) (i : Instance) → slice_get (row_in f.rows.items f.hand) at ≡ Some i → i.path ≡ f.activation.path
  paths at i found = path_at (row_in f.rows.items f.hand) f.activation.path at i frames_hold.0.at found

  pub skip_came : (f' : Held) (st' : State) → f' ≡ record f { doing = unasked f.doing } →
      ((s : Setting) (h : History) → Stands s m.state f.activation h → Stands s st' f.activation (skipped_by (row_in f.rows.items f.hand) f.doing h)) → Longer →
      ((st : Stack) (h : History) → IsNested st → NextIsNested (skipped st h)) → (s : Setting) (h : History) → MachineStands s m h → Came s (record m { top = tops.Agent f'; state = st' }) (Ok tt) (skipped (seen_stack m) h)
  skip_came f' st' same kept longer nest s h stands =
      gone_came s (record m { top = tops.Agent f'; state = st' }) (skipped (seen_stack m) h) stands.policy (nest (seen_stack m) h stands.nested)
      (skip_gone s m f is h stands holds longer st' f' same paths (kept s h (stands.state, (top_keeps s m f is h stands).0)))

  pub end_came : (f' : Held) (st' : State) (a' : Activation) (ending : Ending) → IsSame f.activation a' → f' ≡ record f { activation = a'; doing = ended_doing f.doing } →
      ((s : Setting) (h : History) → Stands s m.state f.activation h → Stands s st' a' (ended_by ending (row_in f.rows.items f.hand) f.doing h)) → Longer →
      ((st : Stack) (h : History) (outcomes : List Outcome) → IsNested st → NextIsNested (ended outcomes st h)) → (s : Setting) (h : History) → MachineStands s m h →
      Came s (record m { top = tops.Agent f'; state = st' }) (Ok tt) (ended (outcomes_in ending) (seen_stack m) h)
  end_came f' st' a' ending same_activation same kept longer nest s h stands =
      gone_came s (record m { top = tops.Agent f'; state = st' }) (ended (outcomes_in ending) (seen_stack m) h) stands.policy (nest (seen_stack m) h (outcomes_in ending) stands.nested)
      (end_gone s m f is h stands holds longer st' a' same_activation ending f' same paths (kept s h (stands.state, (top_keeps s m f is h stands).0)))

-- ---- a visit is entered

module _ (m : Machine) (holds : Holds m) (top' : Top) (st' : State) where
  abbrev policy_of : PolicyTree
  policy_of = tree_of m.checked.now

  abbrev entered_machine : Machine
  entered_machine = record m { top = top'; state = st' }

  unentered : m.top ≡ top' → st' ≡ m.state → m ≡ entered_machine
  unentered same state = ap (λ (t : Top). record m { top = t }) same ∙ ap (λ (x : State). record m { top = top'; state = x }) (sym state)

  nothing_holds : (top : Top) → m.top ≡ top → IsLater m.state st' → TopEnters policy_of m.state st' top top' None → Holds entered_machine
  nothing_holds tops.Nothing is later to = subst Holds (unentered (is ∙ sym to.0) to.1.1) holds
  nothing_holds (tops.Common c) is later to = subst Holds (unentered (is ∙ sym to.0) to.1.1) holds
  nothing_holds (tops.Agent f) is later to =
      let caller : Held = record f { doing = entered_doing f.doing } in
      subst (λ (t : Top). Holds (record m { top = t; state = st' })) (sym to.0) (enter_holds m f is holds caller st' refl later)

  pub unpushed_holds : IsLater m.state st' → TopEnters policy_of m.state st' m.top top' None → Holds entered_machine
  unpushed_holds later to = nothing_holds m.top refl later to

  module _ (m' : Machine) (g : Held) (now : FrameHolds policy_of st' g) (later : IsLater m.state st') where
    pushed_by : (top : Top) → m.top ≡ top → TopEnters policy_of m.state st' top top' (Some g) → PushesOnto top' entered_machine m' g → Holds m'
    pushed_by tops.Nothing is to on = let no : Some g ≡ None = to.1.0 in cc
    pushed_by (tops.Common c) is to on = let no : Some g ≡ None = to.1.0 in cc
    pushed_by (tops.Agent f) is to on =
        let caller : Held = record f { doing = entered_doing f.doing } in
        let onto : PushesOnto (tops.Agent caller) entered_machine m' g = subst (λ (t : Top). PushesOnto t entered_machine m' g) to.0 on in
        subst Holds (sym onto.0) (push_holds m f is holds caller g st' m'.below refl later now onto.1)

    pub pushed_holds : TopEnters policy_of m.state st' m.top top' (Some g) → PushesOnto top' entered_machine m' g → Holds m'
    pushed_holds to on = pushed_by m.top refl to on

  module _ (longer : Longer) (nest : (s : Setting) (st : Stack) (h : History) → IsNested st → NextIsNested (entered s st h)) (s : Setting) (h : History) (stands : MachineStands s m h) where
    abbrev caller_of : Held → Held
    caller_of f = record f { doing = entered_doing f.doing }

    enters_of : (f : Held) (is : m.top ≡ tops.Agent f) (made : Option Held) → TopEnters policy_of m.state st' (tops.Agent f) top' made →
        Enters s f.depth (row_in f.rows.items f.hand) f.doing made st' h
    enters_of f is made to = to.1 s h stands.policy (stands.state, (top_keeps s m f is h stands).0)

    unpushed_by : (top : Top) → m.top ≡ top → TopEnters policy_of m.state st' top top' None → Came s entered_machine (Ok tt) (entered s (seen_stack m) h)
    unpushed_by tops.Nothing is to = subst (λ (x : Machine). Came s x (Ok tt) (entered s (seen_stack m) h)) (unentered (is ∙ sym to.0) to.1.1)
        (same_came s m h (entered s (seen_stack m) h) (none_entered s m.depth m.top (reverse m.below.items) (seen_ahead m) h (subst NotAgent (sym is) tt)) stands)
    unpushed_by (tops.Common c) is to = subst (λ (x : Machine). Came s x (Ok tt) (entered s (seen_stack m) h)) (unentered (is ∙ sym to.0) to.1.1)
        (same_came s m h (entered s (seen_stack m) h) (none_entered s m.depth m.top (reverse m.below.items) (seen_ahead m) h (subst NotAgent (sym is) tt)) stands)
    unpushed_by (tops.Agent f) is to =
        let caller : Held = caller_of f in
        let after : Machine = record m { top = tops.Agent caller; state = st' } in
        subst (λ (t : Top). Came s (record m { top = t; state = st' }) (Ok tt) (entered s (seen_stack m) h)) (sym to.0)
        (gone_came s after (entered s (seen_stack m) h) stands.policy (nest s (seen_stack m) h stands.nested)
        (enter_gone s m f is h stands holds longer st' m.below caller None refl (paths m f is holds) (enters_of f is None to) tt))

    pub unpushed_came : TopEnters policy_of m.state st' m.top top' None → Came s entered_machine (Ok tt) (entered s (seen_stack m) h)
    unpushed_came to = unpushed_by m.top refl to

    module _ (m' : Machine) (g : Held) where
      on_top : (top : Top) → m.top ≡ top → TopEnters policy_of m.state st' top top' (Some g) → PushesOnto top' entered_machine m' g → Came s m' (Ok tt) (entered s (seen_stack m) h)
      on_top tops.Nothing is to on = let no : Some g ≡ None = to.1.0 in cc
      on_top (tops.Common c) is to on = let no : Some g ≡ None = to.1.0 in cc
      on_top (tops.Agent f) is to on =
          let caller : Held = caller_of f in
          let onto : PushesOnto (tops.Agent caller) entered_machine m' g = subst (λ (t : Top). PushesOnto t entered_machine m' g) to.0 on in
          let after : Machine = record m { top = tops.Agent g; below = m'.below; state = st' } in
          subst (λ (x : Machine). Came s x (Ok tt) (entered s (seen_stack m) h)) (sym onto.0)
          (gone_came s after (entered s (seen_stack m) h) stands.policy (nest s (seen_stack m) h stands.nested)
          (enter_gone s m f is h stands holds longer st' m'.below caller (Some g) refl (paths m f is holds) (enters_of f is (Some g) to) onto.1))

      pub pushed_came : TopEnters policy_of m.state st' m.top top' (Some g) → PushesOnto top' entered_machine m' g → Came s m' (Ok tt) (entered s (seen_stack m) h)
      pushed_came to on = on_top m.top refl to on
