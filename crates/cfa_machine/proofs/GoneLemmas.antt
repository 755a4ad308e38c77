-- What a machine comes to where its innermost bundle changes and those below it stay as they are.
use Rattle.std.proofs.Common.{◌≡◌, ◌∙◌, ℕ, List, [], ◌∷◌, length, map, reverse, slice_get, Option, Some, None, refl, ap, sym, subst, arith}
use Rattle.std.specs.Prelude.{Ok}
use Rattle.cfa_resolve.specs.declared.instances.Instance.{Instance}
use Rattle.cfa_schema.specs.Seen.{tree_of}
use Rattle.cfa_statuses.specs.declared.levels.Status.{Status}
use Rattle.cfa_outcomes.specs.declared.outcomes.Outcome.{Outcome}
use Rattle.cfa_frames.specs.Frames.{Frame, Stack, asked, idle, running}
use Rattle.cfa_frames.specs.Moves.{Next, goes_on, is_too_large, doing_ended, doing_skipped, ended, skipped, stack}
use Rattle.cfa_frames.specs.Standing.{AreNested, AreShorter, IsNested, NextIsNested}
use Rattle.cfa_states.specs.declared.activations.Activation.{Activation}
use Rattle.cfa_states.specs.declared.endings.Ending.{Ending}
use Rattle.cfa_states.specs.declared.states.State.{State}
use Rattle.cfa_states.specs.History.{History, Listed, Told, within}
use Rattle.cfa_states.specs.Kept.{IsSame, Keeps, KeepsLocally, SpareShorter, Stands}
use Rattle.cfa_states.specs.Passes.{told}
use Rattle.cfa_states.specs.Tellers.{outcomes_in}
use Rattle.cfa_states.specs.Views.{Setting}
use Rattle.cfa_states.specs.lemmas.Spared.{local_spared, spare_listed, spare_none, spare_then, spare_told}
use Rattle.cfa_machine.specs.declared.frames.Doing.{Doing as Code}
use Rattle.cfa_machine.specs.declared.frames.Doing.TheVariants.{Idle, Asked, Running}
use Rattle.cfa_machine.specs.declared.frames.Frame.{Frame as Held}
use Rattle.cfa_machine.specs.declared.machines.Machine.{Machine}
use Rattle.cfa_machine.specs.declared.tops.Top.{Top}
use Rattle.cfa_machine.specs.declared.tops.Top.TheVariants as tops
use Rattle.cfa_machine.specs.Answering.{ended_at, ended_by, ended_doing, skipped_at, skipped_by, unasked}
use Rattle.cfa_visits.specs.Clear.{IsClear}
use Rattle.cfa_visits.specs.Endings.{raise_ending}
use Rattle.cfa_machine.specs.Machines.{asked_at, row_in, running_at, seen_doing, seen_frame}
use Rattle.cfa_machine.specs.Stacks.{AreAll, CalledAs, Came, Holds, NotAgent, TopHolds, TopKeeps, seen_ahead, seen_frames, seen_stack}
use Rattle.cfa_machine.specs.Stacks.{Stands as MachineStands}
use Rattle.cfa_machine.specs.Standing.{FrameHolds}
use Rattle.cfa_visits.specs.lemmas.Told.{spare_raised_lists, told_is}

-- ---- the machine afterwards

-- without how its frames are nested
abbrev pub GoneTo : Setting → Machine → Next → Type 0
GoneTo s m (goes_on st k) =
    (seen_stack m ≡ st) × (Keeps s m.state k × (TopKeeps s m.top (reverse m.below.items) k × (m.at ≡ 0 → IsClear k)))
GoneTo s m (is_too_large k) = ⊥

pub gone_came : (s : Setting) (m : Machine) (x : Next) → s.policy ≡ tree_of m.checked.now → NextIsNested x → GoneTo s m x → Came s m (Ok tt) x
gone_came s m (goes_on st k) policy nested gone = (
  gone.0,
  record { policy = policy; state = gone.1.0; frames = gone.1.1.0; clear = gone.1.1.1; nested = subst IsNested (sym gone.0) nested },
)
gone_came s m (is_too_large k) policy nested gone = absurd gone

-- ---- the bundles below

pub below_kept : (s : Setting) (n : ℕ) (h k : History) → SpareShorter n h k → (fs : List Held) → AreShorter n (map seen_frame fs) →
    AreAll (λ (g : Held). KeepsLocally s g.activation h) fs → AreAll (λ (g : Held). KeepsLocally s g.activation k) fs
below_kept s n h k spare [] shorter keep = tt
below_kept s n h k spare (f ∷ fs) shorter keep = (local_spared n s f.activation h k spare shorter.0 keep.0, below_kept s n h k spare fs shorter.1 keep.1)

-- ---- an agent bundle is the innermost

abbrev pub Longer : Type 0
Longer = (f : Frame) (frames : List Frame) → AreNested (f ∷ frames) → AreShorter (length f.home.path) frames

module _ (s : Setting) (m : Machine) (f : Held) (is : m.top ≡ tops.Agent f) where
  abbrev below : List Held
  below = reverse m.below.items

  abbrev pub others : List Frame
  others = map seen_frame below

  pub stack_is : seen_stack m ≡ stack (seen_frame f ∷ others) (seen_ahead m)
  stack_is = ap (λ (top : Top). stack (seen_frames m.depth top below) (seen_ahead m)) is

  pub top_keeps : (h : History) → MachineStands s m h →
      KeepsLocally s f.activation h × (CalledAs f.doing (row_in f.rows.items f.hand) h × AreAll (λ (g : Held). KeepsLocally s g.activation h) below)
  top_keeps h stands = subst (λ (top : Top). TopKeeps s top below h) is stands.frames

  pub top_holds : Holds m → FrameHolds (tree_of m.checked.now) m.state f × AreAll (FrameHolds (tree_of m.checked.now) m.state) below
  top_holds holds = subst (λ (top : Top). TopHolds (tree_of m.checked.now) m.state top below) is holds.top

  pub are_shorter : (h : History) → MachineStands s m h → Longer → AreShorter (length f.activation.path) others
  are_shorter h stands longer =
      longer (seen_frame f) others (subst (λ (top : Top). AreNested (seen_frames m.depth top below)) is stands.nested)

  pub has_begun : Holds m → m.at ≡ 0 → ⊥
  has_begun holds none = subst NotAgent is (holds.unbegun none)

  -- what the machine is then
  abbrev pub with_frame : Held → State → Machine
  with_frame f' st' = record m { top = tops.Agent f'; state = st' }

  module _ (h : History) (stands : MachineStands s m h) (holds : Holds m) (longer : Longer) where
    pub goes : (f' : Held) (st' : State) (g : Frame) (k : History) → seen_frame f' ≡ g → Keeps s st' k → KeepsLocally s f'.activation k → CalledAs f'.doing (row_in f'.rows.items f'.hand) k →
        SpareShorter (length f.activation.path) h k → GoneTo s (with_frame f' st') (goes_on (stack (g ∷ others) (seen_ahead m)) k)
    goes f' st' g k seen keeps local called spare = (
      ap (λ (x : Frame). stack (x ∷ others) (seen_ahead m)) seen,
      (
        keeps,
        (
          (local, (called, below_kept s (length f.activation.path) h k spare below (are_shorter h stands longer) (top_keeps h stands).1.1)),
          λ none. absurd (has_begun holds none),
        ),
      ),
    )

-- ---- answers to it, by how far its visit is

abbrev pub Row : Type 0
Row = List Instance

module _ (s : Setting) (m : Machine) (f : Held) (is : m.top ≡ tops.Agent f) (h : History) (stands : MachineStands s m h) (holds : Holds m) (longer : Longer) (st' : State) where
  abbrev row : Row
  row = row_in f.rows.items f.hand

  abbrev with_code : Code → Held
  with_code d = record f { doing = d }

  spare_skipped : (status : Status) (i : Instance) → i.path ≡ f.activation.path → SpareShorter (length f.activation.path) h (Told i [] ∷ Listed i status ∷ h)
  spare_skipped status i path =
      let n : ℕ = length f.activation.path in
      let long : length i.path ≡ n = ap length path in
      spare_then n h (Listed i status ∷ h) (Told i [] ∷ Listed i status ∷ h) (spare_listed n h i status) (spare_told n (Listed i status ∷ h) i [] (omega (arith, long)))

  skip_at : (at : ℕ) (status : Status) (o : Option Instance) → slice_get row at ≡ o → ((i : Instance) → o ≡ Some i → i.path ≡ f.activation.path) → Stands s st' f.activation (skipped_at status o h) →
      GoneTo s (with_frame s m f is (with_code Idle) st') (doing_skipped (asked_at status o) (record (seen_frame f) { doing = asked_at status o }) (others s m f is) (seen_ahead m) h)
  skip_at at status None none path kept =
      goes s m f is h stands holds longer (with_code Idle) st' (record (seen_frame f) { doing = idle }) h refl kept.0 kept.1 tt (spare_none (length f.activation.path) h)
  skip_at at status (Some i) found path kept =
      goes s m f is h stands holds longer (with_code Idle) st' (record (seen_frame f) { doing = idle }) (Told i [] ∷ Listed i status ∷ h) refl kept.0 kept.1 tt (spare_skipped status i (path i refl))

  running_skips : (at : ℕ) (status : Status) (worst : Outcome) (o : Option Instance) → slice_get row at ≡ o → CalledAs (Running at status worst) row h → Stands s st' f.activation h →
      GoneTo s (with_frame s m f is (with_code (Running at status worst)) st')
      (doing_skipped (running_at status o) (record (seen_frame f) { doing = running_at status o }) (others s m f is) (seen_ahead m) h)
  running_skips at status worst None none called kept =
      goes s m f is h stands holds longer (with_code (Running at status worst)) st' (record (seen_frame f) { doing = idle }) h
      (ap (λ (o : Option Instance). record (seen_frame f) { doing = running_at status o }) none) kept.0 kept.1 called (spare_none (length f.activation.path) h)
  running_skips at status worst (Some i) found called kept =
      goes s m f is h stands holds longer (with_code (Running at status worst)) st' (record (seen_frame f) { doing = running i status }) h
      (ap (λ (o : Option Instance). record (seen_frame f) { doing = running_at status o }) found) kept.0 kept.1 called (spare_none (length f.activation.path) h)

  -- it is skipped
  skip_by : (d : Code) → ((at : ℕ) (i : Instance) → slice_get row at ≡ Some i → i.path ≡ f.activation.path) → CalledAs d row h → Stands s st' f.activation (skipped_by row d h) →
      GoneTo s (with_frame s m f is (with_code (unasked d)) st') (doing_skipped (seen_doing row d) (record (seen_frame f) { doing = seen_doing row d }) (others s m f is) (seen_ahead m) h)
  skip_by Idle path called kept =
      goes s m f is h stands holds longer (with_code Idle) st' (record (seen_frame f) { doing = idle }) h refl kept.0 kept.1 tt (spare_none (length f.activation.path) h)
  skip_by (Asked at status) path called kept = skip_at at status (slice_get row at) refl (path at) kept
  skip_by (Running at status worst) path called kept = running_skips at status worst (slice_get row at) refl called kept

  pub skip_gone : (f' : Held) → f' ≡ record f { doing = unasked f.doing } → ((at : ℕ) (i : Instance) → slice_get row at ≡ Some i → i.path ≡ f.activation.path) →
      Stands s st' f.activation (skipped_by row f.doing h) → GoneTo s (with_frame s m f is f' st') (skipped (seen_stack m) h)
  skip_gone f' same path kept =
      subst (λ (x : Held). GoneTo s (with_frame s m f is x st') (skipped (seen_stack m) h)) (sym same)
      (subst (λ (st : Stack). GoneTo s (with_frame s m f is (with_code (unasked f.doing)) st') (skipped st h)) (sym (stack_is s m f is))
      (skip_by f.doing path (top_keeps s m f is h stands).1.0 kept))

-- ---- an instance ended

module _ (s : Setting) (m : Machine) (f : Held) (is : m.top ≡ tops.Agent f) (h : History) (stands : MachineStands s m h) (holds : Holds m) (longer : Longer) (st' : State)
    (a' : Activation) (same : IsSame f.activation a') (ending : Ending) where
  abbrev ended_row : Row
  ended_row = row_in f.rows.items f.hand

  abbrev after : Code → Held
  after d = record f { activation = a'; doing = d }

  seen_same : (d : Code) → seen_frame (after d) ≡ record (seen_frame f) { doing = seen_doing ended_row d }
  seen_same d =
      let G : (path bundle : List ℕ) → Status → Frame =
      λ path bundle status. record (seen_frame f) { raises_in = within path; home = record { path = path; bundle = bundle }; status = status; doing = seen_doing ended_row d } in
      ap (λ (x : List ℕ). G x a'.bundle a'.status) same.path
      ∙ (ap (λ (x : List ℕ). G f.activation.path x a'.status) same.bundle ∙ ap (λ (x : Status). G f.activation.path f.activation.bundle x) same.status)

  spare_ended : (status : Status) (i : Instance) → i.path ≡ f.activation.path → SpareShorter (length f.activation.path) h (told i (outcomes_in ending) status h)
  spare_ended status i path =
      let n : ℕ = length f.activation.path in
      let long : length i.path ≡ n = ap length path in
      let k : History = Told i (outcomes_in ending) ∷ h in
      subst (λ (x : History). SpareShorter n h x) (sym (told_is i ending status h))
      (spare_then n h k (raise_ending i ending status k) (spare_told n h i (outcomes_in ending) (omega (arith, long)))
      (spare_raised_lists i (outcomes_in ending) status n (outcomes_in ending) k))

  end_at : (at : ℕ) (status : Status) (worst : Outcome) (o : Option Instance) → slice_get ended_row at ≡ o → ((i : Instance) → o ≡ Some i → i.path ≡ f.activation.path) →
      Stands s st' a' (ended_at ending status o h) →
      GoneTo s (with_frame s m f is (after Idle) st') (doing_ended (outcomes_in ending) (running_at status o) (record (seen_frame f) { doing = running_at status o }) (others s m f is) (seen_ahead m) h)
  end_at at status worst None none path kept =
      goes s m f is h stands holds longer (after Idle) st' (record (seen_frame f) { doing = idle }) h (seen_same Idle) kept.0 kept.1 tt (spare_none (length f.activation.path) h)
  end_at at status worst (Some i) found path kept =
      goes s m f is h stands holds longer (after Idle) st' (record (seen_frame f) { doing = idle }) (told i (outcomes_in ending) status h) (seen_same Idle) kept.0 kept.1 tt
      (spare_ended status i (path i refl))

  asked_ends : (at : ℕ) (status : Status) (o : Option Instance) → slice_get ended_row at ≡ o → Stands s st' a' h →
      GoneTo s (with_frame s m f is (after (Asked at status)) st')
      (doing_ended (outcomes_in ending) (asked_at status o) (record (seen_frame f) { doing = asked_at status o }) (others s m f is) (seen_ahead m) h)
  asked_ends at status None none kept =
      goes s m f is h stands holds longer (after (Asked at status)) st' (record (seen_frame f) { doing = idle }) h
      (seen_same (Asked at status) ∙ ap (λ (o : Option Instance). record (seen_frame f) { doing = asked_at status o }) none) kept.0 kept.1 tt (spare_none (length f.activation.path) h)
  asked_ends at status (Some i) found kept =
      goes s m f is h stands holds longer (after (Asked at status)) st' (record (seen_frame f) { doing = asked i status }) h
      (seen_same (Asked at status) ∙ ap (λ (o : Option Instance). record (seen_frame f) { doing = asked_at status o }) found) kept.0 kept.1 tt (spare_none (length f.activation.path) h)

  end_by : (d : Code) → ((at : ℕ) (i : Instance) → slice_get ended_row at ≡ Some i → i.path ≡ f.activation.path) → Stands s st' a' (ended_by ending ended_row d h) →
      GoneTo s (with_frame s m f is (after (ended_doing d)) st')
      (doing_ended (outcomes_in ending) (seen_doing ended_row d) (record (seen_frame f) { doing = seen_doing ended_row d }) (others s m f is) (seen_ahead m) h)
  end_by Idle path kept =
      goes s m f is h stands holds longer (after Idle) st' (record (seen_frame f) { doing = idle }) h (seen_same Idle) kept.0 kept.1 tt (spare_none (length f.activation.path) h)
  end_by (Asked at status) path kept = asked_ends at status (slice_get ended_row at) refl kept
  end_by (Running at status worst) path kept = end_at at status worst (slice_get ended_row at) refl (path at) kept

  pub end_gone : (f' : Held) → f' ≡ after (ended_doing f.doing) → ((at : ℕ) (i : Instance) → slice_get ended_row at ≡ Some i → i.path ≡ f.activation.path) →
      Stands s st' a' (ended_by ending ended_row f.doing h) → GoneTo s (with_frame s m f is f' st') (ended (outcomes_in ending) (seen_stack m) h)
  end_gone f' same_frame path kept =
      subst (λ (x : Held). GoneTo s (with_frame s m f is x st') (ended (outcomes_in ending) (seen_stack m) h)) (sym same_frame)
      (subst (λ (st : Stack). GoneTo s (with_frame s m f is (after (ended_doing f.doing)) st') (ended (outcomes_in ending) st h)) (sym (stack_is s m f is))
      (end_by f.doing path kept))
