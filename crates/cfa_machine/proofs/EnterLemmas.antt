-- What a machine comes to where its visit in hand isn't skipped.
use Rattle.std.proofs.Common.{◌≡◌, ◌∙◌, ℕ, ◌<◌, ◌≤◌, List, [], ◌∷◌, ◌++◌, length, map, reverse, slice_get, Option, Some, None, refl, ap, sym, subst, arith}
use Rattle.std.specs.Prelude.{⊤}
use Rattle.std.proofs.lemmas.List.{reverse-append}
use Rattle.std.specs.declared.alloc.Global.{Global}
use Rattle.std.specs.declared.vec.Vec.{Vec}
use Rattle.cfa_outcomes.specs.declared.outcomes.Outcome.{Outcome}
use Rattle.cfa_outcomes.specs.declared.outcomes.Outcome.TheVariants.{Kept}
use Rattle.cfa_resolve.specs.declared.instances.Instance.{Instance}
use Rattle.cfa_statuses.specs.declared.levels.Status.{Status}
use Rattle.cfa_frames.specs.Frames.{Frame, Stack, idle, running}
use Rattle.cfa_frames.specs.Moves.{begun_by, doing_entered, entered, stack, with_doing}
use Rattle.cfa_states.specs.declared.states.State.{State}
use Rattle.cfa_states.specs.History.{History, Listed}
use Rattle.cfa_states.specs.Kept.{Keeps, KeepsLocally, SpareShorter}
use Rattle.cfa_states.specs.Levels.{EndedAs}
use Rattle.cfa_states.specs.Tellers.{inner_path}
use Rattle.cfa_states.specs.Views.{Setting}
use Rattle.cfa_states.specs.lemmas.Locals.{local_listed}
use Rattle.cfa_states.specs.lemmas.Spared.{inner_is_longer, local_spared, spare_fewer, spare_listed, spare_none, spare_then}
use Rattle.cfa_machine.specs.declared.frames.Doing.{Doing as Code}
use Rattle.cfa_machine.specs.declared.frames.Doing.TheVariants.{Idle, Asked, Running}
use Rattle.cfa_machine.specs.declared.frames.Frame.{Frame as Held}
use Rattle.cfa_machine.specs.declared.machines.Machine.{Machine}
use Rattle.cfa_machine.specs.declared.tops.Top.TheVariants as tops
use Rattle.cfa_machine.specs.Answering.{Begins, Enters, EntersAt, entered_doing}
use Rattle.cfa_machine.specs.Machines.{asked_at, row_in, running_at, seen_doing, seen_frame}
use Rattle.cfa_machine.specs.Stacks.{AreAll, CalledAs, Holds, seen_ahead, seen_stack}
use Rattle.cfa_machine.specs.Stacks.{Stands as MachineStands}
use Rattle.cfa_machine.proofs.GoneLemmas.{GoneTo, Longer, Row, are_shorter, below_kept, goes, has_begun, others, stack_is, top_keeps, with_frame}

pub reverse_more : {X : Type 0} (xs : List X) (x : X) → reverse (xs ++ x ∷ []) ≡ x ∷ reverse xs
reverse_more xs x = reverse-append xs (x ∷ [])

-- the frame that began lies above the one that calls it
abbrev pub pushed : Machine → (caller : Held) → Vec Held Global → State → (made : Option Held) → Machine
pushed m caller below st None = record m { top = tops.Agent caller; state = st }
pushed m caller below st (Some g) = record m { top = tops.Agent g; below = below; state = st }

abbrev pub PushesTo : Machine → (caller : Held) → (below : List Held) → (made : Option Held) → Type 0
PushesTo m caller below None = ⊤
PushesTo m caller below (Some g) = below ≡ m.below.items ++ caller ∷ []

module _ (s : Setting) (m : Machine) (f : Held) (is : m.top ≡ tops.Agent f) (h : History) (stands : MachineStands s m h) (holds : Holds m) (longer : Longer) (st' : State) (v : Vec Held Global) where
  abbrev row : Row
  row = row_in f.rows.items f.hand

  abbrev n : ℕ
  n = length f.activation.path

  abbrev with_code : Code → Held
  with_code d = record f { doing = d }

  module _ (at : ℕ) (status : Status) (i : Instance) (found : slice_get row at ≡ Some i) (path : i.path ≡ f.activation.path) where
    abbrev k : History
    k = Listed i status ∷ h

    abbrev caller : Held
    caller = with_code (Running at status Kept)

    caller_seen : seen_frame caller ≡ with_doing (seen_frame f) (running i status)
    caller_seen = ap (λ (o : Option Instance). record (seen_frame f) { doing = running_at status o }) found

    is_longer : n < length (inner_path i)
    is_longer = let same : length i.path ≡ n = ap length path in let more = inner_is_longer i in omega (arith, same, more)

    module _ (made : Option Held) (begins : Begins s f.depth i status i.work made st' k) where
      spared : SpareShorter n h begins.after
      spared =
          let few : n ≤ length (inner_path i) = (let more = is_longer in omega (arith, more)) in
          spare_then n h k begins.after (spare_listed n h i status) (spare_fewer (length (inner_path i)) n k begins.after few begins.spare)

      local : KeepsLocally s f.activation begins.after
      local =
          local_spared (length (inner_path i)) s f.activation k begins.after begins.spare is_longer
          (local_listed s f.activation h i status (top_keeps s m f is h stands).0)

    enter_found : (made : Option Held) (begins : Begins s f.depth i status i.work made st' k) → PushesTo m caller v.items made →
        GoneTo s (pushed m caller v st' made) (begun_by s f.depth i status i.work (with_doing (seen_frame f) (running i status) ∷ others s m f is) (seen_ahead m) k)
    enter_found None begins to =
        subst (GoneTo s (with_frame s m f is caller st')) (sym (begins.next (with_doing (seen_frame f) (running i status) ∷ others s m f is) (seen_ahead m)))
        (goes s m f is h stands holds longer caller st' (with_doing (seen_frame f) (running i status)) begins.after caller_seen begins.keeps (local None begins)
        (λ i' there. let both : Some i ≡ Some i' = sym found ∙ there in let same : i ≡ i' = cc in subst (λ (x : Instance). EndedAs x.work x Kept begins.after) same (begins.called refl))
        (spared None begins))
    enter_found (Some g) begins to =
        let turned : reverse v.items ≡ caller ∷ reverse m.below.items = ap reverse to ∙ reverse_more m.below.items caller in
        subst (GoneTo s (pushed m caller v st' (Some g))) (sym (begins.next (with_doing (seen_frame f) (running i status) ∷ others s m f is) (seen_ahead m))) (
          ap (λ (fs : List Held). stack (seen_frame g ∷ map seen_frame fs) (seen_ahead m)) turned
              ∙ ap (λ (x : Frame). stack (seen_frame g ∷ x ∷ others s m f is) (seen_ahead m)) caller_seen,
          (
            begins.keeps,
            (
              (
                begins.local.0,
                (
                  subst (λ (d : Code). CalledAs d (row_in g.rows.items g.hand) begins.after) (sym begins.local.1) tt,
                  subst (AreAll (λ (x : Held). KeepsLocally s x.activation begins.after)) (sym turned) (
                    local (Some g) begins,
                    below_kept s n h begins.after (spared (Some g) begins) (reverse m.below.items) (are_shorter s m f is h stands longer) (top_keeps s m f is h stands).1.1,
                  ),
                ),
              ),
              λ none. absurd (has_begun s m f is holds none),
            ),
          ),
        )

  enter_at : (at : ℕ) (status : Status) (o : Option Instance) → slice_get row at ≡ o → ((i : Instance) → o ≡ Some i → i.path ≡ f.activation.path) → (made : Option Held) →
      EntersAt s f.depth status o made st' h → PushesTo m (with_code (Running at status Kept)) v.items made →
      GoneTo s (pushed m (with_code (Running at status Kept)) v st' made)
      (doing_entered s (asked_at status o) (record (seen_frame f) { doing = asked_at status o }) (others s m f is) (seen_ahead m) h)
  enter_at at status None none path None enters to =
      goes s m f is h stands holds longer (with_code (Running at status Kept)) st' (record (seen_frame f) { doing = idle }) h
      (ap (λ (o : Option Instance). record (seen_frame f) { doing = running_at status o }) none) enters.1 (top_keeps s m f is h stands).0
      (λ i there. let both : None ≡ Some i = sym none ∙ there in cc) (spare_none n h)
  enter_at at status None none path (Some g) enters to = let no : Some g ≡ None = enters.0 in cc
  enter_at at status (Some i) found path made enters to = enter_found at status i found (path i refl) made enters to

  running_enters : (at : ℕ) (status : Status) (worst : Outcome) (o : Option Instance) → slice_get row at ≡ o → CalledAs (Running at status worst) row h → Keeps s st' h →
      GoneTo s (with_frame s m f is (with_code (Running at status worst)) st')
      (doing_entered s (running_at status o) (record (seen_frame f) { doing = running_at status o }) (others s m f is) (seen_ahead m) h)
  running_enters at status worst None none called keeps =
      goes s m f is h stands holds longer (with_code (Running at status worst)) st' (record (seen_frame f) { doing = idle }) h
      (ap (λ (o : Option Instance). record (seen_frame f) { doing = running_at status o }) none) keeps (top_keeps s m f is h stands).0 called (spare_none n h)
  running_enters at status worst (Some i) found called keeps =
      goes s m f is h stands holds longer (with_code (Running at status worst)) st' (record (seen_frame f) { doing = running i status }) h
      (ap (λ (o : Option Instance). record (seen_frame f) { doing = running_at status o }) found) keeps (top_keeps s m f is h stands).0 called (spare_none n h)

  enter_by : (d : Code) (made : Option Held) → ((at : ℕ) (i : Instance) → slice_get row at ≡ Some i → i.path ≡ f.activation.path) → CalledAs d row h → Enters s f.depth row d made st' h →
      PushesTo m (with_code (entered_doing d)) v.items made →
      GoneTo s (pushed m (with_code (entered_doing d)) v st' made) (doing_entered s (seen_doing row d) (record (seen_frame f) { doing = seen_doing row d }) (others s m f is) (seen_ahead m) h)
  enter_by Idle None path called enters to =
      goes s m f is h stands holds longer (with_code Idle) st' (record (seen_frame f) { doing = idle }) h refl enters.1 (top_keeps s m f is h stands).0 tt (spare_none n h)
  enter_by Idle (Some g) path called enters to = let no : Some g ≡ None = enters.0 in cc
  enter_by (Asked at status) made path called enters to = enter_at at status (slice_get row at) refl (path at) made enters to
  enter_by (Running at status worst) None path called enters to = running_enters at status worst (slice_get row at) refl called enters.1
  enter_by (Running at status worst) (Some g) path called enters to = let no : Some g ≡ None = enters.0 in cc

  pub enter_gone : (caller : Held) (made : Option Held) → caller ≡ record f { doing = entered_doing f.doing } → ((at : ℕ) (i : Instance) → slice_get row at ≡ Some i → i.path ≡ f.activation.path) →
      Enters s f.depth row f.doing made st' h → PushesTo m caller v.items made → GoneTo s (pushed m caller v st' made) (entered s (seen_stack m) h)
  enter_gone caller made same path enters to =
      let c0 : Held = with_code (entered_doing f.doing) in
      subst (λ (x : Held). GoneTo s (pushed m x v st' made) (entered s (seen_stack m) h)) (sym same)
      (subst (λ (st : Stack). GoneTo s (pushed m c0 v st' made) (entered s st h)) (sym (stack_is s m f is))
      (enter_by f.doing made path (top_keeps s m f is h stands).1.0 enters (subst (λ (x : Held). PushesTo m x v.items made) same to)))
