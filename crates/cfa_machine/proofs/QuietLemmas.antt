-- The moves of a common bundle are those of the definition.
use Rattle.std.proofs.Common.{◌≡◌, ◌∙◌, ℕ, zero, suc, ◌<◌, ◌≤◌, Bool, true, false, List, [], ◌∷◌, length, drop, get_or, Some, None, refl, ap, sym, subst, arith, slice_get, inl, inr, ◌⊎◌, not, ◌+◌}
use Rattle.std.specs.Prelude.{Result, Ok, Err}
use Rattle.std.proofs.lemmas.List.{length-map}
use Rattle.cfa_kinds.specs.declared.kinds.PromiseType.{PromiseType}
use Rattle.cfa_kinds.specs.declared.kinds.PromiseType.TheVariants as promises
use Rattle.cfa_output.specs.declared.ends.Stop.{Stop}
use Rattle.cfa_output.specs.declared.ends.Stop.TheVariants.{Outside, Memory, Visits, Pattern}
use Rattle.cfa_statuses.specs.declared.levels.Status.{Status}
use Rattle.cfa_statuses.specs.declared.levels.Status.TheVariants.{Yes}
use Rattle.cfa_tree.specs.Tree.{PolicyTree}
use Rattle.cfa_frames.specs.Frames.{Frame, idle}
use Rattle.cfa_frames.specs.Moves.{FrameNext, stays, leaves, goes_past, frame_next, guarded_next, promise_next, type_next}
use Rattle.cfa_states.specs.declared.activations.Activation.{Activation}
use Rattle.cfa_states.specs.declared.numbered.Numbered.{Numbered as Promise}
use Rattle.cfa_states.specs.declared.states.State.{State}
use Rattle.cfa_states.specs.History.{History, Home, everywhere}
use Rattle.cfa_states.specs.Kept.{Stands, home_of, seen_numbered}
use Rattle.cfa_states.specs.Numbered.{Numbered, common_types, is_type}
use Rattle.cfa_states.specs.Views.{Setting, guard_status}
use Rattle.cfa_states.specs.lemmas.Spared.{locals_none}
use Rattle.cfa_machine.specs.declared.commons.Common.{Common}
use Rattle.cfa_machine.specs.Commons.{CommonCame, promises_in, seen_common}
use Rattle.cfa_machine.specs.Reaching.{ReachedTo, Reaches}
use Rattle.cfa_visits.specs.lemmas.Remembered.{seen_at}
use Rattle.cfa_machine.proofs.StepLemmas.{drop_at, drop_item, drop_next, drop_none, drop_past}

-- ---- answers

pub not_true : (b : Bool) → true ≡ not b → false ≡ b
not_true true is = sym is
not_true false is = refl

pub not_false : (b : Bool) → false ≡ not b → true ≡ b
not_false true is = refl
not_false false is = sym is

pub one_more : (n : ℕ) → suc n ≡ n + 1
one_more n = omega arith

-- ---- types

pub in_common : (kind : ℕ) (type : PromiseType) → slice_get common_types kind ≡ Some type → (type ≡ promises.Vars) ⊎ (type ≡ promises.Classes)
in_common zero type is = let same : promises.Vars ≡ type = cc in inl (sym same)
in_common (suc zero) type is = let same : promises.Classes ≡ type = cc in inr (sym same)
in_common (suc (suc n)) type is = cc

-- ---- moves

module _ (s : Setting) (depth : ℕ) (h : History) (c : Common) where
  pub done_leaves : (c' : Common) (st' : State) → slice_get common_types c.kind ≡ None → CommonCame s depth h c' st' (Ok false) (frame_next s (seen_common depth c) h)
  done_leaves c' st' is =
      subst (CommonCame s depth h c' st' (Ok false))
      (sym (ap (λ (types : List PromiseType). type_next s types (seen_common depth c).promises (seen_common depth c) h) (drop_none common_types c.kind is))) tt

  pub common_type_came : (type : PromiseType) (c' : Common) (st' : State) (result : Result Bool Stop) → slice_get common_types c.kind ≡ Some type →
      ((types : List PromiseType) → drop c.kind common_types ≡ type ∷ types →
      CommonCame s depth h c' st' result (type_next s (type ∷ types) (seen_common depth c).promises (seen_common depth c) h)) →
      CommonCame s depth h c' st' result (frame_next s (seen_common depth c) h)
  common_type_came type c' st' result is came =
      let at : drop c.kind common_types ≡ type ∷ drop (suc c.kind) common_types = drop_at common_types c.kind type is in
      subst (CommonCame s depth h c' st' result)
      (sym (ap (λ (types : List PromiseType). type_next s types (seen_common depth c).promises (seen_common depth c) h) at))
      (came (drop (suc c.kind) common_types) at)

  pub next_common_type : (st : State) (type : PromiseType) (types : List PromiseType) → Stands s st c.activation h → drop c.kind common_types ≡ type ∷ types →
      length c.promises.items ≤ c.place →
      CommonCame s depth h (record c { kind = suc c.kind; place = 0 }) st (Ok true) (type_next s (type ∷ types) (seen_common depth c).promises (seen_common depth c) h)
  next_common_type st type types stands is past =
      let long : length (promises_in c) ≡ length c.promises.items = length-map c.promises.items seen_numbered in
      let none : drop c.place (promises_in c) ≡ [] = drop_past (promises_in c) c.place (omega (arith, long, past)) in
      let G : List PromiseType → Frame = λ ts. record (seen_common depth c) { types = ts; promises = promises_in c } in
      subst (CommonCame s depth h (record c { kind = suc c.kind; place = 0 }) st (Ok true))
      (sym (ap (λ (ps : List Numbered). type_next s (type ∷ types) ps (seen_common depth c) h) none))
      (ap G (drop_next common_types c.kind type types is), (stands, locals_none h))

  module _ (p : Promise) (inside : c.place < length c.promises.items) (is : p ≡ get_or c.promises.items c.place p) where
    abbrev seen : Numbered
    seen = seen_numbered p

    abbrev others : List Numbered
    others = drop (suc c.place) (promises_in c)

    abbrev past : Frame
    past = record (seen_common depth c) { promises = others }

    promises_are : drop c.place (promises_in c) ≡ seen ∷ others
    promises_are =
        let long : length (promises_in c) ≡ length c.promises.items = length-map c.promises.items seen_numbered in
        drop_item (promises_in c) c.place seen (omega (arith, long, inside)) (seen_at c.promises.items c.place p seen inside is)

    next_is : (type : PromiseType) (types : List PromiseType) (same : Bool) → is_type type seen.type ≡ same →
        promise_next s same past seen h ≡ type_next s (type ∷ types) (seen_common depth c).promises (seen_common depth c) h
    next_is type types same e =
        ap (λ (b : Bool). promise_next s b past seen h) (sym e) ∙ sym (ap (λ (ps : List Numbered). type_next s (type ∷ types) ps (seen_common depth c) h) promises_are)

    pub common_passed : (st : State) (type : PromiseType) (types : List PromiseType) → Stands s st c.activation h → is_type type seen.type ≡ false →
        CommonCame s depth h (record c { place = suc c.place }) st (Ok true) (type_next s (type ∷ types) (seen_common depth c).promises (seen_common depth c) h)
    common_passed st type types stands other =
        subst (CommonCame s depth h (record c { place = suc c.place }) st (Ok true)) (next_is type types false other) (refl, (stands, locals_none h))

    module _ (policy : PolicyTree) (st st' : State) (a' : Activation) (guard : Status) where
      abbrev shown : Home → Status → Frame
      shown home status = record {
        depth = depth;
        raises_in = everywhere;
        home = home;
        status = status;
        all = promises_in c;
        doing = idle;
        guard = Yes;
        instances = [];
        types = drop c.kind common_types;
        promises = others;
        passes = 0;
      }

      abbrev after : Common
      after = record c { activation = a'; place = suc c.place }

      common_to : (x : FrameNext) → ReachedTo policy true s past h guard None st' a' (Ok false) x → CommonCame s depth h after st' (Ok true) x
      common_to (stays g k) to = (
        ap (λ (x : Home). shown x a'.status) to.1.0.1.0 ∙ (ap (λ (x : Status). shown (home_of c.activation) x) to.1.0.1.1.0 ∙ to.0),
        (to.1.0.1.1.1, to.1.1.1),
      )
      common_to leaves to = absurd to
      common_to (goes_past k) to = absurd to

      common_stops : (c' : Common) (stop : Stop) (x : FrameNext) → ReachedTo policy true s past h guard None st' a' (Err stop) x → CommonCame s depth h c' st' (Err stop) x
      common_stops c' (Outside object) (stays g k) to = to
      common_stops c' (Outside object) leaves to = to
      common_stops c' (Outside object) (goes_past k) to = to
      common_stops c' Memory (stays g k) to = tt
      common_stops c' Memory leaves to = tt
      common_stops c' Memory (goes_past k) to = tt
      common_stops c' Visits (stays g k) to = to
      common_stops c' Visits leaves to = to
      common_stops c' Visits (goes_past k) to = tt
      common_stops c' (Pattern text) (stays g k) to = to
      common_stops c' (Pattern text) leaves to = to
      common_stops c' (Pattern text) (goes_past k) to = to

      module _ (type : PromiseType) (types : List PromiseType) (same : is_type type seen.type ≡ true) (read : guard ≡ guard_status s h c.activation.path seen.promise.guard)
          (policy_is : s.policy ≡ policy) (stands : Stands s st c.activation h) where
        reach_is : guarded_next s past seen guard h ≡ type_next s (type ∷ types) (seen_common depth c).promises (seen_common depth c) h
        reach_is = ap (λ (g : Status). guarded_next s past seen g h) read ∙ next_is type types true same

        pub common_reached : Reaches policy true seen guard None st st' c.activation a' (Ok false) →
            CommonCame s depth h after st' (Ok true) (type_next s (type ∷ types) (seen_common depth c).promises (seen_common depth c) h)
        common_reached reaches =
            subst (CommonCame s depth h after st' (Ok true)) reach_is (common_to (guarded_next s past seen guard h) (reaches s past h (policy_is, (refl, (refl, stands))) refl))

        pub common_stopped : (c' : Common) (stop : Stop) → Reaches policy true seen guard None st st' c.activation a' (Err stop) →
            CommonCame s depth h c' st' (Err stop) (type_next s (type ∷ types) (seen_common depth c).promises (seen_common depth c) h)
        common_stopped c' stop reaches =
            subst (CommonCame s depth h c' st' (Err stop)) reach_is (common_stops c' stop (guarded_next s past seen guard h) (reaches s past h (policy_is, (refl, (refl, stands))) refl))
