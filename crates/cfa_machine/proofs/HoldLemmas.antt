-- What a frame remembers holds on.
use Rattle.std.proofs.Common.{◌≡◌, ◌∙◌, ℕ, suc, ◌+◌, ◌-◌, ◌<◌, Bool, true, false, List, [], ◌∷◌, length, get_or, map, set, Option, Some, None, All, refl, ap, sym, subst, arith}
use Rattle.std.proofs.lemmas.List.{get_or-set_same}
use Rattle.std.proofs.lemmas.List.Elements.{All-nil}
use Rattle.std.specs.declared.alloc.Global.{Global}
use Rattle.std.specs.declared.vec.Vec.{Vec}
use Rattle.cfa_resolve.specs.declared.instances.Instance.{Instance}
use Rattle.cfa_tree.specs.Tree.{PolicyTree}
use Rattle.cfa_states.specs.declared.activations.Activation.{Activation}
use Rattle.cfa_states.specs.declared.numbered.Numbered.{Numbered as Promise}
use Rattle.cfa_states.specs.declared.remembering.Known.{Known}
use Rattle.cfa_states.specs.declared.states.State.{State}
use Rattle.cfa_states.specs.Kept.{AreLater, GuardsRepeat, IsLater, IsNow, RowHolds, RowsHold, guard_now, seen_numbered}
use Rattle.cfa_states.specs.Numbered.{Numbered}
use Rattle.cfa_states.specs.lemmas.Later.{with_state}
use Rattle.cfa_machine.specs.declared.frames.Doing.{Doing as Code}
use Rattle.cfa_machine.specs.declared.frames.Doing.TheVariants.{Idle}
use Rattle.cfa_machine.specs.declared.frames.Frame.{Frame as Held}
use Rattle.cfa_visits.specs.declared.remembered.Remembered.{Remembered}
use Rattle.cfa_visits.specs.Bundles.{AreCounted}
use Rattle.cfa_visits.specs.Counting.{IsAt, instances_of}
use Rattle.cfa_machine.specs.Machines.{Row, fresh_held, reached_held, row_of, seen_promises}
use Rattle.cfa_visits.specs.Remembering.{BeforeHolds}
use Rattle.cfa_machine.specs.Stacks.{AreAll}
use Rattle.cfa_machine.specs.Standing.{FrameHolds, IsInRow}
use Rattle.cfa_visits.specs.lemmas.Remembered.{before_next, guard_later, inside_map, row_later, rows_set, seen_at}

-- ---- a promise was reached

module _ (policy : PolicyTree) (f : Held) (p : Promise) (inside : f.place < length f.promises.items) (is : p ≡ get_or f.promises.items f.place p) (st st' : State) (a' : Activation)
    (rows : Vec Row Global) (kept : Row) (known : Known) (set_rows : rows.items ≡ set f.rows.items f.place kept) (later : AreLater st st' f.activation a')
    (now : IsNow known.moment st f.activation) (status : known.status ≡ guard_now (seen_numbered p) st f.activation) (idle_now : f.doing ≡ Idle) (holds : FrameHolds policy st f)
    (row : RowHolds policy (seen_numbered p) kept st' a') where
  abbrev after : Held
  after = record f { activation = a'; rows = rows }

  rows_after : RowsHold policy (seen_promises f) rows.items st' a'
  rows_after =
      subst (λ (xs : List Row). RowsHold policy (seen_promises f) xs st' a') (sym set_rows)
      (rows_set policy (seen_promises f) f.rows.items f.place kept st st' f.activation a' later (inside_map f.promises.items f.place inside) holds.rows
      (λ q. subst (λ (x : Numbered). RowHolds policy x kept st' a') (seen_at f.promises.items f.place p q inside is) row))

  before_after : BeforeHolds f.promises.items (suc f.place) (Some known) st' a'
  before_after =
      let one : f.place + 1 ≡ suc f.place = omega arith in
      subst (λ (n : ℕ). BeforeHolds f.promises.items n (Some known) st' a') one
      (before_next f.promises.items f.place p known st st' f.activation a' inside is later now status)

  idle_in : (xs : List Instance) → IsInRow xs f.doing
  idle_in xs = subst (λ (d : Code). IsInRow xs d) (sym idle_now) tt

  pub reached_holds : (has : Bool) → (has ≡ true → All (IsAt f.activation.path) (instances_of kept)) → FrameHolds policy st' (reached_held known has after)
  reached_holds false at = record {
    rows = rows_after;
    repeats = holds.repeats;
    counted = holds.counted;
    before = before_after;
    at = All-nil (IsAt a'.path);
    in_hand = idle_in [];
  }
  reached_holds true at =
      let fits : f.place < length f.rows.items =
      (let long = inside_map f.promises.items f.place inside in omega (arith, long, holds.rows.count)) in
      let found : row_of rows.items f.place ≡ instances_of kept =
      ap (λ (xs : List Row). row_of xs f.place) set_rows ∙ ap instances_of (get_or-set_same f.rows.items f.place kept None fits) in
      record {
        rows = rows_after;
        repeats = holds.repeats;
        counted = holds.counted;
        before = before_after;
        at = subst (λ (xs : List Instance). All (IsAt a'.path) xs) (sym found) (subst (λ (path : List ℕ). All (IsAt path) (instances_of kept)) (sym later.here.path) (at refl));
        in_hand = idle_in (row_of rows.items f.place);
      }

-- ---- the state goes on

before_later : (ps : List Promise) (i : ℕ) (before : Option Known) (st st' : State) (a : Activation) → IsLater st st' → BeforeHolds ps i before st a → BeforeHolds ps i before st' a
before_later ps i None st st' a later holds = tt
before_later ps i (Some known) st st' a later holds = (holds.0, λ p. guard_later (seen_numbered (get_or ps (i - 1) p)) known st st' a a (with_state st st' a later) (holds.1 p))

pub later_holds : (policy : PolicyTree) (st st' : State) (f : Held) → IsLater st st' → FrameHolds policy st f → FrameHolds policy st' f
later_holds policy st st' f later holds = record {
  rows = record {
    count = holds.rows.count;
    each = λ i p inside. row_later policy (get_or (seen_promises f) i p) (get_or f.rows.items i None) st st' f.activation f.activation (with_state st st' f.activation later) (holds.rows.each i p inside);
  };
  repeats = holds.repeats;
  counted = holds.counted;
  before = before_later f.promises.items f.place f.before st st' f.activation later holds.before;
  at = holds.at;
  in_hand = holds.in_hand;
}

pub all_later : (policy : PolicyTree) (st st' : State) (fs : List Held) → IsLater st st' → AreAll (FrameHolds policy st) fs → AreAll (FrameHolds policy st') fs
all_later policy st st' [] later hold = tt
all_later policy st st' (f ∷ fs) later hold = (later_holds policy st st' f later hold.0, all_later policy st st' fs later hold.1)

-- ---- an activation that begins

pub fresh_holds : (policy : PolicyTree) (st : State) (depth : ℕ) (a : Activation) (made : Remembered) → RowsHold policy (map seen_numbered made.promises.items) made.rows.items st a →
    GuardsRepeat made.promises.items → AreCounted (map seen_numbered made.promises.items) → FrameHolds policy st (fresh_held depth a made)
fresh_holds policy st depth a made rows repeats counted = record {
  rows = rows;
  repeats = repeats;
  counted = counted;
  before = tt;
  at = All-nil (IsAt a.path);
  in_hand = tt;
}
