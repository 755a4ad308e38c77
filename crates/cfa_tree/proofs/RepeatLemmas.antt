-- The marks of the promises that stand under the guard of the promise before them, where one promise more comes.
use Rattle.std.proofs.Common.{◌≡◌, ◌<◌, ℕ, zero, suc, ◌+◌, Bool, false, IsTrue, List, [], ◌∷◌, ◌++◌, map, length, get_or, refl, sym, ap, ◌∙◌, subst, arith}
use Rattle.std.specs.Prelude.{Option, None}
use Rattle.std.proofs.lemmas.List.{map-append, length-map, length-append}
use Rattle.cfa_tree.specs.declared.expressions.Expr.{Expr}
use Rattle.cfa_tree.specs.declared.promises.Promise.{Promise}
use Rattle.cfa_tree.specs.Repeats.{guard_in, guard_before, Marked}

module _ {G : Type 0} (d : G) where
  last_of : (gs : List G) (h g : G) → get_or (h ∷ (gs ++ g ∷ [])) (length (gs ++ g ∷ [])) d ≡ g
  last_of [] h g = refl
  last_of (x ∷ gs) h g = last_of gs x g

  -- each marked guard is the one before it
  abbrev Repeat : List G → G → List Bool → Type 0
  Repeat gs h marks = (i : ℕ) → i < length gs → IsTrue (get_or marks i false) → get_or gs i d ≡ get_or (h ∷ gs) i d

  repeat_more : (gs : List G) (h g : G) (marks : List Bool) (mark : Bool) → length marks ≡ length gs → Repeat gs h marks →
      (IsTrue mark → g ≡ get_or (h ∷ gs) (length gs) d) → Repeat (gs ++ g ∷ []) h (marks ++ mark ∷ [])
  repeat_more [] h g [] mark same true_so_far last zero below is = last is
  repeat_more [] h g [] mark same true_so_far last (suc i) below is = absurd (omega arith)
  repeat_more [] h g (m ∷ marks) mark same true_so_far last i below is = absurd (omega (arith, same))
  repeat_more (x ∷ gs) h g [] mark same true_so_far last i below is = absurd (omega (arith, same))
  repeat_more (x ∷ gs) h g (m ∷ marks) mark same true_so_far last zero below is = true_so_far zero (omega arith) is
  repeat_more (x ∷ gs) h g (m ∷ marks) mark same true_so_far last (suc i) below is =
      repeat_more gs x g marks mark (omega (arith, same)) (λ j within marked. true_so_far (suc j) (omega (arith, within)) marked) last i (omega (arith, below)) is

-- one promise more, which is marked only where it stands under the guard of the last
pub marked_more : (promises : List Promise) (p : Promise) (marks : List Bool) (mark : Bool) → Marked promises marks →
    (IsTrue mark → p.guard ≡ guard_before promises (length promises)) → Marked (promises ++ p ∷ []) (marks ++ mark ∷ [])
marked_more promises p marks mark so_far last =
    let guards : List (Option Expr) = map guard_in promises in
    let more : map guard_in (promises ++ p ∷ []) ≡ guards ++ p.guard ∷ [] = map-append guard_in promises (p ∷ []) in
    let counted : length guards ≡ length promises = length-map promises guard_in in
    let P : List (Option Expr) → Type 0 = λ gs. Repeat None gs None (marks ++ mark ∷ []) in
    let so_far_guards : Repeat None guards None marks = λ i below is. so_far.true_to_guards i (omega (arith, below, counted)) is in
    let last_guard : IsTrue mark → p.guard ≡ get_or (None ∷ guards) (length guards) None =
    λ is. last is ∙ ap (λ n. get_or (None ∷ guards) n None) (sym counted) in
    let all : Repeat None (map guard_in (promises ++ p ∷ [])) None (marks ++ mark ∷ []) =
    subst P (sym more) (repeat_more None guards None p.guard marks mark (so_far.one_each ∙ sym counted) so_far_guards last_guard) in
    record {
      one_each = length-append marks (mark ∷ []) ∙ (ap (λ n. n + 1) so_far.one_each ∙ sym (length-append promises (p ∷ [])));
      true_to_guards = λ i below is. all i (omega (arith, below, length-map (promises ++ p ∷ []) guard_in)) is;
    }

-- the guard of the last promise
pub guard_behind : (promises : List Promise) (p : Promise) → guard_before (promises ++ p ∷ []) (length (promises ++ p ∷ [])) ≡ p.guard
guard_behind promises p =
    let guards : List (Option Expr) = map guard_in promises in
    let more : map guard_in (promises ++ p ∷ []) ≡ guards ++ p.guard ∷ [] = map-append guard_in promises (p ∷ []) in
    ap (λ n. get_or (None ∷ map guard_in (promises ++ p ∷ [])) n None) (sym (length-map (promises ++ p ∷ []) guard_in))
    ∙ (ap (λ gs. get_or (None ∷ gs) (length gs) None) more ∙ last_of None guards None p.guard)
