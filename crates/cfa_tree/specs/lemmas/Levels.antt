-- The machine has room for a level exactly where the grammar opens one.
use Rattle.std.proofs.Common.{◌≡◌, ℕ, suc, ◌-◌, ◌<◌, true, refl, ap, subst, arith}
use Rattle.std.proofs.lemmas.Bool.{lt-ltb, ltb-true}
use Rattle.cfa_tree.specs.Grammar.{Levels, at_most, unlimited, Opens, one_fewer, without_limit}
use Rattle.cfa_tree.specs.Room.{has_room, left_of}

pub record Opened (limit inside : Levels) (c : ℕ) : Type 0 where
  pub room : has_room limit c ≡ true
  pub within : inside ≡ left_of limit (suc c)

of_limit : (n c m : ℕ) → at_most (suc m) ≡ at_most (n - c) → Opened (at_most n) (at_most m) c
of_limit n c m e =
    let h : suc m ≡ n - c = cc in
    record { room = lt-ltb c n (omega arith); within = ap at_most (omega arith) }

pub opens_room : (limit : Levels) (c : ℕ) {levels inside : Levels} → Opens levels inside → levels ≡ left_of limit c → Opened limit inside c
opens_room (at_most n) c (one_fewer {n = m}) e = of_limit n c m e
opens_room (at_most n) c without_limit e = absurd (cc)
opens_room unlimited c one_fewer e = absurd (cc)
opens_room unlimited c without_limit e = record { room = refl; within = refl }

pub room_opens : (limit : Levels) (c : ℕ) → has_room limit c ≡ true → Opens (left_of limit c) (left_of limit (suc c))
room_opens (at_most n) c room =
    let below : c < n = ltb-true c n room in
    let e : suc (n - suc c) ≡ n - c = omega arith in
    subst (λ (k : ℕ). Opens (at_most k) (at_most (n - suc c))) e one_fewer
room_opens unlimited c room = without_limit

-- where none is open, all are left
pub left_of-none : (limit : Levels) → limit ≡ left_of limit 0
left_of-none (at_most n) = ap at_most (omega arith)
left_of-none unlimited = refl
