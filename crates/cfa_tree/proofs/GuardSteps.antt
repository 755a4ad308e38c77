-- What the code does with a guard is a step of the machine.
use Rattle.std.proofs.Common.{◌≡◌, ◌≢◌, ℕ, suc, zero, ◌+◌, ◌-◌, ◌<◌, ◌≤◌, Bool, true, nat_lt, List, [], ◌∷◌, ◌++◌, length, get_or, take, map, refl, ap, ◌∙◌, sym, arith}
use Rattle.std.proofs.lemmas.Bool.{ltb_from_iff, lt-ltb, ltb-true}
use Rattle.std.proofs.lemmas.List.{take_all, take_more, reverse-append}
use Rattle.cfa_tree.specs.Tree.{ExprTree, all_of, one_of, expr_trees}
use Rattle.cfa_tree.specs.Grammar.{conj_of, guard_of, depth_limit}
use Rattle.cfa_tree.specs.declared.guards.GuardLevel.{GuardLevel}
use Rattle.cfa_tree.specs.Room.{has_room}
use Rattle.cfa_tree.specs.Guards.{more_levels, level_count}
use Rattle.cfa_tree.specs.SeenGuards.{seen_level, seen_levels}

pub conj_of-many : {E : Type 0} (f : E → ExprTree) (es : List E) → length es ≢ 1 → conj_of (map f es) ≡ all_of (expr_trees (map f es))
conj_of-many f [] many = refl
conj_of-many f (e ∷ []) many = absurd (many refl)
conj_of-many f (d ∷ e ∷ es) many = refl

pub guard_of-many : {E : Type 0} (f : E → ExprTree) (es : List E) → length es ≢ 1 → guard_of (map f es) ≡ one_of (expr_trees (map f es))
guard_of-many f [] many = refl
guard_of-many f (e ∷ []) many = absurd (many refl)
guard_of-many f (d ∷ e ∷ es) many = refl

-- the innermost stands first
pub seen_levels-push : (levels : List GuardLevel) (l : GuardLevel) → seen_levels (levels ++ l ∷ []) ≡ seen_level l ∷ seen_levels levels
seen_levels-push levels l = ap (map seen_level) (reverse-append levels (l ∷ []))

pub more_levels-sum : (n c : ℕ) → more_levels n c ≡ n + c
more_levels-sum zero c = omega arith
more_levels-sum (suc n) c = omega (arith, more_levels-sum n c)

pub room_turn : (levels : List GuardLevel) (i left : ℕ) (l : GuardLevel) → i < length levels → l ≡ get_or levels i l → left ≡ 16 - level_count (seen_levels (take i levels)) →
    (left - l.negations) - 1 ≡ 16 - level_count (seen_levels (take (i + 1) levels))
room_turn levels i left l below is so_far =
    let count = level_count (seen_levels (take i levels)) in
    let next : level_count (seen_levels (take (i + 1) levels)) ≡ suc (more_levels l.negations count) =
    ap (λ z. level_count (seen_levels z)) (take_more levels i l below ∙ ap (λ z. take i levels ++ z ∷ []) (sym is))
    ∙ ap level_count (seen_levels-push (take i levels) l) in
    let sum : more_levels l.negations count ≡ l.negations + count = more_levels-sum l.negations count in
    omega (arith, next, sum, so_far)

pub room_left : (levels : List GuardLevel) (i left n : ℕ) → length levels ≤ i → left ≡ 16 - level_count (seen_levels (take i levels)) →
    nat_lt n left ≡ has_room depth_limit (more_levels n (level_count (seen_levels levels)))
room_left levels i left n past so_far =
    let count = level_count (seen_levels levels) in
    let whole : level_count (seen_levels (take i levels)) ≡ count = ap (λ z. level_count (seen_levels z)) (take_all i levels past) in
    let sum : more_levels n count ≡ n + count = more_levels-sum n count in
    ltb_from_iff {b = nat_lt n left} ((λ (e : nat_lt n left ≡ true). let h : n < left = ltb-true n left e in omega (arith, h, whole, sum, so_far)), (λ (h : more_levels n count < 16). lt-ltb n left (omega (arith, h, whole, sum, so_far))))

-- where there is room for a negation more, its count fits
pub room_fits : (n c : ℕ) (room : Bool) → room ≡ has_room depth_limit (more_levels n c) → room ≡ true → n < 16
room_fits n c room is there =
    let below : more_levels n c < 16 = ltb-true (more_levels n c) 16 (sym is ∙ there) in
    omega (arith, more_levels-sum n c, below)
