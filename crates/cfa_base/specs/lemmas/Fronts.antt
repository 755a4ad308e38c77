-- Texts that begin alike stand together in byte order.
use Rattle.std.proofs.Common.{◌≡◌, ℕ, List, [], ◌∷◌, Bool, true, false, ◌&&◌, ◌<◌, ◌≤◌, eq-eqb, refl, sym, ap, ◌∙◌, arith}
use Rattle.std.proofs.lemmas.Bool.{false≢true, and_from}
use Rattle.std.proofs.lemmas.Bool.Decides.{nat_tests}
use Rattle.std.proofs.lemmas.Cmp.{ranked}
use Rattle.std.specs.Prelude.{nat_eq}
use Rattle.std.specs.List.{starts_with}
use Rattle.std.specs.Ordering.{is_gt, nat_cmp, ordering_then}
use Rattle.std.specs.declared.cmp.Ordering.{Ordering}
use Rattle.std.specs.declared.cmp.Ordering.TheVariants.{Less, Equal, Greater}
use Rattle.cfa_base.specs.TextMaps.{text_cmp}

level : (x y : ℕ) → x ≡ y → nat_cmp x y ≡ Equal
level x y same = grind (arith, nat_tests)

-- what the order of two texts says of their heads and of what follows
not_above : (x y : ℕ) (o : Ordering) → is_gt (ordering_then (nat_cmp x y) o) ≡ false → x ≤ y
not_above x y o le =
    elim (nat_cmp x y) as (λ r. r ≡ nat_cmp x y → is_gt (ordering_then r o) ≡ false → x ≤ y) [
      | Less ↦ λ e _. let lt : x < y = ranked x y Less e in omega arith
      | Equal ↦ λ e _. let same : x ≡ y = ranked x y Equal e in omega arith
      | Greater ↦ λ e is. absurd (false≢true (sym is))
    ] refl le

rest_above : (x y : ℕ) (o : Ordering) → x ≡ y → is_gt (ordering_then (nat_cmp x y) o) ≡ false → is_gt o ≡ false
rest_above x y o same le = ap (λ r. is_gt (ordering_then r o)) (sym (level x y same)) ∙ le

heads_agree : (x y : ℕ) (b : Bool) → (nat_eq x y && b) ≡ true → x ≡ y
heads_agree x y b is = grind (arith, nat_tests)

tails_agree : (x y : ℕ) (b : Bool) → (nat_eq x y && b) ≡ true → b ≡ true
tails_agree x y b is = grind (arith, nat_tests)

-- a text that begins with a front isn't before it
pub from_front : (front text : List ℕ) → starts_with nat_eq text front ≡ true → is_gt (text_cmp front text) ≡ false
from_front [] [] is = refl
from_front [] (y ∷ ys) is = refl
from_front (x ∷ xs) [] is = absurd (false≢true is)
from_front (x ∷ xs) (y ∷ ys) is =
    let heads : x ≡ y = heads_agree x y (starts_with nat_eq ys xs) is in
    ap (λ o. is_gt (ordering_then o (text_cmp xs ys))) (level x y heads) ∙ from_front xs ys (tails_agree x y (starts_with nat_eq ys xs) is)

-- what stands between a front and a text that begins with it begins with it
pub between : (front low high : List ℕ) → is_gt (text_cmp front low) ≡ false → is_gt (text_cmp low high) ≡ false → starts_with nat_eq high front ≡ true → starts_with nat_eq low front ≡ true
between [] low high a b is = refl
between (x ∷ xs) [] high a b is = absurd (false≢true (sym a))
between (x ∷ xs) (y ∷ ys) [] a b is = absurd (false≢true is)
between (x ∷ xs) (y ∷ ys) (z ∷ zs) a b is =
    let same : x ≡ z = heads_agree x z (starts_with nat_eq zs xs) is in
    let low : x ≤ y = not_above x y (text_cmp xs ys) a in
    let high : y ≤ z = not_above y z (text_cmp ys zs) b in
    let here : x ≡ y = omega arith in
    let there : y ≡ z = omega arith in
    and_from (nat_eq x y) (starts_with nat_eq ys xs) (eq-eqb x y here) (between xs ys zs (rest_above x y (text_cmp xs ys) here a) (rest_above y z (text_cmp ys zs) there b) (tails_agree x z (starts_with nat_eq zs xs) is))
