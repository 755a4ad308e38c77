-- Lemmas: an item of a list passes a test where there is a first that does.
use Rattle.std.proofs.Common.{◌≡◌, Bool, true, false, cond, List, length, Option, Some, None, refl, sym, ◌∙◌, arith}
use Rattle.std.specs.Prelude.{nat_lt, not, is_some, is_none}
use Rattle.std.specs.List.{position, position_or_len, list_any}
use Rattle.std.proofs.lemmas.List.Sums.{prefix_len-le-length}
use Rattle.std.proofs.lemmas.Bool.Decides.{nat_tests}
use Rattle.cfa_vars.specs.lemmas.Names.{list_any-some, list_any-none}

module _ {X : Type 0} (p : X → Bool) where
  by_place : (xs : List X) (b : Bool) → nat_lt (position_or_len p xs) (length xs) ≡ b →
      is_some (cond b (Some (position_or_len p xs)) None) ≡ list_any p xs
  by_place xs true e = sym (list_any-some p xs (grind (arith, nat_tests)))
  by_place xs false e = sym (list_any-none p xs (let most = prefix_len-le-length (λ x. not (p x)) xs in grind (arith, nat_tests)))

  pub has_position : (xs : List X) → is_some (position p xs) ≡ list_any p xs
  has_position xs = by_place xs _ refl

  not_none : {A : Type 0} (o : Option A) → not (is_none o) ≡ is_some o
  not_none None = refl
  not_none (Some x) = refl

  pub is_repeated : (xs : List X) → not (is_none (position p xs)) ≡ list_any p xs
  is_repeated xs = not_none (position p xs) ∙ has_position xs
