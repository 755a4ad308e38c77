-- Look-ups by name, through the place of the name.
use Rattle.std.proofs.Common.{◌≡◌, ◌≤◌, ◌+◌, ℕ, Bool, true, false, cond, List, [], ◌∷◌, length, map, Option, Some, None, refl, ap, sym, ◌∙◌, arith}
use Rattle.std.specs.Prelude.{nat_lt, find, slice_get, option_and_then, option_map, not, is_some, is_none}
use Rattle.std.specs.List.{position, position_or_len, prefix_len}
use Rattle.std.specs.Str.{bytes_eq}
use Rattle.std.proofs.lemmas.List.Folds.{find_at}
use Rattle.std.proofs.lemmas.List.{length-map}
use Rattle.std.proofs.lemmas.Option.{slice_get_past, slice_get-map}
use Rattle.std.proofs.lemmas.Bool.Decides.{nat_tests}
use Rattle.cfa_base.specs.Index.{place_of}
use Rattle.cfa_values.specs.Lookups.{has_position, is_repeated}
use Rattle.cfa_values.specs.Definitions.{is_one_of}

module _ {X Y : Type 0} (key : X → Y) (p : Y → Bool) where
  -- a test of keys passes as many in front
  keyed_prefix : (q : Bool → Bool) (xs : List X) → prefix_len (λ y. q (p y)) (map key xs) ≡ prefix_len (λ x. q (p (key x))) xs
  keyed_prefix q [] = refl
  keyed_prefix q (x ∷ xs) = ap (λ n. cond (q (p (key x))) (1 + n) 0) (keyed_prefix q xs)

  at_place : (xs : List X) (n m : ℕ) (b : Bool) → nat_lt n m ≡ b → length xs ≡ m → slice_get xs n ≡ option_and_then (slice_get xs) (cond b (Some n) None)
  at_place xs n m true e l = refl
  at_place xs n m false e l = let past : length xs ≤ n = grind (arith, nat_tests) in slice_get_past xs n past

  -- the first element whose key passes stands where the first such key does
  pub found_at : (xs : List X) → find (λ x. p (key x)) xs ≡ option_and_then (slice_get xs) (position p (map key xs))
  found_at xs =
      find_at (λ x. p (key x)) xs
      ∙ ap (slice_get xs) (sym (keyed_prefix not xs))
      ∙ at_place xs (position_or_len p (map key xs)) (length (map key xs)) (nat_lt (position_or_len p (map key xs)) (length (map key xs))) refl (sym (length-map xs key))

  pub found_none : (xs : List X) (found : Option ℕ) → found ≡ position p (map key xs) → found ≡ None → None ≡ find (λ x. p (key x)) xs
  found_none xs found f n = sym (found_at xs ∙ ap (option_and_then (slice_get xs)) (sym f ∙ n))

  -- what is seen of the entry at the place that was found
  pub found_some : {E : Type 0} (seen : E → X) (entries : List E) (found : Option ℕ) (place : ℕ) (answer : Option E) →
      found ≡ position p (map key (map seen entries)) → found ≡ Some place → answer ≡ slice_get entries place →
      option_map seen answer ≡ find (λ x. p (key x)) (map seen entries)
  found_some seen entries found place answer f s a =
      ap (option_map seen) a ∙ sym (slice_get-map seen entries place)
      ∙ sym (found_at (map seen entries) ∙ ap (option_and_then (slice_get (map seen entries))) (sym f ∙ s))

-- a name has a place where it is one of the names
pub has_place : (name : List ℕ) (names : List (List ℕ)) → is_some (place_of names name) ≡ is_one_of name names
has_place name names = has_position (λ other. bytes_eq name other) names

-- a name is new where it is none of the names
pub is_new_name : (name : List ℕ) (names : List (List ℕ)) → not (is_none (place_of names name)) ≡ is_one_of name names
is_new_name name names = is_repeated (λ other. bytes_eq name other) names
