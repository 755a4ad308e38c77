-- The places of elements in lists.
use Rattle.std.proofs.Common.{◌≡◌, suc, ◌+◌, ◌<◌, Bool, true, false, not, List, [], ◌∷◌, ◌++◌, length, Some, None, refl, ap, arith, cond}
use Rattle.std.proofs.lemmas.Bool.{lt-ltb, or_left}
use Rattle.std.specs.Prelude.{◌||◌, unwrap_or}
use Rattle.std.specs.List.{list_any, position, position_or_len}
use Rattle.cfa_conflict.specs.lemmas.Anywhere.{in_right}

pub found_before : {X : Type 0} (p : X → Bool) (xs : List X) → list_any p xs ≡ true → position_or_len p xs < length xs
found_before p [] e = absurd (cc)
found_before p (x ∷ xs) e = go (p x) (found_before p xs) e
  where
    go : (b : Bool) → (list_any p xs ≡ true → position_or_len p xs < length xs) → (b || list_any p xs) ≡ true → cond (not b) (1 + position_or_len p xs) 0 < suc (length xs)
    go true before f = omega arith
    go false before f = let less = before f in omega arith

pub position_found : {X : Type 0} (p : X → Bool) (xs : List X) → list_any p xs ≡ true → unwrap_or (position p xs) 0 ≡ position_or_len p xs
position_found p xs e = ap (λ b. unwrap_or (cond b (Some (position_or_len p xs)) None) 0) (lt-ltb (position_or_len p xs) (length xs) (found_before p xs e))

pub any_last : {X : Type 0} (p : X → Bool) (xs : List X) (y : X) → p y ≡ true → list_any p (xs ++ y ∷ []) ≡ true
any_last p xs y e = in_right p xs (y ∷ []) (or_left (p y) false e)

pub any_other : {X : Type 0} (p : X → Bool) (xs : List X) (y : X) → p y ≡ false → list_any p (xs ++ y ∷ []) ≡ list_any p xs
any_other p [] y e = ap (λ b. b || false) e
any_other p (x ∷ xs) y e = ap (λ b. p x || b) (any_other p xs y e)

-- one place is that of one element
pub one_place : {X : Type 0} (p q : X → Bool) (xs : List X) → list_any p xs ≡ true → list_any q xs ≡ true → position_or_len p xs ≡ position_or_len q xs → (x : X) × (p x ≡ true) × (q x ≡ true)
one_place {X = X} p q [] e f same = absurd (cc)
one_place {X = X} p q (x ∷ xs) e f same = go (p x) refl (q x) refl (one_place p q xs) e f same
  where
    go : (b : Bool) → p x ≡ b → (c : Bool) → q x ≡ c → (list_any p xs ≡ true → list_any q xs ≡ true → position_or_len p xs ≡ position_or_len q xs → (y : X) × (p y ≡ true) × (q y ≡ true)) →
        (b || list_any p xs) ≡ true → (c || list_any q xs) ≡ true → cond (not b) (1 + position_or_len p xs) 0 ≡ cond (not c) (1 + position_or_len q xs) 0 → (y : X) × (p y ≡ true) × (q y ≡ true)
    go true is true it more e' f' g = (x, is, it)
    go true is false it more e' f' g = absurd (omega (arith, g))
    go false is true it more e' f' g = absurd (omega (arith, g))
    go false is false it more e' f' g = more e' f' (omega (arith, g))
