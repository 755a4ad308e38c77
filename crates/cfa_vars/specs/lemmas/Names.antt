-- The names that a text refers to, from its first reference on, and whether some item of a list passes a test.
use Rattle.std.proofs.Common.{◌≡◌, ◌<◌, ◌+◌, ℕ, Bool, true, false, cond, not, ◌||◌, suc, List, [], ◌∷◌, ◌++◌, length, map, refl, arith, ap, sym, ◌∙◌}
use Rattle.std.specs.List.{filter_map, position_or_len, list_any}
use Rattle.std.proofs.lemmas.List.{append-nil}
use Rattle.cfa_vars.specs.References.{Piece, literal, reference, pieces, name_in, names_in}

names-literals : (bytes : List ℕ) (ps : List Piece) → filter_map name_in (map literal bytes ++ ps) ≡ filter_map name_in ps
names-literals [] ps = refl
names-literals (b ∷ bs) ps = names-literals bs ps

pub names_in_more : (text before name after : List ℕ) → pieces text ≡ map literal before ++ reference name ∷ pieces after → names_in text ≡ name ∷ names_in after
names_in_more text before name after h = ap (filter_map name_in) h ∙ names-literals before (reference name ∷ pieces after)

pub names_in_none : (text : List ℕ) → pieces text ≡ map literal text → names_in text ≡ []
names_in_none text h = ap (filter_map name_in) (h ∙ sym (append-nil (map literal text))) ∙ names-literals text []

module _ {X : Type 0} (p : X → Bool) where
  none_at_front : (t : Bool) (n m : ℕ) (rest : Bool) → cond (not t) (1 + n) 0 ≡ suc m → (n ≡ m → rest ≡ false) → (t || rest) ≡ false
  none_at_front true n m rest h f = cc
  none_at_front false n m rest h f = f (omega arith)

  -- no item passes where the first that does would stand at the end
  pub list_any-none : (xs : List X) → position_or_len p xs ≡ length xs → list_any p xs ≡ false
  list_any-none [] h = refl
  list_any-none (x ∷ xs) h = none_at_front (p x) (position_or_len p xs) (length xs) (list_any p xs) h (list_any-none xs)

  some_at_front : (t : Bool) (n m : ℕ) (rest : Bool) → cond (not t) (1 + n) 0 < suc m → (n < m → rest ≡ true) → (t || rest) ≡ true
  some_at_front true n m rest h f = refl
  some_at_front false n m rest h f = f (omega arith)

  pub list_any-some : (xs : List X) → position_or_len p xs < length xs → list_any p xs ≡ true
  list_any-some [] h = absurd (omega arith)
  list_any-some (x ∷ xs) h = some_at_front (p x) (position_or_len p xs) (length xs) (list_any p xs) h (list_any-some xs)
