-- What is noted of lists of refusals one after another is noted of them all.
use Rattle.std.proofs.Common.{◌≡◌, ◌<◌, ◌≤◌, ◌+◌, ℕ, List, [], ◌∷◌, ◌++◌, length, drop, get_or, map, Option, refl, ap, sym, ◌∙◌}
use Rattle.std.specs.List.{flat_map}
use Rattle.std.proofs.lemmas.List.{drop_more, drop_all}
use Rattle.cfa_values.specs.declared.refusals.Refusal.{Refusal}
use Rattle.cfa_values.specs.Refusals.{sooner, noted}

-- what is noted of two lists is noted of one after the other
pub noted_both : (first : Option Refusal) (rs ss : List Refusal) → noted first (rs ++ ss) ≡ noted (noted first rs) ss
noted_both first [] ss = refl
noted_both first (r ∷ rs) ss = noted_both (sooner first r) rs ss

-- one list and then another was noted
pub then_noted : (first second third : Option Refusal) (rs ss : List Refusal) → second ≡ noted first rs → third ≡ noted second ss → third ≡ noted first (rs ++ ss)
then_noted first second third rs ss e f = f ∙ ap (λ o. noted o ss) e ∙ sym (noted_both first rs ss)

module _ {E T : Type 0} (plain : E → T) (f : T → List Refusal) where
  -- what is noted of an item and those behind it
  pub noted_more : (xs : List E) (i : ℕ) (x : E) (first next : Option Refusal) → i < length xs → x ≡ get_or xs i x → next ≡ noted first (f (plain x)) →
      noted next (flat_map f (map plain (drop (i + 1) xs))) ≡ noted first (flat_map f (map plain (drop i xs)))
  noted_more xs i x first next h is e =
      ap (λ o. noted o (flat_map f (map plain (drop (i + 1) xs)))) e
      ∙ sym (noted_both first (f (plain x)) (flat_map f (map plain (drop (i + 1) xs))))
      ∙ ap (λ y. noted first (flat_map f (map plain (y ∷ drop (i + 1) xs)))) is
      ∙ ap (λ ys. noted first (flat_map f (map plain ys))) (sym (drop_more xs i x h))

  -- the same, of an item that is copied
  pub noted_next : (xs : List E) (i : ℕ) (d : E) (first next : Option Refusal) → i < length xs → next ≡ noted first (f (plain (get_or xs i d))) →
      noted next (flat_map f (map plain (drop (i + 1) xs))) ≡ noted first (flat_map f (map plain (drop i xs)))
  noted_next xs i d first next h e =
      ap (λ o. noted o (flat_map f (map plain (drop (i + 1) xs)))) e
      ∙ sym (noted_both first (f (plain (get_or xs i d))) (flat_map f (map plain (drop (i + 1) xs))))
      ∙ ap (λ ys. noted first (flat_map f (map plain ys))) (sym (drop_more xs i d h))

  pub noted_all : (xs : List E) (i : ℕ) (first : Option Refusal) → length xs ≤ i → first ≡ noted first (flat_map f (map plain (drop i xs)))
  noted_all xs i first h = ap (λ ys. noted first (flat_map f (map plain ys))) (sym (drop_all i xs h))

-- once the front was noted, what is left is the rest
pub noted_front : (first next : Option Refusal) (front rest : List Refusal) → next ≡ noted first front → noted next rest ≡ noted first (front ++ rest)
noted_front first next front rest e = ap (λ o. noted o rest) e ∙ sym (noted_both first front rest)
