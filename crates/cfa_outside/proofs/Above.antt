-- The directories above a path, as a loop over its slashes meets them.
use Rattle.std.proofs.Common.{◌≡◌, ℕ, ◌+◌, ◌<◌, ◌≤◌, eqb, cond, List, [], ◌∷◌, length, get_or, min, take, drop, refl, ap, arith}
use Rattle.std.proofs.lemmas.List.{at_drop_all, at_drop_more}
use Rattle.cfa_outside.specs.Worlds.{above, above_from}

pub above_here : (path : List ℕ) (i : ℕ) → i < length path → above_from path i (drop i path) ≡ cond (eqb (get_or path i 0) 47) (take i path ∷ above_from path (i + 1) (drop (i + 1) path)) (above_from path (i + 1) (drop (i + 1) path))
above_here path i lt = at_drop_more (above_from path i) path i 0 lt

pub above_done : (path : List ℕ) (i : ℕ) → length path ≤ i → above_from path i (drop i path) ≡ []
above_done path i le = at_drop_all (above_from path i) path i le

pub above_whole : (path : List ℕ) → above path ≡ above_from path 1 (drop 1 path)
unfolding above
above_whole path = refl

pub above_first : (path : List ℕ) → above_from path (min (length path) 1) (drop (min (length path) 1) path) ≡ above path
unfolding above
above_first [] = refl
above_first (b ∷ rest) =
    let one : min (length (b ∷ rest)) 1 ≡ 1 = omega arith in
    ap (λ i. above_from (b ∷ rest) i (drop i (b ∷ rest))) one
