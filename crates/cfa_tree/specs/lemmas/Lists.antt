-- Lists that grow at their end.
use Rattle.std.proofs.Common.{◌≡◌, ℕ, suc, zero, List, [], ◌∷◌, ◌++◌, refl, ap, append_assoc}
use Rattle.cfa_tree.specs.Tree.{ExprTree, negated}
use Rattle.cfa_tree.specs.Guards.{negated_by}

-- one more at the end, and then the rest
pub append_one : {A : Type 0} (xs : List A) (x : A) (ys : List A) → (xs ++ x ∷ []) ++ ys ≡ xs ++ x ∷ ys
append_one xs x ys = append_assoc xs (x ∷ []) ys

pub negated_by-negated : (n : ℕ) (e : ExprTree) → negated (negated_by n e) ≡ negated_by n (negated e)
negated_by-negated zero e = refl
negated_by-negated (suc n) e = ap negated (negated_by-negated n e)
