-- A path that has more newlines than another is another one.
use Rattle.std.proofs.Common.{◌≡◌, ℕ, ◌+◌, ◌<◌, Bool, true, false, List, [], ◌∷◌, ◌++◌, refl, ap, arith, nat_eq}
use Rattle.std.specs.Str.{bytes_eq}
use Rattle.cfa_base.specs.lemmas.EqualTexts.{texts_apart}
use Rattle.cfa_resolve.specs.declared.instances.Instance.{Instance}
use Rattle.cfa_states.specs.Tellers.{inner_path}

abbrev pub one_if : Bool → ℕ
one_if true = 1
one_if false = 0

-- how many newlines a path has
abbrev pub depth : List ℕ → ℕ
depth [] = 0
depth (c ∷ cs) = one_if (nat_eq c 10) + depth cs

depth_append : (a b : List ℕ) → depth (a ++ b) ≡ depth a + depth b
depth_append [] b = omega arith
depth_append (c ∷ a) b = omega (arith, depth_append a b)

newline_is : one_if (nat_eq 10 10) ≡ 1
newline_is = refl

pub depth_inner : (i : Instance) → depth i.path < depth (inner_path i)
depth_inner i = omega (arith, depth_append i.path (10 ∷ i.text), newline_is)

pub deeper_apart : (p q : List ℕ) → depth p < depth q → bytes_eq q p ≡ false
deeper_apart p q less = texts_apart q p (λ e. let d : depth q ≡ depth p = ap depth e in omega arith)
