-- What follows for a value, if there is one, where it is known which one it is.
use Rattle.std.proofs.Common.{◌≡◌, ◌∙◌, Some, None, Option, IfSome, refl, sym, subst}
use Rattle.std.proofs.lemmas.Option.{same_Some}

pub some_weaker : {A : Type 0} (o : Option A) (P Q : A → Type 0) → ((x : A) → o ≡ Some x → P x → Q x) → IfSome o P → IfSome o Q
some_weaker None P Q f h = h
some_weaker (Some x) P Q f h = f x refl h

pub each_some : {A : Type 0} (o : Option A) (Q : A → Type 0) → ((x : A) → o ≡ Some x → Q x) → IfSome o Q
each_some None Q f = tt
each_some (Some x) Q f = f x refl

pub some_at : {A : Type 0} (o : Option A) (x : A) (P : A → Type 0) → o ≡ Some x → IfSome o P → P x
some_at {A} o x P is h = let Q : Option A → Type 0 = λ o. IfSome o P in subst Q is h

pub one_some : {A : Type 0} {o : Option A} {x y : A} → o ≡ Some x → o ≡ Some y → x ≡ y
one_some {A} {o} {x} {y} first second = same_Some x y (sym first ∙ second)
