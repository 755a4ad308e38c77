-- Texts are equal where their bytes are, which is tested either way round.
use Rattle.std.proofs.Common.{◌≡◌, ℕ, true, false, List, refl}
use Rattle.std.specs.Str.{bytes_eq}
use Rattle.std.proofs.lemmas.Bool.{both_ways, false_from_ne_true}
use Rattle.std.proofs.lemmas.Cmp.{nat_list_eq_equiv}
use Rattle.std.proofs.lemmas.Slice.Eq.{bytes_eq-Decides}

pub same_text : (text : List ℕ) → bytes_eq text text ≡ true
same_text text = (bytes_eq-Decides text text).1 refl

pub is_text : (text other : List ℕ) → bytes_eq text other ≡ true → text ≡ other
is_text text other e = (bytes_eq-Decides text other).0 e

pub texts_apart : (text other : List ℕ) → (text ≡ other → ⊥) → bytes_eq text other ≡ false
texts_apart text other differ = false_from_ne_true (bytes_eq text other) (λ e. differ (is_text text other e))

-- two texts that a test tells apart
pub texts_differ : (text other : List ℕ) → bytes_eq text other ≡ false → text ≡ other → ⊥
texts_differ text other differ same = both_ways (bytes_eq text other) differ ((bytes_eq-Decides text other).1 same)

pub texts_turned : (text other : List ℕ) → bytes_eq text other ≡ bytes_eq other text
texts_turned text other = nat_list_eq_equiv.symm text other
