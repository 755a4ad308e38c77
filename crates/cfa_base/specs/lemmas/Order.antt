-- The order of places: what isn't before the later of two places isn't before the sooner, and none is before itself.
use Rattle.std.proofs.Common.{◌≡◌, true, false, arith}
use Rattle.std.proofs.lemmas.Bool.Decides.{nat_tests}
use Rattle.cfa_base.specs.declared.places.Place.{Place}
use Rattle.cfa_base.specs.Order.{is_before}

pub before_still : (p q r : Place) → is_before p q ≡ true → is_before r q ≡ false → is_before r p ≡ false
before_still p q r before not_before = grind (arith, nat_tests)

pub before_itself : (p : Place) → is_before p p ≡ false
before_itself p = grind (arith, nat_tests)
