-- The order of the three statuses.
use Rattle.std.proofs.Common.{◌≡◌, refl}
use Rattle.cfa_statuses.specs.declared.levels.Status.{Status}
use Rattle.cfa_statuses.specs.declared.levels.Status.TheVariants.{No, Maybe, Yes}
use Rattle.cfa_statuses.specs.Status.{lesser, greater}

pub lesser_assoc : (a b c : Status) → lesser (lesser a b) c ≡ lesser a (lesser b c)
lesser_assoc No b c = refl
lesser_assoc Maybe No c = refl
lesser_assoc Maybe Maybe No = refl
lesser_assoc Maybe Maybe Maybe = refl
lesser_assoc Maybe Maybe Yes = refl
lesser_assoc Maybe Yes c = refl
lesser_assoc Yes b c = refl

pub greater_assoc : (a b c : Status) → greater (greater a b) c ≡ greater a (greater b c)
greater_assoc No b c = refl
greater_assoc Maybe No c = refl
greater_assoc Maybe Maybe No = refl
greater_assoc Maybe Maybe Maybe = refl
greater_assoc Maybe Maybe Yes = refl
greater_assoc Maybe Yes c = refl
greater_assoc Yes b c = refl

pub lesser_Yes : (a : Status) → lesser a Yes ≡ a
lesser_Yes No = refl
lesser_Yes Maybe = refl
lesser_Yes Yes = refl

pub greater_No : (a : Status) → greater a No ≡ a
greater_No No = refl
greater_No Maybe = refl
greater_No Yes = refl
