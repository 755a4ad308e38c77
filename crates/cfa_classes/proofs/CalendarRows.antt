-- Moments whose classes are known.
use Rattle.std.proofs.Common.{◌≡◌, [], ◌∷◌, codes, refl}
use Rattle.std.specs.Fmt.{digits}
use Rattle.cfa_classes.specs.Calendar.{day_numbered, year_class, day_class, hour_class, minute_class, five_minutes_class, hard_classes}

-- Monday, 2024-01-01T10:00:00Z
pub new_year : hard_classes 1_704_103_200
    ≡ codes "any" ∷ codes "Yr2024" ∷ codes "January" ∷ codes "Day1" ∷ codes "Monday" ∷ codes "Hr10" ∷ codes "Min00" ∷ codes "Min00_05" ∷ codes "Morning" ∷ []
unfolding hard_classes day_numbered year_class day_class hour_class minute_class five_minutes_class digits
new_year = refl

-- Thursday, 1970-01-01T00:00:00Z
pub epoch : hard_classes 0
    ≡ codes "any" ∷ codes "Yr1970" ∷ codes "January" ∷ codes "Day1" ∷ codes "Thursday" ∷ codes "Hr00" ∷ codes "Min00" ∷ codes "Min00_05" ∷ codes "Night" ∷ []
unfolding hard_classes day_numbered year_class day_class hour_class minute_class five_minutes_class digits
epoch = refl
