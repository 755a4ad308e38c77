-- Days counted from 1970-01-01 are the dates with those day numbers.
use Rattle.std.proofs.Common.{◌≡◌, ℕ, zero, suc, ◌+◌, ◌/◌, ◌%◌, ◌<◌, ◌≤◌, true, false, cond, nat_lt, ◌∷◌, ◌++◌, codes, inl, inr, refl, sym, ap, ◌∙◌, arith, pos, unsigned_abs, rules}
use Rattle.std.proofs.lemmas.Bool.{cases_lt, ltb-true, ltb-false}
use Rattle.std.specs.Int.{IsInRange}
use Rattle.jiff_core.specs.declared.civil.date.Date.{Date}
use Rattle.jiff_core.specs.declared.civil.datetime.DateTime.{DateTime}
use Rattle.jiff_core.specs.Calendar.{IsYear, days_in_month, days_from_civil, weekday_number}
use Rattle.jiff_core.specs.Date.{epoch_day}
use Rattle.jiff_core.specs.DateTime.{civil_nanos}
use Rattle.jiff_core.specs.Timestamp.{nanos_of_seconds}
use Rattle.jiff_core.proofs.CalendarLemmas.{days_in_month_bounds, weekday_number-parts}
use Rattle.jiff_core.proofs.DateLemmas.{epoch_day_range, epoch_day_injective, days_from_civil-day, days_from_civil-next_month, days_from_civil-next_year, days_from_civil-max}
use Rattle.jiff_core.proofs.DateTimeLemmas.{civil_nanos-parts, time_nanos_bound}
use Rattle.jiff_core.proofs.SignedLemmas.{signed_arith}
use Rattle.jiff_core.proofs.StandardFacts.{known_days}
use Rattle.cfa_classes.specs.Calendar.{Day, day_after, day_numbered, date_classes, time_classes, hard_classes, civil_classes}

-- the calendar has the day, and jiff gives it this number
pub record IsNumbered (d : Day) (n : ℕ) : Type 0 where
  pub year_in : IsYear (pos d.year)
  pub month_in : IsInRange 1 12 d.month
  pub day_in : IsInRange 1 (days_in_month (pos d.year) d.month) d.day
  pub number : days_from_civil (pos d.year) d.month d.day ≡ pos n

within_month : (d : Day) (n : ℕ) → IsNumbered d n → d.day < days_in_month (pos d.year) d.month → IsNumbered (record { year = d.year; month = d.month; day = d.day + 1 }) (suc n)
within_month d n h shorter = record {
  year_in = h.year_in;
  month_in = h.month_in;
  day_in = (omega arith, omega arith);
  number = omega (arith, signed_arith, h.number, days_from_civil-day (pos d.year) d.month d.day (d.day + 1) h.day_in.0 (omega arith));
}

next_month : (d : Day) (n : ℕ) → IsNumbered d n → days_in_month (pos d.year) d.month ≤ d.day → d.month < 12 → IsNumbered (record { year = d.year; month = d.month + 1; day = 1 }) (suc n)
next_month d n h last earlier = record {
  year_in = h.year_in;
  month_in = (omega arith, omega arith);
  day_in = (omega arith, omega (arith, days_in_month_bounds (pos d.year) (d.month + 1)));
  number = omega (arith, signed_arith, h.number, days_from_civil-next_month (pos d.year) d.month d.day h.month_in.0 (omega (arith, h.day_in)));
}

-- no day comes after 9999-12-31
last_year : (y n : ℕ) → suc n ≤ 2_932_896 → 9999 ≤ y → IsYear (pos y) → days_from_civil (pos y) 12 31 ≡ pos n → ⊥
last_year y n small past year_in number =
    let year : y ≡ 9999 = omega (arith, signed_arith, year_in) in
    let last : days_from_civil (pos 9999) 12 31 ≡ pos n = rw year at number in
    omega (arith, signed_arith, last, days_from_civil-max)

next_year : (d : Day) (n : ℕ) → suc n ≤ 2_932_896 → IsNumbered d n → days_in_month (pos d.year) d.month ≤ d.day → 12 ≤ d.month → IsNumbered (record { year = d.year + 1; month = 1; day = 1 }) (suc n)
next_year d n small h last late =
    let month : d.month ≡ 12 = omega (arith, h.month_in) in
    let long : days_in_month (pos d.year) d.month ≡ 31 = rw month refl in
    let day : d.day ≡ 31 = omega (arith, h.day_in) in
    let number : days_from_civil (pos d.year) 12 31 ≡ pos n = rw (month, day) at h.number in
    let year : d.year < 9999 = elim (cases_lt d.year 9999) [ inl earlier ↦ earlier | inr past ↦ absurd (last_year d.year n small past h.year_in number) ] in
    record {
      year_in = omega (arith, signed_arith);
      month_in = (omega arith, omega arith);
      day_in = (omega arith, omega arith);
      number = omega (arith, signed_arith, number, days_from_civil-next_year (pos d.year) (pos (d.year + 1)) (omega (arith, signed_arith)) (omega (arith, signed_arith)));
    }

after : (d : Day) (n : ℕ) → suc n ≤ 2_932_896 → IsNumbered d n → IsNumbered (day_after d) (suc n)
after d n small h =
    elim (nat_lt d.day (days_in_month (pos d.year) d.month)) as (λ b. nat_lt d.day (days_in_month (pos d.year) d.month) ≡ b
    → IsNumbered (cond b (record { year = d.year; month = d.month; day = d.day + 1 }) (cond (nat_lt d.month 12) (record { year = d.year; month = d.month + 1; day = 1 }) (record { year = d.year + 1; month = 1; day = 1 }))) (suc n)) [
      | true ↦ λ e. within_month d n h (ltb-true _ _ e)
      | false ↦ λ e. elim (nat_lt d.month 12) as (λ b. nat_lt d.month 12 ≡ b → IsNumbered (cond b (record { year = d.year; month = d.month + 1; day = 1 }) (record { year = d.year + 1; month = 1; day = 1 })) (suc n)) [
        | true ↦ λ f. next_month d n h (ltb-false _ _ e) (ltb-true _ _ f)
        | false ↦ λ f. next_year d n small h (ltb-false _ _ e) (ltb-false _ _ f)
      ] refl
    ] refl

pub is_numbered : (n : ℕ) → n ≤ 2_932_896 → IsNumbered (day_numbered n) n
unfolding day_numbered
is_numbered zero small = record { year_in = search rules; month_in = search rules; day_in = search rules; number = known_days.0 }
is_numbered (suc n) small = after (day_numbered n) n small (is_numbered n (omega arith))

-- a date is the day with its number
pub day_numbered-epoch_day : (date : Date) (n : ℕ) → epoch_day date ≡ pos n → (date.year ≡ pos (day_numbered n).year) × (date.month ≡ (day_numbered n).month) × (date.day ≡ (day_numbered n).day)
day_numbered-epoch_day date n is =
    let h : IsNumbered (day_numbered n) n = is_numbered n (omega (arith, signed_arith, epoch_day_range date, is)) in
    epoch_day_injective date (record { year = pos (day_numbered n).year; month = (day_numbered n).month; day = (day_numbered n).day; year_in = h.year_in; month_in = h.month_in; day_in = h.day_in }) (is ∙ sym h.number)

-- the day of a moment in UTC, and its hour and minute
day_of : (civil : DateTime) (moment : ℕ) → civil_nanos civil ≡ nanos_of_seconds (pos moment) → epoch_day civil.date ≡ pos (moment / 86400)
day_of civil moment is = omega (arith, signed_arith, civil_nanos-parts civil, time_nanos_bound civil.time, is)

hour_of : (civil : DateTime) (moment : ℕ) → civil_nanos civil ≡ nanos_of_seconds (pos moment) → civil.time.hour ≡ moment % 86400 / 3600
hour_of civil moment is = omega (arith, signed_arith, civil_nanos-parts civil, time_nanos_bound civil.time, day_of civil moment is, is)

minute_of : (civil : DateTime) (moment : ℕ) → civil_nanos civil ≡ nanos_of_seconds (pos moment) → civil.time.minute ≡ moment % 3600 / 60
minute_of civil moment is = omega (arith, signed_arith, civil_nanos-parts civil, time_nanos_bound civil.time, day_of civil moment is, is)

weekday_number-pos : (n : ℕ) → weekday_number (pos n) ≡ (n + 3) % 7
weekday_number-pos n = omega (arith, signed_arith, weekday_number-parts (pos n))

-- the list by the table is that of the civil date and time at the moment
pub hard_classes-civil : (civil : DateTime) (moment : ℕ) → civil_nanos civil ≡ nanos_of_seconds (pos moment) → hard_classes moment ≡ civil_classes civil
unfolding hard_classes civil_classes
hard_classes-civil civil moment is =
    let day = day_of civil moment is in
    let date = day_numbered-epoch_day civil.date (moment / 86400) day in
    let year = ap unsigned_abs (sym date.0) in
    let weekday = sym (ap weekday_number day ∙ weekday_number-pos (moment / 86400)) in
    let hour = sym (hour_of civil moment is) in
    let minute = sym (minute_of civil moment is) in
    λ i. codes "any" ∷ date_classes (year i) (sym date.1 i) (sym date.2 i) (weekday i) ++ time_classes (hour i) (minute i)
