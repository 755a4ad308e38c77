-- The classes of a moment say its date and time in UTC: `any`, the year, the English name of the month, the day, the
-- English name of the weekday, the hour, the minute, the five minutes in which it lies, and the part of the day. A moment
-- is a number of seconds since the Epoch, 1970-01-01T00:00:00Z, as POSIX counts them: each day has 86,400.
use Rattle.std.specs.Prelude.{ℕ, zero, suc, ◌+◌, ◌-◌, ◌*◌, ◌/◌, ◌%◌, List, [], ◌∷◌, ◌++◌, codes, nat_lt, slice_index_or, unsigned_abs, pos, if◌then◌else◌}
use Rattle.std.specs.Fmt.{decimal}
use Rattle.jiff_core.specs.Calendar.{days_in_month}
use Rattle.jiff_core.specs.Date.{weekday_of}
use Rattle.jiff_core.specs.declared.civil.datetime.DateTime.{DateTime}

-- a day of the Gregorian calendar, its month and day from 1
pub record Day : Type 0 where
  pub year : ℕ
  pub month : ℕ
  pub day : ℕ

abbrev pub day_after : Day → Day
day_after d =
    if nat_lt d.day (days_in_month (pos d.year) d.month) then record { year = d.year; month = d.month; day = d.day + 1 }
    else (if nat_lt d.month 12 then record { year = d.year; month = d.month + 1; day = 1 }
    else record { year = d.year + 1; month = 1; day = 1 })

-- the day that many days after 1970-01-01
unfoldable pub day_numbered : ℕ → Day
day_numbered zero = record { year = 1970; month = 1; day = 1 }
day_numbered (suc n) = day_after (day_numbered n)

abbrev pub month_names : List (List ℕ)
month_names =
    codes "January" ∷ codes "February" ∷ codes "March" ∷ codes "April" ∷ codes "May" ∷ codes "June" ∷ codes "July"
    ∷ codes "August" ∷ codes "September" ∷ codes "October" ∷ codes "November" ∷ codes "December" ∷ []

abbrev pub month_name : ℕ → List ℕ
month_name month = slice_index_or month_names (month - 1) []

abbrev pub weekday_names : List (List ℕ)
weekday_names =
    codes "Monday" ∷ codes "Tuesday" ∷ codes "Wednesday" ∷ codes "Thursday" ∷ codes "Friday" ∷ codes "Saturday"
    ∷ codes "Sunday" ∷ []

-- weekdays are numbered from 0 for Monday
abbrev pub weekday_name : ℕ → List ℕ
weekday_name weekday = slice_index_or weekday_names weekday []

unfoldable pub year_class : ℕ → List ℕ
year_class year = codes "Yr" ++ decimal year

unfoldable pub day_class : ℕ → List ℕ
day_class day = codes "Day" ++ decimal day

abbrev pub two_digits : ℕ → List ℕ
two_digits n = (48 + n / 10) ∷ (48 + n % 10) ∷ []

unfoldable pub hour_class : ℕ → List ℕ
hour_class hour = codes "Hr" ++ two_digits hour

unfoldable pub minute_class : ℕ → List ℕ
minute_class minute = codes "Min" ++ two_digits minute

-- from the last multiple of 5 to the next, where 60 is written 00
unfoldable pub five_minutes_class : ℕ → List ℕ
five_minutes_class minute =
    codes "Min" ++ two_digits (minute / 5 * 5) ++ codes "_" ++ two_digits ((minute / 5 * 5 + 5) % 60)

-- Night to 5, Morning to 11, Afternoon to 17 and Evening to 23
abbrev pub part_of_day : ℕ → List ℕ
part_of_day hour =
    if nat_lt hour 6 then codes "Night"
    else (if nat_lt hour 12 then codes "Morning"
    else (if nat_lt hour 18 then codes "Afternoon" else codes "Evening"))

abbrev pub date_classes : ℕ → ℕ → ℕ → ℕ → List (List ℕ)
date_classes year month day weekday = year_class year ∷ month_name month ∷ day_class day ∷ weekday_name weekday ∷ []

abbrev pub time_classes : ℕ → ℕ → List (List ℕ)
time_classes hour minute = hour_class hour ∷ minute_class minute ∷ five_minutes_class minute ∷ part_of_day hour ∷ []

-- 1970-01-01 was a Thursday
unfoldable pub hard_classes : ℕ → List (List ℕ)
hard_classes moment =
    let date = day_numbered (moment / 86400) in
    codes "any" ∷ date_classes date.year date.month date.day ((moment / 86400 + 3) % 7)
    ++ time_classes (moment % 86400 / 3600) (moment % 3600 / 60)

-- the same list, for a civil date and time
unfoldable pub civil_classes : DateTime → List (List ℕ)
civil_classes civil =
    codes "any" ∷ date_classes (unsigned_abs civil.date.year) civil.date.month civil.date.day (weekday_of civil.date)
    ++ time_classes civil.time.hour civil.time.minute
