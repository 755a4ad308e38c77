-- The marks of a log, read off it. A call that was refused in an act, or for a digest, is an entry with a `done` or a `fail` record
-- somewhere behind it. The first such record closes the instance that failed: its mark has the number of that record, and counts
-- the changes of this instance before the entry: those behind the last lock, and the last record that is no `file`.
use Rattle.std.specs.Prelude.{ℕ, suc, Bool, true, false, ◌||◌, ◌==◌, if◌then◌else◌, List, [], ◌∷◌, ◌++◌, Option, Some, None, codes}
use Rattle.std.specs.List.{slice_split}
use Rattle.std.specs.Option.{option_or}
use Rattle.std.specs.Str.{bytes_eq}
use Rattle.std.specs.Str.Parse.{digits_value}
use Rattle.cfa_outside.specs.declared.sites.Call.{Call}
use Rattle.cfa_outside.specs.declared.sites.Change.{Change}
use Rattle.cfa_outside.specs.declared.sites.Change.TheVariants.{Append, PutLock}
use Rattle.cfa_outside.specs.declared.sites.Entry.{Entry}
use Rattle.cfa_outside.specs.declared.sites.Entry.TheVariants.{Did, Refused}
use Rattle.cfa_agent.specs.Actuations.{Mark}

-- ---- the instance that is closed

-- the words that close an instance
abbrev pub is_closing : List ℕ → Bool
is_closing word = bytes_eq word (codes "done") || bytes_eq word (codes "fail")

-- by the fields of a record: its word, and the number of its instance
abbrev pub closed_by : (fields : List (List ℕ)) → Option ℕ
closed_by [] = None
closed_by (word ∷ []) = None
closed_by (word ∷ (number ∷ others)) = if is_closing word then Some (digits_value 10 number) else None

-- the number of the instance that a record closes, if it closes one
unfoldable pub closed_in : (text : List ℕ) → Option ℕ
closed_in text = closed_by (slice_split (λ byte. byte == 32) text)

abbrev pub closed_at : Change → Option ℕ
closed_at (Append bytes) = closed_in bytes
closed_at _ = None

-- the number of the first instance that a log closes, if it closes one
abbrev pub first_closed : List Entry → Option ℕ
first_closed [] = None
first_closed (Did change ∷ log) = option_or (closed_at change) (first_closed log)
first_closed (Refused call ∷ log) = first_closed log

-- ---- marks

-- a change that an act asks for: no record and no lock
abbrev pub is_of_act : Change → Bool
is_of_act (Append bytes) = false
is_of_act (PutLock key moment) = false
is_of_act _ = true

abbrev pub begins_with_file : (fields : List (List ℕ)) → Bool
begins_with_file [] = false
begins_with_file (word ∷ others) = bytes_eq word (codes "file")

-- a `file` record
unfoldable pub is_file_record : (text : List ℕ) → Bool
is_file_record text = begins_with_file (slice_split (λ byte. byte == 32) text)

-- how many changes an instance has made, where it made so many before this change: one of an act is one more, a `file` record leaves
-- them, and any other record and a lock begin or end it
abbrev pub counted_on : (changes : ℕ) → Change → ℕ
counted_on changes (Append bytes) = if is_file_record bytes then changes else 0
counted_on changes (PutLock key moment) = 0
counted_on changes _ = suc changes

abbrev pub mark_closed : (changes : ℕ) → Call → (closed : Option ℕ) → List Mark
mark_closed changes call None = []
mark_closed changes call (Some number) = record { instance = number; changes = changes; call = call } ∷ []

-- where an instance has made so many changes before the log
abbrev pub marks_behind : (changes : ℕ) → List Entry → List Mark
marks_behind changes [] = []
marks_behind changes (Did change ∷ log) = marks_behind (counted_on changes change) log
marks_behind changes (Refused call ∷ log) =
    mark_closed changes call (first_closed log) ++ marks_behind changes log

abbrev pub marks_of : List Entry → List Mark
marks_of log = marks_behind 0 log
