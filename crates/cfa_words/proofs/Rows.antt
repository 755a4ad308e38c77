-- Rows of matches that only grow: what a look-up finds after one more use of an argument.
use Rattle.std.proofs.Common.{◌≡◌, ◌∙◌, ◌++◌, ◌∷◌, ◌||◌, [], List, Bool, Option, Some, None, cond, true, false, true≢false, refl, ap, ap₂, is_some}
use Rattle.std.specs.List.{find, list_any}
use Rattle.std.specs.Str.{bytes_eq}
use Rattle.clap.specs.Walk.{Row, Text, at_row, has_row, more_values, with_values, without}
use Rattle.clap.specs.declared.parser.matches.ValueSource.{ValueSource}
use Rattle.clap.specs.declared.parser.matches.ValueSource.TheVariants.{CommandLine, DefaultValue}
use Rattle.clap.specs.declared.builder.value_parser.Reading.TheVariants.{AsWritten}

-- the row of an id
abbrev pub look : Text → List Row → Option Row
look id rows = find (λ r. bytes_eq r.id id) rows

-- a row with one value
abbrev pub row_from : ValueSource → Text → Text → Row
row_from source id v = record { id = id; values = v ∷ []; count = None; source = Some source; reading = AsWritten }

abbrev pub value_row : Text → Text → Row
value_row = row_from CommandLine

abbrev pub default_row : Text → Text → Row
default_row = row_from DefaultValue

abbrev pub or_some : Option Row → Option Row → Option Row
or_some (Some r) other = Some r
or_some None other = other

pub or_some-None : (o : Option Row) → or_some o None ≡ o
or_some-None (Some r) = refl
or_some-None None = refl

pub find-push : (p : Row → Bool) (rows : List Row) (y : Row) → find p (rows ++ y ∷ []) ≡ or_some (find p rows) (cond (p y) (Some y) None)
find-push p [] y = refl
find-push p (r ∷ rs) y = go (p r) (find-push p rs y)
  where
    go : (b : Bool) → find p (rs ++ y ∷ []) ≡ or_some (find p rs) (cond (p y) (Some y) None)
        → cond b (Some r) (find p (rs ++ y ∷ [])) ≡ or_some (cond b (Some r) (find p rs)) (cond (p y) (Some y) None)
    go true e = refl
    go false e = e

pub list_any-find : (p : Row → Bool) (rows : List Row) → list_any p rows ≡ is_some (find p rows)
list_any-find p [] = refl
list_any-find p (r ∷ rs) = go (p r) (list_any-find p rs)
  where
    go : (b : Bool) → list_any p rs ≡ is_some (find p rs) → (b || list_any p rs) ≡ is_some (cond b (Some r) (find p rs))
    go true e = refl
    go false e = e

pub has_row-look : (id : Text) (rows : List Row) → has_row id rows ≡ is_some (look id rows)
has_row-look id rows = list_any-find (λ r. bytes_eq r.id id) rows

some≢none : (r : Row) → Some r ≡ None → ⊥
some≢none r e = true≢false (ap (λ (o : Option Row). is_some o) e)

-- where an id has no row, a change at it is made at the end
pub at_row-none : (id : Text) (change : Row → List Row) (missing : List Row) (rows : List Row) → look id rows ≡ None → at_row id change missing rows ≡ rows ++ missing
at_row-none id change missing [] e = refl
at_row-none id change missing (r ∷ rs) e = go (bytes_eq r.id id) e (at_row-none id change missing rs)
  where
    go : (b : Bool) → cond b (Some r) (look id rs) ≡ None → (look id rs ≡ None → at_row id change missing rs ≡ rs ++ missing)
        → cond b (change r ++ rs) (r ∷ at_row id change missing rs) ≡ r ∷ (rs ++ missing)
    go true f more = absurd (some≢none r f)
    go false f more = ap (λ xs. r ∷ xs) (more f)

append-none : (rows : List Row) → rows ++ [] ≡ rows
append-none [] = refl
append-none (r ∷ rs) = ap (λ xs. r ∷ xs) (append-none rs)

-- the rows after a value of an id that has no row
pub with_new : (id v : Text) (source : ValueSource) (rows : List Row) → look id rows ≡ None
    → with_values id AsWritten source (v ∷ []) rows ≡ rows ++ row_from source id v ∷ []
with_new id v source rows none = at_row-none id (more_values source (v ∷ [])) (row_from source id v ∷ []) rows none

pub used_new : (id v : Text) (rows : List Row) → look id rows ≡ None
    → with_values id AsWritten CommandLine (v ∷ []) (without id rows) ≡ rows ++ value_row id v ∷ []
used_new id v rows none = ap (with_values id AsWritten CommandLine (v ∷ [])) (at_row-none id (λ _. []) [] rows none ∙ append-none rows) ∙ with_new id v CommandLine rows none

-- a look-up of another id stays, and one of this id finds the new row
pub look_other : (other : Text) (rows after : List Row) (y : Row) → after ≡ rows ++ y ∷ [] → bytes_eq y.id other ≡ false → look other after ≡ look other rows
look_other other rows after y is apart = ap (look other) is ∙ find-push (λ r. bytes_eq r.id other) rows y
    ∙ ap (λ b. or_some (look other rows) (cond b (Some y) None)) apart ∙ or_some-None (look other rows)

pub look_same : (id : Text) (rows after : List Row) (y : Row) → after ≡ rows ++ y ∷ [] → bytes_eq y.id id ≡ true → look id rows ≡ None → look id after ≡ Some y
look_same id rows after y is same none = ap (look id) is ∙ find-push (λ r. bytes_eq r.id id) rows y
    ∙ ap₂ (λ (o : Option Row) (b : Bool). or_some o (cond b (Some y) None)) none same
