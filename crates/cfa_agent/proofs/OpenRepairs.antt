-- The records of a bracketed log are those of one run, in which one instance at most is left open.
use Rattle.std.proofs.Common.{◌≡◌, ℕ, ◌+◌, ◌≤◌, Bool, true, false, ◌&&◌, ◌==◌, cond, List, [], ◌∷◌, ◌++◌, length, Option, Some, None, refl, sym, ap, subst, ◌∙◌, arith, ◌⊎◌, inl, inr, ⊎_elim}
use Rattle.std.specs.Prelude.{if◌then◌else◌, count_by, ⊤}
use Rattle.std.proofs.lemmas.Bool.{false≢true, true≢false}
use Rattle.std.proofs.lemmas.Bool.Decides.{eqb_tells}
use Rattle.std.proofs.lemmas.List.Sums.{count_by-le-length, sum_by-cons}
use Rattle.cfa_outside.specs.declared.sites.Change.TheVariants.{PutFile, PutDir, Remove, SetPerms, PutService, PutLock, Append}
use Rattle.cfa_outside.specs.declared.sites.Entry.{Entry}
use Rattle.cfa_outside.specs.declared.sites.Entry.TheVariants.{Did, Refused}
use Rattle.cfa_journal.specs.declared.positions.Position.{Position}
use Rattle.cfa_journal.specs.declared.positions.Position.TheVariants.{Start, Between, Within}
use Rattle.cfa_journal.specs.declared.positions.Version.{Version}
use Rattle.cfa_journal.specs.declared.positions.Version.TheVariants.{Two}
use Rattle.cfa_journal.specs.declared.records.Record.{Record}
use Rattle.cfa_journal.specs.declared.records.Record.TheVariants.{Run, Run2, Open, File, Repaired, Failed, Fail}
use Rattle.cfa_journal.specs.Audits.{is_done, past_files, left_open, runs_of}
use Rattle.cfa_journal.specs.Journals.{journal_text}
use Rattle.cfa_journal.specs.Positions.{MayStand, InPlaceFrom, behind, is_two}
use Rattle.cfa_agent.specs.Bracketed.{Point, line_of, TellsSo, IsBracketedFrom}
use Rattle.cfa_agent.specs.Journaled.{appended_in, begins_instance, ends_instance}

-- ---- the records of one run

abbrev pub IsFirstRun : Position → Record → Type 0
IsFirstRun position (Run moment) = ⊥
IsFirstRun position (Run2 moment) = position ≡ Start
IsFirstRun position (Open n id key) = ⊤
IsFirstRun position (File n path before after) = ⊤
IsFirstRun position (Repaired n changes) = ⊤
IsFirstRun position (Failed n reason) = ⊤
IsFirstRun position (Fail n id key reason) = ⊤

abbrev pub IsRunFrom : Position → List Record → Type 0
IsRunFrom position [] = ⊤
IsRunFrom position (r ∷ rest) = MayStand position r × IsFirstRun position r × IsRunFrom (behind position r) rest

pub first_run : (here : Point) (r : Record) → TellsSo here r → IsFirstRun here.position r
first_run here (Run moment) so = so
first_run here (Run2 moment) so = so
first_run here (Open n id key) so = tt
first_run here (File n path before after) so = tt
first_run here (Repaired n changes) so = tt
first_run here (Failed n reason) so = tt
first_run here (Fail n id key reason) so = tt

pub record RunFrom (position : Position) (log : List Entry) : Type 0 where
  pub records : List Record
  pub whole : journal_text records ≡ appended_in log
  pub run : IsRunFrom position records

unfoldable pub run_from : (log : List Entry) (here : Point) → IsBracketedFrom here log → RunFrom here.position log
run_from [] here is = record { records = []; whole = refl; run = tt }
run_from (Refused call ∷ log) here is =
    let rest = run_from log _ is in record { records = rest.records; whole = rest.whole; run = rest.run }
run_from (Did (Append bytes) ∷ log) here is =
    let rest = run_from log _ is.3 in
    record {
      records = is.0 ∷ rest.records;
      whole = ap (λ more. line_of is.0 ++ more) rest.whole ∙ ap (λ line. line ++ appended_in log) (sym is.1);
      run = (is.2.0, first_run here is.0 is.2.1, rest.run);
    }
run_from (Did (PutLock key moment) ∷ log) here is =
    let rest = run_from log _ is.1 in record { records = rest.records; whole = rest.whole; run = rest.run }
run_from (Did (PutFile path bytes) ∷ log) here is =
    let rest = run_from log _ is.1 in record { records = rest.records; whole = rest.whole; run = rest.run }
run_from (Did (PutDir path) ∷ log) here is =
    let rest = run_from log _ is.1 in record { records = rest.records; whole = rest.whole; run = rest.run }
run_from (Did (Remove path) ∷ log) here is =
    let rest = run_from log _ is.1 in record { records = rest.records; whole = rest.whole; run = rest.run }
run_from (Did (SetPerms path perms) ∷ log) here is =
    let rest = run_from log _ is.1 in record { records = rest.records; whole = rest.whole; run = rest.run }
run_from (Did (PutService name row) ∷ log) here is =
    let rest = run_from log _ is.1 in record { records = rest.records; whole = rest.whole; run = rest.run }

pub in_place : (records : List Record) (position : Position) → IsRunFrom position records → InPlaceFrom position records
in_place [] position run = tt
in_place (r ∷ rest) position run = (run.0, in_place rest (behind position r) run.2)

-- ---- one run

-- behind the first record
abbrev IsBehind : Position → Type 0
IsBehind Start = ⊥
IsBehind (Between version) = ⊤
IsBehind (Within version n) = ⊤

no_more_runs : (records : List Record) (position : Position) → IsBehind position → IsRunFrom position records → runs_of records ≡ []
no_more_runs [] position behind run = refl
no_more_runs (Run moment ∷ rest) position behind run = absurd run.1
no_more_runs (Run2 moment ∷ rest) position behind run = absurd (subst IsBehind run.1 behind)
no_more_runs (Open n id key ∷ rest) position behind run = no_more_runs rest _ tt run.2
no_more_runs (File n path before after ∷ rest) position behind run = no_more_runs rest _ tt run.2
no_more_runs (Repaired n changes ∷ rest) position behind run = no_more_runs rest _ tt run.2
no_more_runs (Failed n reason ∷ rest) position behind run = no_more_runs rest _ tt run.2
no_more_runs (Fail n id key reason ∷ rest) position behind run = no_more_runs rest _ tt run.2

pub one_run : (records : List Record) → IsRunFrom Start records → length (runs_of records) ≤ 1
one_run [] run = omega arith
one_run (Run moment ∷ rest) run = absurd run.1
one_run (Run2 moment ∷ rest) run = let none : length (runs_of rest) ≡ 0 = ap length (no_more_runs rest _ tt run.2) in omega (arith, none)
one_run (Open n id key ∷ rest) run = absurd (false≢true run.0.1)
one_run (File n path before after ∷ rest) run = absurd (false≢true run.0.1)
one_run (Repaired n changes ∷ rest) run = absurd (false≢true run.0.1)
one_run (Failed n reason ∷ rest) run = absurd (false≢true run.0.1)
one_run (Fail n id key reason ∷ rest) run = absurd (false≢true run.0.1)

-- ---- one open instance

-- the instance that is open has no `done`, and nothing else begins behind it; or it has one, and at most one is left open behind that
abbrev Closes : ℕ → List Record → Type 0
Closes n records = ((past_files records ≡ None) × (left_open records ≡ 0)) ⊎ ((is_done n (past_files records) ≡ true) × (left_open records ≤ 1))

counted_open : (b : Bool) (left : ℕ) → left ≤ 1 → b ≡ true → (if b then 0 else 1) + left ≤ 1
counted_open true left few is = omega (arith, few)
counted_open false left few is = absurd (false≢true is)

one_more_open : (d : Option Record) (n left : ℕ) → d ≡ None → left ≡ 0 → (if is_done n d then 0 else 1) + left ≤ 1
one_more_open None n left is none = omega (arith, none)
one_more_open (Some r) n left is none = absurd (cc)

closed_count : (n : ℕ) (records : List Record) → Closes n records → (if is_done n (past_files records) then 0 else 1) + left_open records ≤ 1
closed_count n records (inl open') = one_more_open (past_files records) n (left_open records) open'.0 open'.1
closed_count n records (inr closed) = counted_open (is_done n (past_files records)) (left_open records) closed.1 closed.0

-- no later position is the first
later_apart : (position : Position) → IsBehind position → position ≡ Start → ⊥
later_apart position behind e = subst IsBehind e behind

and_right : (a b : Bool) → a && b ≡ true → b ≡ true
and_right true b is = is
and_right false b is = absurd (false≢true is)

numbers_same : (a b : ℕ) → (a == b) ≡ true → a ≡ b
numbers_same a b is = ⊎_elim (λ same. same.1) (λ differs. absurd (true≢false (sym is ∙ differs.0))) (eqb_tells a b)

-- behind an `open`, and behind a record that ends an instance
abbrev WithinLeaves : List Record → Type 0
WithinLeaves records = (version : Version) (n : ℕ) → IsRunFrom (Within version n) records → Closes n records

abbrev BetweenLeaves : List Record → Type 0
BetweenLeaves records = (version : Version) → IsRunFrom (Between version) records → left_open records ≤ 1

within_open : (rest : List Record) → WithinLeaves rest → BetweenLeaves rest → (r : Record) → WithinLeaves (r ∷ rest)
within_open rest within' between (Run moment) version n run = absurd run.1
within_open rest within' between (Run2 moment) version n run = absurd (later_apart (Within version n) tt run.1)
within_open rest within' between (Open m id key) version n run = absurd (false≢true run.0.1)
within_open rest within' between (File m path before after) version n run =
    let P : ℕ → Type 0 = λ k. Closes k rest in
    subst P (sym (numbers_same n m (and_right (is_two version) (n == m) run.0.1))) (within' version m run.2)
within_open rest within' between (Repaired m changes) version n run = inr (run.0.1, between version run.2)
within_open rest within' between (Failed m reason) version n run = inr (run.0.1, between version run.2)
within_open rest within' between (Fail m id key reason) version n run = absurd (false≢true run.0.1)

between_open : (rest : List Record) → WithinLeaves rest → BetweenLeaves rest → (r : Record) → BetweenLeaves (r ∷ rest)
between_open rest within' between (Run moment) version run = absurd run.1
between_open rest within' between (Run2 moment) version run = absurd (later_apart (Between version) tt run.1)
between_open rest within' between (Open n id key) version run = closed_count n rest (within' version n run.2)
between_open rest within' between (File n path before after) version run = absurd (false≢true (and_right (is_two version) false run.0.1))
between_open rest within' between (Repaired n changes) version run = absurd (false≢true run.0.1)
between_open rest within' between (Failed n reason) version run = absurd (false≢true run.0.1)
between_open rest within' between (Fail n id key reason) version run = between version run.2

leaves : (records : List Record) → WithinLeaves records × BetweenLeaves records
leaves [] = (λ version n run. inl (refl, refl), λ version run. omega arith)
leaves (r ∷ rest) =
    let both = leaves rest in
    (within_open rest both.0 both.1 r, between_open rest both.0 both.1 r)

pub one_open : (records : List Record) → IsRunFrom Start records → left_open records ≤ 1
one_open [] run = omega arith
one_open (Run moment ∷ rest) run = absurd run.1
one_open (Run2 moment ∷ rest) run = (leaves rest).1 Two run.2
one_open (Open n id key ∷ rest) run = absurd (false≢true run.0.1)
one_open (File n path before after ∷ rest) run = absurd (false≢true run.0.1)
one_open (Repaired n changes ∷ rest) run = absurd (false≢true run.0.1)
one_open (Failed n reason ∷ rest) run = absurd (false≢true run.0.1)
one_open (Fail n id key reason ∷ rest) run = absurd (false≢true run.0.1)

-- ---- each other one is done

abbrev one_unless : Bool → ℕ
one_unless done = if done then 0 else 1

one_done : (b : Bool) → b ≡ true → ◌≡◌ {A = ℕ} (one_unless b) 0
one_done true is = refl
one_done false is = absurd (false≢true is)

count_none : (test : Record → Bool) → ◌≡◌ {A = ℕ} (count_by test []) 0
count_none test = let few : count_by test [] ≤ 0 = count_by-le-length test [] in omega (arith, few)

abbrev weight : Bool → ℕ
weight counts = cond counts 1 0

count_one : (test : Record → Bool) (r : Record) (rest : List Record) → count_by test (r ∷ rest) ≡ weight (test r) + count_by test rest
count_one test r rest = sum_by-cons (λ x. cond (test x) 1 0) r rest

-- behind an `open`, and where none is open
abbrev DoneBehind : ℕ → List Record → Type 0
DoneBehind n records = count_by begins_instance records + 1 ≡ count_by ends_instance records + (one_unless (is_done n (past_files records)) + left_open records)

abbrev AllDone : List Record → Type 0
AllDone records = count_by begins_instance records ≡ count_by ends_instance records + left_open records

abbrev WithinDone : List Record → Type 0
WithinDone records = (version : Version) (n : ℕ) → IsRunFrom (Within version n) records → DoneBehind n records

abbrev BetweenDone : List Record → Type 0
BetweenDone records = (version : Version) → IsRunFrom (Between version) records → AllDone records

within_done : (rest : List Record) → WithinDone rest → BetweenDone rest → (r : Record) → WithinDone (r ∷ rest)
within_done rest within' between (Run moment) version n run = absurd run.1
within_done rest within' between (Run2 moment) version n run = absurd (later_apart (Within version n) tt run.1)
within_done rest within' between (Open m id key) version n run = absurd (false≢true run.0.1)
within_done rest within' between (File m path before after) version n run =
    let P : ℕ → Type 0 = λ k. DoneBehind k rest in
    let all : DoneBehind n rest = subst P (sym (numbers_same n m (and_right (is_two version) (n == m) run.0.1))) (within' version m run.2) in
    let begun = count_one begins_instance (File m path before after) rest in
    let ended = count_one ends_instance (File m path before after) rest in
    omega (arith, all, begun, ended)
within_done rest within' between (Repaired m changes) version n run =
    let all : AllDone rest = between version run.2 in
    let none = one_done (n == m) run.0.1 in
    let begun = count_one begins_instance (Repaired m changes) rest in
    let ended = count_one ends_instance (Repaired m changes) rest in
    omega (arith, all, none, begun, ended)
within_done rest within' between (Failed m reason) version n run =
    let all : AllDone rest = between version run.2 in
    let none = one_done (n == m) run.0.1 in
    let begun = count_one begins_instance (Failed m reason) rest in
    let ended = count_one ends_instance (Failed m reason) rest in
    omega (arith, all, none, begun, ended)
within_done rest within' between (Fail m id key reason) version n run = absurd (false≢true run.0.1)

between_done : (rest : List Record) → WithinDone rest → BetweenDone rest → (r : Record) → BetweenDone (r ∷ rest)
between_done rest within' between (Run moment) version run = absurd run.1
between_done rest within' between (Run2 moment) version run = absurd (later_apart (Between version) tt run.1)
between_done rest within' between (Open n id key) version run =
    let all : DoneBehind n rest = within' version n run.2 in
    let begun = count_one begins_instance (Open n id key) rest in
    let ended = count_one ends_instance (Open n id key) rest in
    omega (arith, all, begun, ended)
between_done rest within' between (File n path before after) version run = absurd (false≢true (and_right (is_two version) false run.0.1))
between_done rest within' between (Repaired n changes) version run = absurd (false≢true run.0.1)
between_done rest within' between (Failed n reason) version run = absurd (false≢true run.0.1)
between_done rest within' between (Fail n id key reason) version run =
    let all : AllDone rest = between version run.2 in
    let begun = count_one begins_instance (Fail n id key reason) rest in
    let ended = count_one ends_instance (Fail n id key reason) rest in
    omega (arith, all, begun, ended)

none_left : AllDone []
none_left =
    let begun = count_none begins_instance in
    let ended = count_none ends_instance in
    omega (arith, begun, ended)

none_behind : (n : ℕ) → DoneBehind n []
none_behind n =
    let begun = count_none begins_instance in
    let ended = count_none ends_instance in
    omega (arith, begun, ended)

done_each : (records : List Record) → WithinDone records × BetweenDone records
done_each [] = (λ version n run. none_behind n, λ version run. none_left)
done_each (r ∷ rest) =
    let both = done_each rest in
    (within_done rest both.0 both.1 r, between_done rest both.0 both.1 r)

pub others_done : (records : List Record) → IsRunFrom Start records → count_by begins_instance records ≡ count_by ends_instance records + left_open records
others_done [] run = none_left
others_done (Run moment ∷ rest) run = absurd run.1
others_done (Run2 moment ∷ rest) run =
    let all : AllDone rest = (done_each rest).1 Two run.2 in
    let begun = count_one begins_instance (Run2 moment) rest in
    let ended = count_one ends_instance (Run2 moment) rest in
    omega (arith, all, begun, ended)
others_done (Open n id key ∷ rest) run = absurd (false≢true run.0.1)
others_done (File n path before after ∷ rest) run = absurd (false≢true run.0.1)
others_done (Repaired n changes ∷ rest) run = absurd (false≢true run.0.1)
others_done (Failed n reason ∷ rest) run = absurd (false≢true run.0.1)
others_done (Fail n id key reason ∷ rest) run = absurd (false≢true run.0.1)
