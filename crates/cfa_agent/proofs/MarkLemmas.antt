-- What the marks of a log are after more was added to it.
use Rattle.std.proofs.Common.{◌≡◌, ◌≢◌, ⊎_elim, ℕ, suc, ◌+◌, ◌<◌, ◌≤◌, ◌^◌, Bool, true, false, ◌||◌, ◌==◌, List, [], ◌∷◌, ◌++◌, length, take, drop, All, Some, None, Option, codes, refl, sym, ap, subst, ◌∙◌, arith, append-nil, append_assoc}
use Rattle.std.specs.Prelude.{if◌then◌else◌}
use Rattle.std.specs.Fmt.{decimal}
use Rattle.std.specs.List.{slice_split}
use Rattle.std.specs.Option.{option_or, option_to_list}
use Rattle.std.specs.Str.{bytes_eq}
use Rattle.std.specs.Str.Parse.{digits_value}
use Rattle.std.proofs.lemmas.Bool.{eq-eqb, false≢true}
use Rattle.std.proofs.lemmas.Bool.Decides.{eqb_tells}
use Rattle.std.proofs.lemmas.Fmt.{digits_value-decimal}
use Rattle.std.proofs.lemmas.List.Elements.{All-nil, All-cons, All-head, All-tail, All-append, All-take}
use Rattle.std.proofs.lemmas.List.{length-take-le}
use Rattle.std.proofs.lemmas.List.Folds.{find-append}
use Rattle.std.proofs.lemmas.List.Splits.{slice_split_at}
use Rattle.cfa_base.specs.declared.places.PromiseId.{PromiseId}
use Rattle.cfa_base.specs.lemmas.Lists.{option_or-none}
use Rattle.cfa_base.specs.lemmas.Numerals.{numerals}
use Rattle.cfa_base.specs.Lacking.{Lacks}
use Rattle.cfa_rows.specs.lemmas.Cuts.{Lacks-from_test}
use Rattle.cfa_rows.specs.lemmas.Numbers.{decimal-lacks}
use Rattle.cfa_outside.specs.declared.sites.Call.{Call}
use Rattle.cfa_outside.specs.declared.sites.Change.{Change}
use Rattle.cfa_outside.specs.declared.sites.Change.TheVariants.{PutFile, PutDir, Remove, SetPerms, PutService, PutLock, Append}
use Rattle.cfa_outside.specs.declared.worlds.World.{World}
use Rattle.cfa_outside.specs.Sites.{after_change}
use Rattle.cfa_outside.specs.declared.sites.Entry.{Entry}
use Rattle.cfa_outside.specs.declared.sites.Entry.TheVariants.{Did, Refused}
use Rattle.cfa_journal.specs.declared.records.Digest.{Digest}
use Rattle.cfa_journal.specs.declared.records.Record.{Record}
use Rattle.cfa_journal.specs.declared.records.Record.TheVariants.{Run2, Open, File, Repaired, Failed, Fail}
use Rattle.cfa_journal.specs.Records.{record_text, fields_of, id_text, reason_text}
use Rattle.cfa_acts.specs.declared.acts.Reason.{Reason}
use Rattle.cfa_acts.specs.declared.acts.Reason.TheVariants.{Fault}
use Rattle.cfa_locks.specs.Locks.{key_of}
use Rattle.cfa_resolve.specs.declared.instances.Instance.{Instance}
use Rattle.cfa_states.specs.Tellers.{Actuated, after_all}
use Rattle.cfa_agent.specs.Actuations.{Mark, Done, mark_of, done_by, begun_by, number_of, appended, changed, file_record, begun_record, run_record, closing_record, is_change, is_some_change, entries_of}
use Rattle.cfa_agent.specs.Locking.{lock_entries}
use Rattle.cfa_agent.specs.Marks.{is_closing, closed_by, closed_in, is_of_act, first_closed, begins_with_file, is_file_record, counted_on, mark_closed, marks_behind, marks_of}
use Rattle.cfa_agent.specs.Standing.{Gives, IsWholeLog}

-- ---- what a record closes

abbrev is_space : ℕ → Bool
is_space byte = byte == 32

other_byte : (b : ℕ) → b ≢ 32 → is_space b ≡ false
other_byte b other = ⊎_elim (λ same. absurd (other same.1)) (λ differs. differs.0) (eqb_tells b 32)

no_spaces : (text : List ℕ) → Lacks 32 text → All (λ byte. is_space byte ≡ false) text
no_spaces [] lacks = All-nil (λ byte. is_space byte ≡ false)
no_spaces (b ∷ bs) lacks =
    All-cons (λ byte. is_space byte ≡ false) b bs (other_byte b (All-head (λ b. b ≢ 32) b bs lacks)) (no_spaces bs (All-tail (λ b. b ≢ 32) b bs lacks))

-- a word, a number and something more are the first two fields
two_fields : (word : List ℕ) (n : ℕ) (rest : List ℕ) → Lacks 32 word → n < 2 ^ 64 → slice_split is_space (word ++ 32 ∷ (decimal n ++ 32 ∷ rest)) ≡ word ∷ (decimal n ∷ slice_split is_space rest)
two_fields word n rest lacks small =
    slice_split_at is_space word 32 (decimal n ++ 32 ∷ rest) (no_spaces word lacks) refl
    ∙ ap (λ fields. word ∷ fields) (slice_split_at is_space (decimal n) 32 rest (no_spaces (decimal n) (decimal-lacks 32 n refl small)) refl)

closed_two : (word : List ℕ) (n : ℕ) (rest : List ℕ) → Lacks 32 word → n < 2 ^ 64 → closed_in (word ++ 32 ∷ (decimal n ++ 32 ∷ rest)) ≡ (if is_closing word then Some n else None)
unfolding closed_in
closed_two word n rest lacks small =
    ap closed_by (two_fields word n rest lacks small)
    ∙ ap (λ m. if is_closing word then Some m else None) (digits_value-decimal numerals n small)

-- a record of one field only closes nothing
closed_first : (word rest : List ℕ) → Lacks 32 word → is_closing word ≡ false → closed_in (word ++ 32 ∷ rest) ≡ None
unfolding closed_in
closed_first word rest lacks other =
    ap closed_by (slice_split_at is_space word 32 rest (no_spaces word lacks) refl) ∙ by_fields (slice_split is_space rest) where
      by_fields : (fields : List (List ℕ)) → closed_by (word ∷ fields) ≡ None
      by_fields [] = refl
      by_fields (number ∷ others) = ap (λ b. if b then Some (digits_value 10 number) else None) other

abbrev line_of : Record → List ℕ
line_of written = record_text written ++ 10 ∷ []

closes_run : (moment : ℕ) → closed_in (line_of (Run2 moment)) ≡ None
unfolding record_text
closes_run moment = closed_first (codes "run") (fields_of (Run2 moment) ++ 10 ∷ []) (Lacks-from_test 32 (codes "run") refl) refl

closes_open : (n : ℕ) (id : PromiseId) (key : List ℕ) → closed_in (line_of (Open n id key)) ≡ None
unfolding record_text
closes_open n id key = closed_first (codes "open") (fields_of (Open n id key) ++ 10 ∷ []) (Lacks-from_test 32 (codes "open") refl) refl

-- a number field, with more behind it
with_end : (word : List ℕ) (n : ℕ) (rest : List ℕ) → Lacks 32 word → n < 2 ^ 64 → closed_in (word ++ 32 ∷ ((decimal n ++ 32 ∷ rest) ++ 10 ∷ [])) ≡ (if is_closing word then Some n else None)
with_end word n rest lacks small =
    ap (λ end. closed_in (word ++ 32 ∷ end)) (append_assoc (decimal n) (32 ∷ rest) (10 ∷ [])) ∙ closed_two word n (rest ++ 10 ∷ []) lacks small

closes_repaired : (n changes : ℕ) → n < 2 ^ 64 → closed_in (line_of (Repaired n changes)) ≡ Some n
unfolding record_text
closes_repaired n changes small = with_end (codes "done") n (codes "repaired" ++ 32 ∷ decimal changes) (Lacks-from_test 32 (codes "done") refl) small

closes_failed : (n reason : ℕ) → n < 2 ^ 64 → closed_in (line_of (Failed n reason)) ≡ Some n
unfolding record_text
closes_failed n reason small = with_end (codes "done") n (codes "failed" ++ 32 ∷ reason_text reason) (Lacks-from_test 32 (codes "done") refl) small

closes_fail : (n : ℕ) (id : PromiseId) (key : List ℕ) (reason : ℕ) → n < 2 ^ 64 → closed_in (line_of (Fail n id key reason)) ≡ Some n
unfolding record_text
closes_fail n id key reason small = with_end (codes "fail") n (id_text id ++ 32 ∷ (key ++ 32 ∷ reason_text reason)) (Lacks-from_test 32 (codes "fail") refl) small

closes_closing : (n changes : ℕ) (failure : Option Reason) → n < 2 ^ 64 → closed_in (line_of (closing_record n changes failure)) ≡ Some n
closes_closing n changes None small = closes_repaired n changes small
closes_closing n changes (Some reason) small = closes_failed n (number_of reason) small

-- ---- which records leave the count of changes

first_word : (word rest : List ℕ) → Lacks 32 word → is_file_record (word ++ 32 ∷ rest) ≡ bytes_eq word (codes "file")
unfolding is_file_record
first_word word rest lacks = ap begins_with_file (slice_split_at is_space word 32 rest (no_spaces word lacks) refl)

counts_file : (n : ℕ) (path : List ℕ) (before after : Digest) → is_file_record (line_of (File n path before after)) ≡ true
unfolding record_text
counts_file n path before after = first_word (codes "file") (fields_of (File n path before after) ++ 10 ∷ []) (Lacks-from_test 32 (codes "file") refl)

counts_fail : (n : ℕ) (id : PromiseId) (key : List ℕ) (reason : ℕ) → is_file_record (line_of (Fail n id key reason)) ≡ false
unfolding record_text
counts_fail n id key reason = first_word (codes "fail") (fields_of (Fail n id key reason) ++ 10 ∷ []) (Lacks-from_test 32 (codes "fail") refl)

counts_closing : (n changes : ℕ) (failure : Option Reason) → is_file_record (line_of (closing_record n changes failure)) ≡ false
unfolding record_text
counts_closing n changes None = first_word (codes "done") (fields_of (Repaired n changes) ++ 10 ∷ []) (Lacks-from_test 32 (codes "done") refl)
counts_closing n changes (Some reason) = first_word (codes "done") (fields_of (Failed n (number_of reason)) ++ 10 ∷ []) (Lacks-from_test 32 (codes "done") refl)

counted_act : (k : ℕ) (change : Change) → is_of_act change ≡ true → counted_on k change ≡ suc k
counted_act k (PutFile path bytes) of_act = refl
counted_act k (PutDir path) of_act = refl
counted_act k (Remove path) of_act = refl
counted_act k (SetPerms path perms) of_act = refl
counted_act k (PutService name row) of_act = refl
counted_act k (PutLock key moment) of_act = absurd (false≢true of_act)
counted_act k (Append bytes) of_act = absurd (false≢true of_act)

-- the record before a change leaves it
marks_filed : (k n : ℕ) (world : World) (change : Change) (rest : List Entry) → marks_behind k (file_record n change world ++ rest) ≡ marks_behind k rest
marks_filed k n world (PutFile path bytes) rest = ap (λ b. marks_behind (if b then k else 0) rest) (counts_file n path _ _)
marks_filed k n world (PutDir path) rest = refl
marks_filed k n world (Remove path) rest = refl
marks_filed k n world (SetPerms path perms) rest = refl
marks_filed k n world (PutService name row) rest = refl
marks_filed k n world (PutLock key moment) rest = refl
marks_filed k n world (Append bytes) rest = refl

marks_begun : (k n : ℕ) (world : World) (next : Option Change) (rest : List Entry) → marks_behind k (begun_record n world next ++ rest) ≡ marks_behind k rest
marks_begun k n world None rest = refl
marks_begun k n world (Some change) rest = marks_filed k n world change rest

-- one more change, with its record
marks_changed : (k n : ℕ) (world : World) (change : Change) (made : List Change) (rest : List Entry) →
    marks_behind k (changed n world (change ∷ made) ++ rest) ≡ marks_behind (counted_on k change) (changed n (after_change change world) made ++ rest)
marks_changed k n world change made rest =
    ap (marks_behind k) (append_assoc (file_record n change world) (Did change ∷ changed n (after_change change world) made) rest)
    ∙ marks_filed k n world change (Did change ∷ (changed n (after_change change world) made ++ rest))

-- ---- marks of a log that goes on

gives_none : Gives [] []
gives_none = record { before = λ more. refl }

gives_both : (a b : List Entry) (x y : List Mark) → Gives a x → Gives b y → Gives (a ++ b) (x ++ y)
gives_both a b x y first second = record {
  before = λ more.
      ap marks_of (append_assoc a b more) ∙ first.before (b ++ more) ∙ ap (λ marks. x ++ marks) (second.before more) ∙ sym (append_assoc x y (marks_of more));
}

pub gives_marks : (log : List Entry) (marks : List Mark) → Gives log marks → marks_of log ≡ marks
gives_marks log marks gives = ap marks_of (sym (append-nil log)) ∙ gives.before [] ∙ append-nil marks

-- a record or a lock has no mark
none_counted : (b : Bool) → ◌≡◌ {A = ℕ} (if b then 0 else 0) 0
none_counted true = refl
none_counted false = refl

gives_append : (bytes : List ℕ) → Gives (Did (Append bytes) ∷ []) []
gives_append bytes = record { before = λ more. ap (λ k. marks_behind k more) (none_counted (is_file_record bytes)) }

gives_lock : (key : List ℕ) (moment : ℕ) → Gives (Did (PutLock key moment) ∷ []) []
gives_lock key moment = record { before = λ more. refl }

gives_run : (moment : ℕ) (has_record : Bool) → Gives (run_record moment has_record) []
gives_run moment true = gives_none
gives_run moment false = gives_append _

-- changes and then a record that closes the instance have no mark
plain_part : (k n : ℕ) (world : World) (made : List Change) (bytes : List ℕ) (more : List Entry) → is_file_record bytes ≡ false →
    marks_behind k (changed n world made ++ (Did (Append bytes) ∷ more)) ≡ marks_of more
plain_part k n world [] bytes more other = ap (λ b. marks_behind (if b then k else 0) more) other
plain_part k n world (change ∷ made) bytes more other =
    marks_changed k n world change made (Did (Append bytes) ∷ more) ∙ plain_part (counted_on k change) n (after_change change world) made bytes more other

-- changes, a refused call and then a record that closes the instance have its mark
refused_part : (k n : ℕ) (world there : World) (made : List Change) (next : Option Change) (call : Call) (m : ℕ) (bytes : List ℕ) (more : List Entry) → All (λ change. is_of_act change ≡ true) made → closed_in bytes ≡ Some m → is_file_record bytes ≡ false →
    marks_behind k (changed n world made ++ (begun_record n there next ++ (Refused call ∷ (Did (Append bytes) ∷ more)))) ≡ record { instance = m; changes = k + length made; call = call } ∷ marks_of more
refused_part k n world there [] next call m bytes more plain closes other =
    marks_begun k n there next (Refused call ∷ (Did (Append bytes) ∷ more))
    ∙ ap (λ closed. mark_closed k call (option_or closed (first_closed more)) ++ marks_behind (counted_on k (Append bytes)) more) closes
    ∙ ap (λ b. record { instance = m; changes = k; call = call } ∷ marks_behind (if b then k else 0) more) other
    ∙ ap (λ j. record { instance = m; changes = j; call = call } ∷ marks_of more) (omega arith)
refused_part k n world there (change ∷ made) next call m bytes more plain closes other =
    marks_changed k n world change made (begun_record n there next ++ (Refused call ∷ (Did (Append bytes) ∷ more)))
    ∙ ap (λ j. marks_behind j (changed n (after_change change world) made ++ (begun_record n there next ++ (Refused call ∷ (Did (Append bytes) ∷ more))))) (counted_act k change (All-head (λ change. is_of_act change ≡ true) change made plain))
    ∙ refused_part (suc k) n (after_change change world) there made next call m bytes more (All-tail (λ change. is_of_act change ≡ true) change made plain) closes other
    ∙ ap (λ j. record { instance = m; changes = j; call = call } ∷ marks_of more) (omega arith)

gives_plain : (n : ℕ) (world : World) (made : List Change) (bytes : List ℕ) → is_file_record bytes ≡ false → Gives (changed n world made ++ (Did (Append bytes) ∷ [])) []
gives_plain n world made bytes other = record { before = λ more. ap marks_of (append_assoc (changed n world made) (Did (Append bytes) ∷ []) more) ∙ plain_part 0 n world made bytes more other }

gives_refused : (n : ℕ) (world there : World) (made : List Change) (next : Option Change) (call : Call) (m : ℕ) (bytes : List ℕ) → All (λ change. is_of_act change ≡ true) made → closed_in bytes ≡ Some m → is_file_record bytes ≡ false →
    Gives (changed n world made ++ (begun_record n there next ++ (Refused call ∷ (Did (Append bytes) ∷ [])))) (record { instance = m; changes = length made; call = call } ∷ [])
gives_refused n world there made next call m bytes plain closes other = record {
  before = λ more.
      ap marks_of (append_assoc (changed n world made) (begun_record n there next ++ (Refused call ∷ (Did (Append bytes) ∷ []))) more
      ∙ ap (λ end. changed n world made ++ end) (append_assoc (begun_record n there next) (Refused call ∷ (Did (Append bytes) ∷ [])) more))
      ∙ refused_part 0 n world there made next call m bytes more plain closes other
      ∙ ap (λ j. record { instance = m; changes = j; call = call } ∷ marks_of more) (omega arith);
}

-- a refused look, and then the records of a failure
gives_look : (moment : ℕ) (has_record : Bool) (call : Call) (n : ℕ) (bytes : List ℕ) → closed_in bytes ≡ Some n →
    Gives (Refused call ∷ (run_record moment has_record ++ Did (Append bytes) ∷ [])) (record { instance = n; changes = 0; call = call } ∷ [])
gives_look moment true call n bytes closes = record {
  before = λ more.
      ap (λ closed. mark_closed 0 call (option_or closed (first_closed more)) ++ marks_behind (counted_on 0 (Append bytes)) more) closes
      ∙ ap (λ k. record { instance = n; changes = 0; call = call } ∷ marks_behind k more) (none_counted (is_file_record bytes));
}
gives_look moment false call n bytes closes = record {
  before = λ more.
      ap (λ closed. mark_closed 0 call (option_or closed (option_or (closed_in bytes) (first_closed more))) ++ marks_behind (counted_on (counted_on 0 (Append (line_of (Run2 moment)))) (Append bytes)) more) (closes_run moment)
      ∙ ap (λ closed. mark_closed 0 call (option_or closed (first_closed more)) ++ marks_behind (counted_on (counted_on 0 (Append (line_of (Run2 moment)))) (Append bytes)) more) closes
      ∙ ap (λ k. record { instance = n; changes = 0; call = call } ∷ marks_behind (counted_on k (Append bytes)) more) (none_counted (is_file_record (line_of (Run2 moment))))
      ∙ ap (λ k. record { instance = n; changes = 0; call = call } ∷ marks_behind k more) (none_counted (is_file_record bytes));
}

-- ---- the entries of an instance

-- a mark that the instance of a number may meet, where its acts do what is planned
abbrev pub CouldMeet : (number : ℕ) → Actuated → Option Mark → Type 0
CouldMeet number planned None = Unit {0}
CouldMeet number planned (Some mark) = (mark.instance ≡ number) × (mark.changes ≤ length planned.changes)

abbrev pub AreOfActs : List Change → Type 0
AreOfActs made = All (λ change. is_of_act change ≡ true) made

module _ (moment n : ℕ) (instance : Instance) (world : World) (has_record : Bool) (small : n < 2 ^ 64) where
  abbrev opened : List Entry
  opened = run_record moment has_record ++ appended (Open n instance.source (key_of instance.text)) ∷ []

  gives_opened : Gives opened []
  gives_opened = gives_both (run_record moment has_record) (appended (Open n instance.source (key_of instance.text)) ∷ []) [] [] (gives_run moment has_record) (gives_append _)

  -- behind what stands before the first change
  behind_open : (rest : List Entry) (marks : List Mark) → Gives rest marks → Gives (run_record moment has_record ++ appended (Open n instance.source (key_of instance.text)) ∷ rest) marks
  behind_open rest marks gives =
      let P : List Entry → Type 0 = λ log. Gives log marks in
      subst P (append_assoc (run_record moment has_record) (appended (Open n instance.source (key_of instance.text)) ∷ []) rest) (gives_both opened rest [] marks gives_opened gives)

  gives_failing : (reason : Reason) → Gives (run_record moment has_record ++ appended (Fail n instance.source (key_of instance.text) (number_of reason)) ∷ []) []
  gives_failing reason = gives_both (run_record moment has_record) (appended (Fail n instance.source (key_of instance.text) (number_of reason)) ∷ []) [] [] (gives_run moment has_record) (gives_append _)

  gives_calm : (made : List Change) (failure : Option Reason) → Gives (entries_of moment n instance world (record { changes = made; begun = None; refused = None; failure = failure; is_begun = is_some_change made }) has_record) []
  unfolding entries_of
  gives_calm [] None = gives_none
  gives_calm [] (Some reason) = gives_failing reason
  gives_calm (first ∷ made) failure = behind_open _ [] (gives_plain n world (first ∷ made) _ (counts_closing n (length (first ∷ made)) failure))

  gives_faulty : (made : List Change) (next : Option Change) (call : Call) → AreOfActs made → Gives (entries_of moment n instance world (record { changes = made; begun = next; refused = Some call; failure = Some Fault; is_begun = is_some_change made || is_change call }) has_record) (record { instance = n; changes = length made; call = call } ∷ [])
  unfolding entries_of
  gives_faulty [] next call plain = by_call (is_change call) where
    by_call : (b : Bool) → Gives (entries_of moment n instance world (record { changes = []; begun = next; refused = Some call; failure = Some Fault; is_begun = b }) has_record) (record { instance = n; changes = 0; call = call } ∷ [])
    by_call true = behind_open _ _ (gives_refused n world world [] next call n _ plain (closes_closing n 0 (Some Fault) small) (counts_closing n 0 (Some Fault)))
    by_call false = gives_look moment has_record call n _ (closes_fail n instance.source (key_of instance.text) (number_of Fault) small)
  gives_faulty (first ∷ made) next call plain = behind_open _ _ (gives_refused n world (after_all (first ∷ made) world) (first ∷ made) next call n _ plain (closes_closing n (length (first ∷ made)) (Some Fault) small) (counts_closing n (length (first ∷ made)) (Some Fault)))

-- the entries of an instance have the mark that it met, and no other
pub gives_entries : (moment n : ℕ) (instance : Instance) (world : World) (has_record : Bool) (planned : Actuated) (m : Option Mark) → n < 2 ^ 64 → AreOfActs planned.changes → CouldMeet n planned m →
    Gives (entries_of moment n instance world (done_by planned m) has_record) (option_to_list m)
gives_entries moment n instance world has_record planned None small plain could = gives_calm moment n instance world has_record small planned.changes planned.failure
gives_entries moment n instance world has_record planned (Some mark) small plain could =
    let P : List Mark → Type 0 = λ marks. Gives (entries_of moment n instance world (done_by planned (Some mark)) has_record) marks in
    subst P (ap (λ (m : Mark). m ∷ []) (λ i. record { instance = sym could.0 i; changes = length-take-le mark.changes planned.changes could.1 i; call = mark.call }))
    (gives_faulty moment n instance world has_record small (take mark.changes planned.changes) (begun_by mark.call (drop mark.changes planned.changes)) mark.call (All-take (λ change. is_of_act change ≡ true) mark.changes planned.changes plain))

-- ---- whole logs

pub whole_none : IsWholeLog 0 []
whole_none = record { gives = gives_none; within = All-nil (λ (m : Mark). m.instance ≤ 0) }

gives_locks : (moment : ℕ) (has_locks : Bool) (instance : Instance) → Gives (lock_entries moment has_locks instance) []
gives_locks moment true instance = gives_lock (key_of instance.text) moment
gives_locks moment false instance = gives_none

-- what an instance adds, with its lock
abbrev pub added : (moment number : ℕ) → Instance → World → Done → (has_record has_locks : Bool) → List Entry
added moment number instance world done has_record has_locks =
    entries_of moment number instance world done has_record ++ lock_entries moment has_locks instance

gives_added : (moment n : ℕ) (instance : Instance) (world : World) (has_record has_locks : Bool) (planned : Actuated) (m : Option Mark) → n < 2 ^ 64 → AreOfActs planned.changes → CouldMeet n planned m →
    Gives (added moment n instance world (done_by planned m) has_record has_locks) (option_to_list m)
gives_added moment n instance world has_record has_locks planned m small plain could =
    let P : List Mark → Type 0 = λ marks. Gives (added moment n instance world (done_by planned m) has_record has_locks) marks in
    subst P (append-nil (option_to_list m)) (gives_both _ _ (option_to_list m) [] (gives_entries moment n instance world has_record planned m small plain could) (gives_locks moment has_locks instance))

marks_both : (log more : List Entry) (marks : List Mark) → Gives log (marks_of log) → Gives more marks → marks_of (log ++ more) ≡ marks_of log ++ marks
marks_both log more marks gives gives' = gives.before more ∙ ap (λ marks. marks_of log ++ marks) (gives_marks more marks gives')

within_more : (n k : ℕ) (marks : List Mark) → n ≤ k → All (λ (m : Mark). m.instance ≤ n) marks → All (λ (m : Mark). m.instance ≤ k) marks
within_more n k [] le within = All-nil (λ (m : Mark). m.instance ≤ k)
within_more n k (m ∷ marks) le within =
    let here : m.instance ≤ n = All-head (λ (m : Mark). m.instance ≤ n) m marks within in
    All-cons (λ (m : Mark). m.instance ≤ k) m marks (omega arith) (within_more n k marks le (All-tail (λ (m : Mark). m.instance ≤ n) m marks within))

within_in : (n : ℕ) (planned : Actuated) (m : Option Mark) → CouldMeet n planned m → All (λ (m : Mark). m.instance ≤ n) (option_to_list m)
within_in n planned None could = All-nil (λ (m : Mark). m.instance ≤ n)
within_in n planned (Some mark) could =
    let same : mark.instance ≡ n = could.0 in
    All-cons (λ (m : Mark). m.instance ≤ n) mark [] (omega arith) (All-nil (λ (m : Mark). m.instance ≤ n))

whole_both : (n k : ℕ) (log more : List Entry) (marks : List Mark) → n ≤ k → IsWholeLog n log → Gives more marks → All (λ (m : Mark). m.instance ≤ k) marks → IsWholeLog k (log ++ more)
whole_both n k log more marks le whole gives within =
    let e = marks_both log more marks whole.gives gives in
    let P : List Mark → Type 0 = λ all. Gives (log ++ more) all in
    let Q : List Mark → Type 0 = λ all. All (λ (m : Mark). m.instance ≤ k) all in
    record {
      gives = subst P (sym e) (gives_both log more (marks_of log) marks whole.gives gives);
      within = subst Q (sym e) (All-append (λ (m : Mark). m.instance ≤ k) (marks_of log) marks (within_more n k (marks_of log) le whole.within) within);
    }

-- the next instance leaves the log whole
pub whole_next : (n moment : ℕ) (log : List Entry) (instance : Instance) (world : World) (has_record has_locks : Bool) (planned : Actuated) (m : Option Mark) → suc n < 2 ^ 64 → IsWholeLog n log → AreOfActs planned.changes → CouldMeet (suc n) planned m →
    IsWholeLog (suc n) (log ++ added moment (suc n) instance world (done_by planned m) has_record has_locks)
whole_next n moment log instance world has_record has_locks planned m small whole plain could =
    whole_both n (suc n) log _ (option_to_list m) (omega arith) whole (gives_added moment (suc n) instance world has_record has_locks planned m small plain could) (within_in (suc n) planned m could)

-- so does a lock alone, which has no mark
pub whole_lock : (n moment : ℕ) (log : List Entry) (instance : Instance) (has_locks : Bool) → IsWholeLog n log → IsWholeLog n (log ++ lock_entries moment has_locks instance)
whole_lock n moment log instance has_locks whole = whole_both n n log _ [] (omega arith) whole (gives_locks moment has_locks instance) (All-nil (λ (m : Mark). m.instance ≤ n))

pub marks_lock : (n moment : ℕ) (log : List Entry) (instance : Instance) (has_locks : Bool) → IsWholeLog n log → marks_of (log ++ lock_entries moment has_locks instance) ≡ marks_of log
marks_lock n moment log instance has_locks whole = marks_both log _ [] whole.gives (gives_locks moment has_locks instance) ∙ append-nil (marks_of log)

pub marks_next : (n moment : ℕ) (log : List Entry) (instance : Instance) (world : World) (has_record has_locks : Bool) (planned : Actuated) (m : Option Mark) → suc n < 2 ^ 64 → IsWholeLog n log → AreOfActs planned.changes → CouldMeet (suc n) planned m →
    marks_of (log ++ added moment (suc n) instance world (done_by planned m) has_record has_locks) ≡ marks_of log ++ option_to_list m
marks_next n moment log instance world has_record has_locks planned m small whole plain could =
    marks_both log _ (option_to_list m) whole.gives (gives_added moment (suc n) instance world has_record has_locks planned m small plain could)

-- ---- marks of numbers

other_mark : (a b : ℕ) → a ≢ b → (a == b) ≡ false
other_mark a b other = ⊎_elim (λ same. absurd (other same.1)) (λ differs. differs.0) (eqb_tells a b)

found_none : (marks : List Mark) (n k : ℕ) → n < k → All (λ (m : Mark). m.instance ≤ n) marks → mark_of marks k ≡ None
found_none [] n k lt within = refl
found_none (m ∷ marks) n k lt within =
    let here : m.instance ≤ n = All-head (λ (m : Mark). m.instance ≤ n) m marks within in
    let other : m.instance ≢ k = λ e. omega arith in
    ap (λ b. if b then Some m else mark_of marks k) (other_mark m.instance k other) ∙ found_none marks n k lt (All-tail (λ (m : Mark). m.instance ≤ n) m marks within)

found_in : (n : ℕ) (planned : Actuated) (m : Option Mark) → CouldMeet n planned m → mark_of (option_to_list m) n ≡ m
found_in n planned None could = refl
found_in n planned (Some mark) could = ap (λ b. if b then Some mark else None) (eq-eqb mark.instance n could.0)

found_other : (n k : ℕ) (planned : Actuated) (m : Option Mark) → k < n → CouldMeet n planned m → mark_of (option_to_list m) k ≡ None
found_other n k planned None lt could = refl
found_other n k planned (Some mark) lt could =
    let same : mark.instance ≡ n = could.0 in
    let other : mark.instance ≢ k = λ e. omega arith in
    ap (λ b. if b then Some mark else None) (other_mark mark.instance k other)

-- the marks of earlier instances stay
pub mark_before : (n k moment : ℕ) (log : List Entry) (instance : Instance) (world : World) (has_record has_locks : Bool) (planned : Actuated) (m : Option Mark) → suc n < 2 ^ 64 → k ≤ n → IsWholeLog n log → AreOfActs planned.changes → CouldMeet (suc n) planned m →
    mark_of (marks_of (log ++ added moment (suc n) instance world (done_by planned m) has_record has_locks)) k ≡ mark_of (marks_of log) k
mark_before n k moment log instance world has_record has_locks planned m small le whole plain could =
    ap (λ marks. mark_of marks k) (marks_next n moment log instance world has_record has_locks planned m small whole plain could)
    ∙ find-append (λ (m : Mark). m.instance == k) (marks_of log) (option_to_list m)
    ∙ ap (option_or (mark_of (marks_of log) k)) (found_other (suc n) k planned m (omega arith) could)
    ∙ option_or-none (mark_of (marks_of log) k)

-- and the next instance has the mark that it met
pub mark_next : (n moment : ℕ) (log : List Entry) (instance : Instance) (world : World) (has_record has_locks : Bool) (planned : Actuated) (m : Option Mark) → suc n < 2 ^ 64 → IsWholeLog n log → AreOfActs planned.changes → CouldMeet (suc n) planned m →
    mark_of (marks_of (log ++ added moment (suc n) instance world (done_by planned m) has_record has_locks)) (suc n) ≡ m
mark_next n moment log instance world has_record has_locks planned m small whole plain could =
    ap (λ marks. mark_of marks (suc n)) (marks_next n moment log instance world has_record has_locks planned m small whole plain could)
    ∙ find-append (λ (m : Mark). m.instance == suc n) (marks_of log) (option_to_list m)
    ∙ ap (λ o. option_or o (mark_of (option_to_list m) (suc n))) (found_none (marks_of log) n (suc n) (omega arith) whole.within)
    ∙ found_in (suc n) planned m could
