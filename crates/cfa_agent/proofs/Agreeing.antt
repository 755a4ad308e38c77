-- A run that agrees with the definition after an instance has ended agreed with it before.
use Rattle.std.proofs.Common.{◌≡◌, ℕ, suc, ◌<◌, ◌≤◌, ◌^◌, Bool, List, ◌++◌, length, Option, sym, ap, subst, ◌∙◌, arith, length-append}
use Rattle.std.proofs.lemmas.List.{drop-append-le}
use Rattle.std.proofs.Math.Seq.{drop-append_seam}
use Rattle.cfa_outside.specs.declared.sites.Entry.{Entry}
use Rattle.cfa_outside.specs.declared.worlds.World.{World}
use Rattle.cfa_outside.specs.Sites.{Told, adds}
use Rattle.cfa_resolve.specs.declared.instances.Instance.{Instance}
use Rattle.cfa_states.specs.Tellers.{Actuated}
use Rattle.cfa_agent.specs.Actuations.{Mark, mark_of, done_by}
use Rattle.cfa_agent.specs.Locking.{lock_entries}
use Rattle.cfa_agent.specs.Marks.{marks_of}
use Rattle.cfa_agent.specs.Standing.{IsWholeLog, Given, since, GoesOn, SameMarks, first_told}
use Rattle.cfa_agent.proofs.MarkLemmas.{AreOfActs, CouldMeet, added, whole_next, whole_lock, marks_lock, mark_before, mark_next}

-- entries behind which a whole log is whole, and has the same marks of all earlier instances
pub record KeepsMarks (n n' : ℕ) (more : List Entry) : Type 0 where
  pub up : n ≤ n'
  pub whole : (log : List Entry) → IsWholeLog n log → IsWholeLog n' (log ++ more)
  pub before : (log : List Entry) → IsWholeLog n log → (k : ℕ) → k ≤ n → mark_of (marks_of (log ++ more)) k ≡ mark_of (marks_of log) k

-- so are those of an instance with acts, with its lock
pub acts_keep : (n moment : ℕ) (instance : Instance) (world : World) (has_record has_locks : Bool) (planned : Actuated) (m : Option Mark) →
    suc n < 2 ^ 64 → AreOfActs planned.changes → CouldMeet (suc n) planned m →
    KeepsMarks n (suc n) (added moment (suc n) instance world (done_by planned m) has_record has_locks)
acts_keep n moment instance world has_record has_locks planned m small plain could = record {
  up = omega arith;
  whole = λ log whole. whole_next n moment log instance world has_record has_locks planned m small whole plain could;
  before = λ log whole k le. mark_before n k moment log instance world has_record has_locks planned m small le whole plain could;
}

-- and a lock
pub lock_keeps : (n moment : ℕ) (instance : Instance) (has_locks : Bool) → KeepsMarks n n (lock_entries moment has_locks instance)
lock_keeps n moment instance has_locks = record {
  up = omega arith;
  whole = λ log whole. whole_lock n moment log instance has_locks whole;
  before = λ log whole k le. ap (λ marks. mark_of marks k) (marks_lock n moment log instance has_locks whole);
}

-- ---- what was added

pub since_more : (g : Given) (t : Told) (more : List Entry) → length g.log ≤ length t.log → since g (adds more t) ≡ since g t ++ more
since_more g t more longer = drop-append-le (length g.log) t.log more longer

goes_on_more : (n n' : ℕ) (g : Given) (t : Told) (more : List Entry) → KeepsMarks n n' more → GoesOn n g t → GoesOn n' g (adds more t)
goes_on_more n n' g t more keeps on =
    let longer : length g.log ≤ length t.log = on.longer in
    let P : List Entry → Type 0 = λ log. IsWholeLog n' log in
    record {
      longer = omega (arith, length-append t.log more);
      whole = subst P (sym (since_more g t more longer)) (keeps.whole (since g t) on.whole);
    }

-- the marks that a start has after the entries, it had before them
pub same_before : (n n' : ℕ) (g : Given) (t : Told) (more : List Entry) → KeepsMarks n n' more → GoesOn n g t →
    (GoesOn n' g (adds more t) → SameMarks n' g.start.marks (marks_of (since g (adds more t)))) →
    SameMarks n g.start.marks (marks_of (since g t))
same_before n n' g t more keeps on later k le =
    let up : n ≤ n' = keeps.up in
    later (goes_on_more n n' g t more keeps on) k (omega arith)
    ∙ ap (λ log. mark_of (marks_of log) k) (since_more g t more on.longer)
    ∙ keeps.before (since g t) on.whole k le

-- and the mark that the next instance met is that of the start
pub met_next : (n moment : ℕ) (g : Given) (t : Told) (instance : Instance) (world : World) (has_record has_locks : Bool) (planned : Actuated) (m : Option Mark) →
    suc n < 2 ^ 64 → AreOfActs planned.changes → CouldMeet (suc n) planned m → GoesOn n g t →
    (GoesOn (suc n) g (adds (added moment (suc n) instance world (done_by planned m) has_record has_locks) t) →
    SameMarks (suc n) g.start.marks (marks_of (since g (adds (added moment (suc n) instance world (done_by planned m) has_record has_locks) t)))) →
    mark_of g.start.marks (suc n) ≡ m
met_next n moment g t instance world has_record has_locks planned m small plain could on later =
    let more : List Entry = added moment (suc n) instance world (done_by planned m) has_record has_locks in
    let keeps : KeepsMarks n (suc n) more = acts_keep n moment instance world has_record has_locks planned m small plain could in
    later (goes_on_more n (suc n) g t more keeps on) (suc n) (omega arith)
    ∙ ap (λ log. mark_of (marks_of log) (suc n)) (since_more g t more on.longer)
    ∙ mark_next n moment (since g t) instance world has_record has_locks planned m small on.whole plain could

-- ---- at what a run came to

since_first : (g : Given) (log : List Entry) → since g (adds log (first_told g)) ≡ log
since_first g log = drop-append_seam g.log log

pub on_first : (n : ℕ) (g : Given) (log : List Entry) → IsWholeLog n log → GoesOn n g (adds log (first_told g))
on_first n g log whole =
    let P : List Entry → Type 0 = λ entries. IsWholeLog n entries in
    record {
      longer = omega (arith, length-append g.log log);
      whole = subst P (sym (since_first g log)) whole;
    }
