-- What a call does is one thing alone.
use Rattle.std.proofs.Common.{◌≡◌, ◌<◌, ◌≤◌, ℕ, Bool, true, false, List, Some, None, Option, refl, sym, ap, subst, ◌∙◌, arith}
use Rattle.cfa_base.specs.lemmas.Options.{one_some}
use Rattle.cfa_base.specs.declared.limits.TheConstants.{LAST_MOMENT}
use Rattle.cfa_words.specs.declared.words.Options.{Options}
use Rattle.cfa_words.specs.declared.words.Request.{Request}
use Rattle.cfa_words.specs.declared.words.Request.TheVariants.{Run, Show, Check, Audit, Edits, History}
use Rattle.cfa_outside.specs.declared.worlds.World.{World}
use Rattle.cfa_printer.specs.Printing.{printed}
use Rattle.cfa_history.specs.Laws.{RowsAreOne}
use Rattle.cfa_journal.specs.Journals.{OneJournal, NeverBoth, OneBadRecord}
use Rattle.cfa_sources.specs.Sources.{Texts}
use Rattle.cfa_sources.specs.Laws.{FileTreeIsOne, FileLineIsOne, FileNeverBoth, PolicyTreeIsOne, PolicyLineIsOne, PolicyNeverBoth}
use Rattle.cfa_states.specs.Passes.{run}
use Rattle.cfa_states.specs.Tellers.{open_walk}
use Rattle.cfa_states.specs.Views.{Setting}
use Rattle.cfa_conflict.specs.declared.verdicts.Verdict.{Verdict}
use Rattle.cfa_conflict.specs.declared.verdicts.Verdict.TheVariants.{Accepted, Conflict as InConflictBy}
use Rattle.cfa_conflict.specs.Analyses.{analysis_of}
use Rattle.cfa_agent.specs.Actuations.{Mark}
use Rattle.cfa_agent.specs.Ran.{start_of}
use Rattle.cfa_agent.specs.Runs.{Start}
use Rattle.cfa_main.specs.Calls.{TakesPolicy, TakesRun, Task, runs, judges, searches, shows, RefusesRequest, TakesRequest, TakenIsNotRefused, DoesOneThing, words_refused, moment_refused, request_refused, work_done, StrictRunDoes, Judges, DoesTask}
use Rattle.cfa_main.specs.Done.{Done, refused_with}
use Rattle.cfa_main.specs.Stages.{OneSetting}
use Rattle.cfa_main.proofs.AuditLemmas.{audit_is_one, journal_line_is_one, journal_never_both}
use Rattle.cfa_main.proofs.HistoryLemmas.{history_is_one, history_never_both}
use Rattle.cfa_main.proofs.PrepareLemmas.{none_or_some}
use Rattle.cfa_main.proofs.SearchLemmas.{search_one}

-- what is known of files, policies and journals
pub record Laws : Type 0 where
  pub tree_one : FileTreeIsOne
  pub file_line : FileLineIsOne
  pub file_both : FileNeverBoth
  pub policy_tree : PolicyTreeIsOne
  pub policy_line : PolicyLineIsOne
  pub policy_both : PolicyNeverBoth
  pub journal_one : OneJournal
  pub journal_both : NeverBoth
  pub journal_bad : OneBadRecord
  pub rows_one : RowsAreOne

-- ---- settings

same_setting : (a b : Setting) → a.policy ≡ b.policy → a.classes ≡ b.classes → a ≡ b
same_setting a b policy classes i = record { policy = policy i; classes = classes i }

one_setting : PolicyTreeIsOne → (texts : Texts) (moment : ℕ) (policy : List ℕ) (handed_in : List (List ℕ)) (s t : Setting) →
    TakesPolicy texts moment policy handed_in s → TakesPolicy texts moment policy handed_in t → s ≡ t
one_setting one texts moment policy handed_in s t a b =
    same_setting s t (one texts policy s.policy t.policy a.valid_as b.valid_as) (a.classes_are ∙ sym b.classes_are)

pub runs_in_one : PolicyTreeIsOne → OneSetting
runs_in_one one texts moment (Run name options) a b l k m n r q = one_setting one texts moment name options.classes a b r.takes_policy q.takes_policy
runs_in_one one texts moment (Show name) a b l k m n r q = absurd r
runs_in_one one texts moment (Check name classes) a b l k m n r q = absurd r
runs_in_one one texts moment (Audit name) a b l k m n r q = absurd r
runs_in_one one texts moment (Edits name classes) a b l k m n r q = absurd r
runs_in_one one texts moment (History name) a b l k m n r q = absurd r

-- ---- requests

pub taken_is_not_refused : Laws → TakenIsNotRefused
taken_is_not_refused laws texts moment (Run name options) (runs setting l m) line r s = laws.policy_both texts name line setting.policy r.takes_policy.valid_as s
taken_is_not_refused laws texts moment (Run name options) (judges setting) line r s = absurd r
taken_is_not_refused laws texts moment (Run name options) (searches setting) line r s = absurd r
taken_is_not_refused laws texts moment (Run name options) (shows text) line r s = absurd r
taken_is_not_refused laws texts moment (Show name) (runs setting l m) line r s = absurd r
taken_is_not_refused laws texts moment (Show name) (judges setting) line r s = absurd r
taken_is_not_refused laws texts moment (Show name) (searches setting) line r s = absurd r
taken_is_not_refused laws texts moment (Show name) (shows text) line r s = laws.file_both texts 0 name line r.tree r.reads s
taken_is_not_refused laws texts moment (Check name classes) (runs setting l m) line r s = absurd r
taken_is_not_refused laws texts moment (Check name classes) (judges setting) line r s = laws.policy_both texts name line setting.policy r.valid_as s
taken_is_not_refused laws texts moment (Check name classes) (searches setting) line r s = absurd r
taken_is_not_refused laws texts moment (Check name classes) (shows text) line r s = absurd r
taken_is_not_refused laws texts moment (Audit name) (runs setting l m) line r s = absurd r
taken_is_not_refused laws texts moment (Audit name) (judges setting) line r s = absurd r
taken_is_not_refused laws texts moment (Audit name) (searches setting) line r s = absurd r
taken_is_not_refused laws texts moment (Audit name) (shows text) line r s = journal_never_both laws.journal_one laws.journal_both laws.journal_bad texts name text line r s
taken_is_not_refused laws texts moment (Edits name classes) (runs setting l m) line r s = absurd r
taken_is_not_refused laws texts moment (Edits name classes) (judges setting) line r s = absurd r
taken_is_not_refused laws texts moment (Edits name classes) (searches setting) line r s = laws.policy_both texts name line setting.policy r.valid_as s
taken_is_not_refused laws texts moment (Edits name classes) (shows text) line r s = absurd r
taken_is_not_refused laws texts moment (History name) (runs setting l m) line r s = absurd r
taken_is_not_refused laws texts moment (History name) (judges setting) line r s = absurd r
taken_is_not_refused laws texts moment (History name) (searches setting) line r s = absurd r
taken_is_not_refused laws texts moment (History name) (shows text) line r s = history_never_both laws.journal_one laws.journal_both laws.journal_bad texts name text line r s

line_is_one : Laws → (texts : Texts) (asks : Request) (a b : List ℕ) → RefusesRequest texts asks a → RefusesRequest texts asks b → a ≡ b
line_is_one laws texts (Run name options) a b r s = laws.policy_line texts name a b r s
line_is_one laws texts (Show name) a b r s = laws.file_line texts 0 name a b r s
line_is_one laws texts (Check name classes) a b r s = laws.policy_line texts name a b r s
line_is_one laws texts (Audit name) a b r s = journal_line_is_one laws.journal_one laws.journal_both laws.journal_bad texts name a b r s
line_is_one laws texts (Edits name classes) a b r s = laws.policy_line texts name a b r s
line_is_one laws texts (History name) a b r s = journal_line_is_one laws.journal_one laws.journal_both laws.journal_bad texts name a b r s

-- ---- work

same_run : (s t : Setting) (l k m n : Bool) → s ≡ t → l ≡ k → m ≡ n → runs s l m ≡ runs t k n
same_run s t l k m n settings locks strict i = runs (settings i) (locks i) (strict i)

one_run : Laws → (texts : Texts) (moment : ℕ) (policy : List ℕ) (options : Options) (s t : Setting) (l k m n : Bool) →
    TakesRun texts moment policy options s l m → TakesRun texts moment policy options t k n → runs s l m ≡ runs t k n
one_run laws texts moment policy options s t l k m n a b = same_run s t l k m n
    (one_setting laws.policy_tree texts moment policy options.classes s t a.takes_policy b.takes_policy)
    (a.locks_are ∙ sym b.locks_are) (a.strict_is ∙ sym b.strict_is)

one_task : Laws → (texts : Texts) (moment : ℕ) (asks : Request) (t u : Task) → TakesRequest texts moment asks t → TakesRequest texts moment asks u → t ≡ u
one_task laws texts moment (Run name options) (runs s l m) (runs t k n) r q = one_run laws texts moment name options s t l k m n r q
one_task laws texts moment (Run name options) (runs s l m) (judges t) r q = absurd q
one_task laws texts moment (Run name options) (runs s l m) (searches t) r q = absurd q
one_task laws texts moment (Run name options) (runs s l m) (shows w) r q = absurd q
one_task laws texts moment (Run name options) (judges s) u r q = absurd r
one_task laws texts moment (Run name options) (searches s) u r q = absurd r
one_task laws texts moment (Run name options) (shows v) u r q = absurd r
one_task laws texts moment (Show name) (shows v) (shows w) r q =
    ap shows (r.text_is ∙ ap printed (laws.tree_one texts 0 name r.tree q.tree r.reads q.reads) ∙ sym q.text_is)
one_task laws texts moment (Show name) (shows v) (runs t k n) r q = absurd q
one_task laws texts moment (Show name) (shows v) (judges t) r q = absurd q
one_task laws texts moment (Show name) (shows v) (searches t) r q = absurd q
one_task laws texts moment (Show name) (runs s l m) u r q = absurd r
one_task laws texts moment (Show name) (judges s) u r q = absurd r
one_task laws texts moment (Show name) (searches s) u r q = absurd r
one_task laws texts moment (Check name classes) (judges s) (judges t) r q = ap judges (one_setting laws.policy_tree texts moment name classes s t r q)
one_task laws texts moment (Check name classes) (judges s) (runs t k n) r q = absurd q
one_task laws texts moment (Check name classes) (judges s) (searches t) r q = absurd q
one_task laws texts moment (Check name classes) (judges s) (shows w) r q = absurd q
one_task laws texts moment (Check name classes) (runs s l m) u r q = absurd r
one_task laws texts moment (Check name classes) (searches s) u r q = absurd r
one_task laws texts moment (Check name classes) (shows v) u r q = absurd r
one_task laws texts moment (Audit name) (shows v) (shows w) r q = ap shows (audit_is_one laws.journal_one laws.journal_both laws.journal_bad texts name v w r q)
one_task laws texts moment (Audit name) (shows v) (runs t k n) r q = absurd q
one_task laws texts moment (Audit name) (shows v) (judges t) r q = absurd q
one_task laws texts moment (Audit name) (shows v) (searches t) r q = absurd q
one_task laws texts moment (Audit name) (runs s l m) u r q = absurd r
one_task laws texts moment (Audit name) (judges s) u r q = absurd r
one_task laws texts moment (Audit name) (searches s) u r q = absurd r
one_task laws texts moment (Edits name classes) (searches s) (searches t) r q = ap searches (one_setting laws.policy_tree texts moment name classes s t r q)
one_task laws texts moment (Edits name classes) (searches s) (runs t k n) r q = absurd q
one_task laws texts moment (Edits name classes) (searches s) (judges t) r q = absurd q
one_task laws texts moment (Edits name classes) (searches s) (shows w) r q = absurd q
one_task laws texts moment (Edits name classes) (runs s l m) u r q = absurd r
one_task laws texts moment (Edits name classes) (judges s) u r q = absurd r
one_task laws texts moment (Edits name classes) (shows v) u r q = absurd r
one_task laws texts moment (History name) (shows v) (shows w) r q = ap shows (history_is_one laws.journal_one laws.rows_one texts name v w r q)
one_task laws texts moment (History name) (shows v) (runs t k n) r q = absurd q
one_task laws texts moment (History name) (shows v) (judges t) r q = absurd q
one_task laws texts moment (History name) (shows v) (searches t) r q = absurd q
one_task laws texts moment (History name) (runs s l m) u r q = absurd r
one_task laws texts moment (History name) (judges s) u r q = absurd r
one_task laws texts moment (History name) (searches s) u r q = absurd r

strict_one : (s : Setting) (st : Start) (verdict : Option Verdict) (a b : Done) → StrictRunDoes s st verdict a → StrictRunDoes s st verdict b → a ≡ b
strict_one s st None a b d e = absurd d
strict_one s st (Some (Accepted live)) a b d e = d.1 ∙ sym e.1
strict_one s st (Some (InConflictBy c)) a b d e = d ∙ sym e

judged_one : (verdict : Option Verdict) (a b : Done) → Judges verdict a → Judges verdict b → a ≡ b
judged_one None a b d e = absurd d
judged_one (Some verdict) a b d e = d ∙ sym e

does_one : (task : Task) (moment : ℕ) (world : World) (marks : List Mark) (a b : Done) → DoesTask task moment world marks a → DoesTask task moment world marks b → a ≡ b
does_one (runs s l true) moment world marks a b d e = strict_one s (start_of moment l world marks) (analysis_of s) a b d e
does_one (runs s l false) moment world marks a b d e = d.1 ∙ sym e.1
does_one (judges s) moment world marks a b d e = judged_one (analysis_of s) a b d e
does_one (searches s) moment world marks a b d e = search_one s (run s open_walk) a b d e
does_one (shows v) moment world marks a b d e = d ∙ sym e

one_done : Laws → (texts : Texts) (moment : ℕ) (asks : Request) (t u : Task) (world : World) (marks : List Mark) (a b : Done) →
    TakesRequest texts moment asks t → TakesRequest texts moment asks u → DoesTask t moment world marks a → DoesTask u moment world marks b → a ≡ b
one_done laws texts moment asks t u world marks a b r q d e =
    does_one u moment world marks a b (subst (λ (task : Task). DoesTask task moment world marks a) (one_task laws texts moment asks t u r q) d) e

-- ---- calls

module _ (laws : Laws) where
  never : TakenIsNotRefused
  never = taken_is_not_refused laws

  late_in_time : (moment : ℕ) → LAST_MOMENT < moment → moment ≤ LAST_MOMENT → ⊥
  late_in_time moment late in_time = omega (arith, late, in_time)

  pub one_thing : DoesOneThing
  one_thing words moment texts world marks _ _ (words_refused a) (words_refused b) = refl
  one_thing words moment texts world marks _ _ (words_refused a) (moment_refused b _) = absurd (none_or_some a b)
  one_thing words moment texts world marks _ _ (words_refused a) (request_refused b _ _) = absurd (none_or_some a b)
  one_thing words moment texts world marks _ _ (words_refused a) (work_done _ b _ _ _) = absurd (none_or_some a b)
  one_thing words moment texts world marks _ _ (moment_refused a _) (words_refused b) = absurd (none_or_some b a)
  one_thing words moment texts world marks _ _ (moment_refused a _) (moment_refused b _) = refl
  one_thing words moment texts world marks _ _ (moment_refused _ late) (request_refused _ in_time _) = absurd (late_in_time moment late in_time)
  one_thing words moment texts world marks _ _ (moment_refused _ late) (work_done _ _ in_time _ _) = absurd (late_in_time moment late in_time)
  one_thing words moment texts world marks _ _ (request_refused a _ _) (words_refused b) = absurd (none_or_some b a)
  one_thing words moment texts world marks _ _ (request_refused _ in_time _) (moment_refused _ late) = absurd (late_in_time moment late in_time)
  one_thing words moment texts world marks _ _ (request_refused {request = q} {line = k} a _ r) (request_refused {request = p} {line = l} b _ s) =
      ap refused_with (line_is_one laws texts p k l (subst (λ (x : Request). RefusesRequest texts x k) (one_some a b) r) s)
  one_thing words moment texts world marks _ _ (request_refused {request = q} {line = k} a _ r) (work_done {request = p} task b _ s d) =
      absurd (never texts moment p task k s (subst (λ (x : Request). RefusesRequest texts x k) (one_some a b) r))
  one_thing words moment texts world marks _ _ (work_done _ a _ _ _) (words_refused b) = absurd (none_or_some b a)
  one_thing words moment texts world marks _ _ (work_done _ _ in_time _ _) (moment_refused _ late) = absurd (late_in_time moment late in_time)
  one_thing words moment texts world marks _ _ (work_done {request = q} task a _ r d) (request_refused {request = p} {line = l} b _ s) =
      absurd (never texts moment q task l r (subst (λ (x : Request). RefusesRequest texts x l) (one_some b a) s))
  one_thing words moment texts world marks x y (work_done {request = q} t a _ r d) (work_done {request = p} u b _ s e) =
      one_done laws texts moment p t u world marks x y (subst (λ (z : Request). TakesRequest texts moment z t) (one_some a b) r) s d e
