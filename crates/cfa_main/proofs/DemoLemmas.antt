-- What is known of a demo: of a run on a site that counts, and of a call that asks for a demo or for none.
use Rattle.std.proofs.Common.{◌≡◌, ℕ, false, List, [], ◌∷◌, ◌++◌, length, drop, Option, Some, None, option_map, IfSome, Err, IsErrOf, refl, sym, ap, subst, ◌∙◌}
use Rattle.std.proofs.lemmas.Option.{none-some, same_Some}
use Rattle.cfa_base.specs.Shown.{Shown, Untouched}
use Rattle.cfa_outside.specs.Inputs.{Library}
use Rattle.cfa_outside.specs.declared.sites.Entry.{Entry}
use Rattle.cfa_outside.specs.Sites.{Told, adds}
use Rattle.cfa_output.specs.declared.ends.Object.TheVariants.{Inputs, Site, Sink}
use Rattle.cfa_output.specs.declared.ends.Stop.{Stop}
use Rattle.cfa_output.specs.declared.ends.Stop.TheVariants.{Outside, Memory, Visits, Pattern}
use Rattle.cfa_output.specs.declared.ends.Failure.TheVariants.{Stopped}
use Rattle.cfa_demo.specs.Counts.{changes_in, counted_told, counted, IsCounted, CountsAreExact}
use Rattle.cfa_words.specs.Demos.{demo_asked}
use Rattle.cfa_states.specs.Levels.{IsTooLarge}
use Rattle.cfa_states.specs.Views.{Setting}
use Rattle.cfa_agent.specs.declared.running.Tally.{Tally}
use Rattle.cfa_agent.specs.Marks.{marks_of}
use Rattle.cfa_agent.specs.Runs.{Start, run_of, log_of, tally_of}
use Rattle.cfa_agent.specs.Ran.{added, started, start_of, counts_of, IsWhole, IfBothTold, RunsAs, StopsRun}
use Rattle.cfa_convergence.specs.Settled.{Settles}
use Rattle.cfa_main.specs.Demos.{RanOnce, StopsOnce, narrowed, Demonstrates, no_memory, CalledFor, a_demo, no_demo, unread}
use Rattle.cfa_main.specs.Stages.{Prepared, Called, not_prepared}
use Rattle.cfa_main.proofs.RunLemmas.{left}

-- ---- a run on a site that counts

-- what a counting site tells is told by its site
both_counted : (entries changes : ℕ) (P Q : Told → Told → Type 0) →
    ((before after : Told) → P (counted_told 0 0 before) (counted_told entries changes after) → Q before after) →
    (o o' : Option Told) → IfSome (option_map (counted_told 0 0) o) (λ b. IfSome (option_map (counted_told entries changes) o') (P b)) → IfSome o (λ b. IfSome o' (Q b))
both_counted entries changes P Q f None o' h = tt
both_counted entries changes P Q f (Some before) None h = tt
both_counted entries changes P Q f (Some before) (Some after) h = f before after h

drop_front : (front back : List Entry) → drop (length front) (front ++ back) ≡ back
drop_front [] back = refl
drop_front (entry ∷ front) back = drop_front front back

-- the entries that were added are those that the log has more
added_is : (entries : List Entry) (before after : Told) → after ≡ adds entries before → added before after ≡ entries
added_is entries before after is = ap (λ (t : Told). drop (length before.log) t.log) is ∙ drop_front before.log entries

module _ (setting : Setting) (moment entries changes : ℕ) (site site' : Shown Told) where
  -- what the run begins with where these entries are added
  abbrev start : Told → List Entry → Start
  start before log = start_of moment false before.world (marks_of log)

  abbrev Counted : Tally → Told → Told → List Entry → Type 0
  Counted tally before after log =
      IsWhole (run_of setting (start before log))
      × (after ≡ adds (log_of setting (start before log)) before)
      × (counts_of tally ≡ tally_of setting (start before log))
      × (entries ≡ length (log_of setting (start before log)))
      × (changes ≡ changes_in (log_of setting (start before log)))

  counted_once : CountsAreExact → (tally : Tally) (out out' : Shown (List ℕ)) (before after : Told) →
      RunsAs setting (started moment false (counted_told 0 0 before) (counted_told entries changes after)) (counted_told 0 0 before) (counted_told entries changes after) out out' tally →
      RanOnce setting moment before after (record { tally = tally; entries = entries; changes = changes })
  counted_once exact tally out out' before after r =
      let seen : List Entry = added (counted_told 0 0 before) (counted_told entries changes after) in
      let made : List Entry = log_of setting (start before seen) in
      let counts : IsCounted entries changes before after made = exact entries changes before after made r.site_is in
      let same : seen ≡ added before after = added_is made (counted_told 0 0 before) (counted_told entries changes after) r.site_is ∙ sym (added_is made before after counts.site_is) in
      let here : Counted tally before after seen = (r.is_whole, counts.site_is, r.tally_is, counts.entries_are, counts.changes_are) in
      let there : Counted tally before after (added before after) = subst (Counted tally before after) same here in
      record { is_whole = there.0; site_is = there.1; tally_is = there.2; entries_are = there.3; changes_are = there.4 }

  pub once : CountsAreExact → (tally : Tally) (out out' : Shown (List ℕ)) →
      IfBothTold (λ before after. RunsAs setting (started moment false before after) before after out out' tally) (counted 0 0 site) (counted entries changes site') →
      IfBothTold (λ before after. RanOnce setting moment before after (record { tally = tally; entries = entries; changes = changes })) site site'
  once exact tally out out' h = both_counted entries changes _ _ (counted_once exact tally out out') site.told site'.told h

  pub settles : IfBothTold (λ before after. Settles setting after.world) (counted 0 0 site) (counted entries changes site') →
      IfBothTold (λ before after. Settles setting after.world) site site'
  settles h = both_counted entries changes (λ before after. Settles setting after.world) (λ before after. Settles setting after.world) (λ before after s. s) site.told site'.told h

  too_many : IfBothTold (λ before after. IsTooLarge (run_of setting (started moment false before after))) (counted 0 0 site) (counted entries changes site') → StopsOnce setting moment site site' Visits
  too_many h = both_counted entries changes (λ before after. IsTooLarge (run_of setting (started moment false before after))) _
      (λ before after large. (marks_of (added (counted_told 0 0 before) (counted_told entries changes after)), large)) site.told site'.told h

  pub stops : {T : Type 0} (out out' : Shown (List ℕ)) (stop : Stop) → StopsRun (counted 0 0 site) (counted entries changes site') out out' stop →
      (IsErrOf {T = T} (Err stop) Visits → IfBothTold (λ before after. IsTooLarge (run_of setting (started moment false before after))) (counted 0 0 site) (counted entries changes site')) →
      StopsOnce setting moment site site' (narrowed stop)
  stops out out' (Outside Inputs) h large = tt
  stops out out' (Outside Site) h large = h.0
  stops out out' (Outside Sink) h large = tt
  stops out out' Memory h large = tt
  stops out out' Visits h large = too_many (large refl)
  stops out out' (Pattern text) h large = tt

-- ---- a call

module _ (Tells : Type 0) (words : List (List ℕ)) (moment : ℕ) (inputs inputs' : Shown Library) (site site' : Shown Told) (out out' : Shown (List ℕ)) (pats pats' : Shown (List (List ℕ))) (status : ℕ) where
  abbrev Here : Type 0
  Here = CalledFor Tells words moment inputs inputs' site site' out out' pats pats' status

  without_memory : Untouched inputs inputs' → Untouched pats pats' → Prepared words moment inputs inputs' pats pats' (Err (Stopped Memory))
  without_memory un kept = record {
    work = tt;
    refused = tt;
    words_refused = λ none. (tt, un);
    moment_refused = λ some late. (tt, un);
    inputs_are = left inputs inputs' un;
    patterns_are = kept;
  }

  -- a call that asks for no demo does what else its words ask for
  pub called : Here → demo_asked words ≡ None → Called words moment inputs inputs' site site' out out' pats pats' status
  called (a_demo {number = n} asks un kept d) none = absurd (none-some n (sym none ∙ asks))
  called (no_demo none' c) none = c
  called (unread un un' kept puts) none = not_prepared {failure = Stopped Memory} (without_memory un kept) un' puts

  pub demonstrated : Here → (number : ℕ) → demo_asked words ≡ Some number → Demonstrates Tells number moment site site' out out' status
  demonstrated (a_demo {number = n} asks un kept d) number is = subst (λ k. Demonstrates Tells k moment site site' out out' status) (same_Some n number (sym asks ∙ is)) d
  demonstrated (no_demo none c) number is = absurd (none-some number (sym none ∙ is))
  demonstrated (unread un un' kept puts) number is = no_memory un' puts

  pub unread_by : Here → (number : ℕ) → demo_asked words ≡ Some number → Untouched inputs inputs' × Untouched pats pats'
  unread_by (a_demo asks un kept d) number is = (un, kept)
  unread_by (no_demo none c) number is = absurd (none-some number (sym none ∙ is))
  unread_by (unread un un' kept puts) number is = (un, kept)
