-- Where the list of conflicts is empty, the walks are free of conflicts.
use Rattle.std.proofs.Common.{◌≡◌, ℕ, ◌+◌, Bool, true, false, not, List, [], ◌∷◌, ◌++◌, map, Option, Some, None, refl, ap, sym, subst, ◌∙◌, arith, cond, eq-eqb}
use Rattle.std.specs.Prelude.{◌||◌}
use Rattle.std.specs.List.{AllByRecursion as Each, list_any, filter, position_or_len}
use Rattle.std.proofs.lemmas.Bool.{and_from}
use Rattle.std.proofs.lemmas.Option.{same_Some}
use Rattle.cfa_base.specs.lemmas.Lists.{none_left, none_right, none_flat, each_weaker}
use Rattle.cfa_acts.specs.declared.acts.Act.{Act}
use Rattle.cfa_acts.specs.declared.acts.Act.TheVariants.{Create, MakeDir, Delete, Content, Copy, Edit, Perms, Start, Stop, Enable, Disable, Restart, Bust}
use Rattle.cfa_acts.specs.Disturbs.{disturbs}
use Rattle.cfa_acts.specs.Laws.{is_restart}
use Rattle.cfa_statuses.specs.declared.levels.Status.{Status}
use Rattle.cfa_statuses.specs.declared.levels.Status.TheVariants.{No, Maybe, Yes}
use Rattle.cfa_conflict.specs.declared.verdicts.Conflict.{Conflict}
use Rattle.cfa_conflict.specs.Analyses.{verdict_over, analysis_of}
use Rattle.cfa_conflict.specs.Conflicts.{has_acts, is_visited, is_live, first_visit, is_visited_after, unsettled_conflict, restart_of, restarts_of, unsure_by, unsure_at, undone, undone_by, undone_by_other, undone_by_later, undone_in, undone_from, conflicts_at, conflicts_from, conflicts, live_instances, first_or_accepted, verdict_of}
use Rattle.cfa_conflict.specs.declared.verdicts.Verdict.TheVariants.{Accepted}
use Rattle.cfa_resolve.specs.declared.instances.Instance.{Instance}
use Rattle.cfa_resolve.specs.declared.instances.Work.{Work}
use Rattle.cfa_resolve.specs.declared.instances.Work.TheVariants.{Acts, Call, Report}
use Rattle.cfa_tree.specs.Tree.{PolicyTree}
use Rattle.cfa_states.specs.declared.walks.Blame.{Blame}
use Rattle.cfa_states.specs.declared.walks.Visit.{Visit}
use Rattle.cfa_states.specs.declared.walks.Walk.{Walk}
use Rattle.cfa_states.specs.History.{History, Begun, Set, Raised, Reached, Listed, Told}
use Rattle.cfa_states.specs.Passes.{Course, goes, too_large, run}
use Rattle.cfa_states.specs.Tellers.{acts_of, all_kept, open_walk}
use Rattle.cfa_states.specs.Views.{Setting}
use Rattle.cfa_states.specs.Waits.{is_first}
use Rattle.cfa_states.specs.Walks.{with_first, listed_instances, unsettled_promises, walked}
use Rattle.cfa_convergence.specs.Conflicts.{HasActs, was_visited, IsLive, is_same, AreQuiet, AreSpared, SpareThemselves, AreFree}
use Rattle.cfa_convergence.specs.Contained.{LiesWithin, IsSettled}
use Rattle.cfa_laws.specs.Keys.{IsKeyed, InstancesAreKeyed, KeysAreLines}
use Rattle.cfa_convergence.specs.Keys.{KeysTellWorks}
use Rattle.cfa_laws.specs.Sources.{RaisesHaveFirst, UnsettledAreMaybe}
use Rattle.cfa_laws.specs.Statuses.{RaisesLieTogether, InstancesAreSame}
use Rattle.cfa_convergence.specs.Policies.{HasKnown}
use Rattle.cfa_convergence.specs.Settling.{IsFreeOfConflicts, FreeRunsSettle}
use Rattle.cfa_convergence.specs.Verdicts.{AcceptedAreFree, AcceptedRunsSettle}
use Rattle.cfa_convergence.proofs.BlameLemmas.{AreBlamed}
use Rattle.cfa_convergence.proofs.BlamingLemmas.{walk_blamed}
use Rattle.cfa_convergence.proofs.KnownLemmas.{AreKnown, runs_known}
use Rattle.cfa_convergence.proofs.NameLemmas.{one_acts, one_kind}
use Rattle.cfa_convergence.proofs.QuietLemmas.{either_way}
use Rattle.cfa_convergence.proofs.RerunLemmas.{kept_tells}
use Rattle.cfa_convergence.proofs.RunLemmas.{run_contained, is_within}
use Rattle.cfa_convergence.proofs.SettledLemmas.{all_settled}
use Rattle.cfa_convergence.proofs.SourceLemmas.{IsGiven}
use Rattle.cfa_convergence.proofs.VisitLemmas.{same_visits, listed_any, place, visits_of, AreThere, place_apart, first_visited, after_both, after_visited}

-- ---- the conflicts of one cause

none_mapped : {X Y : Type 0} (f : X → Y) (xs : List X) → map f xs ≡ [] → xs ≡ []
none_mapped f [] e = refl
none_mapped f (x ∷ xs) e = absurd (cc)

none_passes : {X : Type 0} (p : X → Bool) (xs : List X) → filter p xs ≡ [] → Each (λ (x : X). p x ≡ false) xs
none_passes p [] e = tt
none_passes {X = X} p (x ∷ xs) e = go (p x) refl (none_passes p xs) e
  where
    go : (b : Bool) → p x ≡ b → (filter p xs ≡ [] → Each (λ (y : X). p y ≡ false) xs) → cond b (x ∷ filter p xs) (filter p xs) ≡ [] → (p x ≡ false) × Each (λ (y : X). p y ≡ false) xs
    go true is more f = absurd (cc)
    go false is more f = (is, more f)

no_restart : (i : Instance) (a : Act) → restart_of i a ≡ [] → is_restart a ≡ false
no_restart i (Create path) e = refl
no_restart i (MakeDir path) e = refl
no_restart i (Delete path with_directories) e = refl
no_restart i (Content path bytes) e = refl
no_restart i (Copy source path) e = refl
no_restart i (Edit path script) e = refl
no_restart i (Perms path mode owners groups) e = refl
no_restart i (Start name) e = refl
no_restart i (Stop name) e = refl
no_restart i (Enable name) e = refl
no_restart i (Disable name) e = refl
no_restart i (Restart name) e = absurd (cc)
no_restart i (Bust reason) e = refl

-- one act disturbs none of these
spared_by : (i other : Instance) (acts : List Act) (later : Act) → undone_by i other acts later ≡ [] → Each (λ (act : Act). disturbs later act ≡ false) acts
spared_by i other acts later e = none_passes (disturbs later) acts (none_mapped (undone i other) (filter (disturbs later) acts) e)

zip_quiet : (later : Act) (others acts : List Act) → Each (λ (act : Act). disturbs later act ≡ false) acts → AreSpared acts others → AreSpared acts (later ∷ others)
zip_quiet later others [] p q = tt
zip_quiet later others (act ∷ acts) p q = ((p.0, q.0), zip_quiet later others acts p.1 q.1)

none_later : (acts : List Act) → AreSpared acts []
none_later [] = tt
none_later (act ∷ acts) = (tt, none_later acts)

spared_all : (i other : Instance) (acts later : List Act) → Each (λ (act : Act). undone_by i other acts act ≡ []) later → AreSpared acts later
spared_all i other acts [] all = none_later acts
spared_all i other acts (act ∷ later) all = zip_quiet act later acts (spared_by i other acts act all.0) (spared_all i other acts later all.1)

spared_but_last : (acts : List Act) (last : Act) (later : List Act) → AreSpared (acts ++ last ∷ []) later → AreSpared acts later × AreQuiet later last
spared_but_last [] last later p = (tt, p.0)
spared_but_last (act ∷ acts) last later p = let rest = spared_but_last acts last later p.1 in ((p.0, rest.0), rest.1)

spare_later : (i : Instance) (earlier later : List Act) → undone_by_later i earlier later ≡ [] → AreSpared earlier later × SpareThemselves later
spare_later i earlier [] e = (none_later earlier, tt)
spare_later i earlier (act ∷ later) e =
    let first = none_left (undone_by i i earlier act) (undone_by_later i (earlier ++ act ∷ []) later) e in
    let rest = spare_later i (earlier ++ act ∷ []) later (none_right (undone_by i i earlier act) (undone_by_later i (earlier ++ act ∷ []) later) e) in
    let parts = spared_but_last earlier act later rest.0 in
    (zip_quiet act later earlier (spared_by i i earlier act first) parts.0, (parts.1, rest.1))

-- ---- live instances

acting : (w : Work) → HasActs w → has_acts w ≡ true
acting (Acts acts) has = refl
acting (Call name given) has = absurd has
acting (Report content) has = absurd has

listed_keyed : (h : History) → AreKnown h → Each IsKeyed (listed_instances h)
listed_keyed [] known = tt
listed_keyed (Listed i status ∷ h) known = go (is_first h i) (listed_keyed h known.2)
  where
    last : (is : List Instance) → Each IsKeyed is → Each IsKeyed (is ++ i ∷ [])
    last [] all = (known.0, tt)
    last (j ∷ is) all = (all.0, last is all.1)

    go : (b : Bool) → Each IsKeyed (listed_instances h) → Each IsKeyed (with_first b i (listed_instances h))
    go true all = last (listed_instances h) all
    go false all = all
listed_keyed (Told i outcomes ∷ h) known = listed_keyed h known.2
listed_keyed (Begun path given ∷ h) known = listed_keyed h known
listed_keyed (Set path name datum ∷ h) known = listed_keyed h known
listed_keyed (Raised place' cls status source ∷ h) known = listed_keyed h known
listed_keyed (Reached home promise guard sets visits ∷ h) known = listed_keyed h known

record Standing (P : Instance → ℕ → Type 0) (i : Instance) (is : List Instance) (from : ℕ) : Type 0 where
  one : Instance
  same : is_same i one ≡ true
  key : IsKeyed one
  holds : P one (position_or_len (is_same i) is + from)

-- what holds of each at its place
stands : (P : Instance → ℕ → Type 0) (All_from : List Instance → ℕ → Type 0) → ((j : Instance) (js : List Instance) (from : ℕ) → All_from (j ∷ js) from → P j from × All_from js (from + 1)) →
    (is : List Instance) (from : ℕ) → Each IsKeyed is → All_from is from → (i : Instance) → list_any (is_same i) is ≡ true → Standing P i is from
stands P All_from parts [] from keys all i e = absurd (cc)
stands P All_from parts (j ∷ is) from keys all i e = go (is_same i j) refl (λ f. stands P All_from parts is (from + 1) keys.1 (parts j is from all).1 i f) e
  where
    go : (b : Bool) → is_same i j ≡ b → (list_any (is_same i) is ≡ true → Standing P i is (from + 1)) → (b || list_any (is_same i) is) ≡ true → Standing P i (j ∷ is) from
    go true it more f = record {
      one = j;
      same = it;
      key = keys.0;
      holds = subst (λ b. P j (cond (not b) (1 + position_or_len (is_same i) is) 0 + from)) (sym it) (subst (P j) (omega arith) (parts j is from all).0);
    }
    go false it more f =
        let found = more f in
        let later : position_or_len (is_same i) is + (from + 1) ≡ (1 + position_or_len (is_same i) is) + from = omega arith in
        record {
          one = found.one;
          same = found.same;
          key = found.key;
          holds = subst (λ b. P found.one (cond (not b) (1 + position_or_len (is_same i) is) 0 + from)) (sym it) (subst (P found.one) later found.holds);
        }

abbrev lists : Setting → History → Walk
lists s h = record { instances = listed_instances h; visits = visits_of s (listed_instances h) h; unsettled = unsettled_promises s h }

module _ (s : Setting) (tell : KeysTellWorks) (kept walk : History) (blamed : AreBlamed s walk) (known_kept : AreKnown kept) (known : AreKnown walk)
    (inside : (i : Instance) → was_visited kept i ≡ true → was_visited walk i ≡ true) where
  abbrev instances : List Instance
  instances = listed_instances walk

  abbrev visits : List Visit
  visits = visits_of s instances walk

  abbrev at : Instance → ℕ
  at i = place s instances i

  there : AreThere s instances walk
  there i e = listed_any walk known i ∙ e

  abbrev Free_at : Instance → ℕ → Type 0
  Free_at j n = is_live (lists s kept) j ≡ true → conflicts_at (lists s walk) j n ≡ []

  free_parts : (j : Instance) (js : List Instance) (from : ℕ) → conflicts_from (lists s kept) (lists s walk) (j ∷ js) from ≡ [] → Free_at j from × (conflicts_from (lists s kept) (lists s walk) js (from + 1) ≡ [])
  free_parts j js from e =
      let here : List Conflict = cond (is_live (lists s kept) j) (conflicts_at (lists s walk) j from) [] in
      let rest : List Conflict = conflicts_from (lists s kept) (lists s walk) js (from + 1) in
      ((λ live. ap (λ b. cond b (conflicts_at (lists s walk) j from) []) (sym live) ∙ none_left here rest e), none_right here rest e)

  abbrev Spares_at : Instance → ℕ → Instance → ℕ → Type 0
  Spares_at j n other m = undone_in visits j n other m ≡ []

  spare_parts : (i : Instance) (n : ℕ) (j : Instance) (js : List Instance) (from : ℕ) → undone_from visits i n (j ∷ js) from ≡ [] → Spares_at i n j from × (undone_from visits i n js (from + 1) ≡ [])
  spare_parts i n j js from e =
      let here : List Conflict = undone_in visits i n j from in
      let rest : List Conflict = undone_from visits i n js (from + 1) in
      (none_left here rest e, none_right here rest e)

  no_more_zero : (n : ℕ) → n + 0 ≡ n
  no_more_zero n = omega arith

  module _ (none : conflicts_from (lists s kept) (lists s walk) instances 0 ≡ []) where
    record Listed_free (i : Instance) : Type 0 where
      one : Instance
      same : is_same i one ≡ true
      key : IsKeyed one
      restarts : restarts_of one ≡ []
      unsure : unsure_at one (first_visit visits (at i)) ≡ []
      undoes : undone_from visits one (at i) instances 0 ≡ []

    listed_free : (i : Instance) → IsKeyed i → IsLive kept i → Listed_free i
    listed_free i key live =
        let found = stands Free_at (λ js from. conflicts_from (lists s kept) (lists s walk) js from ≡ []) free_parts instances 0 (listed_keyed walk known) none i
        (there i (inside i live.visited)) in
        let acts : has_acts found.one.work ≡ true = acting found.one.work (one_kind tell i found.one key found.key found.same live.acts) in
        let known_there : is_visited (lists s kept) found.one ≡ true = listed_any kept known_kept found.one ∙ sym (same_visits kept i found.one found.same) ∙ live.visited in
        let all : conflicts_at (lists s walk) found.one (at i) ≡ [] =
        subst (λ n. conflicts_at (lists s walk) found.one n ≡ []) (no_more_zero (at i)) (found.holds (and_from (has_acts found.one.work) (is_visited (lists s kept) found.one) acts known_there)) in
        let restarts : List Conflict = restarts_of found.one in
        let unsure : List Conflict = unsure_at found.one (first_visit visits (at i)) in
        let undoes : List Conflict = undone_from visits found.one (at i) instances 0 in
        record {
          one = found.one;
          same = found.same;
          key = found.key;
          restarts = none_left restarts (unsure ++ undoes) all;
          unsure = none_left unsure undoes (none_right restarts (unsure ++ undoes) all);
          undoes = none_right unsure undoes (none_right restarts (unsure ++ undoes) all);
        }

    is_sure : (i : Instance) (status : Status) (blame : Option Blame) → unsure_by i status blame ≡ [] → (status ≡ No → ⊥) → (status ≡ Maybe → IsGiven blame) → status ≡ Yes
    is_sure i No blame e some given = absurd (some refl)
    is_sure i Maybe None e some given = absurd (given refl)
    is_sure i Maybe (Some blame) e some given = absurd (cc)
    is_sure i Yes blame e some given = refl

    pub all_free : AreFree kept walk
    all_free = record {
      restarts = λ i key live.
          let free = listed_free i key live in
          subst (λ (acts : List Act). Each (λ (act : Act). is_restart act ≡ false) acts) (one_acts tell i free.one key free.key free.same)
          (each_weaker (λ (act : Act). restart_of free.one act ≡ []) (λ (act : Act). is_restart act ≡ false) (no_restart free.one) (acts_of free.one.work) (none_flat (restart_of free.one) (acts_of free.one.work) free.restarts));
      sure = λ i key live.
          let free = listed_free i key live in
          let first = first_visited s instances walk blamed known there i (inside i live.visited) in
          first.status ∙ is_sure free.one first.visit.status first.visit.blame (ap (unsure_at free.one) (sym first.found) ∙ free.unsure) first.some first.blamed;
      spared = λ i other key key' live apart after.
          let free = listed_free i key live in
          let both = after_both s instances walk other i after in
          let found = stands (Spares_at free.one (at i)) (λ js from. undone_from visits free.one (at i) js from ≡ []) (spare_parts free.one (at i))
          instances 0 (listed_keyed walk known) free.undoes other (there other both.0) in
          let m : ℕ = at other in
          let here : undone_in visits free.one (at i) found.one m ≡ [] = subst (λ k. undone_in visits free.one (at i) found.one k ≡ []) (no_more_zero m) found.holds in
          let later : undone_by_other free.one found.one ≡ [] =
          ap (λ b. cond b (undone_by_other free.one found.one) []) (sym (after_visited s instances walk blamed known there other i after))
          ∙ ap (λ b. cond b (undone_by_later free.one [] (acts_of free.one.work)) (cond (is_visited_after visits (at i) m) (undone_by_other free.one found.one) [])) (sym (place_apart s instances i other apart (there i both.1) (there other both.0))) ∙ here in
          subst (λ (acts : List Act). AreSpared acts (acts_of other.work)) (one_acts tell i free.one key free.key free.same)
          (subst (AreSpared (acts_of free.one.work)) (one_acts tell other found.one key' found.key found.same)
          (spared_all free.one found.one (acts_of free.one.work) (acts_of found.one.work) (none_flat (undone_by free.one found.one (acts_of free.one.work)) (acts_of found.one.work) later)));
      itself = λ i key live.
          let free = listed_free i key live in
          let found = stands (Spares_at free.one (at i)) (λ js from. undone_from visits free.one (at i) js from ≡ []) (spare_parts free.one (at i))
          instances 0 (listed_keyed walk known) free.undoes i (there i (inside i live.visited)) in
          let n : ℕ = at i in
          let here : undone_in visits free.one n found.one n ≡ [] = subst (λ k. undone_in visits free.one n found.one k ≡ []) (no_more_zero n) found.holds in
          let own : undone_by_later free.one [] (acts_of free.one.work) ≡ [] =
          ap (λ b. cond b (undone_by_later free.one [] (acts_of free.one.work)) (cond (is_visited_after visits n n) (undone_by_other free.one found.one) [])) (sym (eq-eqb n n refl)) ∙ here in
          subst SpareThemselves (one_acts tell i free.one key free.key free.same) (spare_later free.one [] (acts_of free.one.work) own).1;
    }

-- ---- the verdict

none_accepted : (cs : List Conflict) (n live : ℕ) → first_or_accepted cs n ≡ Accepted live → cs ≡ []
none_accepted [] n live e = refl
none_accepted (c ∷ cs) n live e = absurd (cc)

-- the walks of the policy come to their ends, and the verdict over them is that it is accepted
pub record IsAccepted (s : Setting) (live : ℕ) (kept walk : History) : Type 0 where
  pub is_kept : run s all_kept ≡ goes kept
  pub is_open : run s open_walk ≡ goes walk
  pub verdict : verdict_of (walked s kept) (walked s walk) ≡ Accepted live

accepted_over : (s : Setting) (live : ℕ) (c d : Course) → run s all_kept ≡ c → run s open_walk ≡ d → verdict_over s c d ≡ Some (Accepted live) → (kept : History) × (walk : History) × IsAccepted s live kept walk
accepted_over s live (goes kept) (goes walk) is is' e =
    (kept, walk, record { is_kept = is; is_open = is'; verdict = same_Some (verdict_of (walked s kept) (walked s walk)) (Accepted live) e })
accepted_over s live (goes kept) (too_large walk) is is' e = absurd (cc)
accepted_over s live (too_large kept) d is is' e = absurd (cc)

accepted : (s : Setting) (live : ℕ) → analysis_of s ≡ Some (Accepted live) → (kept : History) × (walk : History) × IsAccepted s live kept walk
unfolding analysis_of
accepted s live e = accepted_over s live (run s all_kept) (run s open_walk) refl refl e

no_conflicts : (s : Setting) (live : ℕ) (kept walk : History) → verdict_of (walked s kept) (walked s walk) ≡ Accepted live → map unsettled_conflict (unsettled_promises s walk) ++ conflicts_from (lists s kept) (lists s walk) (listed_instances walk) 0 ≡ []
unfolding verdict_of conflicts walked
no_conflicts s live kept walk e = none_accepted (conflicts (walked s kept) (walked s walk)) (live_instances (walked s kept)) live e

-- what classes promises raise and what promises resolve to
pub record ResolvesWell : Type 0 where
  pub together : RaisesLieTogether
  pub same : InstancesAreSame
  pub keyed : InstancesAreKeyed
  pub lines : KeysAreLines
  pub firsts : RaisesHaveFirst
  pub traced : UnsettledAreMaybe

module _ (tell : KeysTellWorks) (well : ResolvesWell) where
  free_of_conflicts : (s : Setting) (live : ℕ) (kept walk : History) → HasKnown s.policy → IsAccepted s live kept walk → IsFreeOfConflicts s kept walk
  free_of_conflicts s live kept walk known is =
      let unsettled : List Conflict = map unsettled_conflict (unsettled_promises s walk) in
      let rest : List Conflict = conflicts_from (lists s kept) (lists s walk) (listed_instances walk) 0 in
      let none = no_conflicts s live kept walk is.verdict in
      let blamed : AreBlamed s walk = walk_blamed s tell well.keyed known well.firsts well.traced well.lines walk is.is_open in
      let settled : IsSettled s walk = all_settled s walk blamed (none_mapped unsettled_conflict (unsettled_promises s walk) (none_left unsettled rest none)) in
      let placed : LiesWithin kept walk = is_within kept walk (run_contained s tell well.keyed well.together well.same known (λ h i. false) kept walk is.is_kept is.is_open settled) in
      record {
        is_kept = is.is_kept;
        is_open = is.is_open;
        settled = settled;
        free = all_free s tell kept walk blamed (runs_known s kept_tells well.keyed known kept is.is_kept) (runs_known s either_way well.keyed known walk is.is_open) placed.visits (none_right unsettled rest none);
      }

  pub accepted_free : (policy : PolicyTree) → HasKnown policy → AcceptedAreFree policy
  accepted_free policy known s live same e =
      let ends = accepted s live e in
      (ends.0, ends.1, free_of_conflicts s live ends.0 ends.1 (subst HasKnown (sym same) known) ends.2)

pub accepted_settle : (policy : PolicyTree) → HasKnown policy → AcceptedAreFree policy → FreeRunsSettle → AcceptedRunsSettle policy
accepted_settle policy known are_free settle s live start h same e valid no_locks is none =
    let free = are_free s live same e in
    settle s start free.0 free.1 h (subst HasKnown (sym same) known) free.2 valid no_locks is none
