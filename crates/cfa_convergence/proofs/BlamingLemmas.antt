-- In the open walk each first visit that may come or not, and each promise that is unsettled, has a class and a promise to blame, level by level.
use Rattle.std.proofs.Common.{◌≡◌, ℕ, zero, suc, ◌+◌, ◌<◌, ◌≤◌, Bool, true, false, List, [], ◌∷◌, length, Option, Some, None, nat_le, refl, sym, ap, subst, ◌∙◌, ◌⊎◌, inl, inr, arith, cond}
use Rattle.std.specs.Prelude.{◌&&◌}
use Rattle.std.specs.List.{AllByRecursion as Each}
use Rattle.std.specs.Str.{bytes_eq}
use Rattle.std.proofs.lemmas.Bool.{and_from, and_right}
use Rattle.cfa_base.specs.lemmas.EqualTexts.{same_text}
use Rattle.cfa_statuses.specs.declared.levels.Status.{Status}
use Rattle.cfa_statuses.specs.declared.levels.Status.TheVariants.{No, Maybe, Yes}
use Rattle.cfa_statuses.specs.Status.{lesser, greater}
use Rattle.cfa_defines.specs.ClassPromises.{Raise, raises_of}
use Rattle.cfa_defines.specs.FirstMaybe.{first_maybe_of_guard}
use Rattle.cfa_defines.specs.VarsPromises.{setting_choices, count_choices, data_set}
use Rattle.cfa_kinds.specs.declared.kinds.BundleType.{BundleType}
use Rattle.cfa_kinds.specs.declared.kinds.BundleType.TheVariants as bundles
use Rattle.cfa_kinds.specs.declared.kinds.PromiseType.{PromiseType}
use Rattle.cfa_kinds.specs.declared.kinds.PromiseType.TheVariants as promises
use Rattle.cfa_outcomes.specs.declared.outcomes.Outcome.{Outcome}
use Rattle.cfa_outcomes.specs.declared.outcomes.Outcome.TheVariants.{Kept, Repaired}
use Rattle.cfa_resolve.specs.declared.instances.Instance.{Instance}
use Rattle.cfa_resolve.specs.declared.instances.Work.{Work}
use Rattle.cfa_resolve.specs.declared.instances.Work.TheVariants.{Acts, Call, Report}
use Rattle.cfa_resolve.specs.Resolution.{resolution, is_acting}
use Rattle.cfa_served.specs.Control.{sequence_of}
use Rattle.cfa_served.specs.Served.{bundle_of, common_bundles_of}
use Rattle.cfa_scripts.specs.declared.blaming.Unsettled.{Unsettled}
use Rattle.cfa_tree.specs.Tree.{ExprTree, BlockTree, NamedTree}
use Rattle.cfa_vars.specs.declared.scoping.Datum.{Datum}
use Rattle.cfa_states.specs.declared.waits.Wait.{Wait}
use Rattle.cfa_states.specs.History.{History, Where, everywhere, within, Begun, Set, Reached, Listed, mark_in, visits_in, global_source}
use Rattle.cfa_states.specs.Numbered.{Numbered, numbered_in, params_of, name_of, agent_types, common_types, of_type}
use Rattle.cfa_states.specs.Passes.{Course, goes, too_large, then_on, told, Calls, tell, worked, visited, visit_status, visit, instances_from, set_each, handed, raise_event, raise_all, most_visits, within_limit, sets_variable, bind, acting_reached, kept_by, guarded, reach, promises_from, types_from, passes, activation, called_by, calls_of, through_common, commons_from, common_passes, by_type, type_of_block, in_sequence, sequence_from, run}
use Rattle.cfa_states.specs.Tellers.{Teller, inner_path}
use Rattle.cfa_states.specs.Views.{Setting, Home, scopes_in, global_status, status_in, guard_status, reached_in_history}
use Rattle.cfa_states.specs.Waits.{wait_on, wait_of_guard, waits_in, wait_of_call}
use Rattle.cfa_states.specs.Walks.{blame_for, blame_edit, unsettled_edits}
use Rattle.cfa_laws.specs.Keys.{IsResolved, InstancesAreKeyed, IsLine, KeysAreLines}
use Rattle.cfa_convergence.specs.Keys.{KeysTellWorks}
use Rattle.cfa_convergence.specs.Policies.{IsKnown, HasKnown}
use Rattle.cfa_convergence.specs.Told.{teller_of}
use Rattle.cfa_convergence.proofs.AlwaysLemmas.{Any, Always, always_weaker, told_along, each_made, Kept_along, steps_along}
use Rattle.cfa_laws.specs.Sources.{IsFirst, RaiseHasFirst, IsMaybe, RaisesHaveFirst, UnsettledAreMaybe}
use Rattle.cfa_convergence.proofs.BlameLemmas.{greater_real, EditsAreBlamed, AreBlamed, HasBlame, IsWaiting, waits_listed, has_listed, has_told, has_set, has_begun, has_raised, has_reached}
use Rattle.cfa_convergence.proofs.DepthLemmas.{depth, depth_inner, deeper_apart}
use Rattle.cfa_laws.specs.lemmas.MaybeClasses.{guard_is, maybe_first}
use Rattle.cfa_convergence.proofs.LevelLemmas.{IsCall, Steps, CallsKeep, visit_level, reach_level, calls_level}
use Rattle.cfa_convergence.proofs.NameLemmas.{is_itself}
use Rattle.cfa_convergence.proofs.PlainLemmas.{Known_at, known_types, Known_common, known_commons}
use Rattle.cfa_convergence.proofs.QuietLemmas.{either_way}
use Rattle.cfa_convergence.proofs.SourceLemmas.{IsGiven, AreSourced, none_sourced, mapped_given, waits_given, global_given, wait_given, handed_given}

always_and : (c : Course) (P Q : History → Type 0) → Always c P → Always c Q → Always c (λ h. P h × Q h)
always_and (goes h) P Q p q = (p, q)
always_and (too_large h) P Q p q = (p, q)

always_on : (c : Course) (f : History → Course) (P Q : History → Type 0) → Always c P → ((h : History) → P h → Always (f h) Q) → ((h : History) → P h → Q h) → Always (then_on c f) Q
always_on (goes h) f P Q p q w = q h p
always_on (too_large h) f P Q p q w = w h p

each_and : {X : Type 0} (P Q : X → Type 0) (xs : List X) → Each P xs → Each Q xs → Each (λ (x : X). P x × Q x) xs
each_and P Q [] p q = tt
each_and P Q (x ∷ xs) p q = ((p.0, q.0), each_and P Q xs p.1 q.1)

never_then_no : (guard act : Status) → visit_status guard act Yes ≡ No
never_then_no No act = refl
never_then_no Maybe No = refl
never_then_no Maybe Maybe = refl
never_then_no Maybe Yes = refl
never_then_no Yes No = refl
never_then_no Yes Maybe = refl
never_then_no Yes Yes = refl

-- a visit that may come or not leaves a mark that says so
marks_maybe : (guard act mark : Status) → visit_status guard act mark ≡ Maybe → greater Maybe mark ≡ Maybe
marks_maybe guard act No e = refl
marks_maybe guard act Maybe e = refl
marks_maybe guard act Yes e = let none : No ≡ Maybe = sym (never_then_no guard act) ∙ e in absurd (cc)

-- a first visit that may come or not waits for its guard or its activation
waits_for : (guard act : Status) → visit_status guard act No ≡ Maybe → (guard ≡ Maybe) ⊎ (act ≡ Maybe)
waits_for No act e = absurd (cc)
waits_for Maybe act e = inl refl
waits_for Yes No e = absurd (cc)
waits_for Yes Maybe e = inr refl
waits_for Yes Yes e = absurd (cc)

-- an activation that begins elsewhere
begins_apart : (b : Bool) (wait : Option Wait) → b ≡ false → ◌≡◌ {A = Option Wait} (elim b [ true ↦ None | false ↦ wait ]) wait
begins_apart true wait e = absurd (cc)
begins_apart false wait e = refl

module _ (s : Setting) (tells : KeysTellWorks) (keyed : InstancesAreKeyed) (known : HasKnown s.policy) (raises_first : RaisesHaveFirst) (resolution_traced : UnsettledAreMaybe)
    (lines : KeysAreLines) where
  abbrev walk_tells : Teller
  walk_tells = teller_of either_way

  -- ---- what stays of a path while deeper ones are activated

  module _ (bound : ℕ) where
    abbrev Spares : History → History → Type 0
    Spares h k = (path : List ℕ) → depth path ≤ bound → waits_in s k path ≡ waits_in s h path

    spares_same : (h : History) → Spares h h
    spares_same h path low = refl

    spares_then : (a b c : History) → Spares a b → Spares b c → Spares a c
    spares_then a b c r q path low = q path low ∙ r path low

    abbrev IsDeeper : List ℕ → Type 0
    IsDeeper path = bound < depth path

    abbrev Deep_known : Home → Numbered → Type 0
    Deep_known home p = IsKnown p × IsDeeper home.path

    spares_begun : (path : List ℕ) (given : List Datum) (h : History) → IsDeeper path → Spares h (Begun path given ∷ h)
    spares_begun path given h deep p low = begins_apart (bytes_eq path p) (waits_in s h p) (deeper_apart p path (omega arith))

    spares_reached : (home : Home) (p : Numbered) (guard : Status) (is : Bool) (visits : ℕ) (h : History) → Deep_known home p → Spares h (Reached home p guard is visits ∷ h)
    spares_reached home p guard is visits h fine path low = go guard
      where
        apart : (is_acting p.type && bytes_eq home.path path) ≡ false
        apart = let deep = fine.1 in and_right (is_acting p.type) (bytes_eq home.path path) (deeper_apart path home.path (omega arith))

        go : (g : Status) → waits_in s (Reached home p g is visits ∷ h) path ≡ waits_in s h path
        go No = refl
        go Maybe = ap (λ b. elim b [ true ↦ wait_of_guard s h path p.promise.guard | false ↦ waits_in s h path ]) apart
        go Yes = ap (λ b. elim b [ true ↦ wait_of_call s h path | false ↦ waits_in s h path ]) apart

    steps_spare : Steps s either_way either_way (Kept_along Spares spares_same spares_then) IsDeeper Any Any IsResolved Deep_known
    steps_spare =
        steps_along Spares spares_same spares_then s either_way IsDeeper Any Any IsResolved Deep_known
        (λ path at. tt) (λ path i fit deep. let same : depth i.path ≡ depth path = ap depth fit.path in let less = depth_inner i in omega arith) (λ guard act mark ok. inr tt)
        (λ home p type h fine. keyed (reached_in_history s h home type p) fine.0.plain)
        tt spares_begun (λ path name datum h at p low. refl) (λ place cls status source h ok p low. refl) (λ cls status source h ok p low. refl)
        spares_reached (λ path i status h fit ok p low. refl)
        (λ path i status h fit has p low. refl) (λ path i h fit is p low. refl) (λ path i h fit is p low. refl)

    deep_known : (path name : List ℕ) (block : BlockTree) → IsDeeper path → bundle_of s.policy name ≡ Some block → Each (Deep_known (record { path = path; bundle = name_of block })) (numbered_in block)
    deep_known path name block deep is =
        each_and IsKnown (λ p. IsDeeper path) (numbered_in block) (known.bundles name block is) (each_made (λ p. IsDeeper path) (λ p. deep) (numbered_in block))

    visit_spares : (n : ℕ) (path : List ℕ) (guard act : Status) (i : Instance) (h : History) → IsResolved path i → depth path ≡ bound → Always (visit walk_tells (calls_of s walk_tells n) guard act i h) (Spares h)
    visit_spares n path guard act i h fit is =
        let same : depth i.path ≡ depth path = ap depth fit.path in
        let less = depth_inner i in
        visit_level s either_way either_way (Kept_along Spares spares_same spares_then) IsDeeper Any Any IsResolved Deep_known steps_spare (calls_of s walk_tells n) (calls_of s walk_tells n)
        (calls_level s either_way either_way (Kept_along Spares spares_same spares_then) IsDeeper Any Any IsResolved Deep_known steps_spare deep_known n) path guard act i h (inr tt) fit (omega arith)

  -- ---- what an activation waits for stays so

  abbrev Line_at : List ℕ → Instance → Type 0
  Line_at path i = IsResolved path i × IsLine i

  abbrev Waits : History → History → Type 0
  Waits h k = (path : List ℕ) → IsWaiting s h path → IsWaiting s k path

  waits_same : (h : History) → Waits h h
  waits_same h path w = w

  waits_then : (a b c : History) → Waits a b → Waits b c → Waits a c
  waits_then a b c r q path w = q path (r path w)

  steps_wait : Steps s either_way either_way (Kept_along Waits waits_same waits_then) Any Any Any Line_at Known_at
  steps_wait =
      steps_along Waits waits_same waits_then s either_way Any Any Any Line_at Known_at
      (λ path at. tt) (λ path i fit at. tt) (λ guard act mark ok. inr tt)
      (λ home p type h fine. each_and (IsResolved home.path) IsLine (resolution (reached_in_history s h home type p)).instances
      (keyed (reached_in_history s h home type p) fine.plain) (lines (reached_in_history s h home type p) fine.plain fine.calls))
      tt
      (λ path given h at p w. record { call = w.call; line = w.line; inner = w.inner; visited = w.visited; waits = w.waits })
      (λ path name datum h at p w. record { call = w.call; line = w.line; inner = w.inner; visited = w.visited; waits = w.waits })
      (λ place cls status source h ok p w. record { call = w.call; line = w.line; inner = w.inner; visited = w.visited; waits = w.waits })
      (λ cls status source h ok p w. record { call = w.call; line = w.line; inner = w.inner; visited = w.visited; waits = w.waits })
      (λ home p guard is visits h fine path w. record { call = w.call; line = w.line; inner = w.inner; visited = w.visited; waits = w.waits })
      (λ path i status h fit ok p w. waits_listed s i status h p fit.1 w)
      (λ path i status h fit has p w. record { call = w.call; line = w.line; inner = w.inner; visited = w.visited; waits = w.waits })
      (λ path i h fit is p w. record { call = w.call; line = w.line; inner = w.inner; visited = w.visited; waits = w.waits })
      (λ path i h fit is p w. record { call = w.call; line = w.line; inner = w.inner; visited = w.visited; waits = w.waits })

  abbrev CallsWait : Calls → Type 0
  CallsWait activate = CallsKeep (Kept_along Waits waits_same waits_then) Any Any activate activate

  calls_wait : (n : ℕ) → CallsWait (calls_of s walk_tells n)
  calls_wait = calls_level s either_way either_way (Kept_along Waits waits_same waits_then) Any Any Any Line_at Known_at steps_wait (λ path name block at is. known.bundles name block is)

  visit_waits : (n : ℕ) (path : List ℕ) (guard act : Status) (i : Instance) (h : History) → Line_at path i → Always (visit walk_tells (calls_of s walk_tells n) guard act i h) (Waits h)
  visit_waits n path guard act i h fit =
      visit_level s either_way either_way (Kept_along Waits waits_same waits_then) Any Any Any Line_at Known_at steps_wait (calls_of s walk_tells n) (calls_of s walk_tells n) (calls_wait n) path guard act i h (inr tt) fit tt

  -- ---- steps

  abbrev Has : History → Type 0
  Has = HasBlame s

  abbrev Stays_blamed : History → History → Type 0
  Stays_blamed h k = Has h → Has k

  told_has : (i : Instance) (os : List Outcome) (status : Status) (h : History) → Has h → Has (told i os status h)
  told_has i os status h =
      told_along Stays_blamed (λ h x. x) (λ a b c r q x. q (r x)) Any tt (λ cls to source h ok. has_raised s everywhere cls to (Some source) h (λ is. tt)) i os status h tt (has_told s i os h)

  sets_has : (path name : List ℕ) (held : List Datum) (h : History) → Has h → Has (set_each path name held h)
  sets_has path name [] h ok = ok
  sets_has path name (datum ∷ more) h ok = sets_has path name more (Set path name datum ∷ h) (has_set s path name datum h ok)

  binds_has : (path : List ℕ) (params : List NamedTree) (given : List Datum) (h : History) → Has h → Has (bind path params given h)
  binds_has path [] given h ok = ok
  binds_has path (p ∷ params) [] h ok = ok
  binds_has path (p ∷ params) (datum ∷ given) h ok = binds_has path params given (Set path p.name datum ∷ h) (has_set s path p.name datum h ok)

  guard_first_in : (h : History) (path : List ℕ) (guard : Option ExprTree) → guard_status s h path guard ≡ Maybe → IsFirst (status_in s h path) (first_maybe_of_guard guard (status_in s h path))
  guard_first_in h path None e = absurd (cc)
  guard_first_in h path (Some e') e = maybe_first (status_in s h path) e' e

  raises_has : (h : History) → Has h → (place : Where) (path : List ℕ) (guard : Status) (in_guard : Option (List ℕ)) → ((c : List ℕ) → in_guard ≡ Some c → status_in s h path c ≡ Maybe) →
      (guard ≡ Maybe → IsFirst (status_in s h path) in_guard) → (rs : List Raise) → Each (RaiseHasFirst (status_in s h path)) rs → (k : History) → Has k → Has (raise_all h place path guard in_guard rs k)
  raises_has h ok place path guard in_guard of p [] firsts k now = now
  raises_has h ok place path guard in_guard of p (r ∷ rs) firsts k now =
      raises_has h ok place path guard in_guard of p rs firsts.1 (raise_event h place path guard in_guard r k)
      (has_raised s place r.0 (lesser guard r.1.0) (handed h path in_guard r.1.1 (lesser guard r.1.0)) k (handed_given s h ok.sourced path in_guard r.1.1 guard r.1.0 of p firsts.0) now)

  -- what is unsettled in its edit bundle
  edits_given : (h : History) → AreSourced h → (us : List Unsettled) → Each (IsMaybe (global_status s h)) us → Each (λ (u : Unsettled). IsGiven (blame_edit (global_source h) u)) us
  edits_given h ok [] all = tt
  edits_given h ok (u ∷ us) all =
      (mapped_given (blame_for u.promise) (wait_on u.class (global_source h u.origin)) (waits_given u.class (global_source h u.origin) (global_given s h ok u.origin all.0)), edits_given h ok us all.1)

  edits_of : (home : Home) (p : Numbered) (h : History) → Has h → Each (λ (u : Unsettled). IsGiven (blame_edit (global_source h) u)) (unsettled_edits s h home p)
  edits_of home p h ok =
      let r = reached_in_history s h home p.type p in
      go (resolution r).unsettled (is_acting p.type) (edits_given h ok.sourced (resolution r).unsettled (resolution_traced r))
    where
      go : (us : List Unsettled) (b : Bool) → Each (λ (u : Unsettled). IsGiven (blame_edit (global_source h) u)) us → Each (λ (u : Unsettled). IsGiven (blame_edit (global_source h) u)) (cond b us [])
      go us true all = all
      go us false all = tt

  reached_has : (home : Home) (p : Numbered) (guard : Status) (is : Bool) (visits : ℕ) (h : History) → guard_status s h home.path p.promise.guard ≡ guard → Has h → Has (Reached home p guard is visits ∷ h)
  reached_has home p guard is visits h read ok =
      has_reached s home p guard is visits h (λ maybe sets. wait_given s h ok.sourced home.path p.promise.guard (read ∙ maybe)) (edits guard) ok
    where
      edits : (g : Status) → EditsAreBlamed s h home p g
      edits No = tt
      edits Maybe = edits_of home p h ok
      edits Yes = edits_of home p h ok

  -- ---- one activation

  abbrev CallsBlame : Calls → Type 0
  CallsBlame activate = (i : Instance) (status : Status) (h : History) → IsLine i → Has h → (status ≡ Maybe → IsWaiting s h (inner_path i)) → Always (activate i status h) Has

  module _ (n : ℕ) (blames : CallsBlame (calls_of s walk_tells n)) (home : Home) (place : Where) (act : Status) where
    abbrev calls : Calls
    calls = calls_of s walk_tells n

    -- why a visit of the promise that was reached last may come or not can be told
    abbrev IsReady : Status → History → Type 0
    IsReady guard h = (guard ≡ Maybe) ⊎ (act ≡ Maybe) → IsGiven (waits_in s h home.path)

    -- what a call that may come or not leaves to its bundle
    abbrev IsLeft : Instance → Status → History → Type 0
    IsLeft i status h = IsCall i.work → status ≡ Maybe → IsWaiting s h (inner_path i)

    worked_has : (i : Instance) (w : Work) → i.work ≡ w → (status : Status) (h : History) → IsLine i → Has (Listed i status ∷ h) → IsLeft i status (Listed i status ∷ h) →
        Always (worked walk_tells calls i w status (Listed i status ∷ h)) Has
    worked_has i (Acts acts) is status h line ok left = told_has i (Kept ∷ Repaired ∷ []) status (Listed i status ∷ h) ok
    worked_has i (Report content) is status h line ok left = told_has i (Kept ∷ []) status (Listed i status ∷ h) ok
    worked_has i (Call name given) is status h line ok left =
        always_on (calls i status (Listed i status ∷ h)) (tell walk_tells i status) Has Has (blames i status (Listed i status ∷ h) line ok (left (subst IsCall (sym is) tt)))
        (λ k has. told_has i (Kept ∷ Repaired ∷ []) status k has) (λ k has. has)

    listed_has : (guard : Status) (i : Instance) (h : History) → IsResolved home.path i → IsLine i → IsReady guard h → Has h → (status : Status) → visit_status guard act (mark_in h i.path i.text) ≡ status → (status ≡ No → ⊥) →
        Has (Listed i status ∷ h) × IsLeft i status (Listed i status ∷ h)
    listed_has guard i h fit line ready ok status is real =
        let mark = mark_in h i.path i.text in
        let now : mark_in (Listed i status ∷ h) i.path i.text ≡ greater status mark = ap (λ b. elim b [ true ↦ greater status mark | false ↦ mark ]) (is_itself i) in
        let has : Has (Listed i status ∷ h) = has_listed s tells i status h fit.key line real
        (λ maybe none. subst (λ x. IsGiven (waits_in s h x)) (sym fit.path) (ready (waits_for guard act (ap (visit_status guard act) (sym none) ∙ is ∙ maybe)))) ok in (
          has,
          λ call maybe. record {
            call = i;
            line = line;
            inner = refl;
            visited = λ none. greater_real status mark real (sym now ∙ none);
            waits = has.called i fit.key line call (now ∙ ap (λ x. greater x mark) maybe ∙ marks_maybe guard act mark (is ∙ maybe));
          },
        )

    visited_has : (guard : Status) (i : Instance) (h : History) → IsResolved home.path i → IsLine i → IsReady guard h → Has h → (status : Status) → visit_status guard act (mark_in h i.path i.text) ≡ status →
        Always (visited walk_tells calls i status h) Has
    visited_has guard i h fit line ready ok No is = ok
    visited_has guard i h fit line ready ok Maybe is =
        let both = listed_has guard i h fit line ready ok Maybe is (λ e. cc) in worked_has i i.work refl Maybe h line both.0 both.1
    visited_has guard i h fit line ready ok Yes is =
        let both = listed_has guard i h fit line ready ok Yes is (λ e. cc) in worked_has i i.work refl Yes h line both.0 both.1

    visit_has : (guard : Status) (i : Instance) (h : History) → IsResolved home.path i → IsLine i → IsReady guard h → Has h → Always (visit walk_tells calls guard act i h) Has
    unfolding visit
    visit_has guard i h fit line ready ok = visited_has guard i h fit line ready ok (visit_status guard act (mark_in h i.path i.text)) refl

    instances_has : (guard : Status) (is : List Instance) → Each (IsResolved home.path) is → Each IsLine is → (h : History) → IsReady guard h → Has h →
        Always (instances_from walk_tells calls guard act is h) Has
    instances_has guard [] fits lined h ready ok = ok
    instances_has guard (i ∷ is) fits lined h ready ok =
        always_on (visit walk_tells calls guard act i h) (instances_from walk_tells calls guard act is) (λ k. Has k × Spares (depth home.path) h k) Has
        (always_and (visit walk_tells calls guard act i h) Has (Spares (depth home.path) h) (visit_has guard i h fits.0 lined.0 ready ok) (visit_spares (depth home.path) n home.path guard act i h fits.0 refl))
        (λ k both. instances_has guard is fits.1 lined.1 k (λ waits. subst IsGiven (sym (both.1 home.path (omega arith))) (ready waits)) both.0)
        (λ k both. both.0)

    -- behind its own Reached event the promise is ready
    is_ready : (p : Numbered) → is_acting p.type ≡ true → (guard : Status) → (guard ≡ No → ⊥) → (is : Bool) (visits : ℕ) (h : History) → guard_status s h home.path p.promise.guard ≡ guard → Has h → (act ≡ Maybe → IsWaiting s h home.path) →
        IsReady guard (Reached home p guard is visits ∷ h)
    is_ready p acting guard some is visits h read ok waiting waits = go guard some read waits
      where
        here : (is_acting p.type && bytes_eq home.path home.path) ≡ true
        here = and_from (is_acting p.type) (bytes_eq home.path home.path) acting (same_text home.path)

        go : (g : Status) → (g ≡ No → ⊥) → guard_status s h home.path p.promise.guard ≡ g → (g ≡ Maybe) ⊎ (act ≡ Maybe) → IsGiven (waits_in s (Reached home p g is visits ∷ h) home.path)
        go No none e w = absurd (none refl)
        go Maybe none e w =
            subst (λ b. IsGiven (elim b [ true ↦ wait_of_guard s h home.path p.promise.guard | false ↦ waits_in s h home.path ])) (sym here) (wait_given s h ok.sourced home.path p.promise.guard e)
        go Yes none e (inl f) = absurd (cc)
        go Yes none e (inr f) = subst (λ b. IsGiven (elim b [ true ↦ wait_of_call s h home.path | false ↦ waits_in s h home.path ])) (sym here) (waiting f).waits

    limited_has : (b : Bool) (c : Course) (h : History) → Always c Has → Has h → Always (within_limit b c h) Has
    limited_has true c h p ok = p
    limited_has false c h p ok = ok

    acting_has : (p : Numbered) → IsKnown p → (type : PromiseType) → p.type ≡ type → is_acting type ≡ true → (guard : Status) → (guard ≡ No → ⊥) → (h : History) → guard_status s h home.path p.promise.guard ≡ guard → Has h → (act ≡ Maybe → IsWaiting s h home.path) →
        Always (acting_reached s walk_tells calls home act p type guard h) Has
    acting_has p k type same acting guard some h read ok waiting =
        let r = reached_in_history s h home type p in
        let visits = (resolution r).visits in
        let m : History = Reached home p guard false visits ∷ h in
        limited_has (nat_le (visits + visits_in h) most_visits) (instances_from walk_tells calls guard act (resolution r).instances m) m
        (instances_has guard (resolution r).instances (keyed r k.plain) (lines r k.plain k.calls) m
        (is_ready p (ap is_acting same ∙ acting) guard some false visits h read ok waiting) (reached_has home p guard false visits h read ok))
        (reached_has home p guard false visits h read ok)

    kept_has : (p : Numbered) → IsKnown p → (type : PromiseType) → p.type ≡ type → (guard : Status) → (guard ≡ No → ⊥) → (h : History) → guard_status s h home.path p.promise.guard ≡ guard → Has h → (act ≡ Maybe → IsWaiting s h home.path) →
        Always (kept_by s walk_tells calls place home act p type guard h) Has
    kept_has p k promises.Vars is guard some h read ok waiting =
        let choices = setting_choices (scopes_in s h home) promises.Vars p.promise in
        let m : History = Reached home p guard true (count_choices choices) ∷ h in
        limited_has (nat_le (count_choices choices + visits_in h) most_visits) (goes (set_each home.path p.promise.promiser (data_set (scopes_in s h home) p.promise choices) m)) m
        (sets_has home.path p.promise.promiser (data_set (scopes_in s h home) p.promise choices) m (reached_has home p guard true (count_choices choices) h read ok))
        (reached_has home p guard true (count_choices choices) h read ok)
    kept_has p k promises.Classes is guard some h read ok waiting =
        let choices = setting_choices (scopes_in s h home) promises.Classes p.promise in
        let first = first_maybe_of_guard p.promise.guard (status_in s h home.path) in
        let rs = raises_of (status_in s h home.path) (scopes_in s h home) p.promise choices in
        let m : History = Reached home p guard false (count_choices choices) ∷ h in
        limited_has (nat_le (count_choices choices + visits_in h) most_visits) (goes (raise_all h place home.path guard first rs m)) m
        (raises_has h ok place home.path guard first (guard_is (status_in s h home.path) p.promise.guard) (λ maybe. guard_first_in h home.path p.promise.guard (read ∙ maybe)) rs
        (raises_first (status_in s h home.path) (scopes_in s h home) p.promise choices) m (reached_has home p guard false (count_choices choices) h read ok))
        (reached_has home p guard false (count_choices choices) h read ok)
    kept_has p k promises.Files is guard some h read ok waiting = acting_has p k promises.Files is refl guard some h read ok waiting
    kept_has p k promises.Methods is guard some h read ok waiting = acting_has p k promises.Methods is refl guard some h read ok waiting
    kept_has p k promises.Services is guard some h read ok waiting = acting_has p k promises.Services is refl guard some h read ok waiting
    kept_has p k promises.Reports is guard some h read ok waiting = acting_has p k promises.Reports is refl guard some h read ok waiting
    kept_has p k type is guard some h read ok waiting = ok

    guarded_has : (p : Numbered) → IsKnown p → (guard : Status) (h : History) → guard_status s h home.path p.promise.guard ≡ guard → Has h → (act ≡ Maybe → IsWaiting s h home.path) →
        Always (guarded s walk_tells calls place home act p guard h) Has
    guarded_has p k No h read ok waiting =
        let m : History = Reached home p No (sets_variable p.type) 1 ∷ h in
        limited_has (nat_le (1 + visits_in h) most_visits) (goes m) m (reached_has home p No (sets_variable p.type) 1 h read ok) (reached_has home p No (sets_variable p.type) 1 h read ok)
    guarded_has p k Maybe h read ok waiting = kept_has p k p.type refl Maybe (λ e. cc) h read ok waiting
    guarded_has p k Yes h read ok waiting = kept_has p k p.type refl Yes (λ e. cc) h read ok waiting

    reach_has : (p : Numbered) → IsKnown p → (h : History) → Has h → (act ≡ Maybe → IsWaiting s h home.path) → Always (reach s walk_tells calls place home act p h) Has
    unfolding reach
    reach_has p k h ok waiting = guarded_has p k (guard_status s h home.path p.promise.guard) h refl ok waiting

    promises_has : (ps : List Numbered) → Each IsKnown ps → (h : History) → Has h → (act ≡ Maybe → IsWaiting s h home.path) → Always (promises_from s walk_tells calls place home act ps h) (λ k. Has k × Waits h k)
    promises_has [] all h ok waiting = (ok, waits_same h)
    promises_has (p ∷ ps) all h ok waiting =
        always_on (reach s walk_tells calls place home act p h) (promises_from s walk_tells calls place home act ps) (λ k. Has k × Waits h k) (λ k. Has k × Waits h k)
        (always_and (reach s walk_tells calls place home act p h) Has (Waits h) (reach_has p all.0 h ok waiting)
        (reach_level s either_way either_way (Kept_along Waits waits_same waits_then) Any Any Any Line_at Known_at steps_wait calls calls (calls_wait n) home tt place tt act tt p h all.0))
        (λ k both. always_weaker (promises_from s walk_tells calls place home act ps k) (λ m. Has m × Waits k m) (λ m. Has m × Waits h m) (λ m q. (q.0, waits_then h k m both.1 q.1))
        (promises_has ps all.1 k both.0 (λ e. both.1 home.path (waiting e))))
        (λ k both. both)

    types_has : (ps : List Numbered) (types : List PromiseType) → Each (λ (type : PromiseType). Each IsKnown (of_type type ps)) types → (h : History) → Has h → (act ≡ Maybe → IsWaiting s h home.path) →
        Always (types_from s walk_tells calls place home act ps types h) (λ k. Has k × Waits h k)
    types_has ps [] all h ok waiting = (ok, waits_same h)
    types_has ps (type ∷ types) all h ok waiting =
        always_on (promises_from s walk_tells calls place home act (of_type type ps) h) (types_from s walk_tells calls place home act ps types) (λ k. Has k × Waits h k) (λ k. Has k × Waits h k)
        (promises_has (of_type type ps) all.0 h ok waiting)
        (λ k both. always_weaker (types_from s walk_tells calls place home act ps types k) (λ m. Has m × Waits k m) (λ m. Has m × Waits h m) (λ m q. (q.0, waits_then h k m both.1 q.1))
        (types_has ps types all.1 k both.0 (λ e. both.1 home.path (waiting e))))
        (λ k both. both)

    passes_has : (ps : List Numbered) → Each IsKnown ps → (m : ℕ) (h : History) → Has h → (act ≡ Maybe → IsWaiting s h home.path) → Always (passes s walk_tells calls place home act ps m h) Has
    unfolding passes
    passes_has ps all zero h ok waiting = ok
    passes_has ps all (suc m) h ok waiting =
        always_on (types_from s walk_tells calls place home act ps agent_types h) (passes s walk_tells calls place home act ps m) (λ k. Has k × Waits h k) Has
        (types_has ps agent_types (known_types ps all agent_types) h ok waiting)
        (λ k both. passes_has ps all m k both.0 (λ e. both.1 home.path (waiting e)))
        (λ k both. both.0)

  -- ---- calls inside calls

  waits_begun : (path q : List ℕ) (given : List Datum) (h : History) → IsWaiting s h q → IsWaiting s (Begun path given ∷ h) q
  waits_begun path q given h w = record { call = w.call; line = w.line; inner = w.inner; visited = w.visited; waits = w.waits }

  waits_bound : (path q : List ℕ) (params : List NamedTree) (given : List Datum) (h : History) → IsWaiting s h q → IsWaiting s (bind path params given h) q
  waits_bound path q [] given h w = w
  waits_bound path q (p ∷ params) [] h w = w
  waits_bound path q (p ∷ params) (datum ∷ given) h w =
      waits_bound path q params given (Set path p.name datum ∷ h) (record { call = w.call; line = w.line; inner = w.inner; visited = w.visited; waits = w.waits })

  activation_has : (n : ℕ) → CallsBlame (calls_of s walk_tells n) → (path : List ℕ) (status : Status) (given : List Datum) (name : List ℕ) (found : Option BlockTree) → bundle_of s.policy name ≡ found → (h : History) → Has h →
      (status ≡ Maybe → IsWaiting s h path) → Always (activation s walk_tells (calls_of s walk_tells n) path status given found h) Has
  activation_has n blames path status given name None is h ok waiting = has_begun s path given h ok
  activation_has n blames path status given name (Some block) is h ok waiting =
      passes_has n blames (record { path = path; bundle = name_of block }) (within path) status (numbered_in block) (known.bundles name block is) 3 (bind path (params_of block) given (Begun path given ∷ h))
      (binds_has path (params_of block) given (Begun path given ∷ h) (has_begun s path given h ok)) (λ e. waits_bound path path (params_of block) given (Begun path given ∷ h) (waits_begun path path given h (waiting e)))

  called_has : (n : ℕ) → CallsBlame (calls_of s walk_tells n) → (path : List ℕ) (w : Work) (status : Status) (h : History) → Has h → (status ≡ Maybe → IsWaiting s h path) → Always (called_by s walk_tells (calls_of s walk_tells n) path w status h) Has
  called_has n blames path (Acts acts) status h ok waiting = ok
  called_has n blames path (Report content) status h ok waiting = ok
  called_has n blames path (Call name given) status h ok waiting = activation_has n blames path status given name (bundle_of s.policy name) refl h ok waiting

  calls_blame : (n : ℕ) → CallsBlame (calls_of s walk_tells n)
  unfolding calls_of
  calls_blame zero i status h line ok waiting = has_begun s (inner_path i) [] h ok
  calls_blame (suc n) i status h line ok waiting = called_has n (calls_blame n) (inner_path i) i.work status h ok waiting

  -- ---- the whole walk

  never : (path : List ℕ) (h : History) → Yes ≡ Maybe → IsWaiting s h path
  never path h e = absurd (cc)

  blocks_have : (blocks : List BlockTree) → Each Known_common blocks →
      (h : History) → Has h → Always (commons_from s walk_tells blocks h) Has
  blocks_have [] all h ok = ok
  blocks_have (block ∷ blocks) all h ok =
      always_on (through_common s walk_tells block h) (commons_from s walk_tells blocks) (λ k. Has k × Waits h k) Has
      (types_has (length s.policy) (calls_blame (length s.policy)) (record { path = name_of block; bundle = name_of block }) everywhere Yes (numbered_in block) common_types all.0.1 h ok (never (name_of block) h))
      (λ k both. blocks_have blocks all.1 k both.0) (λ k both. both.0)

  commons_have : (n : ℕ) (h : History) → Has h → Always (common_passes s walk_tells n h) Has
  unfolding common_passes
  commons_have zero h ok = ok
  commons_have (suc n) h ok =
      always_on (commons_from s walk_tells (common_bundles_of s.policy) h) (common_passes s walk_tells n) Has Has (blocks_have (common_bundles_of s.policy) (known_commons (common_bundles_of s.policy) known.commons) h ok) (λ k has. commons_have n k has) (λ k has. has)

  type_has : (name : List ℕ) (type : Option BundleType) (h : History) → Has h → Always (by_type s walk_tells name type (bundle_of s.policy name) h) Has
  type_has name None h ok = ok
  type_has name (Some bundles.Common) h ok = ok
  type_has name (Some bundles.EditLine) h ok = ok
  type_has name (Some bundles.Agent) h ok =
      activation_has (length s.policy) (calls_blame (length s.policy)) name Yes [] name (bundle_of s.policy name) refl h ok (never name h)

  sequence_has : (names : List (List ℕ)) (h : History) → Has h → Always (sequence_from s walk_tells names h) Has
  sequence_has [] h ok = ok
  sequence_has (name ∷ names) h ok =
      always_on (in_sequence s walk_tells name (bundle_of s.policy name) h) (sequence_from s walk_tells names) Has Has (type_has name (type_of_block s walk_tells (bundle_of s.policy name)) h ok)
      (λ k has. sequence_has names k has) (λ k has. has)

  nothing_blamed : Has []
  nothing_blamed = record { sourced = none_sourced; called = λ i key line is e. absurd (cc); blamed = tt }

  run_has : Always (run s walk_tells) Has
  unfolding run
  run_has =
      always_on (common_passes s walk_tells 3 []) (sequence_from s walk_tells (sequence_of s.policy)) Has Has (commons_have 3 [] nothing_blamed) (λ k has. sequence_has (sequence_of s.policy) k has) (λ k has. has)

  pub walk_blamed : (h : History) → run s walk_tells ≡ goes h → AreBlamed s h
  walk_blamed h is = (subst (λ c. Always c Has) is run_has).blamed
