-- A run without failures lies within the open walk, level by level.
use Rattle.std.proofs.Common.{◌≡◌, ℕ, zero, suc, ◌+◌, Bool, true, false, List, [], ◌∷◌, Option, Some, None, nat_le, nat_eq, refl, sym, ap, ap₂, subst, ◌∙◌, ◌⊎◌, inr, arith}
use Rattle.std.specs.Prelude.{cond, map, ◌||◌}
use Rattle.std.specs.List.{AllByRecursion as Each, Contains}
use Rattle.std.specs.Str.{bytes_eq}
use Rattle.std.proofs.lemmas.Bool.{eqb-true, cond-true}
use Rattle.std.proofs.lemmas.List.Elements.{Contains-get_or, Contains-append_right}
use Rattle.cfa_base.specs.lemmas.EqualTexts.{same_text}
use Rattle.cfa_statuses.specs.declared.levels.Status.{Status}
use Rattle.cfa_statuses.specs.declared.levels.Status.TheVariants.{No, Maybe, Yes}
use Rattle.cfa_defines.specs.ClassPromises.{raises_of}
use Rattle.cfa_defines.specs.FirstMaybe.{first_maybe_of_guard}
use Rattle.cfa_defines.specs.VarsPromises.{setting_choices, count_choices, data_set}
use Rattle.cfa_kinds.specs.declared.kinds.PromiseType.{PromiseType}
use Rattle.cfa_kinds.specs.declared.kinds.PromiseType.TheVariants as promises
use Rattle.cfa_outcomes.specs.declared.outcomes.Outcome.TheVariants.{Kept, Repaired}
use Rattle.cfa_resolve.specs.declared.instances.Instance.{Instance}
use Rattle.cfa_resolve.specs.declared.instances.Work.{Work}
use Rattle.cfa_resolve.specs.declared.instances.Work.TheVariants.{Acts, Call, Report}
use Rattle.cfa_resolve.specs.Instances.{Reached as Resolving}
use Rattle.cfa_base.specs.Index.{is_listed}
use Rattle.cfa_resolve.specs.Resolution.{resolution, reached_at, is_acting}
use Rattle.cfa_served.specs.Served.{bundle_of}
use Rattle.cfa_tree.specs.Tree.{ExprTree, BlockTree, PolicyTree}
use Rattle.cfa_vars.specs.declared.scoping.Datum.{Datum}
use Rattle.cfa_vars.specs.Expansion.{Chosen}
use Rattle.cfa_vars.specs.Scopes.{Table, InScope}
use Rattle.cfa_states.specs.History.{History, Where, Set, Reached, Listed, scope_in, mark_in, visits_in}
use Rattle.cfa_states.specs.Levels.{HasPlainNames}
use Rattle.cfa_states.specs.Numbered.{Numbered, numbered_in, name_of, agent_types, of_type}
use Rattle.cfa_states.specs.Passes.{Course, goes, too_large, told, Calls, tell, worked, visited, visit_status, visit, instances_from, set_each, raise_all, most_visits, within_limit, reached, vars_reached, classes_reached, sets_variable, acting_reached, kept_by, guarded, reach, promises_from, types_from, passes, activation, calls_of}
use Rattle.cfa_states.specs.Tellers.{Teller}
use Rattle.cfa_states.specs.Views.{Setting, Home, shared_names, shared_in, scopes_in, global_status, status_in, guard_status, reached_in_history}
use Rattle.cfa_states.specs.Walks.{unsettled_edits}
use Rattle.cfa_convergence.specs.Conflicts.{HasActs}
use Rattle.cfa_convergence.specs.Contained.{unfailing, IsSettled, EditsAreSettled}
use Rattle.cfa_laws.specs.Keys.{IsResolved, InstancesAreKeyed}
use Rattle.cfa_convergence.specs.Keys.{KeysTellWorks}
use Rattle.cfa_convergence.specs.Policies.{IsKnown}
use Rattle.cfa_laws.specs.Statuses.{InstancesAreSame, RaisesAlike, RaisesLieTogether, Within, no_no, yes_yes}
use Rattle.cfa_convergence.specs.Told.{teller_of}
use Rattle.cfa_convergence.proofs.AlwaysLemmas.{Any, Any_at, Any_home, Always, always_weaker, always_then, told_along, each_made, Kept_along, steps_along}
use Rattle.cfa_convergence.proofs.ContainedLemmas.{Both, both_large, large_both, both_right, Contained, Settles, If_settled, then_both, if_settled, both_sets, both_raise_all, alone_raise_all, both_reached, both_visited, walk_alone, ended_both, acted_both, reported_both}
use Rattle.cfa_convergence.proofs.DepthLemmas.{one_if, depth}
use Rattle.cfa_convergence.proofs.LevelLemmas.{Steps, CallsKeep, instances_level, promises_level, types_level, passes_level, activation_level, calls_level}
use Rattle.cfa_convergence.proofs.PlainLemmas.{known_types}
use Rattle.cfa_convergence.proofs.QuietLemmas.{either_way, Quiet, quiet_same, quiet_then}
use Rattle.cfa_laws.specs.lemmas.Within.{within_greater, value_within}
use Rattle.cfa_convergence.proofs.WithinLemmas.{within_visit, maybe_guard}

-- ---- what was settled before

module _ (s : Setting) where
  pub settles_same : (h : History) → Settles s h h
  settles_same h st = st

  pub settles_then : (a b c : History) → Settles s a b → Settles s b c → Settles s a c
  settles_then a b c r q st = r (q st)

  abbrev pub Settling : History → Course → Course → Type 0
  Settling = Kept_along (Settles s) settles_same settles_then

  pub steps_settle : Steps s either_way either_way Settling Any Any Any Any_at Any_home
  steps_settle =
      steps_along (Settles s) settles_same settles_then s either_way Any Any Any Any_at Any_home
      (λ path at. tt) (λ path i fit at. tt) (λ guard act mark ok. inr tt)
      (λ home p type h fine. each_made Any (λ i. tt) (resolution (reached_in_history s h home type p)).instances)
      tt (λ path given h at st. st) (λ path name datum h at st. st) (λ place class status source h ok st. st) (λ class status source h ok st. st)
      (λ home p guard is visits h fine st. st.2) (λ path i status h fit ok st. st)
      (λ path i status h fit has st. st) (λ path i h fit is st. st) (λ path i h fit is st. st)

  abbrev pub CallsSettle : Calls → Type 0
  CallsSettle activate = CallsKeep Settling Any Any activate activate

  pub known_any : (path name : List ℕ) (block : BlockTree) → Any path → bundle_of s.policy name ≡ Some block → Each (Any_home (record { path = path; bundle = name_of block })) (numbered_in block)
  known_any path name block at is = each_made (Any_home (record { path = path; bundle = name_of block })) (λ p. tt) (numbered_in block)

  module _ (activate : Calls) (calls : CallsSettle activate) (home : Home) (place : Where) (act : Status) where
    instances_settle : (guard : Status) (is : List Instance) (h : History) → Always (instances_from (teller_of either_way) activate guard act is h) (Settles s h)
    instances_settle guard is h =
        instances_level s either_way either_way Settling Any Any Any Any_at Any_home steps_settle activate activate calls home tt place tt act tt guard is (each_made (Any_at home.path) (λ i. tt) is) h

    promises_settle : (ps : List Numbered) (h : History) → Always (promises_from s (teller_of either_way) activate place home act ps h) (Settles s h)
    promises_settle ps h =
        promises_level s either_way either_way Settling Any Any Any Any_at Any_home steps_settle activate activate calls home tt place tt act tt ps (each_made (Any_home home) (λ p. tt) ps) h

    types_settle : (ps : List Numbered) (types : List PromiseType) (h : History) → Always (types_from s (teller_of either_way) activate place home act ps types h) (Settles s h)
    types_settle ps types h =
        types_level s either_way either_way Settling Any Any Any Any_at Any_home steps_settle activate activate calls home tt place tt act tt ps types
        (each_made (λ (type : PromiseType). Each (Any_home home) (of_type type ps)) (λ type. each_made (Any_home home) (λ p. tt) (of_type type ps)) types) h

    passes_settle : (ps : List Numbered) (n : ℕ) (h : History) → Always (passes s (teller_of either_way) activate place home act ps n h) (Settles s h)
    passes_settle ps n h =
        passes_level s either_way either_way Settling Any Any Any Any_at Any_home steps_settle activate activate calls home tt place tt act tt ps (each_made (Any_home home) (λ p. tt) ps) n h

  pub calls_settle : (n : ℕ) → CallsSettle (calls_of s (teller_of either_way) n)
  calls_settle = calls_level s either_way either_way Settling Any Any Any Any_at Any_home steps_settle known_any

  pub activation_settles : (activate : Calls) → CallsSettle activate → (path : List ℕ) (act : Status) (given : List Datum) (name : List ℕ) (h : History) →
      Always (activation s (teller_of either_way) activate path act given (bundle_of s.policy name) h) (Settles s h)
  activation_settles activate calls path act given name h =
      activation_level s either_way either_way Settling Any Any Any Any_at Any_home steps_settle known_any activate activate calls path tt act tt given name (bundle_of s.policy name) refl h

-- ---- what is read

start_within : (b : Bool) → Within (cond b Yes No) (cond b Yes No)
start_within true = yes_yes
start_within false = no_no

-- the scopes of the sequence and of common bundles are always open
abbrev pub IsShallow : List ℕ → Type 0
IsShallow q = depth q ≡ 0

abbrev pub AreShallowOpen : (List ℕ → Type 0) → Type 0
AreShallowOpen Open = (q : List ℕ) → IsShallow q → Open q

-- a path without a newline is shallow
pub plain_shallow : (q : List ℕ) → (Contains q 10 → ⊥) → IsShallow q
plain_shallow [] none = refl
plain_shallow (c ∷ q) none = go (nat_eq c 10) refl (plain_shallow q (λ there. none (Contains-append_right (c ∷ []) q 10 there)))
  where
    go : (b : Bool) → nat_eq c 10 ≡ b → IsShallow q → one_if b + depth q ≡ 0
    go true e rest = absurd (none (subst (λ x. Contains (x ∷ q) 10) (sym (eqb-true c 10 e)) (Contains-get_or (10 ∷ q) 0 0 (omega arith))))
    go false e rest = omega (arith, rest)

-- shared scopes are shallow
shared_shallow : (policy : PolicyTree) → HasPlainNames policy → (q : List ℕ) → is_listed (shared_names policy) q ≡ true → IsShallow q
shared_shallow policy plain q listed = plain_shallow q (λ there. let out : is_listed (shared_names policy) q ≡ false = plain q there in absurd (cc))

-- what holds of each listed name
listed_here : (name : List ℕ) (names : List (List ℕ)) → is_listed (name ∷ names) name ≡ true
listed_here name names = ap (λ b. b || is_listed names name) (same_text name)

listed_more : (other name : List ℕ) (names : List (List ℕ)) → is_listed names name ≡ true → is_listed (other ∷ names) name ≡ true
listed_more other name names e = go (bytes_eq other name)
  where
    go : (b : Bool) → (b || is_listed names name) ≡ true
    go true = refl
    go false = e

tables_same : (a b : History) (names : List (List ℕ)) → ((q : List ℕ) → is_listed names q ≡ true → scope_in a q ≡ scope_in b q) →
    map {B = List ℕ × Table} (λ name. (name, scope_in a name)) names ≡ map {B = List ℕ × Table} (λ name. (name, scope_in b name)) names
tables_same a b [] same = refl
tables_same a b (name ∷ names) same =
    ap₂ (λ (t : Table) (ts : List (List ℕ × Table)). (name, t) ∷ ts) (same name (listed_here name names)) (tables_same a b names (λ q e. same q (listed_more name q names e)))

module _ (s : Setting) (shared : HasPlainNames s.policy) (Open : List ℕ → Type 0) (shallow : AreShallowOpen Open) (a b : History) (c : Contained Open a b) where
  global_within : (x : List ℕ) → Within (global_status s a x) (global_status s b x)
  global_within x = within_greater (start_within (is_listed s.classes x)) (c.globals x)

  shared_same : shared_in s.policy a ≡ shared_in s.policy b
  unfolding shared_in
  shared_same = tables_same a b (shared_names s.policy) (λ q e. c.scopes q (shallow q (shared_shallow s.policy shared q e)))

  module _ (home : Home) (own : Open home.path) where
    status_within : (x : List ℕ) → Within (status_in s a home.path x) (status_in s b home.path x)
    status_within x = within_greater (global_within x) (c.locals home.path own x)

    scopes_same : scopes_in s a home ≡ scopes_in s b home
    scopes_same = ap₂ (λ o sh. record { own = o; own_name = home.bundle; shared = sh }) (c.scopes home.path own) shared_same

    read_within : (guard : Option ExprTree) → Within (guard_status s a home.path guard) (guard_status s b home.path guard)
    read_within None = yes_yes
    read_within (Some e) = value_within (status_in s a home.path) (status_in s b home.path) status_within e

-- ---- one activation

-- calls that both make
abbrev pub CallsWithin : Setting → (List ℕ → Type 0) → (path : List ℕ) → Calls → Calls → Type 0
CallsWithin s Open path activate other =
    (i : Instance) (status : Status) (a b : History) → IsResolved path i → Within Yes status → Contained Open a b → Both (activate i Yes a) (other i status b) (If_settled s Open)

-- the walk's visits of an instance alone
abbrev pub VisitsQuietly : (List ℕ → Type 0) → (path : List ℕ) → Calls → Type 0
VisitsQuietly Open path activate =
    (i : Instance) (guard act : Status) (h : History) → IsResolved path i → (visit_status guard act (mark_in h i.path i.text) ≡ No) ⊎ (visit_status guard act (mark_in h i.path i.text) ≡ Maybe) →
    Always (visit (teller_of either_way) activate guard act i h) (Quiet Open h)

module _ (s : Setting) (tells : KeysTellWorks) (keyed : InstancesAreKeyed) (together : RaisesLieTogether) (same : InstancesAreSame) (shared : HasPlainNames s.policy) (repairs : History → Instance → Bool)
    (Open : List ℕ → Type 0) (shallow : AreShallowOpen Open) (activate other : Calls) (later : CallsSettle s other) (home : Home) (own : Open home.path)
    (place : Where) (act : Status) (active : Within Yes act) (calls : CallsWithin s Open home.path activate other) (alone : VisitsQuietly Open home.path other) where
  abbrev run_tells : Teller
  run_tells = teller_of (unfailing repairs)

  abbrev walk_tells : Teller
  walk_tells = teller_of either_way

  abbrev Fine : History → History → Type 0
  Fine = If_settled s Open

  worked_both : (i : Instance) (w : Work) → i.work ≡ w → IsResolved home.path i → (status : Status) (a b : History) → Within Yes status → Contained Open a b →
      Both (worked run_tells activate i w Yes (Listed i Yes ∷ a)) (worked walk_tells other i w status (Listed i status ∷ b)) Fine
  worked_both i (Acts acts) is fit status a b v c = λ st. acted_both Open i (repairs (Listed i Yes ∷ a) i) status a b (subst HasActs (sym is) tt) v c
  worked_both i (Report content) is fit status a b v c = λ st.
      reported_both Open i status (Listed i Yes ∷ a) (Listed i status ∷ b) none v (both_visited Open tells i Yes status a b fit.key none v c)
    where
      none : HasActs i.work → ⊥
      none has = subst HasActs is has
  worked_both i (Call name given) is fit status a b v c =
      then_both s Open (activate i Yes (Listed i Yes ∷ a)) (other i status (Listed i status ∷ b)) (tell run_tells i Yes) (tell walk_tells i status)
      (calls i status (Listed i Yes ∷ a) (Listed i status ∷ b) fit v (both_visited Open tells i Yes status a b fit.key none v c))
      (λ k. told_settles i status k)
      (λ h k d st. ended_both Open i (repairs h i) status h k none v d)
    where
      none : HasActs i.work → ⊥
      none has = subst HasActs is has

      told_settles : (i : Instance) (status : Status) (k : History) → Settles s k (told i (Kept ∷ Repaired ∷ []) status k)
      told_settles i status k = told_along (Settles s) (settles_same s) (settles_then s) Any tt (λ class to source h ok st. st) i (Kept ∷ Repaired ∷ []) status k tt (λ st. st)

  visited_both : (i : Instance) (r w : Status) → IsResolved home.path i → (a b : History) → Within r w → Contained Open a b → Always (visited walk_tells other i w b) (λ k. (w ≡ Maybe) → Quiet Open b k) →
      Both (visited run_tells activate i r a) (visited walk_tells other i w b) Fine
  visited_both i No No fit a b v c quiet = λ st. c
  visited_both i No Maybe fit a b v c quiet =
      both_right a (visited walk_tells other i Maybe b) Fine (always_weaker (visited walk_tells other i Maybe b) (λ k. (Maybe ≡ Maybe) → Quiet Open b k) (Fine a) (λ k q st. walk_alone Open a b k c (q refl)) quiet)
  visited_both i Yes Maybe fit a b v c quiet = worked_both i i.work refl fit Maybe a b v c
  visited_both i Yes Yes fit a b v c quiet = worked_both i i.work refl fit Yes a b v c
  visited_both i No Yes fit a b v c quiet = elim v [ ]
  visited_both i Yes No fit a b v c quiet = elim v [ ]
  visited_both i Maybe w fit a b v c quiet = elim v [ ]

  visit_both : (i : Instance) (gr gw : Status) → IsResolved home.path i → (a b : History) → Within gr gw → Contained Open a b →
      Both (visit run_tells activate gr Yes i a) (visit walk_tells other gw act i b) Fine
  unfolding visit
  visit_both i gr gw fit a b v c =
      visited_both i (visit_status gr Yes (mark_in a i.path i.text)) (visit_status gw act (mark_in b i.path i.text)) fit a b
      (within_visit v active (c.marks i.path i.text)) c (go (visit_status gw act (mark_in b i.path i.text)) refl)
    where
      go : (w : Status) → visit_status gw act (mark_in b i.path i.text) ≡ w → Always (visited walk_tells other i w b) (λ k. (w ≡ Maybe) → Quiet Open b k)
      go No e = λ is. absurd (cc)
      go Maybe e =
          always_weaker (visited walk_tells other i Maybe b) (Quiet Open b) (λ k. (Maybe ≡ Maybe) → Quiet Open b k) (λ k q is. q)
          (subst (λ w. Always (visited walk_tells other i w b) (Quiet Open b)) e (alone i gw act b fit (inr e)))
      go Yes e = always_any (visited walk_tells other i Yes b)
        where
          always_any : (d : Course) → Always d (λ k. (Yes ≡ Maybe) → Quiet Open b k)
          always_any (goes k) = λ is. absurd (cc)
          always_any (too_large k) = λ is. absurd (cc)

  instances_both : (gr gw : Status) → Within gr gw → (is : List Instance) → Each (IsResolved home.path) is → (a b : History) → Contained Open a b →
      Both (instances_from run_tells activate gr Yes is a) (instances_from walk_tells other gw act is b) Fine
  instances_both gr gw v [] fits a b c = λ st. c
  instances_both gr gw v (i ∷ is) fits a b c =
      then_both s Open (visit run_tells activate gr Yes i a) (visit walk_tells other gw act i b) (instances_from run_tells activate gr Yes is) (instances_from walk_tells other gw act is)
      (visit_both i gr gw fits.0 a b v c) (λ k. instances_settle s other later home place act gw is k) (λ h k d. instances_both gr gw v is fits.1 h k d)

  -- the walk alone goes through the instances of a promise whose guard may hold or not
  instances_alone : (is : List Instance) → Each (IsResolved home.path) is → (b : History) → Always (instances_from walk_tells other Maybe act is b) (Quiet Open b)
  instances_alone [] fits b = quiet_same Open b
  instances_alone (i ∷ is) fits b =
      always_then (Quiet Open) (quiet_same Open) (quiet_then Open) b (visit walk_tells other Maybe act i b) (visit walk_tells other Maybe act i b) (instances_from walk_tells other Maybe act is) (instances_from walk_tells other Maybe act is)
      (alone i Maybe act b fits.0 (maybe_guard act (mark_in b i.path i.text))) (λ k. instances_alone is fits.1 k)

  -- ---- limits

  limited_both : (m n : Bool) (x y : Course) (a b : History) → Both x y Fine → Both (within_limit m x a) (within_limit n y b) Fine
  limited_both true true x y a b p = p
  limited_both true false x y a b p = both_large x b Fine
  limited_both false true x y a b p = large_both a y Fine
  limited_both false false x y a b p = tt

  reached_both : (p : Numbered) (gr gw : Status) (is : Bool) (m n : ℕ) (f g : History → Course) (a b : History) →
      Both (f (Reached home p gr is m ∷ a)) (g (Reached home p gw is n ∷ b)) Fine → Both (reached home p gr is m f a) (reached home p gw is n g b) Fine
  reached_both p gr gw is m n f g a b q =
      limited_both (nat_le (m + visits_in a) most_visits) (nat_le (n + visits_in b) most_visits) (f (Reached home p gr is m ∷ a)) (g (Reached home p gw is n ∷ b))
      (Reached home p gr is m ∷ a) (Reached home p gw is n ∷ b) q

  -- ---- promises

  module _ (a b : History) (c : Contained Open a b) (p : Numbered) where
    same_scopes : scopes_in s a home ≡ scopes_in s b home
    same_scopes = scopes_same s shared Open shallow a b c home own

    vars_both : (choices : InScope → Option (List Chosen)) → Both (vars_reached s home p Yes (choices (scopes_in s a home)) a) (vars_reached s home p Yes (choices (scopes_in s b home)) b) Fine
    vars_both choices =
        subst (λ sc. Both (vars_reached s home p Yes (choices (scopes_in s a home)) a)
        (reached home p Yes true (count_choices (choices sc)) (λ k. goes (set_each home.path p.promise.promiser (data_set sc p.promise (choices sc)) k)) b) Fine) same_scopes
        (reached_both p Yes Yes true (count_choices (choices (scopes_in s a home))) (count_choices (choices (scopes_in s a home)))
        (λ k. goes (set_each home.path p.promise.promiser (data_set (scopes_in s a home) p.promise (choices (scopes_in s a home))) k))
        (λ k. goes (set_each home.path p.promise.promiser (data_set (scopes_in s a home) p.promise (choices (scopes_in s a home))) k)) a b
        (λ st. both_sets Open home.path p.promise.promiser (data_set (scopes_in s a home) p.promise (choices (scopes_in s a home)))
        (Reached home p Yes true (count_choices (choices (scopes_in s a home))) ∷ a) (Reached home p Yes true (count_choices (choices (scopes_in s a home))) ∷ b)
        (both_reached Open home home p p Yes Yes true true (count_choices (choices (scopes_in s a home))) (count_choices (choices (scopes_in s a home))) a b c)))

    -- one whose guard may hold or not is unsettled
    set_before : (path name : List ℕ) (held : List Datum) (k : History) → IsSettled s (set_each path name held k) → IsSettled s k
    set_before path name [] k st = st
    set_before path name (datum ∷ more) k st = set_before path name more (Set path name datum ∷ k) st

    limited_unsettled : (m : Bool) (x : Course) (n : ℕ) (held : List Datum) →
        Both x (within_limit m (goes (set_each home.path p.promise.promiser held (Reached home p Maybe true n ∷ b))) (Reached home p Maybe true n ∷ b)) Fine
    limited_unsettled true (goes h) n held = λ st. absurd (set_before home.path p.promise.promiser held (Reached home p Maybe true n ∷ b) st).0
    limited_unsettled true (too_large h) n held = tt
    limited_unsettled false x n held = both_large x (Reached home p Maybe true n ∷ b) Fine

    vars_unsettled : (x : Course) (choices : Option (List Chosen)) → Both x (vars_reached s home p Maybe choices b) Fine
    vars_unsettled x choices =
        limited_unsettled (nat_le (count_choices choices + visits_in b) most_visits) x (count_choices choices) (data_set (scopes_in s b home) p.promise choices)

    abbrev first_in : History → Option (List ℕ)
    first_in h = first_maybe_of_guard p.promise.guard (status_in s h home.path)

    raises_both : (choices : InScope → Option (List Chosen)) →
        RaisesAlike (raises_of (status_in s a home.path) (scopes_in s a home) p.promise (choices (scopes_in s a home))) (raises_of (status_in s b home.path) (scopes_in s b home) p.promise (choices (scopes_in s b home)))
    raises_both choices =
        subst (λ sc. RaisesAlike (raises_of (status_in s a home.path) (scopes_in s a home) p.promise (choices (scopes_in s a home))) (raises_of (status_in s b home.path) sc p.promise (choices sc))) same_scopes
        (together (status_in s a home.path) (status_in s b home.path) (status_within s shared Open shallow a b c home own) (scopes_in s a home) p.promise (choices (scopes_in s a home)))

    classes_both : (gw : Status) → Within Yes gw → (choices : InScope → Option (List Chosen)) →
        Both (classes_reached s place home p Yes (choices (scopes_in s a home)) a) (classes_reached s place home p gw (choices (scopes_in s b home)) b) Fine
    classes_both gw v choices =
        let rs = raises_of (status_in s a home.path) (scopes_in s a home) p.promise (choices (scopes_in s a home)) in
        let ws = raises_of (status_in s b home.path) (scopes_in s b home) p.promise (choices (scopes_in s b home)) in
        let m = count_choices (choices (scopes_in s a home)) in
        let n = count_choices (choices (scopes_in s b home)) in
        reached_both p Yes gw false m n (λ k. goes (raise_all a place home.path Yes (first_in a) rs k)) (λ k. goes (raise_all b place home.path gw (first_in b) ws k)) a b
        (λ st. both_raise_all Open place home.path a b (first_in a) (first_in b) Yes gw v rs ws (raises_both choices) (Reached home p Yes false m ∷ a) (Reached home p gw false n ∷ b)
        (both_reached Open home home p p Yes gw false false m n a b c))

    classes_alone : (choices : Option (List Chosen)) (is : Bool) →
        Both (reached home p No is 1 goes a) (classes_reached s place home p Maybe choices b) Fine
    classes_alone choices is =
        let ws = raises_of (status_in s b home.path) (scopes_in s b home) p.promise choices in
        let n = count_choices choices in
        limited_both (nat_le (1 + visits_in a) most_visits) (nat_le (n + visits_in b) most_visits)
        (goes (Reached home p No is 1 ∷ a)) (goes (raise_all b place home.path Maybe (first_in b) ws (Reached home p Maybe false n ∷ b)))
        (Reached home p No is 1 ∷ a) (Reached home p Maybe false n ∷ b)
        (λ st. alone_raise_all Open place home.path b (first_in b) ws (Reached home p No is 1 ∷ a) (Reached home p Maybe false n ∷ b)
        (both_reached Open home home p p No Maybe is false 1 n a b c))

    -- ---- instances

    module _ (type : PromiseType) (known : IsKnown p) where
      abbrev resolving : InScope → (List ℕ → Status) → Resolving
      resolving sc statuses = reached_at s.policy p.id sc statuses home.path (type, p.promise)

      fitting : (sc : InScope) (statuses : List ℕ → Status) → Each (IsResolved home.path) (resolution (resolving sc statuses)).instances
      fitting sc statuses = keyed (resolving sc statuses) known.plain

      -- nothing is unsettled in the edit bundle
      settled_here : p.type ≡ type → is_acting type ≡ true → (gw : Status) → Within Yes gw → EditsAreSettled s b home p gw → (resolution (resolving (scopes_in s b home) (global_status s b))).unsettled ≡ []
      settled_here is acting gw v st =
          sym (cond-true (is_acting type) (resolution (resolving (scopes_in s b home) (global_status s b))).unsettled [] acting)
          ∙ ap (λ t. cond (is_acting t) (resolution (reached_in_history s b home t p)).unsettled []) (sym is) ∙ by_guard gw v st
        where
          by_guard : (g : Status) → Within Yes g → EditsAreSettled s b home p g → unsettled_edits s b home p ≡ []
          by_guard No w e = elim w [ ]
          by_guard Maybe w e = e
          by_guard Yes w e = e

      same_instances : (resolution (resolving (scopes_in s b home) (global_status s b))).unsettled ≡ [] →
          (resolution (resolving (scopes_in s a home) (global_status s a))).instances ≡ (resolution (resolving (scopes_in s b home) (global_status s b))).instances
      same_instances e =
          ap (λ sc. (resolution (resolving sc (global_status s a))).instances) same_scopes
          ∙ same (resolving (scopes_in s b home) (global_status s b)) (global_status s a) (global_status s b) (global_within s shared Open shallow a b c) e

      acting_both : p.type ≡ type → is_acting type ≡ true → (gw : Status) → Within Yes gw →
          Both (acting_reached s run_tells activate home Yes p type Yes a) (acting_reached s walk_tells other home act p type gw b) Fine
      acting_both is acting gw v =
          let ra = resolution (resolving (scopes_in s a home) (global_status s a)) in
          let rb = resolution (resolving (scopes_in s b home) (global_status s b)) in
          let a1 : History = Reached home p Yes false ra.visits ∷ a in
          let b1 : History = Reached home p gw false rb.visits ∷ b in
          reached_both p Yes gw false ra.visits rb.visits (instances_from run_tells activate Yes Yes ra.instances) (instances_from walk_tells other gw act rb.instances) a b
          (if_settled s Open (instances_from run_tells activate Yes Yes ra.instances a1) (instances_from walk_tells other gw act rb.instances b1) b1
          (instances_settle s other later home place act gw rb.instances b1)
          (λ st. subst (λ is. Both (instances_from run_tells activate Yes Yes is a1) (instances_from walk_tells other gw act rb.instances b1) Fine)
          (sym (same_instances (settled_here is acting gw v st.1)))
          (instances_both Yes gw v rb.instances (fitting (scopes_in s b home) (global_status s b)) a1 b1
          (both_reached Open home home p p Yes gw false false ra.visits rb.visits a b c))))

      acting_alone : (is : Bool) → Both (reached home p No is 1 goes a) (acting_reached s walk_tells other home act p type Maybe b) Fine
      acting_alone is =
          let rb = resolution (resolving (scopes_in s b home) (global_status s b)) in
          let a1 : History = Reached home p No is 1 ∷ a in
          let b1 : History = Reached home p Maybe false rb.visits ∷ b in
          limited_both (nat_le (1 + visits_in a) most_visits) (nat_le (rb.visits + visits_in b) most_visits) (goes a1) (instances_from walk_tells other Maybe act rb.instances b1) a1 b1
          (both_right a1 (instances_from walk_tells other Maybe act rb.instances b1) Fine
          (always_weaker (instances_from walk_tells other Maybe act rb.instances b1) (Quiet Open b1) (Fine a1)
          (λ k q st. walk_alone Open a1 b1 k (both_reached Open home home p p No Maybe is false 1 rb.visits a b c) q)
          (instances_alone rb.instances (fitting (scopes_in s b home) (global_status s b)) b1)))

    -- ---- by type

    kept_both : (known : IsKnown p) (type : PromiseType) → p.type ≡ type → (gw : Status) → Within Yes gw →
        Both (kept_by s run_tells activate place home Yes p type Yes a) (kept_by s walk_tells other place home act p type gw b) Fine
    kept_both known promises.Vars is No v = elim v [ ]
    kept_both known promises.Vars is Maybe v = vars_unsettled (vars_reached s home p Yes (setting_choices (scopes_in s a home) promises.Vars p.promise) a) (setting_choices (scopes_in s b home) promises.Vars p.promise)
    kept_both known promises.Vars is Yes v = vars_both (λ sc. setting_choices sc promises.Vars p.promise)
    kept_both known promises.Classes is gw v = classes_both gw v (λ sc. setting_choices sc promises.Classes p.promise)
    kept_both known promises.Files is gw v = acting_both promises.Files known is refl gw v
    kept_both known promises.Methods is gw v = acting_both promises.Methods known is refl gw v
    kept_both known promises.Services is gw v = acting_both promises.Services known is refl gw v
    kept_both known promises.Reports is gw v = acting_both promises.Reports known is refl gw v
    kept_both known type is gw v = λ st. c

    kept_alone : (known : IsKnown p) (type : PromiseType) (sets : Bool) → Both (reached home p No sets 1 goes a) (kept_by s walk_tells other place home act p type Maybe b) Fine
    kept_alone known promises.Vars sets = vars_unsettled (reached home p No sets 1 goes a) (setting_choices (scopes_in s b home) promises.Vars p.promise)
    kept_alone known promises.Classes sets = classes_alone (setting_choices (scopes_in s b home) promises.Classes p.promise) sets
    kept_alone known promises.Files sets = acting_alone promises.Files known sets
    kept_alone known promises.Methods sets = acting_alone promises.Methods known sets
    kept_alone known promises.Services sets = acting_alone promises.Services known sets
    kept_alone known promises.Reports sets = acting_alone promises.Reports known sets
    kept_alone known type sets =
        limited_both (nat_le (1 + visits_in a) most_visits) true (goes (Reached home p No sets 1 ∷ a)) (goes b) (Reached home p No sets 1 ∷ a) b
        (λ st. record { globals = c.globals; locals = c.locals; scopes = c.scopes; marks = c.marks; placed = c.placed })

    guarded_both : IsKnown p → (gr gw : Status) → Within gr gw →
        Both (guarded s run_tells activate place home Yes p gr a) (guarded s walk_tells other place home act p gw b) Fine
    guarded_both known No No v =
        reached_both p No No (sets_variable p.type) 1 1 goes goes a b
        (λ st. both_reached Open home home p p No No (sets_variable p.type) (sets_variable p.type) 1 1 a b c)
    guarded_both known No Maybe v = kept_alone known p.type (sets_variable p.type)
    guarded_both known Yes Maybe v = kept_both known p.type refl Maybe v
    guarded_both known Yes Yes v = kept_both known p.type refl Yes v
    guarded_both known No Yes v = elim v [ ]
    guarded_both known Yes No v = elim v [ ]
    guarded_both known Maybe gw v = elim v [ ]

  reach_both : (p : Numbered) → IsKnown p → (a b : History) → Contained Open a b →
      Both (reach s run_tells activate place home Yes p a) (reach s walk_tells other place home act p b) Fine
  unfolding reach
  reach_both p known a b c =
      guarded_both a b c p known (guard_status s a home.path p.promise.guard) (guard_status s b home.path p.promise.guard) (read_within s shared Open shallow a b c home own p.promise.guard)

  promises_both : (ps : List Numbered) → Each IsKnown ps → (a b : History) → Contained Open a b →
      Both (promises_from s run_tells activate place home Yes ps a) (promises_from s walk_tells other place home act ps b) Fine
  promises_both [] known a b c = λ st. c
  promises_both (p ∷ ps) known a b c =
      then_both s Open (reach s run_tells activate place home Yes p a) (reach s walk_tells other place home act p b) (promises_from s run_tells activate place home Yes ps) (promises_from s walk_tells other place home act ps)
      (reach_both p known.0 a b c) (λ k. promises_settle s other later home place act ps k) (λ h k d. promises_both ps known.1 h k d)

  pub types_both : (ps : List Numbered) (types : List PromiseType) → Each (λ (type : PromiseType). Each IsKnown (of_type type ps)) types → (a b : History) → Contained Open a b →
      Both (types_from s run_tells activate place home Yes ps types a) (types_from s walk_tells other place home act ps types b) Fine
  types_both ps [] known a b c = λ st. c
  types_both ps (type ∷ types) known a b c =
      then_both s Open (promises_from s run_tells activate place home Yes (of_type type ps) a) (promises_from s walk_tells other place home act (of_type type ps) b)
      (types_from s run_tells activate place home Yes ps types) (types_from s walk_tells other place home act ps types)
      (promises_both (of_type type ps) known.0 a b c) (λ k. types_settle s other later home place act ps types k) (λ h k d. types_both ps types known.1 h k d)

  pub passes_both : (ps : List Numbered) → Each IsKnown ps → (n : ℕ) (a b : History) → Contained Open a b →
      Both (passes s run_tells activate place home Yes ps n a) (passes s walk_tells other place home act ps n b) Fine
  unfolding passes
  passes_both ps known zero a b c = λ st. c
  passes_both ps known (suc n) a b c =
      then_both s Open (types_from s run_tells activate place home Yes ps agent_types a) (types_from s walk_tells other place home act ps agent_types b)
      (passes s run_tells activate place home Yes ps n) (passes s walk_tells other place home act ps n)
      (types_both ps agent_types (known_types ps known agent_types) a b c) (λ k. passes_settle s other later home place act ps n k) (λ h k d. passes_both ps known n h k d)
