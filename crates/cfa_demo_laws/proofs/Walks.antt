-- What has happened in a run of a demo: each promise was reached under a guard that is set, each visit surely came, and each
-- instance acts on the file of its promise alone.
use Rattle.std.proofs.Common.{◌≡◌, refl, sym, subst, ℕ, zero, suc, ◌+◌, ◌≤◌, Bool, true, false, cond, List, [], ◌∷◌, ◌++◌, map, codes, Option, Some, None}
use Rattle.std.specs.Prelude.{⊤, nat_le}
use Rattle.std.specs.List.{AllByRecursion as Each}
use Rattle.cfa_kinds.specs.declared.kinds.PromiseType.{PromiseType}
use Rattle.cfa_kinds.specs.declared.kinds.PromiseType.TheVariants as promises
use Rattle.cfa_kinds.specs.Kinds.{bundle_type, promise_type}
use Rattle.cfa_statuses.specs.declared.levels.Status.{Status}
use Rattle.cfa_statuses.specs.declared.levels.Status.TheVariants.{No, Maybe, Yes}
use Rattle.cfa_statuses.specs.Status.{greater}
use Rattle.cfa_outcomes.specs.declared.outcomes.Outcome.{Outcome}
use Rattle.cfa_served.specs.Control.{sequence_of}
use Rattle.cfa_served.specs.Served.{bundle_of, common_bundles_of}
use Rattle.cfa_tree.specs.Tree.{ExprTree, PromiseTree}
use Rattle.cfa_resolve.specs.declared.instances.Instance.{Instance}
use Rattle.cfa_resolve.specs.declared.instances.Work.{Work}
use Rattle.cfa_resolve.specs.declared.instances.Work.TheVariants.{Acts, Call, Report}
use Rattle.cfa_resolve.specs.Resolution.{reached_at, resolution}
use Rattle.cfa_states.specs.History.{History, Home, Where, everywhere, within, Event, Begun, Set, Raised, Reached, Listed, Told, is_named, mark_in, visits_in}
use Rattle.cfa_states.specs.Numbered.{Numbered, numbered_from, agent_types, is_type, of_type}
use Rattle.cfa_states.specs.Passes.{Course, goes, too_large, then_on, each, classes_for, in_every_list, raised_to, raise_each, raise_lists, told, Calls, worked, unless_skipped, visited, visit_status, visit, instances_from, within_limit, most_visits, kept_by, guarded, reach, promises_from, types_from, passes, all_calls, common_passes, run}
use Rattle.cfa_states.specs.Tellers.{Teller}
use Rattle.cfa_states.specs.Views.{Setting, scopes_in, global_status, guard_status, reached_in_history}
use Rattle.cfa_demo_laws.specs.Trees.{promise_trees, demo_tree}
use Rattle.cfa_demo_laws.proofs.Simple.{Simple, promise_is_simple, IsOfNumber, each_of_number}
use Rattle.cfa_demo_laws.proofs.Works.{DoesFor, instances_do}

-- ---- events

pub record NumberedFile (p : Numbered) : Type 0 where
  pub is_file : p.type ≡ promises.Files
  pub of_number : IsOfNumber p.promise

pub record Acting (work : Work) : Type 0 where
  pub number : ℕ
  pub does : DoesFor number work

abbrev pub IsSure : Event → Type 0
IsSure (Begun path arguments) = ⊤
IsSure (Set path name datum) = ⊤
IsSure (Raised place class status source) = ⊤
IsSure (Reached home promise guard sets visits) = (guard ≡ Yes) × NumberedFile promise
IsSure (Listed instance status) = (status ≡ Yes) × Acting instance.work
IsSure (Told instance outcomes) = ⊤

abbrev pub AreSure : History → Type 0
AreSure h = Each IsSure h

-- wherever the course ends
abbrev pub SureOn : Course → Type 0
SureOn (goes h) = AreSure h
SureOn (too_large h) = AreSure h

abbrev Keeps : (History → Course) → Type 0
Keeps does = (h : History) → AreSure h → SureOn (does h)

then_keeps : (c : Course) (next : History → Course) → SureOn c → Keeps next → SureOn (then_on c next)
then_keeps (goes h) next sure keeps = keeps h sure
then_keeps (too_large h) next sure keeps = sure

each_keeps : {X : Type 0} (does : X → History → Course) (xs : List X) → Each (λ x. Keeps (does x)) xs → Keeps (each does xs)
each_keeps does [] all h sure = sure
each_keeps does (x ∷ xs) all h sure = then_keeps (does x h) (each does xs) (all.0 h sure) (each_keeps does xs all.1)

-- ---- visits

raise_each_sure : (i : Instance) (outcomes : List Outcome) (status : Status) (classes : List (List ℕ)) (h : History) → AreSure h → AreSure (raise_each i outcomes status classes h)
raise_each_sure i outcomes status [] h sure = sure
raise_each_sure i outcomes status (class ∷ classes) h sure =
    raise_each_sure i outcomes status classes (Raised everywhere class (raised_to status (in_every_list i outcomes class)) (Some i.source) ∷ h) (tt, sure)

raise_lists_sure : (i : Instance) (outcomes others : List Outcome) (status : Status) (h : History) → AreSure h → AreSure (raise_lists i outcomes others status h)
raise_lists_sure i outcomes [] status h sure = sure
raise_lists_sure i outcomes (outcome ∷ others) status h sure =
    raise_lists_sure i outcomes others status (raise_each i outcomes status (classes_for i outcome) h) (raise_each_sure i outcomes status (classes_for i outcome) h sure)

told_sure : (i : Instance) (outcomes : List Outcome) (status : Status) (h : History) → AreSure h → AreSure (told i outcomes status h)
unfolding told
told_sure i outcomes status h sure = raise_lists_sure i outcomes outcomes status (Told i outcomes ∷ h) (tt, sure)

abbrev NotMaybe : Status → Type 0
NotMaybe No = ⊤
NotMaybe Maybe = ⊥
NotMaybe Yes = ⊤

greater_sure : (m : Status) → NotMaybe m → NotMaybe (greater Yes m)
greater_sure No not = tt
greater_sure Maybe not = absurd not
greater_sure Yes not = tt

marked_sure : (test : Bool) (status m : Status) → status ≡ Yes → NotMaybe m → NotMaybe (elim test [ true ↦ greater status m | false ↦ m ])
marked_sure true status m is not = subst (λ (s : Status). NotMaybe (greater s m)) (sym is) (greater_sure m not)
marked_sure false status m is not = not

mark_sure : (h : History) → AreSure h → (path key : List ℕ) → NotMaybe (mark_in h path key)
mark_sure [] sure path key = tt
mark_sure (Listed i status ∷ h) sure path key = marked_sure (is_named path key i) status (mark_in h path key) sure.0.0 (mark_sure h sure.1 path key)
mark_sure (Begun p arguments ∷ h) sure path key = mark_sure h sure.1 path key
mark_sure (Set p name datum ∷ h) sure path key = mark_sure h sure.1 path key
mark_sure (Raised place class status source ∷ h) sure path key = mark_sure h sure.1 path key
mark_sure (Reached home promise guard sets visits ∷ h) sure path key = mark_sure h sure.1 path key
mark_sure (Told i outcomes ∷ h) sure path key = mark_sure h sure.1 path key

module _ (teller : Teller) (activate : Calls) where
  worked_sure : (i : Instance) (work : Work) (number : ℕ) → DoesFor number work → (h : History) → AreSure h → SureOn (worked teller activate i work Yes h)
  worked_sure i (Acts acts) number does h sure = told_sure i (teller.tells h i) Yes h sure
  worked_sure i (Call name arguments) number does h sure = absurd does
  worked_sure i (Report content) number does h sure = absurd does

  unless_sure : (i : Instance) (skipped : Bool) → Acting i.work → (h : History) → AreSure h → SureOn (unless_skipped teller activate i Yes skipped h)
  unless_sure i true acting h sure = (tt, sure)
  unless_sure i false acting h sure = worked_sure i i.work acting.number acting.does h sure

  visited_sure : (i : Instance) (mark : Status) → NotMaybe mark → Acting i.work → (h : History) → AreSure h → SureOn (visited teller activate i (visit_status Yes Yes mark) h)
  visited_sure i No not acting h sure = unless_sure i (teller.skips h i) acting (Listed i Yes ∷ h) ((refl, acting), sure)
  visited_sure i Maybe not acting h sure = absurd not
  visited_sure i Yes not acting h sure = sure

  visit_keeps : (i : Instance) → Acting i.work → Keeps (visit teller activate Yes Yes i)
  unfolding visit
  visit_keeps i acting h sure = visited_sure i (mark_in h i.path i.text) (mark_sure h sure i.path i.text) acting h sure

  all_visits_keep : (instances : List Instance) → Each (λ i. Acting i.work) instances → Each (λ i. Keeps (visit teller activate Yes Yes i)) instances
  all_visits_keep [] all = tt
  all_visits_keep (i ∷ more) all = (visit_keeps i all.0, all_visits_keep more all.1)

  instances_keep : (instances : List Instance) → Each (λ i. Acting i.work) instances → Keeps (instances_from teller activate Yes Yes instances)
  instances_keep instances all = each_keeps (visit teller activate Yes Yes) instances (all_visits_keep instances all)

limit_sure : (ok : Bool) (course : Course) (h : History) → SureOn course → AreSure h → SureOn (within_limit ok course h)
limit_sure true course h p q = p
limit_sure false course h p q = q

-- ---- promises

each_acting : (k : ℕ) (instances : List Instance) → Each (λ i. DoesFor k i.work) instances → Each (λ i. Acting i.work) instances
each_acting k [] all = tt
each_acting k (i ∷ more) all = (record { number = k; does = all.0 }, each_acting k more all.1)

module _ (n : ℕ) (few : n ≤ 10000) (classes : List (List ℕ)) (teller : Teller) where
  abbrev pub demo_setting : Setting
  demo_setting = record { policy = demo_tree n; classes = classes }

  module _ (activate : Calls) (place : Where) (home : Home) where
    resolved_acting : (p : Numbered) (h : History) → IsOfNumber p.promise → Each (λ i. Acting i.work) (resolution (reached_in_history demo_setting h home promises.Files p)).instances
    resolved_acting p h of =
        each_acting of.number (resolution (reached_in_history demo_setting h home promises.Files p)).instances
        (subst (λ (q : PromiseTree). Each (λ i. DoesFor of.number i.work)
        (resolution (reached_at (demo_tree n) p.id (scopes_in demo_setting h home) (global_status demo_setting h) home.path (promises.Files, q))).instances)
        (sym of.is) (instances_do n of.line of.number of.number_below p.id (scopes_in demo_setting h home) (global_status demo_setting h) home.path of.kind of.kind_below))

    file_keeps : (p : Numbered) → NumberedFile p → Keeps (kept_by demo_setting teller activate place home Yes p promises.Files Yes)
    file_keeps p file h sure =
        let r = resolution (reached_in_history demo_setting h home promises.Files p) in
        let k = Reached home p Yes false r.visits ∷ h in
        limit_sure (nat_le (r.visits + visits_in h) most_visits) (instances_from teller activate Yes Yes r.instances k) k
        (instances_keep teller activate r.instances (resolved_acting p h file.of_number) k ((refl, file), sure)) ((refl, file), sure)

    no_guard : (p : PromiseTree) → IsOfNumber p → p.guard ≡ None
    no_guard p of = (subst Simple (sym of.is) (promise_is_simple of.line of.kind of.number of.number_below of.kind_below)).no_guard

    reach_keeps : (p : Numbered) → NumberedFile p → Keeps (reach demo_setting teller activate place home Yes p)
    unfolding reach
    reach_keeps p file h sure =
        subst (λ (g : Option ExprTree). SureOn (guarded demo_setting teller activate place home Yes p (guard_status demo_setting h home.path g) h))
        (sym (no_guard p.promise file.of_number))
        (subst (λ (type : PromiseType). SureOn (kept_by demo_setting teller activate place home Yes p type Yes h)) (sym file.is_file) (file_keeps p file h sure))

    each_reach : (ps : List Numbered) → Each NumberedFile ps → Each (λ p. Keeps (reach demo_setting teller activate place home Yes p)) ps
    each_reach [] all = tt
    each_reach (p ∷ ps) all = (reach_keeps p all.0, each_reach ps all.1)

    kept_each : (test : Bool) (p : Numbered) (rest : List Numbered) → NumberedFile p → Each NumberedFile rest → Each NumberedFile (cond test (p ∷ rest) rest)
    kept_each true p rest file all = (file, all)
    kept_each false p rest file all = all

    of_type_files : (type : PromiseType) (ps : List Numbered) → Each NumberedFile ps → Each NumberedFile (of_type type ps)
    of_type_files type [] all = tt
    of_type_files type (p ∷ ps) all = kept_each (is_type type p.type) p (of_type type ps) all.0 (of_type_files type ps all.1)

    each_type : (ps : List Numbered) → Each NumberedFile ps → (types : List PromiseType) →
        Each (λ type. Keeps (promises_from demo_setting teller activate place home Yes (of_type type ps))) types
    each_type ps all [] = tt
    each_type ps all (type ∷ types) =
        (each_keeps (reach demo_setting teller activate place home Yes) (of_type type ps) (each_reach (of_type type ps) (of_type_files type ps all)), each_type ps all types)

    passes_keep : (ps : List Numbered) → Each NumberedFile ps → (count : ℕ) → Keeps (passes demo_setting teller activate place home Yes ps count)
    unfolding passes
    passes_keep ps all zero h sure = sure
    passes_keep ps all (suc count) h sure =
        then_keeps (types_from demo_setting teller activate place home Yes ps agent_types h) (passes demo_setting teller activate place home Yes ps count)
        (each_keeps (λ type. promises_from demo_setting teller activate place home Yes (of_type type ps)) agent_types (each_type ps all agent_types) h sure)
        (passes_keep ps all count)

  numbered_files : (number : ℕ) (ps : List PromiseTree) → Each IsOfNumber ps →
      Each NumberedFile (numbered_from (codes "main") number (map (λ p. (codes "files", p)) ps ++ []))
  unfolding promise_type
  numbered_files number [] all = tt
  numbered_files number (p ∷ ps) all = (record { is_file = refl; of_number = all.0 }, numbered_files (number + 1) ps all.1)

  abbrev main_home : Home
  main_home = record { path = codes "main"; bundle = codes "main" }

  abbrev main_files : List Numbered
  main_files = numbered_from (codes "main") 1 (map (λ p. (codes "files", p)) (promise_trees n) ++ [])

  pub run_is_sure : SureOn (run demo_setting teller)
  unfolding run common_passes common_bundles_of bundle_type sequence_of bundle_of demo_tree
  run_is_sure =
      then_keeps (passes demo_setting teller (all_calls demo_setting teller) (within (codes "main")) main_home Yes main_files 3 (Begun (codes "main") [] ∷ [])) (λ h. goes h)
      (passes_keep (all_calls demo_setting teller) (within (codes "main")) main_home main_files (numbered_files 1 (promise_trees n) (each_of_number n few)) 3
      (Begun (codes "main") [] ∷ []) (tt, tt))
      (λ h sure. sure)
