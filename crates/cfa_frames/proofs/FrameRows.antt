-- Worked rows of moves: for what a run waits, in order.
use Rattle.std.proofs.Common.{◌≡◌, ℕ, zero, suc, Bool, true, false, List, [], ◌∷◌, codes, refl}
use Rattle.std.specs.Fmt.{digits}
use Rattle.cfa_base.specs.Escapes.{escaped, escape_of}
use Rattle.cfa_base.specs.Octal.{mode_text}
use Rattle.cfa_bodies.specs.Bodies.{datum_given, bodies_of, heard}
use Rattle.cfa_defines.specs.ClassPromises.{raises_of}
use Rattle.cfa_defines.specs.OwnTexts.{own_reads, combined}
use Rattle.cfa_defines.specs.VarsPromises.{setting_choices, data_set}
use Rattle.cfa_functions.specs.Calls.{list_given, answer_of}
use Rattle.cfa_kinds.specs.Forms.{is_boolean}
use Rattle.cfa_kinds.specs.Functions.{function_named}
use Rattle.cfa_kinds.specs.Kinds.{bundle_type, promise_type, files_attribute, outcome_attribute, methods_attribute, services_attribute, vars_attribute, classes_attribute, delete_attribute, copy_from_attribute, perms_attribute, classes_body_attribute, action_attribute}
use Rattle.cfa_kinds.specs.declared.kinds.PromiseType.TheVariants.{Files}
use Rattle.cfa_outcomes.specs.declared.outcomes.Outcome.TheVariants.{Kept, Repaired}
use Rattle.cfa_outside.specs.Paths.{path_of}
use Rattle.cfa_resolve.specs.FileActs.{file_acts, service_act, outcome_classes}
use Rattle.cfa_resolve.specs.Instances.{made_instance}
use Rattle.cfa_resolve.specs.KeyTexts.{key_text}
use Rattle.cfa_resolve.specs.Resolution.{resolution, made}
use Rattle.cfa_served.specs.Control.{sequence_of}
use Rattle.cfa_served.specs.Served.{body_of, bundle_of, common_bundles_of, minutes_of}
use Rattle.cfa_states.specs.History.{History, Begun, Set, Raised, Reached, Listed, Told}
use Rattle.cfa_states.specs.Passes.{Course, goes, too_large, told}
use Rattle.cfa_states.specs.Tellers.{Teller, all_kept, one_each}
use Rattle.cfa_states.specs.Views.{Setting, shared_names, shared_in}
use Rattle.cfa_statuses.specs.declared.levels.Status.TheVariants.{Yes}
use Rattle.cfa_tree.specs.ClassTexts.{expression_of}
use Rattle.cfa_tree.specs.Tree.{class, word, call, value_trees, AttributeTree, PolicyTree}
use Rattle.cfa_tree.specs.lemmas.Written.{here, quoted, says, items, under, promise, section, a_bundle, a_body, created}
use Rattle.cfa_values.specs.Scope.{is_literal}
use Rattle.cfa_vars.specs.Choices.{are_too_many}
use Rattle.cfa_vars.specs.Expansion.{expanded, scalar}
use Rattle.cfa_vars.specs.References.{reference_at, pieces, list_reference_of}
use Rattle.cfa_vars.specs.Scopes.{look, key_of}
use Rattle.cfa_frames.specs.Frames.{Stack, beginning}
use Rattle.cfa_frames.specs.Moves.{Need, nothing, skipping, ending, over, Next, goes_on, is_too_large, need_of, answered, come_to}
use Rattle.cfa_frames.specs.Steps.{has_acts, step_within, begun, handed_to}

-- ---- what is looked at

abbrev setting : PolicyTree → Setting
setting policy = record { policy = policy; classes = codes "any" ∷ [] }

-- all end as repaired
abbrev all_repaired : Teller
all_repaired = one_each (λ h i. Repaired)

abbrev all_skipped : Teller
all_skipped = record { skips = λ h i. true; tells = λ h i. Kept ∷ [] }

-- whether an instance of this key text is skipped, or how it ended
data Waits : Type 0 where
  skips : (text : List ℕ) → Waits
  ends : (text : List ℕ) → Waits

abbrev noted : Need → List Waits → List Waits
noted nothing more = more
noted (skipping i status) more = skips i.text ∷ more
noted (ending i status) more = ends i.text ∷ more
noted over more = more

module _ (s : Setting) (t : Teller) where
  abbrev then_waits : Next → (Stack → History → List Waits) → List Waits
  then_waits (goes_on st h) next = next st h
  then_waits (is_too_large h) next = []

  -- for what so many moves and answers wait
  abbrev waits : ℕ → Stack → History → List Waits
  waits zero st h = []
  waits (suc n) st h = noted (need_of st) (then_waits (answered s t (need_of st) st h) (waits n))

  abbrev waits_of_run : ℕ → List Waits
  waits_of_run n = waits n (beginning s) []

-- ---- policies

-- `both(x)`
abbrev both : PolicyTree
both = a_body (codes "classes") (codes "both") (says (codes "promise_kept") (items (codes "$(x)" ∷ [])) ∷ says (codes "promise_repaired") (items (codes "$(x)" ∷ [])) ∷ []) ∷ []

abbrev raising : (class_name : List ℕ) → AttributeTree
raising class_name = says (codes "classes") (call (codes "both") (value_trees (quoted class_name ∷ [])) here)

-- a call whose bundle lets a promise of the caller through
abbrev ready_by_a_call : PolicyTree
ready_by_a_call =
    a_bundle (codes "agent") (codes "main") (
    section (codes "files") (under (class (codes "ready")) (codes "/f") (created ∷ []) ∷ [])
    ∷ section (codes "methods") (promise (codes "m") (says (codes "usebundle") (word (codes "sub") here) ∷ []) ∷ []) ∷ [])
    ∷ a_bundle (codes "agent") (codes "sub") (section (codes "files") (
    promise (codes "/x") (created ∷ raising (codes "ready") ∷ []) ∷ []) ∷ [])
    ∷ both

-- ---- the call is in hand while its bundle is gone through, and the next pass goes to what it lets through

call_in_hand : waits_of_run (setting ready_by_a_call) all_repaired 200 ≡
    skips (codes "main 2;call sub;k=;r=;f=;e=1")
    ∷ skips (codes "sub 1;create /x;k=ready;r=ready;f=;e=1")
    ∷ ends (codes "sub 1;create /x;k=ready;r=ready;f=;e=1")
    ∷ ends (codes "main 2;call sub;k=;r=;f=;e=1")
    ∷ skips (codes "main 1;create /f;k=;r=;f=;e=1")
    ∷ ends (codes "main 1;create /f;k=;r=;f=;e=1") ∷ []
unfolding told resolution combined own_reads made heard bodies_of made_instance file_acts service_act outcome_classes key_text mode_text datum_given data_set raises_of setting_choices shared_names shared_in expanded scalar look key_of pieces reference_at list_reference_of are_too_many list_given answer_of function_named path_of body_of bundle_of common_bundles_of minutes_of sequence_of escaped escape_of digits is_literal is_boolean promise_type bundle_type files_attribute outcome_attribute methods_attribute services_attribute vars_attribute classes_attribute delete_attribute copy_from_attribute perms_attribute classes_body_attribute action_attribute expression_of
call_in_hand = refl

-- ---- a call that is skipped begins nothing, and isn't visited again

call_skipped : waits_of_run (setting ready_by_a_call) all_skipped 200 ≡ skips (codes "main 2;call sub;k=;r=;f=;e=1") ∷ []
unfolding told resolution combined own_reads made heard bodies_of made_instance file_acts service_act outcome_classes key_text mode_text datum_given data_set raises_of setting_choices shared_names shared_in expanded scalar look key_of pieces reference_at list_reference_of are_too_many list_given answer_of function_named path_of body_of bundle_of common_bundles_of minutes_of sequence_of escaped escape_of digits is_literal is_boolean promise_type bundle_type files_attribute outcome_attribute methods_attribute services_attribute vars_attribute classes_attribute delete_attribute copy_from_attribute perms_attribute classes_body_attribute action_attribute expression_of
call_skipped = refl

-- ---- common bundles are gone through before the sequence, and raise and set what it reads

abbrev common_first : PolicyTree
common_first =
    a_bundle (codes "agent") (codes "main") (
    section (codes "reports") (under (class (codes "set_here")) (codes "$(g.v)") [] ∷ []) ∷ [])
    ∷ a_bundle (codes "common") (codes "g") (
    section (codes "classes") (promise (codes "set here") (says (codes "expression") (quoted (codes "any")) ∷ []) ∷ [])
    ∷ section (codes "vars") (promise (codes "v") (says (codes "string") (quoted (codes "w")) ∷ []) ∷ []) ∷ []) ∷ []

common_goes_first : waits_of_run (setting common_first) all_kept 200 ≡
    skips (codes "main 1;report w;k=;r=;f=;e=1") ∷ ends (codes "main 1;report w;k=;r=;f=;e=1") ∷ []
unfolding told resolution combined own_reads made heard bodies_of made_instance file_acts service_act outcome_classes key_text mode_text datum_given data_set raises_of setting_choices shared_names shared_in expanded scalar look key_of pieces reference_at list_reference_of are_too_many list_given answer_of function_named path_of body_of bundle_of common_bundles_of minutes_of sequence_of escaped escape_of digits is_literal is_boolean promise_type bundle_type files_attribute outcome_attribute methods_attribute services_attribute vars_attribute classes_attribute delete_attribute copy_from_attribute perms_attribute classes_body_attribute action_attribute expression_of
common_goes_first = refl

-- ---- a run ends as too large at the promise with which a visit more is counted than may be

abbrev is_past : Course → Bool
is_past (goes h) = false
is_past (too_large h) = true

abbrev one_file : PolicyTree
one_file = a_bundle (codes "agent") (codes "main") (section (codes "files") (promise (codes "/a") (created ∷ []) ∷ []) ∷ []) ∷ []

-- a promise that counted so many visits
abbrev counted : ℕ → History
counted n = Reached (record { path = codes "x"; bundle = codes "x" }) (record {
  id = record { bundle = codes "x"; number = 1; line = 1 };
  type = Files;
  promise = promise (codes "/x") [];
}) Yes false n ∷ []

past_the_limit : is_past (come_to (setting one_file) all_kept 200 (beginning (setting one_file)) (counted 999998)) ≡ true
unfolding told resolution combined own_reads made heard bodies_of made_instance file_acts service_act outcome_classes key_text mode_text datum_given data_set raises_of setting_choices shared_names shared_in expanded scalar look key_of pieces reference_at list_reference_of are_too_many list_given answer_of function_named path_of body_of bundle_of common_bundles_of minutes_of sequence_of escaped escape_of digits is_literal is_boolean promise_type bundle_type files_attribute outcome_attribute methods_attribute services_attribute vars_attribute classes_attribute delete_attribute copy_from_attribute perms_attribute classes_body_attribute action_attribute expression_of
past_the_limit = refl

-- its three passes count one each
at_the_limit : is_past (come_to (setting one_file) all_kept 200 (beginning (setting one_file)) (counted 999997)) ≡ false
unfolding told resolution combined own_reads made heard bodies_of made_instance file_acts service_act outcome_classes key_text mode_text datum_given data_set raises_of setting_choices shared_names shared_in expanded scalar look key_of pieces reference_at list_reference_of are_too_many list_given answer_of function_named path_of body_of bundle_of common_bundles_of minutes_of sequence_of escaped escape_of digits is_literal is_boolean promise_type bundle_type files_attribute outcome_attribute methods_attribute services_attribute vars_attribute classes_attribute delete_attribute copy_from_attribute perms_attribute classes_body_attribute action_attribute expression_of
at_the_limit = refl

-- ---- steps, each in at most 200 moves

-- the key texts of what was actuated, the newest first
abbrev texts_actuated : History → List (List ℕ)
texts_actuated [] = []
texts_actuated (Told i [] ∷ h) = texts_actuated h
texts_actuated (Told i (o ∷ os) ∷ h) = elim (has_acts i.work) [ true ↦ i.text ∷ texts_actuated h | false ↦ texts_actuated h ]
texts_actuated (Begun path given ∷ h) = texts_actuated h
texts_actuated (Set path name datum ∷ h) = texts_actuated h
texts_actuated (Raised place c status source ∷ h) = texts_actuated h
texts_actuated (Reached home p guard sets n ∷ h) = texts_actuated h
texts_actuated (Listed i status ∷ h) = texts_actuated h

-- where a run stands: for what it waits and what was actuated so far; or it is too large
data Stood : Type 0 where
  stood : (wait : Need) (actuated : List (List ℕ)) → Stood
  past : (actuated : List (List ℕ)) → Stood

abbrev stood_at : Next → Stood
stood_at (goes_on st h) = stood (need_of st) (texts_actuated h)
stood_at (is_too_large h) = past (texts_actuated h)

module _ (s : Setting) where
  abbrev stepped : Teller → Next → Next
  stepped t (goes_on st h) = step_within s t 200 st h
  stepped t (is_too_large h) = is_too_large h

  abbrev stands : List Teller → Next → List Stood
  stands [] x = stood_at x ∷ []
  stands (t ∷ tellers) x = stood_at x ∷ stands tellers (stepped t x)

  abbrev stands_of_run : List Teller → List Stood
  stands_of_run tellers = stands tellers (begun s)

abbrev file_x : List ℕ
file_x = codes "sub 1;create /x;k=ready;r=ready;f=;e=1"

abbrev file_f : List ℕ
file_f = codes "main 1;create /f;k=;r=;f=;e=1"

-- ---- a step goes on to the next instance with acts, which is actuated with the classes that it raises; then there is more to
-- do, if only to reach the end, and from there on a step does nothing

two_steps_and_the_end : stands_of_run (setting ready_by_a_call) (all_repaired ∷ all_repaired ∷ all_repaired ∷ all_repaired ∷ []) ≡
    stood nothing [] ∷ stood nothing (file_x ∷ []) ∷ stood nothing (file_f ∷ file_x ∷ []) ∷ stood over (file_f ∷ file_x ∷ [])
    ∷ stood over (file_f ∷ file_x ∷ []) ∷ []
unfolding told resolution combined own_reads made heard bodies_of made_instance file_acts service_act outcome_classes key_text mode_text datum_given data_set raises_of setting_choices shared_names shared_in expanded scalar look key_of pieces reference_at list_reference_of are_too_many list_given answer_of function_named path_of body_of bundle_of common_bundles_of minutes_of sequence_of escaped escape_of digits is_literal is_boolean promise_type bundle_type files_attribute outcome_attribute methods_attribute services_attribute vars_attribute classes_attribute delete_attribute copy_from_attribute perms_attribute classes_body_attribute action_attribute expression_of
two_steps_and_the_end = refl

-- ---- what is kept is actuated too

kept_is_a_step : stands_of_run (setting one_file) (all_kept ∷ all_kept ∷ []) ≡
    stood nothing [] ∷ stood nothing (codes "main 1;create /a;k=;r=;f=;e=1" ∷ []) ∷ stood over (codes "main 1;create /a;k=;r=;f=;e=1" ∷ []) ∷ []
unfolding told resolution combined own_reads made heard bodies_of made_instance file_acts service_act outcome_classes key_text mode_text datum_given data_set raises_of setting_choices shared_names shared_in expanded scalar look key_of pieces reference_at list_reference_of are_too_many list_given answer_of function_named path_of body_of bundle_of common_bundles_of minutes_of sequence_of escaped escape_of digits is_literal is_boolean promise_type bundle_type files_attribute outcome_attribute methods_attribute services_attribute vars_attribute classes_attribute delete_attribute copy_from_attribute perms_attribute classes_body_attribute action_attribute expression_of
kept_is_a_step = refl

-- ---- a report is no step, and neither is what is skipped

report_is_no_step : stands_of_run (setting common_first) (all_kept ∷ []) ≡ stood nothing [] ∷ stood over [] ∷ []
unfolding told resolution combined own_reads made heard bodies_of made_instance file_acts service_act outcome_classes key_text mode_text datum_given data_set raises_of setting_choices shared_names shared_in expanded scalar look key_of pieces reference_at list_reference_of are_too_many list_given answer_of function_named path_of body_of bundle_of common_bundles_of minutes_of sequence_of escaped escape_of digits is_literal is_boolean promise_type bundle_type files_attribute outcome_attribute methods_attribute services_attribute vars_attribute classes_attribute delete_attribute copy_from_attribute perms_attribute classes_body_attribute action_attribute expression_of
report_is_no_step = refl

skipped_is_no_step : stands_of_run (setting ready_by_a_call) (all_skipped ∷ []) ≡ stood nothing [] ∷ stood over [] ∷ []
unfolding told resolution combined own_reads made heard bodies_of made_instance file_acts service_act outcome_classes key_text mode_text datum_given data_set raises_of setting_choices shared_names shared_in expanded scalar look key_of pieces reference_at list_reference_of are_too_many list_given answer_of function_named path_of body_of bundle_of common_bundles_of minutes_of sequence_of escaped escape_of digits is_literal is_boolean promise_type bundle_type files_attribute outcome_attribute methods_attribute services_attribute vars_attribute classes_attribute delete_attribute copy_from_attribute perms_attribute classes_body_attribute action_attribute expression_of
skipped_is_no_step = refl

-- ---- each step is told by its own teller

second_skips : stands_of_run (setting ready_by_a_call) (all_repaired ∷ all_skipped ∷ []) ≡
    stood nothing [] ∷ stood nothing (file_x ∷ []) ∷ stood over (file_x ∷ []) ∷ []
unfolding told resolution combined own_reads made heard bodies_of made_instance file_acts service_act outcome_classes key_text mode_text datum_given data_set raises_of setting_choices shared_names shared_in expanded scalar look key_of pieces reference_at list_reference_of are_too_many list_given answer_of function_named path_of body_of bundle_of common_bundles_of minutes_of sequence_of escaped escape_of digits is_literal is_boolean promise_type bundle_type files_attribute outcome_attribute methods_attribute services_attribute vars_attribute classes_attribute delete_attribute copy_from_attribute perms_attribute classes_body_attribute action_attribute expression_of
second_skips = refl

-- ---- a run that is too large stays so

too_large_stays : stands (setting one_file) (all_kept ∷ all_kept ∷ all_kept ∷ []) (goes_on (beginning (setting one_file)) (counted 999999)) ≡
    stood nothing [] ∷ stood nothing (codes "main 1;create /a;k=;r=;f=;e=1" ∷ []) ∷ past (codes "main 1;create /a;k=;r=;f=;e=1" ∷ [])
    ∷ past (codes "main 1;create /a;k=;r=;f=;e=1" ∷ []) ∷ []
unfolding told resolution combined own_reads made heard bodies_of made_instance file_acts service_act outcome_classes key_text mode_text datum_given data_set raises_of setting_choices shared_names shared_in expanded scalar look key_of pieces reference_at list_reference_of are_too_many list_given answer_of function_named path_of body_of bundle_of common_bundles_of minutes_of sequence_of escaped escape_of digits is_literal is_boolean promise_type bundle_type files_attribute outcome_attribute methods_attribute services_attribute vars_attribute classes_attribute delete_attribute copy_from_attribute perms_attribute classes_body_attribute action_attribute expression_of
too_large_stays = refl

-- ---- of the turns of several runs each is handed its own

handed_its_own : handed_to 1 (record { number = 1; teller = all_repaired } ∷ record { number = 2; teller = all_kept } ∷ record { number = 1; teller = all_skipped } ∷ []) ≡
    all_repaired ∷ all_skipped ∷ []
handed_its_own = refl
