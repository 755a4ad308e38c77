-- Worked rows of runs: what is visited, and how it ends.
use Rattle.std.proofs.Common.{◌≡◌, ℕ, List, [], ◌∷◌, codes, refl}
use Rattle.std.specs.Fmt.{digits}
use Rattle.cfa_base.specs.Escapes.{escaped, escape_of}
use Rattle.cfa_tree.specs.ClassTexts.{expression_of}
use Rattle.cfa_tree.specs.Tree.{class, negated, word, call, value_trees, AttributeTree, PolicyTree}
use Rattle.cfa_statuses.specs.declared.levels.Status.{Status}
use Rattle.cfa_statuses.specs.declared.levels.Status.TheVariants.{Maybe, Yes}
use Rattle.cfa_kinds.specs.Kinds.{bundle_type, promise_type, files_attribute, outcome_attribute, methods_attribute, services_attribute, vars_attribute, classes_attribute, delete_attribute, copy_from_attribute, perms_attribute, classes_body_attribute, action_attribute}
use Rattle.cfa_kinds.specs.Forms.{is_boolean}
use Rattle.cfa_kinds.specs.Functions.{function_named}
use Rattle.cfa_vars.specs.References.{reference_at, pieces, list_reference_of}
use Rattle.cfa_vars.specs.Scopes.{look, key_of}
use Rattle.cfa_vars.specs.Expansion.{expanded, scalar}
use Rattle.cfa_vars.specs.Choices.{are_too_many}
use Rattle.cfa_functions.specs.Calls.{list_given, answer_of}
use Rattle.cfa_outside.specs.Paths.{path_of}
use Rattle.cfa_values.specs.Scope.{is_literal}
use Rattle.cfa_served.specs.Control.{sequence_of}
use Rattle.cfa_served.specs.Served.{body_of, bundle_of, common_bundles_of, minutes_of}
use Rattle.cfa_resolve.specs.declared.instances.Instance.{Instance}
use Rattle.cfa_resolve.specs.declared.instances.Work.{Work}
use Rattle.cfa_resolve.specs.declared.instances.Work.TheVariants.{Acts, Call, Report}
use Rattle.cfa_defines.specs.OwnTexts.{own_reads, combined}
use Rattle.cfa_bodies.specs.Bodies.{datum_given, bodies_of, heard}
use Rattle.cfa_resolve.specs.FileActs.{file_acts, service_act, outcome_classes}
use Rattle.cfa_base.specs.Octal.{mode_text}
use Rattle.cfa_resolve.specs.KeyTexts.{key_text}
use Rattle.cfa_resolve.specs.Instances.{made_instance}
use Rattle.cfa_resolve.specs.Resolution.{resolution, made}
use Rattle.cfa_tree.specs.lemmas.Written.{here, quoted, says, items, under, promise, section, a_bundle, a_body, created}
use Rattle.cfa_outcomes.specs.declared.outcomes.Outcome.{Outcome}
use Rattle.cfa_outcomes.specs.declared.outcomes.Outcome.TheVariants.{Kept, Repaired}
use Rattle.cfa_states.specs.History.{History, Begun, Set, Raised, Reached, Listed, Told, visits_in}
use Rattle.cfa_states.specs.Views.{Setting, shared_names, shared_in}
use Rattle.cfa_defines.specs.VarsPromises.{setting_choices, data_set}
use Rattle.cfa_defines.specs.ClassPromises.{raises_of}
use Rattle.cfa_states.specs.Tellers.{Teller, all_kept, open_walk, one_each, worst_in, inner_path}
use Rattle.cfa_states.specs.Passes.{Course, goes, too_large, run, common_passes, passes, calls_of, reach, visit, told}

-- ---- policies

-- `both(x)`, and `if_repaired(x)`
abbrev outcome_bodies : PolicyTree
outcome_bodies =
    a_body (codes "classes") (codes "both") (says (codes "promise_kept") (items (codes "$(x)" ∷ [])) ∷ says (codes "promise_repaired") (items (codes "$(x)" ∷ [])) ∷ [])
    ∷ a_body (codes "classes") (codes "if_repaired") (says (codes "promise_repaired") (items (codes "$(x)" ∷ [])) ∷ [])
    ∷ []

abbrev classes_of : (body_name class_name : List ℕ) → AttributeTree
classes_of body_name class_name = says (codes "classes") (call body_name (value_trees (quoted class_name ∷ [])) here)

-- ---- what is looked at

abbrev setting : PolicyTree → Setting
setting policy = record { policy = policy; classes = codes "any" ∷ [] }

abbrev history_of : Course → History
history_of (goes h) = h
history_of (too_large h) = []

-- the texts of the works that were told, the newest first, with their outcomes
abbrev told_in : History → List (List ℕ × List Outcome)
told_in [] = []
told_in (Told instance outcomes ∷ h) = (instance.text, outcomes) ∷ told_in h
told_in (Begun p arguments ∷ h) = told_in h
told_in (Set p name datum ∷ h) = told_in h
told_in (Raised place name status source ∷ h) = told_in h
told_in (Reached home promise guard sets visits ∷ h) = told_in h
told_in (Listed instance status ∷ h) = told_in h

-- the visits, the newest first
abbrev listed_in : History → List (List ℕ × Status)
listed_in [] = []
listed_in (Listed instance status ∷ h) = (instance.text, status) ∷ listed_in h
listed_in (Begun p arguments ∷ h) = listed_in h
listed_in (Set p name datum ∷ h) = listed_in h
listed_in (Raised place name status source ∷ h) = listed_in h
listed_in (Reached home promise guard sets visits ∷ h) = listed_in h
listed_in (Told instance outcomes ∷ h) = listed_in h

abbrev outcome_by_work : Outcome → History → Instance → Work → Outcome
outcome_by_work outcome h instance (Acts acts) = outcome
outcome_by_work outcome h instance (Call name arguments) = worst_in h (inner_path instance)
outcome_by_work outcome h instance (Report content) = Kept

-- all acts end so
abbrev all_end : Outcome → Teller
all_end outcome = one_each (λ h i. outcome_by_work outcome h i i.work)

abbrev told_by : Teller → PolicyTree → List (List ℕ × List Outcome)
told_by teller policy = told_in (history_of (run (setting policy) teller))

abbrev listed_by : Teller → PolicyTree → List (List ℕ × Status)
listed_by teller policy = listed_in (history_of (run (setting policy) teller))

-- ---- each pass lets one file more through, in the order of the text from below

abbrev step_by_step : PolicyTree
step_by_step =
    a_bundle (codes "agent") (codes "main") (section (codes "files") (
    under (class (codes "c3")) (codes "/a4") (created ∷ classes_of (codes "both") (codes "c4") ∷ [])
    ∷ under (class (codes "c2")) (codes "/a3") (created ∷ classes_of (codes "both") (codes "c3") ∷ [])
    ∷ under (class (codes "c1")) (codes "/a2") (created ∷ classes_of (codes "both") (codes "c2") ∷ [])
    ∷ under (class (codes "any")) (codes "/a1") (created ∷ classes_of (codes "both") (codes "c1") ∷ []) ∷ []) ∷ [])
    ∷ outcome_bodies

three_of_four : told_by (all_end Repaired) step_by_step ≡
    (codes "main 2;create /a3;k=c3;r=c3;f=;e=1", Repaired ∷ [])
    ∷ (codes "main 3;create /a2;k=c2;r=c2;f=;e=1", Repaired ∷ [])
    ∷ (codes "main 4;create /a1;k=c1;r=c1;f=;e=1", Repaired ∷ []) ∷ []
unfolding run common_passes passes calls_of reach visit told resolution combined own_reads made heard bodies_of made_instance file_acts service_act outcome_classes key_text mode_text datum_given data_set raises_of setting_choices shared_names shared_in expanded scalar look key_of pieces reference_at list_reference_of are_too_many list_given answer_of function_named path_of body_of bundle_of common_bundles_of minutes_of sequence_of escaped escape_of digits is_literal is_boolean promise_type bundle_type files_attribute outcome_attribute methods_attribute services_attribute vars_attribute classes_attribute delete_attribute copy_from_attribute perms_attribute classes_body_attribute action_attribute expression_of
three_of_four = refl

-- ---- a class that a called bundle raises lets a promise of the caller through in the next pass

abbrev ready_by_a_call : PolicyTree
ready_by_a_call =
    a_bundle (codes "agent") (codes "main") (
    section (codes "files") (under (class (codes "ready")) (codes "/f") (created ∷ []) ∷ [])
    ∷ section (codes "methods") (promise (codes "m") (says (codes "usebundle") (word (codes "sub") here) ∷ []) ∷ []) ∷ [])
    ∷ a_bundle (codes "agent") (codes "sub") (section (codes "files") (
    promise (codes "/x") (created ∷ classes_of (codes "both") (codes "ready") ∷ []) ∷ []) ∷ [])
    ∷ outcome_bodies

in_the_next_pass : told_by (all_end Repaired) ready_by_a_call ≡
    (codes "main 1;create /f;k=;r=;f=;e=1", Repaired ∷ [])
    ∷ (codes "main 2;call sub;k=;r=;f=;e=1", Repaired ∷ [])
    ∷ (codes "sub 1;create /x;k=ready;r=ready;f=;e=1", Repaired ∷ []) ∷ []
unfolding run common_passes passes calls_of reach visit told resolution combined own_reads made heard bodies_of made_instance file_acts service_act outcome_classes key_text mode_text datum_given data_set raises_of setting_choices shared_names shared_in expanded scalar look key_of pieces reference_at list_reference_of are_too_many list_given answer_of function_named path_of body_of bundle_of common_bundles_of minutes_of sequence_of escaped escape_of digits is_literal is_boolean promise_type bundle_type files_attribute outcome_attribute methods_attribute services_attribute vars_attribute classes_attribute delete_attribute copy_from_attribute perms_attribute classes_body_attribute action_attribute expression_of
in_the_next_pass = refl

-- ---- a repeated item is one instance

abbrev twice : PolicyTree
twice = a_bundle (codes "agent") (codes "main") (
    section (codes "vars") (promise (codes "l") (says (codes "slist") (items (codes "p" ∷ codes "p" ∷ [])) ∷ []) ∷ [])
    ∷ section (codes "files") (promise (codes "/$(l)") (created ∷ []) ∷ []) ∷ []) ∷ []

once : told_by (all_end Repaired) twice ≡ (codes "main 2;create /p;k=;r=;f=;e=1", Repaired ∷ []) ∷ []
unfolding run common_passes passes calls_of reach visit told resolution combined own_reads made heard bodies_of made_instance file_acts service_act outcome_classes key_text mode_text datum_given data_set raises_of setting_choices shared_names shared_in expanded scalar look key_of pieces reference_at list_reference_of are_too_many list_given answer_of function_named path_of body_of bundle_of common_bundles_of minutes_of sequence_of escaped escape_of digits is_literal is_boolean promise_type bundle_type files_attribute outcome_attribute methods_attribute services_attribute vars_attribute classes_attribute delete_attribute copy_from_attribute perms_attribute classes_body_attribute action_attribute expression_of
once = refl

-- three passes of one vars promise and of two combinations
counted : visits_in (history_of (run (setting twice) (all_end Repaired))) ≡ 9
unfolding run common_passes passes calls_of reach visit told resolution combined own_reads made heard bodies_of made_instance file_acts service_act outcome_classes key_text mode_text datum_given data_set raises_of setting_choices shared_names shared_in expanded scalar look key_of pieces reference_at list_reference_of are_too_many list_given answer_of function_named path_of body_of bundle_of common_bundles_of minutes_of sequence_of escaped escape_of digits is_literal is_boolean promise_type bundle_type files_attribute outcome_attribute methods_attribute services_attribute vars_attribute classes_attribute delete_attribute copy_from_attribute perms_attribute classes_body_attribute action_attribute expression_of
counted = refl

-- ---- all combinations read the state before the promise, and common bundles go before the sequence

abbrev joined_to_itself : PolicyTree
joined_to_itself =
    a_bundle (codes "common") (codes "g") (
    section (codes "classes") (promise (codes "set here") (says (codes "expression") (quoted (codes "any")) ∷ []) ∷ [])
    ∷ section (codes "vars") (promise (codes "v") (says (codes "string") (quoted (codes "w")) ∷ []) ∷ []) ∷ [])
    ∷ a_bundle (codes "agent") (codes "main") (
    section (codes "vars") (
    promise (codes "x") (says (codes "string") (quoted []) ∷ [])
    ∷ promise (codes "l") (says (codes "slist") (items (codes "a" ∷ codes "b" ∷ [])) ∷ [])
    ∷ promise (codes "y") (says (codes "string") (quoted (codes "$(x)$(l)")) ∷ []) ∷ [])
    ∷ section (codes "reports") (under (class (codes "set_here")) (codes "$(y)$(g.v)") [] ∷ []) ∷ []) ∷ []

the_last_stays : told_by (all_end Repaired) joined_to_itself ≡ (codes "main 4;report bw;k=;r=;f=;e=1", Kept ∷ []) ∷ []
unfolding run common_passes passes calls_of reach visit told resolution combined own_reads made heard bodies_of made_instance file_acts service_act outcome_classes key_text mode_text datum_given data_set raises_of setting_choices shared_names shared_in expanded scalar look key_of pieces reference_at list_reference_of are_too_many list_given answer_of function_named path_of body_of bundle_of common_bundles_of minutes_of sequence_of escaped escape_of digits is_literal is_boolean promise_type bundle_type files_attribute outcome_attribute methods_attribute services_attribute vars_attribute classes_attribute delete_attribute copy_from_attribute perms_attribute classes_body_attribute action_attribute expression_of
the_last_stays = refl

-- ---- in the open walk a class of repairs alone may be set

abbrev after_a_repair : PolicyTree
after_a_repair =
    a_bundle (codes "agent") (codes "main") (section (codes "files") (
    promise (codes "/a") (created ∷ classes_of (codes "if_repaired") (codes "c") ∷ [])
    ∷ under (class (codes "c")) (codes "/b") (created ∷ [])
    ∷ under (negated (class (codes "c"))) (codes "/d") (created ∷ []) ∷ []) ∷ [])
    ∷ outcome_bodies

sure_and_unsure : listed_by open_walk after_a_repair ≡
    (codes "main 3;create /d;k=;r=;f=;e=1", Maybe)
    ∷ (codes "main 2;create /b;k=;r=;f=;e=1", Maybe)
    ∷ (codes "main 3;create /d;k=;r=;f=;e=1", Maybe)
    ∷ (codes "main 2;create /b;k=;r=;f=;e=1", Maybe)
    ∷ (codes "main 3;create /d;k=;r=;f=;e=1", Maybe)
    ∷ (codes "main 2;create /b;k=;r=;f=;e=1", Maybe)
    ∷ (codes "main 1;create /a;k=;r=c;f=;e=1", Yes) ∷ []
unfolding run common_passes passes calls_of reach visit told resolution combined own_reads made heard bodies_of made_instance file_acts service_act outcome_classes key_text mode_text datum_given data_set raises_of setting_choices shared_names shared_in expanded scalar look key_of pieces reference_at list_reference_of are_too_many list_given answer_of function_named path_of body_of bundle_of common_bundles_of minutes_of sequence_of escaped escape_of digits is_literal is_boolean promise_type bundle_type files_attribute outcome_attribute methods_attribute services_attribute vars_attribute classes_attribute delete_attribute copy_from_attribute perms_attribute classes_body_attribute action_attribute expression_of
sure_and_unsure = refl

-- where all is kept it never is
kept_alone : listed_by all_kept after_a_repair ≡
    (codes "main 3;create /d;k=;r=;f=;e=1", Yes) ∷ (codes "main 1;create /a;k=;r=c;f=;e=1", Yes) ∷ []
unfolding run common_passes passes calls_of reach visit told resolution combined own_reads made heard bodies_of made_instance file_acts service_act outcome_classes key_text mode_text datum_given data_set raises_of setting_choices shared_names shared_in expanded scalar look key_of pieces reference_at list_reference_of are_too_many list_given answer_of function_named path_of body_of bundle_of common_bundles_of minutes_of sequence_of escaped escape_of digits is_literal is_boolean promise_type bundle_type files_attribute outcome_attribute methods_attribute services_attribute vars_attribute classes_attribute delete_attribute copy_from_attribute perms_attribute classes_body_attribute action_attribute expression_of
kept_alone = refl
