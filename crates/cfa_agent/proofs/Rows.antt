-- Worked rows of runs: what they write, put and count.
use Rattle.std.proofs.Common.{◌≡◌, ℕ, List, [], ◌∷◌, codes, refl, ap}
use Rattle.std.specs.Fmt.{digits}
use Rattle.cfa_base.specs.Escapes.{escaped, escape_of}
use Rattle.cfa_tree.specs.ClassTexts.{expression_of}
use Rattle.cfa_tree.specs.Tree.{PolicyTree}
use Rattle.cfa_kinds.specs.Kinds.{bundle_type, promise_type, files_attribute, outcome_attribute, methods_attribute, services_attribute, vars_attribute, classes_attribute, delete_attribute, copy_from_attribute, perms_attribute, classes_body_attribute, action_attribute}
use Rattle.cfa_kinds.specs.Forms.{is_boolean}
use Rattle.cfa_kinds.specs.Functions.{function_named}
use Rattle.cfa_vars.specs.References.{reference_at, pieces, list_reference_of}
use Rattle.cfa_vars.specs.Scopes.{look, key_of}
use Rattle.cfa_vars.specs.Expansion.{expanded, scalar}
use Rattle.cfa_vars.specs.Choices.{are_too_many}
use Rattle.cfa_functions.specs.Calls.{list_given, answer_of}
use Rattle.cfa_outside.specs.Paths.{path_of}
use Rattle.cfa_values.specs.Scope.{is_literal}
use Rattle.cfa_served.specs.Control.{sequence_of}
use Rattle.cfa_served.specs.Served.{body_of, bundle_of, common_bundles_of, minutes_of}
use Rattle.cfa_defines.specs.OwnTexts.{own_reads, combined}
use Rattle.cfa_bodies.specs.Bodies.{datum_given, bodies_of, heard}
use Rattle.cfa_resolve.specs.FileActs.{file_acts, service_act, outcome_classes}
use Rattle.cfa_base.specs.Octal.{mode_text}
use Rattle.cfa_resolve.specs.KeyTexts.{key_text}
use Rattle.cfa_resolve.specs.Instances.{made_instance}
use Rattle.cfa_resolve.specs.Resolution.{resolution, made}
use Rattle.cfa_tree.specs.lemmas.Written.{promise, section, a_bundle, created}
use Rattle.cfa_states.specs.Views.{Setting, shared_names, shared_in}
use Rattle.cfa_defines.specs.VarsPromises.{setting_choices, data_set}
use Rattle.cfa_defines.specs.ClassPromises.{raises_of}
use Rattle.cfa_states.specs.Passes.{run, common_passes, passes, calls_of, reach, visit, told}
use Rattle.std.specs.Prelude.{◌++◌, false}
use Rattle.std.specs.FinMap as finite
use Rattle.cfa_outside.specs.declared.worlds.World.{World}
use Rattle.cfa_outside.specs.declared.sites.Call.TheVariants as calls
use Rattle.cfa_outside.specs.declared.sites.Change.TheVariants.{Append}
use Rattle.cfa_outside.specs.declared.sites.Entry.{Entry}
use Rattle.cfa_outside.specs.declared.sites.Entry.TheVariants.{Did, Refused}
use Rattle.cfa_journal.specs.Records.{record_text}
use Rattle.cfa_output.specs.Lines.{id_text, failed_line, report_line}
use Rattle.cfa_acts.specs.Acts.{decision, post, needed}
use Rattle.cfa_locks.specs.Locks.{key_of as lock_key}
use Rattle.cfa_agent.specs.Actuations.{Mark, done_on, entries_of}
use Rattle.cfa_agent.specs.Marks.{closed_in, is_file_record, marks_of}
use Rattle.cfa_agent.specs.Runs.{Start, run_of, log_of, lines_of, tally_of}

-- ---- policies

abbrev empty : World
empty = record { nodes = finite.empty; services = finite.empty; locks = finite.empty; journal = [] }

-- a run without locks on an empty world, with these marks
abbrev started : List Mark → Start
started marks = record { world = empty; moment = 7; has_locks = false; marks = marks }

abbrev marked : (changes : ℕ) → Entry → List Mark
marked changes (Refused refused) = record { instance = 1; changes = changes; call = refused } ∷ []
marked changes (Did change) = []

abbrev setting : PolicyTree → Setting
setting policy = record { policy = policy; classes = codes "any" ∷ [] }

-- the line of a record, with its newline
abbrev written : List ℕ → Entry
written line = Did (Append (line ++ 10 ∷ []))

-- ---- a promise that fails without a change, and a report

abbrev a_bad_path : PolicyTree
a_bad_path = a_bundle (codes "agent") (codes "main") (
    section (codes "files") (promise (codes "a b") (created ∷ []) ∷ [])
    ∷ section (codes "reports") (promise (codes "hello") [] ∷ []) ∷ []) ∷ []

one_record : log_of (setting a_bad_path) (started []) ≡
    written (codes "run 7 2")
    ∷ written (codes "fail 1 main:1@4 " ++ (lock_key (codes "main 1;bust F1 a%20b;k=;r=;f=;e=1") ++ codes " F1")) ∷ []
unfolding decision post needed run_of log_of lines_of tally_of done_on entries_of record_text id_text failed_line report_line run common_passes passes calls_of reach visit told resolution combined own_reads made heard bodies_of made_instance file_acts service_act outcome_classes key_text mode_text datum_given data_set raises_of setting_choices shared_names shared_in expanded scalar look key_of pieces reference_at list_reference_of are_too_many list_given answer_of function_named path_of body_of bundle_of common_bundles_of minutes_of sequence_of escaped escape_of digits is_literal is_boolean promise_type bundle_type files_attribute outcome_attribute methods_attribute services_attribute vars_attribute classes_attribute delete_attribute copy_from_attribute perms_attribute classes_body_attribute action_attribute expression_of
one_record = refl

two_lines : lines_of (setting a_bad_path) (started []) ≡
    codes "failed main:1@4 F1 BadPath\n" ∷ codes "R: hello\n" ∷ []
unfolding decision post needed run_of log_of lines_of tally_of done_on entries_of record_text id_text failed_line report_line run common_passes passes calls_of reach visit told resolution combined own_reads made heard bodies_of made_instance file_acts service_act outcome_classes key_text mode_text datum_given data_set raises_of setting_choices shared_names shared_in expanded scalar look key_of pieces reference_at list_reference_of are_too_many list_given answer_of function_named path_of body_of bundle_of common_bundles_of minutes_of sequence_of escaped escape_of digits is_literal is_boolean promise_type bundle_type files_attribute outcome_attribute methods_attribute services_attribute vars_attribute classes_attribute delete_attribute copy_from_attribute perms_attribute classes_body_attribute action_attribute expression_of
two_lines = refl

one_failed : tally_of (setting a_bad_path) (started []) ≡ record { kept = 1; repaired = 0; failed = 1; skipped = 0 }
unfolding decision post needed run_of log_of lines_of tally_of done_on entries_of record_text id_text failed_line report_line run common_passes passes calls_of reach visit told resolution combined own_reads made heard bodies_of made_instance file_acts service_act outcome_classes key_text mode_text datum_given data_set raises_of setting_choices shared_names shared_in expanded scalar look key_of pieces reference_at list_reference_of are_too_many list_given answer_of function_named path_of body_of bundle_of common_bundles_of minutes_of sequence_of escaped escape_of digits is_literal is_boolean promise_type bundle_type files_attribute outcome_attribute methods_attribute services_attribute vars_attribute classes_attribute delete_attribute copy_from_attribute perms_attribute classes_body_attribute action_attribute expression_of
one_failed = refl

-- ---- a file whose look fails

abbrev one_file : PolicyTree
one_file = a_bundle (codes "agent") (codes "main") (section (codes "files") (promise (codes "/etc/motd") (created ∷ []) ∷ []) ∷ []) ∷ []

a_failed_look : log_of (setting one_file) (started (marked 0 (Refused calls.Look))) ≡
    Refused calls.Look
    ∷ written (codes "run 7 2")
    ∷ written (codes "fail 1 main:1@4 " ++ (lock_key (codes "main 1;create /etc/motd;k=;r=;f=;e=1") ++ codes " F11")) ∷ []
unfolding decision post needed run_of log_of lines_of tally_of done_on entries_of record_text id_text failed_line report_line run common_passes passes calls_of reach visit told resolution combined own_reads made heard bodies_of made_instance file_acts service_act outcome_classes key_text mode_text datum_given data_set raises_of setting_choices shared_names shared_in expanded scalar look key_of pieces reference_at list_reference_of are_too_many list_given answer_of function_named path_of body_of bundle_of common_bundles_of minutes_of sequence_of escaped escape_of digits is_literal is_boolean promise_type bundle_type files_attribute outcome_attribute methods_attribute services_attribute vars_attribute classes_attribute delete_attribute copy_from_attribute perms_attribute classes_body_attribute action_attribute expression_of
a_failed_look = refl

a_fault_is_told : lines_of (setting one_file) (started (marked 0 (Refused calls.Change))) ≡
    codes "failed main:1@4 F11 Fault\n" ∷ []
unfolding decision post needed run_of log_of lines_of tally_of done_on entries_of record_text id_text failed_line report_line run common_passes passes calls_of reach visit told resolution combined own_reads made heard bodies_of made_instance file_acts service_act outcome_classes key_text mode_text datum_given data_set raises_of setting_choices shared_names shared_in expanded scalar look key_of pieces reference_at list_reference_of are_too_many list_given answer_of function_named path_of body_of bundle_of common_bundles_of minutes_of sequence_of escaped escape_of digits is_literal is_boolean promise_type bundle_type files_attribute outcome_attribute methods_attribute services_attribute vars_attribute classes_attribute delete_attribute copy_from_attribute perms_attribute classes_body_attribute action_attribute expression_of
a_fault_is_told = refl

-- the mark of that log is the one that made it
the_look_is_marked : marks_of (log_of (setting one_file) (started (marked 0 (Refused calls.Look)))) ≡ marked 0 (Refused calls.Look)
unfolding closed_in is_file_record
the_look_is_marked = ap marks_of a_failed_look
