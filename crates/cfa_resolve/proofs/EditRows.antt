-- Worked rows of promises with edit bundles.
use Rattle.std.proofs.Common.{◌≡◌, ℕ, List, [], ◌∷◌, Some, codes, refl}
use Rattle.std.specs.Prelude.{map}
use Rattle.std.specs.Fmt.{digits}
use Rattle.cfa_base.specs.Escapes.{escaped, escape_of}
use Rattle.cfa_base.specs.declared.places.PromiseId.{PromiseId}
use Rattle.cfa_tree.specs.Tree.{word, list_reference, call, value_trees, AttributeTree, NamedTree, SectionTree, BlockTree, body, bundle, PolicyTree}
use Rattle.cfa_kinds.specs.declared.kinds.PromiseType.TheVariants as promises
use Rattle.cfa_kinds.specs.Kinds.{files_attribute, outcome_attribute, classes_body_attribute, location_attribute, edit_field_attribute, edit_defaults_attribute, field_edits_attribute, insert_lines_attribute, vars_attribute, classes_attribute, promise_type}
use Rattle.cfa_kinds.specs.Forms.{is_boolean}
use Rattle.cfa_statuses.specs.declared.levels.Status.TheVariants.{No}
use Rattle.cfa_statuses.specs.Raised.{status_in, raised}
use Rattle.cfa_vars.specs.declared.scoping.Datum.TheVariants.{Text as text_of, List as list_of}
use Rattle.cfa_vars.specs.References.{reference_at, pieces, list_reference_of}
use Rattle.cfa_vars.specs.Scopes.{Table, look, key_of}
use Rattle.cfa_vars.specs.Expansion.{expanded, scalar}
use Rattle.cfa_vars.specs.Choices.{are_too_many}
use Rattle.cfa_functions.specs.Calls.{list_given, answer_of}
use Rattle.cfa_outside.specs.Paths.{path_of}
use Rattle.cfa_values.specs.Scope.{is_literal}
use Rattle.cfa_served.specs.Served.{body_of, bundle_of, minutes_of}
use Rattle.cfa_defines.specs.OwnTexts.{own_reads, combined}
use Rattle.cfa_defines.specs.VarsPromises.{setting_choices, data_set}
use Rattle.cfa_defines.specs.ClassPromises.{raises_of}
use Rattle.cfa_bodies.specs.Bodies.{datum_given, bodies_of, heard}
use Rattle.cfa_edits.specs.Scripts.{script_text}
use Rattle.cfa_scripts.specs.EditPromises.{contribution, edits_of, edit_visits}
use Rattle.cfa_scripts.specs.EditBundles.{reach}
use Rattle.cfa_scripts.specs.EditScripts.{concluded, walked}
use Rattle.cfa_acts.specs.declared.acts.Act.TheVariants.{Content, Bust}
use Rattle.cfa_acts.specs.declared.acts.Reason.TheVariants as reasons
use Rattle.cfa_resolve.specs.declared.instances.Work.{Work}
use Rattle.cfa_resolve.specs.declared.instances.Work.TheVariants.{Acts}
use Rattle.cfa_resolve.specs.FileActs.{file_acts, outcome_classes}
use Rattle.cfa_base.specs.Octal.{mode_text}
use Rattle.cfa_resolve.specs.KeyTexts.{key_text}
use Rattle.cfa_resolve.specs.Instances.{Reached, made_instance, handed_instance}
use Rattle.cfa_resolve.specs.Resolution.{resolution, made, instance_in}
use Rattle.cfa_tree.specs.lemmas.Written.{here, named, quoted, says, items, section, promise as promised, a_body}
use Rattle.cfa_resolve.specs.declared.instances.Instance.{Instance}
use Rattle.cfa_scripts.specs.declared.scripting.Scripted.{Scripted}
use Rattle.cfa_scripts.specs.declared.scripting.Scripted.TheVariants.{TooMany as script_many, BadPattern as bad_pattern, BadValue as bad_value}
use Rattle.std.specs.List.{cons_option}

-- ---- a policy of edit bundles

abbrev edits : List ℕ → List NamedTree → List SectionTree → BlockTree
edits name params sections = bundle (named (codes "edit_line")) (named name) params sections here

abbrev policy : PolicyTree
policy =
    edits (codes "ensure") (named (codes "lines") ∷ []) (section (codes "insert_lines") (promised (codes "$(lines)") [] ∷ []) ∷ [])
    ∷ edits (codes "nothing") [] []
    ∷ edits (codes "late") [] (
    section (codes "insert_lines") (promised (codes "$(v)\nlast") [] ∷ [])
    ∷ section (codes "vars") (promised (codes "v") (says (codes "string") (quoted (codes "first")) ∷ []) ∷ []) ∷ [])
    ∷ edits (codes "far") [] (section (codes "insert_lines") (promised (codes "$(x)") [] ∷ []) ∷ [])
    ∷ a_body (codes "classes") (codes "if_repaired") (says (codes "promise_repaired") (items (codes "$(x)" ∷ [])) ∷ [])
    ∷ body (named (codes "edit_defaults")) (named (codes "empty")) (named (codes "b") ∷ []) (says (codes "empty_file_before_editing") (quoted (codes "$(b)")) ∷ []) here
    ∷ []

abbrev own : Table
own =
    (codes "settings", list_of (codes "Port 22" ∷ codes "PermitRootLogin no" ∷ codes "X11Forwarding no" ∷ []))
    ∷ (codes "x", text_of (codes "v")) ∷ []

abbrev id : PromiseId
id = record { bundle = codes "main"; number = 2; line = 6 }

abbrev reached : List ℕ → List AttributeTree → Reached
reached promiser attributes = record {
  policy = policy;
  id = id;
  type = promises.Files;
  promise = promised promiser attributes;
  scopes = record { own = own; own_name = codes "main"; shared = [] };
  statuses = λ name. No;
  path = codes "main";
}

abbrev texts : List ℕ → List AttributeTree → List (List ℕ)
texts promiser attributes = map (λ i. i.text) (resolution (reached promiser attributes)).instances

abbrev works : List ℕ → List AttributeTree → List Work
works promiser attributes = map (λ i. i.work) (resolution (reached promiser attributes)).instances

abbrev names : List ℕ → List AttributeTree → List (List ℕ)
names promiser attributes = (resolution (reached promiser attributes)).unresolved

abbrev visits : List ℕ → List AttributeTree → ℕ
visits promiser attributes = (resolution (reached promiser attributes)).visits

abbrev edited_by : List ℕ → AttributeTree
edited_by name = says (codes "edit_line") (word name here)

abbrev ensured : AttributeTree
ensured = says (codes "edit_line") (call (codes "ensure") (value_trees (list_reference (codes "settings") here ∷ [])) here)

abbrev emptied : List ℕ → AttributeTree
emptied flag = says (codes "edit_defaults") (call (codes "empty") (value_trees (quoted flag ∷ [])) here)

-- ---- key texts

lines_are_ensured :
    texts (codes "/etc/ssh/sshd_config") (ensured ∷ says (codes "classes") (call (codes "if_repaired") (value_trees (quoted (codes "ssh_changed") ∷ [])) here) ∷ [])
    ≡ codes "main 2;edit /etc/ssh/sshd_config i:end::Port%2022,i:end::PermitRootLogin%20no,i:end::X11Forwarding%20no;k=;r=ssh_changed;f=;e=1" ∷ []
unfolding resolution combined own_reads made heard bodies_of made_instance handed_instance file_acts outcome_classes key_text mode_text datum_given expanded scalar look key_of pieces reference_at list_reference_of are_too_many list_given path_of body_of bundle_of minutes_of escaped escape_of digits is_literal files_attribute outcome_attribute classes_body_attribute location_attribute edit_field_attribute edit_defaults_attribute field_edits_attribute insert_lines_attribute vars_attribute classes_attribute promise_type is_boolean walked concluded reach contribution edits_of edit_visits script_text setting_choices data_set raises_of status_in raised answer_of
lines_are_ensured = refl

an_empty_script_has_a_text : texts (codes "/f") (edited_by (codes "nothing") ∷ []) ≡ codes "main 2;edit /f ;k=;r=;f=;e=1" ∷ []
unfolding resolution combined own_reads made heard bodies_of made_instance handed_instance file_acts outcome_classes key_text mode_text datum_given expanded scalar look key_of pieces reference_at list_reference_of are_too_many list_given path_of body_of bundle_of minutes_of escaped escape_of digits is_literal files_attribute outcome_attribute classes_body_attribute location_attribute edit_field_attribute edit_defaults_attribute field_edits_attribute insert_lines_attribute vars_attribute classes_attribute promise_type is_boolean walked concluded reach contribution edits_of edit_visits script_text setting_choices data_set raises_of status_in raised answer_of
an_empty_script_has_a_text = refl

-- one visit of the files promise, and three of the combinations of its edit
each_combination_counts : visits (codes "/f") (ensured ∷ []) ≡ 4
unfolding resolution combined own_reads made heard bodies_of made_instance handed_instance file_acts outcome_classes key_text mode_text datum_given expanded scalar look key_of pieces reference_at list_reference_of are_too_many list_given path_of body_of bundle_of minutes_of escaped escape_of digits is_literal files_attribute outcome_attribute classes_body_attribute location_attribute edit_field_attribute edit_defaults_attribute field_edits_attribute insert_lines_attribute vars_attribute classes_attribute promise_type is_boolean walked concluded reach contribution edits_of edit_visits script_text setting_choices data_set raises_of status_in raised answer_of
each_combination_counts = refl

-- variables come before edits, and a block has a line for each newline and one more
types_stand_in_order : texts (codes "/f") (edited_by (codes "late") ∷ []) ≡ codes "main 2;edit /f i:end::first+last;k=;r=;f=;e=1" ∷ []
unfolding resolution combined own_reads made heard bodies_of made_instance handed_instance file_acts outcome_classes key_text mode_text datum_given expanded scalar look key_of pieces reference_at list_reference_of are_too_many list_given path_of body_of bundle_of minutes_of escaped escape_of digits is_literal files_attribute outcome_attribute classes_body_attribute location_attribute edit_field_attribute edit_defaults_attribute field_edits_attribute insert_lines_attribute vars_attribute classes_attribute promise_type is_boolean walked concluded reach contribution edits_of edit_visits script_text setting_choices data_set raises_of status_in raised answer_of
types_stand_in_order = refl

each_promise_counts : visits (codes "/f") (edited_by (codes "late") ∷ []) ≡ 3
unfolding resolution combined own_reads made heard bodies_of made_instance handed_instance file_acts outcome_classes key_text mode_text datum_given expanded scalar look key_of pieces reference_at list_reference_of are_too_many list_given path_of body_of bundle_of minutes_of escaped escape_of digits is_literal files_attribute outcome_attribute classes_body_attribute location_attribute edit_field_attribute edit_defaults_attribute field_edits_attribute insert_lines_attribute vars_attribute classes_attribute promise_type is_boolean walked concluded reach contribution edits_of edit_visits script_text setting_choices data_set raises_of status_in raised answer_of
each_promise_counts = refl

-- the variables of the bundle of the files promise are not seen
own_variables_are_not_seen : names (codes "/f") (edited_by (codes "far") ∷ []) ≡ codes "x" ∷ []
unfolding resolution combined own_reads made heard bodies_of made_instance handed_instance file_acts outcome_classes key_text mode_text datum_given expanded scalar look key_of pieces reference_at list_reference_of are_too_many list_given path_of body_of bundle_of minutes_of escaped escape_of digits is_literal files_attribute outcome_attribute classes_body_attribute location_attribute edit_field_attribute edit_defaults_attribute field_edits_attribute insert_lines_attribute vars_attribute classes_attribute promise_type is_boolean walked concluded reach contribution edits_of edit_visits script_text setting_choices data_set raises_of status_in raised answer_of
own_variables_are_not_seen = refl

a_wrong_path_is_walked_too : visits (codes "f") (ensured ∷ []) ≡ 4
unfolding resolution combined own_reads made heard bodies_of made_instance handed_instance file_acts outcome_classes key_text mode_text datum_given expanded scalar look key_of pieces reference_at list_reference_of are_too_many list_given path_of body_of bundle_of minutes_of escaped escape_of digits is_literal files_attribute outcome_attribute classes_body_attribute location_attribute edit_field_attribute edit_defaults_attribute field_edits_attribute insert_lines_attribute vars_attribute classes_attribute promise_type is_boolean walked concluded reach contribution edits_of edit_visits script_text setting_choices data_set raises_of status_in raised answer_of
a_wrong_path_is_walked_too = refl

the_content_is_made_of_no_lines :
    works (codes "/f") (ensured ∷ emptied (codes "yes") ∷ [])
    ≡ Acts (Content (codes "/f") (codes "Port 22\nPermitRootLogin no\nX11Forwarding no\n") ∷ []) ∷ []
unfolding resolution combined own_reads made heard bodies_of made_instance handed_instance file_acts outcome_classes key_text mode_text datum_given expanded scalar look key_of pieces reference_at list_reference_of are_too_many list_given path_of body_of bundle_of minutes_of escaped escape_of digits is_literal files_attribute outcome_attribute classes_body_attribute location_attribute edit_field_attribute edit_defaults_attribute field_edits_attribute insert_lines_attribute vars_attribute classes_attribute promise_type is_boolean walked concluded reach contribution edits_of edit_visits script_text setting_choices data_set raises_of status_in raised answer_of
the_content_is_made_of_no_lines = refl

wrong_defaults_fail : works (codes "/f") (ensured ∷ emptied (codes "$(x)") ∷ []) ≡ Acts (Bust reasons.BadValue ∷ []) ∷ []
unfolding resolution combined own_reads made heard bodies_of made_instance handed_instance file_acts outcome_classes key_text mode_text datum_given expanded scalar look key_of pieces reference_at list_reference_of are_too_many list_given path_of body_of bundle_of minutes_of escaped escape_of digits is_literal files_attribute outcome_attribute classes_body_attribute location_attribute edit_field_attribute edit_defaults_attribute field_edits_attribute insert_lines_attribute vars_attribute classes_attribute promise_type is_boolean walked concluded reach contribution edits_of edit_visits script_text setting_choices data_set raises_of status_in raised answer_of
wrong_defaults_fail = refl

a_directory_is_not_edited : works (codes "/d/.") (ensured ∷ []) ≡ Acts (Bust reasons.BadPath ∷ []) ∷ []
unfolding resolution combined own_reads made heard bodies_of made_instance handed_instance file_acts outcome_classes key_text mode_text datum_given expanded scalar look key_of pieces reference_at list_reference_of are_too_many list_given path_of body_of bundle_of minutes_of escaped escape_of digits is_literal files_attribute outcome_attribute classes_body_attribute location_attribute edit_field_attribute edit_defaults_attribute field_edits_attribute insert_lines_attribute vars_attribute classes_attribute promise_type is_boolean walked concluded reach contribution edits_of edit_visits script_text setting_choices data_set raises_of status_in raised answer_of
a_directory_is_not_edited = refl

-- ---- what an edit bundle may come to

abbrev made_texts : Scripted → List (List ℕ)
made_texts scripted = map (λ (i : Instance). i.text) (cons_option (instance_in (made (reached (codes "/$(x)") []) [] (Some scripted))) [])

-- what is handed over is named by the promiser as it is written
what_is_handed_over_is_named_as_written : made_texts script_many ≡ codes "main 2;bust F13 /%24%28x%29;k=;r=;f=;e=1" ∷ []
unfolding resolution combined own_reads made heard bodies_of made_instance handed_instance file_acts outcome_classes key_text mode_text datum_given expanded scalar look key_of pieces reference_at list_reference_of are_too_many list_given path_of body_of bundle_of minutes_of escaped escape_of digits is_literal files_attribute outcome_attribute classes_body_attribute location_attribute edit_field_attribute edit_defaults_attribute field_edits_attribute insert_lines_attribute vars_attribute classes_attribute promise_type is_boolean walked concluded reach contribution edits_of edit_visits script_text setting_choices data_set raises_of status_in raised answer_of
what_is_handed_over_is_named_as_written = refl

a_bad_pattern_fails : made_texts bad_pattern ≡ codes "main 2;bust F9 /v;k=;r=;f=;e=1" ∷ []
unfolding resolution combined own_reads made heard bodies_of made_instance handed_instance file_acts outcome_classes key_text mode_text datum_given expanded scalar look key_of pieces reference_at list_reference_of are_too_many list_given path_of body_of bundle_of minutes_of escaped escape_of digits is_literal files_attribute outcome_attribute classes_body_attribute location_attribute edit_field_attribute edit_defaults_attribute field_edits_attribute insert_lines_attribute vars_attribute classes_attribute promise_type is_boolean walked concluded reach contribution edits_of edit_visits script_text setting_choices data_set raises_of status_in raised answer_of
a_bad_pattern_fails = refl

a_bad_value_fails : made_texts bad_value ≡ codes "main 2;bust F10 /v;k=;r=;f=;e=1" ∷ []
unfolding resolution combined own_reads made heard bodies_of made_instance handed_instance file_acts outcome_classes key_text mode_text datum_given expanded scalar look key_of pieces reference_at list_reference_of are_too_many list_given path_of body_of bundle_of minutes_of escaped escape_of digits is_literal files_attribute outcome_attribute classes_body_attribute location_attribute edit_field_attribute edit_defaults_attribute field_edits_attribute insert_lines_attribute vars_attribute classes_attribute promise_type is_boolean walked concluded reach contribution edits_of edit_visits script_text setting_choices data_set raises_of status_in raised answer_of
a_bad_value_fails = refl
