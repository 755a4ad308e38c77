-- Worked rows of what promises resolve to.
use Rattle.std.proofs.Common.{◌≡◌, ℕ, List, [], ◌∷◌, true, Some, None, codes, refl}
use Rattle.std.specs.Prelude.{map}
use Rattle.cfa_base.specs.declared.places.PromiseId.{PromiseId}
use Rattle.cfa_tree.specs.Tree.{ValueTree, text, word, list_reference, list, call, value_trees, AttributeTree, NamedTree, BlockTree, body, PolicyTree}
use Rattle.cfa_statuses.specs.declared.levels.Status.TheVariants.{No}
use Rattle.cfa_kinds.specs.declared.kinds.PromiseType.{PromiseType}
use Rattle.cfa_kinds.specs.declared.kinds.PromiseType.TheVariants as promises
use Rattle.cfa_vars.specs.declared.scoping.Datum.TheVariants.{Text as text_of, List as list_of}
use Rattle.cfa_vars.specs.Scopes.{Table, look, key_of}
use Rattle.cfa_acts.specs.declared.acts.Act.TheVariants.{Create, MakeDir, Delete, Content, Copy, Perms, Bust}
use Rattle.cfa_acts.specs.declared.acts.Reason.TheVariants as reasons
use Rattle.cfa_resolve.specs.declared.instances.Instance.{Instance}
use Rattle.cfa_resolve.specs.declared.instances.Work.{Work}
use Rattle.cfa_resolve.specs.declared.instances.Work.TheVariants.{Acts, Report}
use Rattle.cfa_resolve.specs.Instances.{Reached, made_instance}
use Rattle.cfa_resolve.specs.Resolution.{resolution, made}
use Rattle.cfa_tree.specs.lemmas.Written.{here, named, quoted, says}
use Rattle.std.specs.Fmt.{digits}
use Rattle.cfa_base.specs.Escapes.{escaped, escape_of}
use Rattle.cfa_kinds.specs.Kinds.{files_attribute, outcome_attribute, methods_attribute, services_attribute, delete_attribute, copy_from_attribute, perms_attribute, classes_body_attribute, action_attribute}
use Rattle.cfa_kinds.specs.Forms.{is_boolean}
use Rattle.cfa_vars.specs.References.{reference_at, pieces, list_reference_of}
use Rattle.cfa_vars.specs.Expansion.{expanded, scalar}
use Rattle.cfa_vars.specs.Choices.{are_too_many}
use Rattle.cfa_functions.specs.Calls.{list_given}
use Rattle.cfa_outside.specs.Paths.{path_of}
use Rattle.cfa_values.specs.Scope.{is_literal}
use Rattle.cfa_served.specs.Served.{body_of, minutes_of}
use Rattle.cfa_defines.specs.OwnTexts.{own_reads, combined}
use Rattle.cfa_bodies.specs.Bodies.{datum_given, bodies_of, heard}
use Rattle.cfa_resolve.specs.FileActs.{file_acts, service_act, outcome_classes}
use Rattle.cfa_base.specs.Octal.{mode_text}
use Rattle.cfa_resolve.specs.KeyTexts.{key_text}

-- ---- a policy of bodies

abbrev a_body : (type name : List ℕ) → List NamedTree → List AttributeTree → BlockTree
a_body type name params attributes = body (named type) (named name) params attributes here

abbrev one_item : List ℕ → ValueTree
one_item content = list (value_trees (quoted content ∷ [])) here

abbrev policy : PolicyTree
policy =
    a_body (codes "classes") (codes "if_repaired") (named (codes "x") ∷ []) (says (codes "promise_repaired") (one_item (codes "$(x)")) ∷ [])
    ∷ a_body (codes "perms") (codes "m") (named (codes "x") ∷ []) (says (codes "mode") (quoted (codes "$(x)")) ∷ [])
    ∷ a_body (codes "perms") (codes "o") (named (codes "l") ∷ []) (says (codes "owners") (list (value_trees (list_reference (codes "l") here ∷ [])) here) ∷ [])
    ∷ a_body (codes "perms") (codes "far") [] (says (codes "mode") (quoted (codes "$(other.mode)")) ∷ [])
    ∷ a_body (codes "delete") (codes "tidy") [] (says (codes "dirlinks") (quoted (codes "$(other.no)")) ∷ says (codes "rmdirs") (quoted (codes "true")) ∷ [])
    ∷ a_body (codes "copy_from") (codes "local_cp") (named (codes "s") ∷ []) (says (codes "source") (quoted (codes "$(s)")) ∷ [])
    ∷ a_body (codes "action") (codes "each") (named (codes "n") ∷ []) (says (codes "ifelapsed") (quoted (codes "$(n)")) ∷ [])
    ∷ a_body (codes "agent") (codes "control") [] (says (codes "ifelapsed") (quoted (codes "5")) ∷ [])
    ∷ []

-- in `main` x is `/v`, l the list of p and q, twice the list of p and p, and none an empty one
abbrev own : Table
own =
    (codes "x", text_of (codes "/v")) ∷ (codes "l", list_of (codes "p" ∷ codes "q" ∷ []))
    ∷ (codes "twice", list_of (codes "p" ∷ codes "p" ∷ [])) ∷ (codes "none", list_of []) ∷ []

abbrev id : PromiseId
id = record { bundle = codes "main"; number = 1; line = 4 }

abbrev reached : PromiseType → List ℕ → List AttributeTree → Reached
reached type promiser attributes = record {
  policy = policy;
  id = id;
  type = type;
  promise = record { guard = None; promiser = promiser; promisee = None; attributes = attributes; place = here };
  scopes = record { own = own; own_name = codes "main"; shared = [] };
  statuses = λ class. No;
  path = codes "main";
}

abbrev instances : PromiseType → List ℕ → List AttributeTree → List Instance
instances type promiser attributes = (resolution (reached type promiser attributes)).instances

abbrev texts : PromiseType → List ℕ → List AttributeTree → List (List ℕ)
texts type promiser attributes = map (λ i. i.text) (instances type promiser attributes)

abbrev works : PromiseType → List ℕ → List AttributeTree → List Work
works type promiser attributes = map (λ i. i.work) (instances type promiser attributes)

abbrev names : PromiseType → List ℕ → List AttributeTree → List (List ℕ)
names type promiser attributes = (resolution (reached type promiser attributes)).unresolved

abbrev visits : PromiseType → List ℕ → List AttributeTree → ℕ
visits type promiser attributes = (resolution (reached type promiser attributes)).visits

abbrev created : List AttributeTree
created = says (codes "create") (quoted (codes "true")) ∷ []

abbrev with_argument : (attribute body_name argument : List ℕ) → AttributeTree
with_argument attribute body_name argument = says attribute (call body_name (value_trees (quoted argument ∷ [])) here)

-- ---- key texts

a_file_is_created : texts promises.Files (codes "/etc/motd") created ≡ codes "main 1;create /etc/motd;k=;r=;f=;e=5" ∷ []
unfolding resolution combined own_reads made heard bodies_of made_instance file_acts service_act outcome_classes key_text mode_text datum_given expanded scalar look key_of pieces reference_at list_reference_of are_too_many list_given path_of body_of minutes_of escaped escape_of digits is_literal is_boolean files_attribute outcome_attribute methods_attribute services_attribute delete_attribute copy_from_attribute perms_attribute classes_body_attribute action_attribute
a_file_is_created = refl

a_directory_is_made : works promises.Files (codes "/d/.") created ≡ Acts (MakeDir (codes "/d") ∷ []) ∷ []
unfolding resolution combined own_reads made heard bodies_of made_instance file_acts service_act outcome_classes key_text mode_text datum_given expanded scalar look key_of pieces reference_at list_reference_of are_too_many list_given path_of body_of minutes_of escaped escape_of digits is_literal is_boolean files_attribute outcome_attribute methods_attribute services_attribute delete_attribute copy_from_attribute perms_attribute classes_body_attribute action_attribute
a_directory_is_made = refl

perms_are_octal :
    texts promises.Files (codes "/d/.") (says (codes "create") (word (codes "yes") here) ∷ with_argument (codes "perms") (codes "m") (codes "755") ∷ [])
    ≡ codes "main 1;mkdir /d;perms /d 0755 * *;k=;r=;f=;e=5" ∷ []
unfolding resolution combined own_reads made heard bodies_of made_instance file_acts service_act outcome_classes key_text mode_text datum_given expanded scalar look key_of pieces reference_at list_reference_of are_too_many list_given path_of body_of minutes_of escaped escape_of digits is_literal is_boolean files_attribute outcome_attribute methods_attribute services_attribute delete_attribute copy_from_attribute perms_attribute classes_body_attribute action_attribute
perms_are_octal = refl

owners_are_a_list :
    texts promises.Files (codes "/f") (says (codes "perms") (call (codes "o") (value_trees (list_reference (codes "l") here ∷ [])) here) ∷ [])
    ≡ codes "main 1;perms /f * p,q *;k=;r=;f=;e=5" ∷ []
unfolding resolution combined own_reads made heard bodies_of made_instance file_acts service_act outcome_classes key_text mode_text datum_given expanded scalar look key_of pieces reference_at list_reference_of are_too_many list_given path_of body_of minutes_of escaped escape_of digits is_literal is_boolean files_attribute outcome_attribute methods_attribute services_attribute delete_attribute copy_from_attribute perms_attribute classes_body_attribute action_attribute
owners_are_a_list = refl

classes_are_canonified :
    texts promises.Reports (codes "a b") (with_argument (codes "classes") (codes "if_repaired") (codes "ssh-changed") ∷ with_argument (codes "action") (codes "each") (codes "60") ∷ [])
    ≡ codes "main 1;report a%20b;k=;r=ssh_changed;f=;e=60" ∷ []
unfolding resolution combined own_reads made heard bodies_of made_instance file_acts service_act outcome_classes key_text mode_text datum_given expanded scalar look key_of pieces reference_at list_reference_of are_too_many list_given path_of body_of minutes_of escaped escape_of digits is_literal is_boolean files_attribute outcome_attribute methods_attribute services_attribute delete_attribute copy_from_attribute perms_attribute classes_body_attribute action_attribute
classes_are_canonified = refl

empty_classes_are_left_out :
    texts promises.Services (codes "sshd") (says (codes "service_policy") (word (codes "restart") here) ∷ with_argument (codes "classes") (codes "if_repaired") [] ∷ [])
    ≡ codes "main 1;restart sshd;k=;r=;f=;e=5" ∷ []
unfolding resolution combined own_reads made heard bodies_of made_instance file_acts service_act outcome_classes key_text mode_text datum_given expanded scalar look key_of pieces reference_at list_reference_of are_too_many list_given path_of body_of minutes_of escaped escape_of digits is_literal is_boolean files_attribute outcome_attribute methods_attribute services_attribute delete_attribute copy_from_attribute perms_attribute classes_body_attribute action_attribute
empty_classes_are_left_out = refl

calls_tell_their_arguments :
    texts promises.Methods (codes "m")
    (says (codes "usebundle") (call (codes "sub") (value_trees (quoted (codes "$(x) y") ∷ list_reference (codes "l") here ∷ quoted (codes "@(none)") ∷ [])) here) ∷ [])
    ≡ codes "main 1;call sub t/v%20y l,p,q l;k=;r=;f=;e=5" ∷ []
unfolding resolution combined own_reads made heard bodies_of made_instance file_acts service_act outcome_classes key_text mode_text datum_given expanded scalar look key_of pieces reference_at list_reference_of are_too_many list_given path_of body_of minutes_of escaped escape_of digits is_literal is_boolean files_attribute outcome_attribute methods_attribute services_attribute delete_attribute copy_from_attribute perms_attribute classes_body_attribute action_attribute
calls_tell_their_arguments = refl

acts_stand_in_their_order :
    works promises.Files (codes "$(x)")
    (says (codes "content") (quoted (codes "c")) ∷ says (codes "create") (quoted (codes "on")) ∷ says (codes "delete") (word (codes "tidy") here)
    ∷ with_argument (codes "copy_from") (codes "local_cp") (codes "/s//t") ∷ with_argument (codes "perms") (codes "m") (codes "644") ∷ [])
    ≡ Acts (Delete (codes "/v") true ∷ Create (codes "/v") ∷ Copy (codes "/s/t") (codes "/v") ∷ Content (codes "/v") (codes "c")
    ∷ Perms (codes "/v") (Some 420) [] [] ∷ []) ∷ []
unfolding resolution combined own_reads made heard bodies_of made_instance file_acts service_act outcome_classes key_text mode_text datum_given expanded scalar look key_of pieces reference_at list_reference_of are_too_many list_given path_of body_of minutes_of escaped escape_of digits is_literal is_boolean files_attribute outcome_attribute methods_attribute services_attribute delete_attribute copy_from_attribute perms_attribute classes_body_attribute action_attribute
acts_stand_in_their_order = refl

no_act_is_asked_for : works promises.Files (codes "/a") (says (codes "create") (quoted (codes "off")) ∷ []) ≡ Acts [] ∷ []
unfolding resolution combined own_reads made heard bodies_of made_instance file_acts service_act outcome_classes key_text mode_text datum_given expanded scalar look key_of pieces reference_at list_reference_of are_too_many list_given path_of body_of minutes_of escaped escape_of digits is_literal is_boolean files_attribute outcome_attribute methods_attribute services_attribute delete_attribute copy_from_attribute perms_attribute classes_body_attribute action_attribute
no_act_is_asked_for = refl

-- ---- acts that can't be made

a_wrong_path_fails : texts promises.Files (codes "a b") created ≡ codes "main 1;bust F1 a%20b;k=;r=;f=;e=5" ∷ []
unfolding resolution combined own_reads made heard bodies_of made_instance file_acts service_act outcome_classes key_text mode_text datum_given expanded scalar look key_of pieces reference_at list_reference_of are_too_many list_given path_of body_of minutes_of escaped escape_of digits is_literal is_boolean files_attribute outcome_attribute methods_attribute services_attribute delete_attribute copy_from_attribute perms_attribute classes_body_attribute action_attribute
a_wrong_path_fails = refl

a_slash_before_the_directory_fails : works promises.Files (codes "/d//.") created ≡ Acts (Bust reasons.BadPath ∷ []) ∷ []
unfolding resolution combined own_reads made heard bodies_of made_instance file_acts service_act outcome_classes key_text mode_text datum_given expanded scalar look key_of pieces reference_at list_reference_of are_too_many list_given path_of body_of minutes_of escaped escape_of digits is_literal is_boolean files_attribute outcome_attribute methods_attribute services_attribute delete_attribute copy_from_attribute perms_attribute classes_body_attribute action_attribute
a_slash_before_the_directory_fails = refl

a_directory_has_no_content :
    works promises.Files (codes "/d/.") (says (codes "create") (quoted (codes "true")) ∷ says (codes "content") (quoted (codes "x")) ∷ [])
    ≡ Acts (MakeDir (codes "/d") ∷ Bust reasons.BadPath ∷ []) ∷ []
unfolding resolution combined own_reads made heard bodies_of made_instance file_acts service_act outcome_classes key_text mode_text datum_given expanded scalar look key_of pieces reference_at list_reference_of are_too_many list_given path_of body_of minutes_of escaped escape_of digits is_literal is_boolean files_attribute outcome_attribute methods_attribute services_attribute delete_attribute copy_from_attribute perms_attribute classes_body_attribute action_attribute
a_directory_has_no_content = refl

wrong_values_fail_in_their_place :
    works promises.Files (codes "/a") (says (codes "create") (quoted (codes "$(x)")) ∷ with_argument (codes "perms") (codes "m") (codes "8") ∷ [])
    ≡ Acts (Bust reasons.BadValue ∷ Bust reasons.BadValue ∷ []) ∷ []
unfolding resolution combined own_reads made heard bodies_of made_instance file_acts service_act outcome_classes key_text mode_text datum_given expanded scalar look key_of pieces reference_at list_reference_of are_too_many list_given path_of body_of minutes_of escaped escape_of digits is_literal is_boolean files_attribute outcome_attribute methods_attribute services_attribute delete_attribute copy_from_attribute perms_attribute classes_body_attribute action_attribute
wrong_values_fail_in_their_place = refl

wrong_minutes_fail_alone :
    texts promises.Reports (codes "r") (with_argument (codes "action") (codes "each") (codes "05") ∷ with_argument (codes "classes") (codes "if_repaired") (codes "c") ∷ [])
    ≡ codes "main 1;bust F10 r;k=;r=c;f=;e=1" ∷ []
unfolding resolution combined own_reads made heard bodies_of made_instance file_acts service_act outcome_classes key_text mode_text datum_given expanded scalar look key_of pieces reference_at list_reference_of are_too_many list_given path_of body_of minutes_of escaped escape_of digits is_literal is_boolean files_attribute outcome_attribute methods_attribute services_attribute delete_attribute copy_from_attribute perms_attribute classes_body_attribute action_attribute
wrong_minutes_fail_alone = refl

an_empty_list_of_owners_fails :
    works promises.Files (codes "/f") (says (codes "perms") (call (codes "o") (value_trees (list_reference (codes "none") here ∷ [])) here) ∷ [])
    ≡ Acts (Bust reasons.BadValue ∷ []) ∷ []
unfolding resolution combined own_reads made heard bodies_of made_instance file_acts service_act outcome_classes key_text mode_text datum_given expanded scalar look key_of pieces reference_at list_reference_of are_too_many list_given path_of body_of minutes_of escaped escape_of digits is_literal is_boolean files_attribute outcome_attribute methods_attribute services_attribute delete_attribute copy_from_attribute perms_attribute classes_body_attribute action_attribute
an_empty_list_of_owners_fails = refl

-- ---- combinations

lists_give_combinations :
    works promises.Reports (codes "$(l)$(main.l)$(twice)") []
    ≡ Report (codes "ppp") ∷ Report (codes "ppp") ∷ Report (codes "qqp") ∷ Report (codes "qqp") ∷ []
unfolding resolution combined own_reads made heard bodies_of made_instance file_acts service_act outcome_classes key_text mode_text datum_given expanded scalar look key_of pieces reference_at list_reference_of are_too_many list_given path_of body_of minutes_of escaped escape_of digits is_literal is_boolean files_attribute outcome_attribute methods_attribute services_attribute delete_attribute copy_from_attribute perms_attribute classes_body_attribute action_attribute
lists_give_combinations = refl

an_empty_list_gives_none : instances promises.Reports (codes "$(none)") [] ≡ []
unfolding resolution combined own_reads made heard bodies_of made_instance file_acts service_act outcome_classes key_text mode_text datum_given expanded scalar look key_of pieces reference_at list_reference_of are_too_many list_given path_of body_of minutes_of escaped escape_of digits is_literal is_boolean files_attribute outcome_attribute methods_attribute services_attribute delete_attribute copy_from_attribute perms_attribute classes_body_attribute action_attribute
an_empty_list_gives_none = refl

an_empty_list_counts_once : visits promises.Reports (codes "$(none)") [] ≡ 1
unfolding resolution combined own_reads made heard bodies_of made_instance file_acts service_act outcome_classes key_text mode_text datum_given expanded scalar look key_of pieces reference_at list_reference_of are_too_many list_given path_of body_of minutes_of escaped escape_of digits is_literal is_boolean files_attribute outcome_attribute methods_attribute services_attribute delete_attribute copy_from_attribute perms_attribute classes_body_attribute action_attribute
an_empty_list_counts_once = refl

-- ---- what is unresolved

the_first_name_is_told :
    names promises.Methods (codes "m") (says (codes "usebundle") (call (codes "sub") (value_trees (list_reference (codes "z") here ∷ quoted (codes "$(y)") ∷ [])) here) ∷ [])
    ≡ codes "z" ∷ []
unfolding resolution combined own_reads made heard bodies_of made_instance file_acts service_act outcome_classes key_text mode_text datum_given expanded scalar look key_of pieces reference_at list_reference_of are_too_many list_given path_of body_of minutes_of escaped escape_of digits is_literal is_boolean files_attribute outcome_attribute methods_attribute services_attribute delete_attribute copy_from_attribute perms_attribute classes_body_attribute action_attribute
the_first_name_is_told = refl

a_text_is_no_list :
    names promises.Methods (codes "m") (says (codes "usebundle") (call (codes "sub") (value_trees (list_reference (codes "x") here ∷ [])) here) ∷ []) ≡ codes "x" ∷ []
unfolding resolution combined own_reads made heard bodies_of made_instance file_acts service_act outcome_classes key_text mode_text datum_given expanded scalar look key_of pieces reference_at list_reference_of are_too_many list_given path_of body_of minutes_of escaped escape_of digits is_literal is_boolean files_attribute outcome_attribute methods_attribute services_attribute delete_attribute copy_from_attribute perms_attribute classes_body_attribute action_attribute
a_text_is_no_list = refl

a_body_is_told_once : names promises.Files (codes "/$(l)") (says (codes "perms") (word (codes "far") here) ∷ created) ≡ codes "other.mode" ∷ []
unfolding resolution combined own_reads made heard bodies_of made_instance file_acts service_act outcome_classes key_text mode_text datum_given expanded scalar look key_of pieces reference_at list_reference_of are_too_many list_given path_of body_of minutes_of escaped escape_of digits is_literal is_boolean files_attribute outcome_attribute methods_attribute services_attribute delete_attribute copy_from_attribute perms_attribute classes_body_attribute action_attribute
a_body_is_told_once = refl

a_lacking_body_makes_nothing : instances promises.Files (codes "/$(l)") (says (codes "perms") (word (codes "far") here) ∷ created) ≡ []
unfolding resolution combined own_reads made heard bodies_of made_instance file_acts service_act outcome_classes key_text mode_text datum_given expanded scalar look key_of pieces reference_at list_reference_of are_too_many list_given path_of body_of minutes_of escaped escape_of digits is_literal is_boolean files_attribute outcome_attribute methods_attribute services_attribute delete_attribute copy_from_attribute perms_attribute classes_body_attribute action_attribute
a_lacking_body_makes_nothing = refl

what_is_unused_is_not_read : names promises.Files (codes "/a") (says (codes "comment") (quoted (codes "$(y)")) ∷ created) ≡ []
unfolding resolution combined own_reads made heard bodies_of made_instance file_acts service_act outcome_classes key_text mode_text datum_given expanded scalar look key_of pieces reference_at list_reference_of are_too_many list_given path_of body_of minutes_of escaped escape_of digits is_literal is_boolean files_attribute outcome_attribute methods_attribute services_attribute delete_attribute copy_from_attribute perms_attribute classes_body_attribute action_attribute
what_is_unused_is_not_read = refl

a_list_in_a_body_is_unresolved :
    names promises.Files (codes "/a") (says (codes "perms") (call (codes "m") (value_trees (list_reference (codes "l") here ∷ [])) here) ∷ []) ≡ codes "x" ∷ []
unfolding resolution combined own_reads made heard bodies_of made_instance file_acts service_act outcome_classes key_text mode_text datum_given expanded scalar look key_of pieces reference_at list_reference_of are_too_many list_given path_of body_of minutes_of escaped escape_of digits is_literal is_boolean files_attribute outcome_attribute methods_attribute services_attribute delete_attribute copy_from_attribute perms_attribute classes_body_attribute action_attribute
a_list_in_a_body_is_unresolved = refl
