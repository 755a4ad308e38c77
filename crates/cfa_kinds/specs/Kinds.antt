-- The tables of the schema: which types of bundles, promises and bodies there are, which promises a type of bundles has,
-- and what each attribute of a promise or body takes. Of another type a word may be one that CFEngine knows and this
-- profile leaves out, which is then foreign.
use Rattle.std.specs.Prelude.{ℕ, Bool, true, false, ◌||◌, List, [], ◌∷◌, codes, Option, Some, None, if◌then◌else◌}
use Rattle.std.specs.Str.{bytes_eq}
use Rattle.cfa_kinds.specs.declared.kinds.BundleType.{BundleType}
use Rattle.cfa_kinds.specs.declared.kinds.BundleType.TheVariants as bundles
use Rattle.cfa_kinds.specs.declared.kinds.PromiseType.{PromiseType}
use Rattle.cfa_kinds.specs.declared.kinds.PromiseType.TheVariants as promises
use Rattle.cfa_kinds.specs.declared.kinds.BodyType.{BodyType}
use Rattle.cfa_kinds.specs.declared.kinds.BodyType.TheVariants as bodies
use Rattle.cfa_kinds.specs.declared.kinds.Form.TheVariants.{AnyText, Boolean, WholeNumber, ServicePolicy, LinkChoice, Digest, NoBackup, Mode, Minutes, Side, End, Occurrences, Character, FieldNumber, FieldOperation}
use Rattle.cfa_kinds.specs.declared.kinds.Kind.{Kind}
use Rattle.cfa_kinds.specs.declared.kinds.Kind.TheVariants as kinds

-- ---- types

unfoldable pub bundle_type : List ℕ → Option BundleType
bundle_type word =
    if bytes_eq word (codes "agent") then Some bundles.Agent else (
    if bytes_eq word (codes "common") then Some bundles.Common else (
    if bytes_eq word (codes "edit_line") then Some bundles.EditLine else None))

unfoldable pub is_foreign_bundle_type : List ℕ → Bool
is_foreign_bundle_type word = bytes_eq word (codes "server") || (bytes_eq word (codes "monitor") || bytes_eq word (codes "edit_xml"))

unfoldable pub promise_type : List ℕ → Option PromiseType
promise_type word =
    if bytes_eq word (codes "vars") then Some promises.Vars else (
    if bytes_eq word (codes "classes") then Some promises.Classes else (
    if bytes_eq word (codes "files") then Some promises.Files else (
    if bytes_eq word (codes "methods") then Some promises.Methods else (
    if bytes_eq word (codes "services") then Some promises.Services else (
    if bytes_eq word (codes "reports") then Some promises.Reports else (
    if bytes_eq word (codes "delete_lines") then Some promises.DeleteLines else (
    if bytes_eq word (codes "field_edits") then Some promises.FieldEdits else (
    if bytes_eq word (codes "insert_lines") then Some promises.InsertLines else (
    if bytes_eq word (codes "replace_patterns") then Some promises.ReplacePatterns else None)))))))))

unfoldable pub is_foreign_promise_type : List ℕ → Bool
is_foreign_promise_type word =
    bytes_eq word (codes "commands") || (bytes_eq word (codes "packages") || (bytes_eq word (codes "processes") || (
    bytes_eq word (codes "storage") || (bytes_eq word (codes "databases") || (bytes_eq word (codes "users") || (
    bytes_eq word (codes "access") || (bytes_eq word (codes "measurements") || (bytes_eq word (codes "meta") || bytes_eq word (codes "defaults")))))))))

-- every bundle has vars and classes, an agent bundle has what is done on the host, and an edit_line bundle has edits
abbrev pub has_promise_type : BundleType → PromiseType → Bool
has_promise_type bundle promises.Vars = true
has_promise_type bundle promises.Classes = true
has_promise_type bundles.Agent promises.Files = true
has_promise_type bundles.Agent promises.Methods = true
has_promise_type bundles.Agent promises.Services = true
has_promise_type bundles.Agent promises.Reports = true
has_promise_type bundles.EditLine promises.DeleteLines = true
has_promise_type bundles.EditLine promises.FieldEdits = true
has_promise_type bundles.EditLine promises.InsertLines = true
has_promise_type bundles.EditLine promises.ReplacePatterns = true
has_promise_type bundle type = false

unfoldable pub body_type : List ℕ → Option BodyType
body_type word =
    if bytes_eq word (codes "delete") then Some bodies.Delete else (
    if bytes_eq word (codes "copy_from") then Some bodies.CopyFrom else (
    if bytes_eq word (codes "edit_defaults") then Some bodies.EditDefaults else (
    if bytes_eq word (codes "perms") then Some bodies.Perms else (
    if bytes_eq word (codes "classes") then Some bodies.Classes else (
    if bytes_eq word (codes "action") then Some bodies.Action else (
    if bytes_eq word (codes "location") then Some bodies.Location else (
    if bytes_eq word (codes "replace_with") then Some bodies.ReplaceWith else (
    if bytes_eq word (codes "edit_field") then Some bodies.EditField else (
    if bytes_eq word (codes "common") then Some bodies.Common else (
    if bytes_eq word (codes "agent") then Some bodies.Agent else None))))))))))

unfoldable pub is_foreign_body_type : List ℕ → Bool
is_foreign_body_type word = bytes_eq word (codes "file")

-- the word that names a type of bodies
abbrev pub body_word : BodyType → List ℕ
body_word bodies.Delete = codes "delete"
body_word bodies.CopyFrom = codes "copy_from"
body_word bodies.EditDefaults = codes "edit_defaults"
body_word bodies.Perms = codes "perms"
body_word bodies.Classes = codes "classes"
body_word bodies.Action = codes "action"
body_word bodies.Location = codes "location"
body_word bodies.ReplaceWith = codes "replace_with"
body_word bodies.EditField = codes "edit_field"
body_word bodies.Common = codes "common"
body_word bodies.Agent = codes "agent"

-- ---- attributes of promises

-- `comment`, `handle` and `meta`, which every promise has
unfoldable pub shared_attribute : List ℕ → Option Kind
shared_attribute name =
    if bytes_eq name (codes "comment") then Some (kinds.Text AnyText) else (
    if bytes_eq name (codes "handle") then Some (kinds.Text AnyText) else (
    if bytes_eq name (codes "meta") then Some kinds.List else None))

unfoldable pub vars_attribute : List ℕ → Option Kind
vars_attribute name =
    if bytes_eq name (codes "string") then Some (kinds.TextOrCall AnyText) else (
    if bytes_eq name (codes "int") then Some (kinds.TextOrCall WholeNumber) else (
    if bytes_eq name (codes "slist") then Some kinds.List else None))

unfoldable pub classes_attribute : List ℕ → Option Kind
classes_attribute name =
    if bytes_eq name (codes "expression") then Some kinds.ClassText else (
    if bytes_eq name (codes "not") then Some kinds.ClassText else (
    if bytes_eq name (codes "and") then Some kinds.ClassTexts else (
    if bytes_eq name (codes "or") then Some kinds.ClassTexts else None)))

-- `classes` and `action`, which each promise on the host has
unfoldable pub outcome_attribute : List ℕ → Option Kind
outcome_attribute name =
    if bytes_eq name (codes "classes") then Some (kinds.BodyOf bodies.Classes) else (
    if bytes_eq name (codes "action") then Some (kinds.BodyOf bodies.Action) else None)

unfoldable pub files_attribute : List ℕ → Option Kind
files_attribute name =
    if bytes_eq name (codes "create") then Some (kinds.Text Boolean) else (
    if bytes_eq name (codes "content") then Some (kinds.Text AnyText) else (
    if bytes_eq name (codes "delete") then Some (kinds.BodyOf bodies.Delete) else (
    if bytes_eq name (codes "copy_from") then Some (kinds.BodyOf bodies.CopyFrom) else (
    if bytes_eq name (codes "edit_defaults") then Some (kinds.BodyOf bodies.EditDefaults) else (
    if bytes_eq name (codes "perms") then Some (kinds.BodyOf bodies.Perms) else (
    if bytes_eq name (codes "edit_line") then Some kinds.EditBundle else outcome_attribute name))))))

unfoldable pub methods_attribute : List ℕ → Option Kind
methods_attribute name = if bytes_eq name (codes "usebundle") then Some kinds.AgentBundle else outcome_attribute name

unfoldable pub services_attribute : List ℕ → Option Kind
services_attribute name = if bytes_eq name (codes "service_policy") then Some (kinds.Text ServicePolicy) else outcome_attribute name

unfoldable pub field_edits_attribute : List ℕ → Option Kind
field_edits_attribute name = if bytes_eq name (codes "edit_field") then Some (kinds.BodyOf bodies.EditField) else None

unfoldable pub insert_lines_attribute : List ℕ → Option Kind
insert_lines_attribute name = if bytes_eq name (codes "location") then Some (kinds.BodyOf bodies.Location) else None

unfoldable pub replace_patterns_attribute : List ℕ → Option Kind
replace_patterns_attribute name = if bytes_eq name (codes "replace_with") then Some (kinds.BodyOf bodies.ReplaceWith) else None

-- what an attribute of a type of promises takes beside those that every promise has
abbrev pub own_attribute : PromiseType → List ℕ → Option Kind
own_attribute promises.Vars name = vars_attribute name
own_attribute promises.Classes name = classes_attribute name
own_attribute promises.Files name = files_attribute name
own_attribute promises.Methods name = methods_attribute name
own_attribute promises.Services name = services_attribute name
own_attribute promises.Reports name = outcome_attribute name
own_attribute promises.DeleteLines name = None
own_attribute promises.FieldEdits name = field_edits_attribute name
own_attribute promises.InsertLines name = insert_lines_attribute name
own_attribute promises.ReplacePatterns name = replace_patterns_attribute name

abbrev pub or_else : Option Kind → Option Kind → Option Kind
or_else None other = other
or_else (Some kind) other = Some kind

-- what an attribute of a promise takes; none where its type lacks it
abbrev pub promise_attribute : PromiseType → List ℕ → Option Kind
promise_attribute type name = or_else (shared_attribute name) (own_attribute type name)

-- ---- attributes of bodies

unfoldable pub delete_attribute : List ℕ → Option Kind
delete_attribute name =
    if bytes_eq name (codes "dirlinks") then Some (kinds.Text LinkChoice) else (
    if bytes_eq name (codes "rmdirs") then Some (kinds.Text Boolean) else None)

unfoldable pub copy_from_attribute : List ℕ → Option Kind
copy_from_attribute name =
    if bytes_eq name (codes "source") then Some (kinds.Text AnyText) else (
    if bytes_eq name (codes "compare") then Some (kinds.Text Digest) else None)

unfoldable pub edit_defaults_attribute : List ℕ → Option Kind
edit_defaults_attribute name =
    if bytes_eq name (codes "empty_file_before_editing") then Some (kinds.Text Boolean) else (
    if bytes_eq name (codes "edit_backup") then Some (kinds.Text NoBackup) else None)

unfoldable pub perms_attribute : List ℕ → Option Kind
perms_attribute name =
    if bytes_eq name (codes "mode") then Some (kinds.Text Mode) else (
    if bytes_eq name (codes "owners") then Some kinds.FullList else (
    if bytes_eq name (codes "groups") then Some kinds.FullList else None))

unfoldable pub classes_body_attribute : List ℕ → Option Kind
classes_body_attribute name =
    if bytes_eq name (codes "promise_kept") then Some kinds.List else (
    if bytes_eq name (codes "promise_repaired") then Some kinds.List else (
    if bytes_eq name (codes "repair_failed") then Some kinds.List else None))

unfoldable pub action_attribute : List ℕ → Option Kind
action_attribute name = if bytes_eq name (codes "ifelapsed") then Some (kinds.Text Minutes) else None

unfoldable pub location_attribute : List ℕ → Option Kind
location_attribute name =
    if bytes_eq name (codes "before_after") then Some (kinds.Text Side) else (
    if bytes_eq name (codes "first_last") then Some (kinds.Text End) else (
    if bytes_eq name (codes "select_line_matching") then Some kinds.Pattern else None))

unfoldable pub replace_with_attribute : List ℕ → Option Kind
replace_with_attribute name =
    if bytes_eq name (codes "replace_value") then Some (kinds.Text AnyText) else (
    if bytes_eq name (codes "occurrences") then Some (kinds.Text Occurrences) else None)

unfoldable pub edit_field_attribute : List ℕ → Option Kind
edit_field_attribute name =
    if bytes_eq name (codes "field_separator") then Some (kinds.Text Character) else (
    if bytes_eq name (codes "select_field") then Some (kinds.Text FieldNumber) else (
    if bytes_eq name (codes "field_value") then Some (kinds.Text AnyText) else (
    if bytes_eq name (codes "field_operation") then Some (kinds.Text FieldOperation) else None)))

unfoldable pub common_attribute : List ℕ → Option Kind
common_attribute name =
    if bytes_eq name (codes "bundlesequence") then Some kinds.BundleNames else (
    if bytes_eq name (codes "inputs") then Some kinds.InputNames else (
    if bytes_eq name (codes "version") then Some (kinds.Text AnyText) else None))

unfoldable pub agent_attribute : List ℕ → Option Kind
agent_attribute name = if bytes_eq name (codes "ifelapsed") then Some (kinds.Literal Minutes) else None

-- what an attribute of a type of bodies takes; none where the type lacks it
abbrev pub body_attribute : BodyType → List ℕ → Option Kind
body_attribute bodies.Delete name = delete_attribute name
body_attribute bodies.CopyFrom name = copy_from_attribute name
body_attribute bodies.EditDefaults name = edit_defaults_attribute name
body_attribute bodies.Perms name = perms_attribute name
body_attribute bodies.Classes name = classes_body_attribute name
body_attribute bodies.Action name = action_attribute name
body_attribute bodies.Location name = location_attribute name
body_attribute bodies.ReplaceWith name = replace_with_attribute name
body_attribute bodies.EditField name = edit_field_attribute name
body_attribute bodies.Common name = common_attribute name
body_attribute bodies.Agent name = agent_attribute name

-- ---- attributes that must be there

-- a promise has one of these and no other of them; none are asked for where there are none here
abbrev pub choices : PromiseType → List (List ℕ)
choices promises.Vars = codes "string" ∷ codes "int" ∷ codes "slist" ∷ []
choices promises.Classes = codes "expression" ∷ codes "not" ∷ codes "and" ∷ codes "or" ∷ []
choices promises.Methods = codes "usebundle" ∷ []
choices promises.FieldEdits = codes "edit_field" ∷ []
choices promises.ReplacePatterns = codes "replace_with" ∷ []
choices type = []

-- a body has each of these
abbrev pub required : BodyType → List (List ℕ)
required bodies.CopyFrom = codes "source" ∷ []
required bodies.ReplaceWith = codes "replace_value" ∷ []
required bodies.EditField = codes "field_separator" ∷ codes "select_field" ∷ codes "field_value" ∷ []
required type = []
