-- What a promise asks for in one combination. A files promise gives acts in this order: delete, create, copy, content, edit,
-- perms. A promiser that ends in `/.` names the directory before the `/.`, which isn't copied to, given a content or edited.
-- A value that turns out to be none of its kind gives an act that fails for it, in the place of the act.
--
-- Where the file is to be emptied before it is edited, its content is the text that the script makes of no lines; where the script
-- refuses these, the act fails for that. A script that can't be made gives an act that fails for its reason.
use Rattle.std.specs.Prelude.{ℕ, ◌-◌, Bool, true, false, not, ◌||◌, ◌==◌, nat_le, List, [], ◌∷◌, ◌++◌, codes, length, take, drop, filter, map, Option, Some, None, option_map, Result, Ok, Err, if◌then◌else◌}
use Rattle.std.specs.List.{list_any}
use Rattle.std.specs.Str.{bytes_eq}
use Rattle.std.specs.Str.Parse.{digits_value}
use Rattle.cfa_tree.specs.Tree.{PromiseTree}
use Rattle.cfa_kinds.specs.declared.kinds.Form.TheVariants.{Boolean, Digest, Mode, NoBackup}
use Rattle.cfa_kinds.specs.Forms.{has_form}
use Rattle.cfa_values.specs.Attributes.{value_of}
use Rattle.cfa_vars.specs.Named.{thing_at}
use Rattle.cfa_vars.specs.Scopes.{InScope}
use Rattle.cfa_vars.specs.Expansion.{Chosen}
use Rattle.cfa_functions.specs.Functions.{canonified}
use Rattle.cfa_functions.specs.Calls.{text_given}
use Rattle.cfa_outside.specs.Paths.{path_of}
use Rattle.cfa_acts.specs.declared.acts.Act.{Act}
use Rattle.cfa_acts.specs.declared.acts.Act.TheVariants.{Create, MakeDir, Delete, Content, Copy, Edit, Perms, Start, Stop, Enable, Disable, Restart, Bust}
use Rattle.cfa_acts.specs.declared.acts.Reason.TheVariants.{BadPath, BadPattern, BadValue, TooLong, TooMany}
use Rattle.cfa_acts.specs.declared.acts.Reason.TheVariants as reasons
use Rattle.cfa_base.specs.declared.limits.TheConstants.{MOST_FILE_BYTES}
use Rattle.cfa_lines.specs.Decks.{text_of as lines_text}
use Rattle.cfa_edits.specs.declared.edits.EditErr.{EditErr}
use Rattle.cfa_edits.specs.declared.edits.EditErr.TheVariants.{NoAnchor, FieldCount, NoMemory}
use Rattle.cfa_edits.specs.Edits.{Lines, edited}
use Rattle.cfa_scripts.specs.declared.scripting.Scripted.{Scripted}
use Rattle.cfa_scripts.specs.declared.scripting.Scripted.TheVariants.{Script as a_script, Unresolved as no_script, TooMany as script_many, TooLong as script_long, BadPattern as bad_pattern, BadValue as bad_value}
use Rattle.cfa_scripts.specs.EditPromises.{is_right}
use Rattle.cfa_bodies.specs.declared.sayings.Said.{Said}
use Rattle.cfa_bodies.specs.Bodies.{Sayings, Bodies, said_in, text_in, items_in, whole_or_empty, text_or_empty}

-- ---- values of their kinds

-- whether a text is one of `true`, `yes` and `on`, or one of their opposites
abbrev pub truth : List ℕ → Option Bool
truth content =
    if bytes_eq content (codes "true") || (bytes_eq content (codes "yes") || bytes_eq content (codes "on")) then Some true else (
    if has_form Boolean content then Some false else None)

-- the mode that 3 or 4 octal digits write
abbrev pub mode_written : List ℕ → Option ℕ
mode_written content = if has_form Mode content then Some (digits_value 8 content) else None

-- the text that an attribute of the promise itself gives
abbrev pub own_text : InScope → Chosen → PromiseTree → List ℕ → Option (List ℕ)
own_text scopes choice promise name =
    option_map (λ value. whole_or_empty (text_given scopes choice value)) (value_of name promise.attributes)

-- ---- where a files promise acts

-- the promiser ends in `/.`
abbrev pub is_directory_form : List ℕ → Bool
is_directory_form promiser = bytes_eq (drop (length promiser - 2) promiser) (codes "/.")

abbrev pub path_part : List ℕ → List ℕ
path_part promiser = if is_directory_form promiser then take (length promiser - 2) promiser else promiser

-- the path of a promiser; none where it is no path
abbrev pub target_of : List ℕ → Option (List ℕ)
target_of promiser = path_of (path_part promiser)

-- ---- its acts

abbrev pub delete_by : (path : List ℕ) → Option Bool → Act
delete_by path None = Bust BadValue
delete_by path (Some with_directories) = Delete path with_directories

-- without `rmdirs` no directory is deleted
abbrev pub or_false : Option Said → Option Bool
or_false None = Some false
or_false (Some said) = truth (text_in said)

abbrev pub delete_acts : (path : List ℕ) → Option Sayings → List Act
delete_acts path None = []
delete_acts path (Some sayings) = delete_by path (or_false (thing_at sayings (codes "rmdirs"))) ∷ []

abbrev pub create_by : (path : List ℕ) → (is_directory : Bool) → Option Bool → List Act
create_by path is_directory None = Bust BadValue ∷ []
create_by path is_directory (Some false) = []
create_by path true (Some true) = MakeDir path ∷ []
create_by path false (Some true) = Create path ∷ []

abbrev pub create_acts : (path : List ℕ) → (is_directory : Bool) → Option (List ℕ) → List Act
create_acts path is_directory None = []
create_acts path is_directory (Some content) = create_by path is_directory (truth content)

abbrev pub copy_from : (path : List ℕ) → (source : Option (List ℕ)) → Act
copy_from path None = Bust BadPath
copy_from path (Some source) = Copy source path

abbrev pub copy_act : (path : List ℕ) → (is_directory : Bool) → Sayings → Act
copy_act path is_directory sayings =
    if not (is_right Digest (thing_at sayings (codes "compare"))) then Bust BadValue else (
    if is_directory then Bust BadPath else copy_from path (path_of (text_or_empty (thing_at sayings (codes "source")))))

abbrev pub copy_acts : (path : List ℕ) → (is_directory : Bool) → Option Sayings → List Act
copy_acts path is_directory None = []
copy_acts path is_directory (Some sayings) = copy_act path is_directory sayings ∷ []

abbrev pub content_acts : (path : List ℕ) → (is_directory : Bool) → Option (List ℕ) → List Act
content_acts path is_directory None = []
content_acts path true (Some content) = Bust BadPath ∷ []
content_acts path false (Some content) = Content path content ∷ []

-- ---- its permissions

-- a mode that isn't given, one that is, and one that is wrong
abbrev pub mode_said : Option Said → Option (Option ℕ)
mode_said None = Some None
mode_said (Some said) = option_map (λ mode. Some mode) (mode_written (text_in said))

abbrev pub is_empty : List ℕ → Bool
is_empty content = length content == 0

-- a list that is empty, or has an empty item, is wrong; one that isn't given is empty
abbrev pub full_list : List (List ℕ) → Option (List (List ℕ))
full_list items = if (length items == 0) || list_any is_empty items then None else Some items

abbrev pub names_said : Option Said → Option (List (List ℕ))
names_said None = Some []
names_said (Some said) = full_list (items_in said)

abbrev pub perms_by : (path : List ℕ) → Option (Option ℕ) → (owners groups : Option (List (List ℕ))) → Act
perms_by path None owners groups = Bust BadValue
perms_by path (Some mode) None groups = Bust BadValue
perms_by path (Some mode) (Some owners) None = Bust BadValue
perms_by path (Some mode) (Some owners) (Some groups) = Perms path mode owners groups

abbrev pub perms_act : (path : List ℕ) → Sayings → Act
perms_act path sayings =
    perms_by path (mode_said (thing_at sayings (codes "mode")))
    (names_said (thing_at sayings (codes "owners"))) (names_said (thing_at sayings (codes "groups")))

abbrev pub perms_acts : (path : List ℕ) → Option Sayings → List Act
perms_acts path None = []
perms_acts path (Some sayings) = perms_act path sayings ∷ []

-- ---- its edits

-- whether the file is emptied before it is edited; none where a value of its defaults is wrong
abbrev pub emptied_by : (backup_is_right : Bool) → Option Said → Option Bool
emptied_by false emptied = None
emptied_by true emptied = or_false emptied

abbrev pub is_emptied : Option Sayings → Option Bool
is_emptied None = Some false
is_emptied (Some sayings) =
    emptied_by (is_right NoBackup (thing_at sayings (codes "edit_backup"))) (thing_at sayings (codes "empty_file_before_editing"))

abbrev pub content_within : (path content : List ℕ) → Act
content_within path content = if nat_le (length content) MOST_FILE_BYTES then Content path content else Bust TooLong

-- the content that the lines of a script make
abbrev pub content_made : (path : List ℕ) → Result Lines EditErr → Act
content_made path (Ok lines) = content_within path (lines_text lines)
content_made path (Err NoAnchor) = Bust reasons.NoAnchor
content_made path (Err FieldCount) = Bust reasons.FieldCount
content_made path (Err NoMemory) = Bust reasons.NoAnchor

abbrev pub script_act : (path : List ℕ) → (is_emptied : Bool) → Scripted → Act
script_act path false (a_script edits) = Edit path edits
script_act path true (a_script edits) = content_made path (edited edits [])
script_act path emptied bad_pattern = Bust BadPattern
script_act path emptied bad_value = Bust BadValue
script_act path emptied (no_script name) = Bust BadValue
script_act path emptied script_many = Bust TooMany
script_act path emptied script_long = Bust TooLong

abbrev pub edit_act : (path : List ℕ) → (is_directory : Bool) → (is_emptied : Option Bool) → Scripted → Act
edit_act path is_directory None scripted = Bust BadValue
edit_act path true (Some emptied) scripted = Bust BadPath
edit_act path false (Some emptied) scripted = script_act path emptied scripted

abbrev pub edit_acts : (path : List ℕ) → (is_directory : Bool) → Option Sayings → Option Scripted → List Act
edit_acts path is_directory defaults None = []
edit_acts path is_directory defaults (Some scripted) = edit_act path is_directory (is_emptied defaults) scripted ∷ []

-- ---- all of them

-- what is made of what stands at a path
abbrev pub placing_acts : (path : List ℕ) → (is_directory : Bool) → (create content : Option (List ℕ)) → Bodies → List Act
placing_acts path is_directory create content bodies =
    delete_acts path (thing_at bodies (codes "delete"))
    ++ (create_acts path is_directory create
    ++ (copy_acts path is_directory (thing_at bodies (codes "copy_from")) ++ content_acts path is_directory content))

-- the acts at a path; `create` and `content` are the texts of the promise's own attributes
abbrev pub acts_at : (path : List ℕ) → (is_directory : Bool) → (create content : Option (List ℕ)) → Bodies → Option Scripted → List Act
acts_at path is_directory create content bodies scripted =
    placing_acts path is_directory create content bodies
    ++ (edit_acts path is_directory (thing_at bodies (codes "edit_defaults")) scripted
    ++ perms_acts path (thing_at bodies (codes "perms")))

-- a promiser that is no path gives one act that fails for it
abbrev pub acts_by : Option (List ℕ) → (is_directory : Bool) → (create content : Option (List ℕ)) → Bodies → Option Scripted → List Act
acts_by None is_directory create content bodies scripted = Bust BadPath ∷ []
acts_by (Some path) is_directory create content bodies scripted = acts_at path is_directory create content bodies scripted

unfoldable pub file_acts : (promiser : List ℕ) → (create content : Option (List ℕ)) → Bodies → Option Scripted → List Act
file_acts promiser create content bodies scripted =
    acts_by (target_of promiser) (is_directory_form promiser) create content bodies scripted

-- ---- services

-- the act of a services promise, `start` without `service_policy`
unfoldable pub service_act : (name : List ℕ) → Option (List ℕ) → Act
service_act name None = Start name
service_act name (Some policy) =
    if bytes_eq policy (codes "start") then Start name else (
    if bytes_eq policy (codes "stop") then Stop name else (
    if bytes_eq policy (codes "enable") then Enable name else (
    if bytes_eq policy (codes "disable") then Disable name else (
    if bytes_eq policy (codes "restart") then Restart name else Bust BadValue))))

-- ---- outcome classes

-- the classes of a list, canonified, without the empty ones
abbrev pub classes_in : Option Said → List (List ℕ)
classes_in None = []
classes_in (Some said) = map canonified (filter (λ content. not (is_empty content)) (items_in said))

-- the classes that a promise's `classes` body lists under a name
unfoldable pub outcome_classes : Bodies → List ℕ → List (List ℕ)
outcome_classes bodies name = classes_in (said_in bodies (codes "classes") name)
