-- The acts that a promise resolves to are such as promises give: a mode has four octal digits, and a script is one in order.
use Rattle.std.proofs.Common.{◌≡◌, ◌<◌, ◌≤◌, ◌^◌, ℕ, Bool, true, false, List, [], ◌∷◌, ◌++◌, length, codes, Option, Some, None, cond, refl, lit<, arith, All}
use Rattle.std.specs.Prelude.{not, ◌||◌, ◌==◌, option_map, Result, Ok, Err, nat_le}
use Rattle.std.specs.List.{list_all}
use Rattle.std.specs.Str.{bytes_eq}
use Rattle.std.specs.Str.Parse.{digits_value}
use Rattle.std.proofs.lemmas.Bool.{and_parts}
use Rattle.std.proofs.lemmas.Bool.Decides.{nat_tests}
use Rattle.std.proofs.lemmas.Int.Digits.{digits_value-lt}
use Rattle.std.proofs.lemmas.List.Elements.{All-nil, All-cons, All-append}
use Rattle.std.proofs.Math.Nat.{pow-le-pow_right}
use Rattle.cfa_base.specs.declared.limits.TheConstants.{MOST_FILE_BYTES}
use Rattle.cfa_tree.specs.Tree.{ValueTree, BlockTree}
use Rattle.cfa_base.specs.Octal.{is_octal_digit}
use Rattle.cfa_kinds.specs.Forms.{is_mode}
use Rattle.cfa_vars.specs.Named.{thing_at}
use Rattle.cfa_vars.specs.Expansion.{Chosen}
use Rattle.cfa_outside.specs.Paths.{path_of}
use Rattle.cfa_lines.specs.Decks.{text_of as lines_text}
use Rattle.cfa_edits.specs.declared.edits.EditErr.{EditErr}
use Rattle.cfa_edits.specs.declared.edits.EditErr.TheVariants.{NoAnchor, FieldCount, NoMemory}
use Rattle.cfa_edits.specs.Edits.{Lines, edited}
use Rattle.cfa_acts.specs.declared.acts.Act.{Act}
use Rattle.cfa_acts.specs.declared.acts.Act.TheVariants.{Bust}
use Rattle.cfa_acts.specs.declared.acts.Act.TheVariants as act
use Rattle.cfa_acts.specs.declared.acts.Reason.TheVariants as reasons
use Rattle.cfa_bodies.specs.declared.sayings.Said.{Said}
use Rattle.cfa_bodies.specs.Bodies.{Sayings, Bodies, text_in, bound, data_given, name_given, text_or_empty}
use Rattle.cfa_defines.specs.OwnTexts.{arguments_of}
use Rattle.cfa_served.specs.Served.{bundle_of}
use Rattle.cfa_kinds.specs.declared.kinds.Form.TheVariants.{Digest}
use Rattle.cfa_scripts.specs.EditPromises.{is_right}
use Rattle.cfa_scripts.specs.declared.scripting.Scripted.{Scripted}
use Rattle.cfa_scripts.specs.declared.scripting.Scripted.TheVariants.{Script as a_script, Unresolved as no_script, TooMany as script_many, TooLong as script_long, BadPattern as bad_pattern, BadValue as bad_value}
use Rattle.cfa_scripts.specs.EditScripts.{Caller, around_of, walked_by, walked}
use Rattle.cfa_scripts.specs.Numbered.{numbered_in, params_of}
use Rattle.cfa_resolve.specs.FileActs.{truth, mode_said, names_said, target_of, is_directory_form, delete_by, or_false, delete_acts, create_by, create_acts, copy_from, copy_act, copy_acts, content_acts, perms_by, perms_act, perms_acts, is_emptied, content_made, script_act, edit_act, edit_acts, acts_by, file_acts, service_act}
use Rattle.cfa_resolve.specs.Instances.{Reached}
use Rattle.cfa_resolve.specs.Resolution.{caller_of, edit_call, walked_for, scripted_in}
use Rattle.cfa_resolve.specs.lemmas.Octal.{octal_digits}
use Rattle.cfa_laws.specs.Keys.{IsMode, IsGiven}
use Rattle.cfa_laws.proofs.ScriptLemmas.{IsScripted, MayBeScripted, walk_scripted}

-- ---- modes

mode_size : (n : ℕ) → (n == 3 || n == 4) ≡ true → n ≤ 4
mode_size n h = grind (arith, nat_tests)

below : (n v : ℕ) → n ≤ 4 → v < 8 ^ n → v < 4096
below n v h k =
    let most : 8 ^ n ≤ 8 ^ 4 = pow-le-pow_right (lit< tt) h in
    omega (arith, most, k)

mode_small : (text : List ℕ) → is_mode text ≡ true → digits_value 8 text < 4096
mode_small text form =
    let parts = and_parts (length text == 3 || length text == 4) (list_all is_octal_digit text) form in
    below (length text) (digits_value 8 text) (mode_size (length text) parts.0) (digits_value-lt 8 text (octal_digits text parts.1))

-- a mode that is said
abbrev IsSaidMode : Option (Option ℕ) → Type 0
IsSaidMode None = Unit {0}
IsSaidMode (Some mode) = IsMode mode

mode_given : (text : List ℕ) (b : Bool) → is_mode text ≡ b → IsSaidMode (option_map (λ mode. Some mode) (cond b (Some (digits_value 8 text)) None))
mode_given text true form = mode_small text form
mode_given text false form = tt

said_mode : (said : Option Said) → IsSaidMode (mode_said said)
said_mode None = tt
said_mode (Some said) = mode_given (text_in said) (is_mode (text_in said)) refl

-- ---- acts

pub none : All IsGiven []
none = All-nil IsGiven

pub one : (act : Act) → IsGiven act → All IsGiven (act ∷ [])
one act given = All-cons IsGiven act [] given none

delete_given : (path : List ℕ) (sayings : Option Sayings) → All IsGiven (delete_acts path sayings)
delete_given path None = none
delete_given path (Some sayings) = one (delete_by path (or_false (thing_at sayings (codes "rmdirs")))) (go (or_false (thing_at sayings (codes "rmdirs"))))
  where
    go : (b : Option Bool) → IsGiven (delete_by path b)
    go None = tt
    go (Some b) = tt

created : (path : List ℕ) (is_directory : Bool) (b : Option Bool) → All IsGiven (create_by path is_directory b)
created path is_directory None = one (Bust reasons.BadValue) tt
created path is_directory (Some false) = none
created path true (Some true) = one _ tt
created path false (Some true) = one _ tt

create_given : (path : List ℕ) (is_directory : Bool) (content : Option (List ℕ)) → All IsGiven (create_acts path is_directory content)
create_given path is_directory None = none
create_given path is_directory (Some content) = created path is_directory (truth content)

copied_from : (path : List ℕ) (source : Option (List ℕ)) → IsGiven (copy_from path source)
copied_from path None = tt
copied_from path (Some source) = tt

if_given : (b : Bool) (x y : Act) → IsGiven x → IsGiven y → IsGiven (cond b x y)
if_given true x y p q = p
if_given false x y p q = q

copy_given : (path : List ℕ) (is_directory : Bool) (sayings : Option Sayings) → All IsGiven (copy_acts path is_directory sayings)
copy_given path is_directory None = none
copy_given path is_directory (Some sayings) =
    let from = copy_from path (path_of (text_or_empty (thing_at sayings (codes "source")))) in
    one (copy_act path is_directory sayings)
    (if_given (not (is_right Digest (thing_at sayings (codes "compare")))) (Bust reasons.BadValue) (cond is_directory (Bust reasons.BadPath) from) tt
    (if_given is_directory (Bust reasons.BadPath) from tt (copied_from path (path_of (text_or_empty (thing_at sayings (codes "source")))))))

content_given : (path : List ℕ) (is_directory : Bool) (content : Option (List ℕ)) → All IsGiven (content_acts path is_directory content)
content_given path is_directory None = none
content_given path true (Some content) = one (Bust reasons.BadPath) tt
content_given path false (Some content) = one _ tt

perms_made : (path : List ℕ) (mode : Option (Option ℕ)) (owners groups : Option (List (List ℕ))) → IsSaidMode mode → IsGiven (perms_by path mode owners groups)
perms_made path None owners groups said = tt
perms_made path (Some mode) None groups said = tt
perms_made path (Some mode) (Some owners) None said = tt
perms_made path (Some mode) (Some owners) (Some groups) said = said

perms_given : (path : List ℕ) (sayings : Option Sayings) → All IsGiven (perms_acts path sayings)
perms_given path None = none
perms_given path (Some sayings) =
    one (perms_act path sayings)
    (perms_made path (mode_said (thing_at sayings (codes "mode"))) (names_said (thing_at sayings (codes "owners"))) (names_said (thing_at sayings (codes "groups")))
    (said_mode (thing_at sayings (codes "mode"))))

content_is : (path : List ℕ) (lines : Result Lines EditErr) → IsGiven (content_made path lines)
content_is path (Ok lines) = go (nat_le (length (lines_text lines)) MOST_FILE_BYTES)
  where
    go : (b : Bool) → IsGiven (cond b (act.Content path (lines_text lines)) (Bust reasons.TooLong))
    go true = tt
    go false = tt
content_is path (Err NoAnchor) = tt
content_is path (Err FieldCount) = tt
content_is path (Err NoMemory) = tt

script_given : (path : List ℕ) (is_emptied : Bool) (scripted : Scripted) → IsScripted scripted → IsGiven (script_act path is_emptied scripted)
script_given path false (a_script edits) is = is
script_given path true (a_script edits) is = content_is path (edited edits [])
script_given path emptied bad_pattern is = tt
script_given path emptied bad_value is = tt
script_given path emptied (no_script name) is = tt
script_given path emptied script_many is = tt
script_given path emptied script_long is = tt

edit_given_by : (path : List ℕ) (is_directory : Bool) (emptied : Option Bool) (scripted : Scripted) → IsScripted scripted → IsGiven (edit_act path is_directory emptied scripted)
edit_given_by path is_directory None scripted is = tt
edit_given_by path true (Some emptied) scripted is = tt
edit_given_by path false (Some emptied) scripted is = script_given path emptied scripted is

edit_given : (path : List ℕ) (is_directory : Bool) (defaults : Option Sayings) (scripted : Option Scripted) → MayBeScripted scripted → All IsGiven (edit_acts path is_directory defaults scripted)
edit_given path is_directory defaults None is = none
edit_given path is_directory defaults (Some scripted) is =
    one (edit_act path is_directory (is_emptied defaults) scripted) (edit_given_by path is_directory (is_emptied defaults) scripted is)

both : (xs ys : List Act) → All IsGiven xs → All IsGiven ys → All IsGiven (xs ++ ys)
both xs ys p q = All-append IsGiven xs ys p q

files_by : (path : Option (List ℕ)) (is_directory : Bool) (create content : Option (List ℕ)) (bodies : Bodies) (scripted : Option Scripted) → MayBeScripted scripted →
    All IsGiven (acts_by path is_directory create content bodies scripted)
files_by None is_directory create content bodies scripted is = one (Bust reasons.BadPath) tt
files_by (Some path) is_directory create content bodies scripted is =
    let deletes = delete_acts path (thing_at bodies (codes "delete")) in
    let creates = create_acts path is_directory create in
    let copies = copy_acts path is_directory (thing_at bodies (codes "copy_from")) in
    let contents = content_acts path is_directory content in
    let edits = edit_acts path is_directory (thing_at bodies (codes "edit_defaults")) scripted in
    let perms = perms_acts path (thing_at bodies (codes "perms")) in
    both (deletes ++ (creates ++ (copies ++ contents))) (edits ++ perms)
    (both deletes (creates ++ (copies ++ contents)) (delete_given path (thing_at bodies (codes "delete")))
    (both creates (copies ++ contents) (create_given path is_directory create)
    (both copies contents (copy_given path is_directory (thing_at bodies (codes "copy_from"))) (content_given path is_directory content))))
    (both edits perms (edit_given path is_directory (thing_at bodies (codes "edit_defaults")) scripted is) (perms_given path (thing_at bodies (codes "perms"))))

pub files_given : (promiser : List ℕ) (create content : Option (List ℕ)) (bodies : Bodies) (scripted : Option Scripted) → MayBeScripted scripted → All IsGiven (file_acts promiser create content bodies scripted)
unfolding file_acts
files_given promiser create content bodies scripted is = files_by (target_of promiser) (is_directory_form promiser) create content bodies scripted is

pub service_given : (name : List ℕ) (policy : Option (List ℕ)) → IsGiven (service_act name policy)
unfolding service_act
service_given name None = tt
service_given name (Some policy) =
    go (bytes_eq policy (codes "start")) (bytes_eq policy (codes "stop")) (bytes_eq policy (codes "enable")) (bytes_eq policy (codes "disable")) (bytes_eq policy (codes "restart"))
  where
    go : (a b c d e : Bool) → IsGiven (cond a (act.Start name) (cond b (act.Stop name) (cond c (act.Enable name) (cond d (act.Disable name) (cond e (act.Restart name) (Bust reasons.BadValue))))))
    go true b c d e = tt
    go false true c d e = tt
    go false false true d e = tt
    go false false false true e = tt
    go false false false false true = tt
    go false false false false false = tt

-- ---- the script of an edit bundle

walked_is : (caller : Caller) (value : ValueTree) → IsScripted (walked caller value).scripted
unfolding walked
walked_is caller value = go (bundle_of caller.policy (name_given value))
  where
    go : (found : Option BlockTree) → IsScripted (walked_by caller value found).scripted
    go None = record { each = All-nil _; order = tt }
    go (Some block) = walk_scripted (around_of caller block) (bound (params_of block) (data_given caller.scopes caller.choice (arguments_of value))) (numbered_in block)

pub script_is : (r : Reached) (choice : Chosen) → MayBeScripted (scripted_in (walked_for r choice))
script_is r choice = go (edit_call r)
  where
    go : (call : Option ValueTree) → MayBeScripted (scripted_in (option_map (λ value. walked (caller_of r choice) value) call))
    go None = tt
    go (Some value) = walked_is (caller_of r choice) value
