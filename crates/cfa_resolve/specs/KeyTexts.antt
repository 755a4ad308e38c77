-- The key text of an instance: its bundle, a space and its number; `;` and the text of each act, or of its call or report; its
-- classes for each outcome behind `;k=`, `;r=` and `;f=`, joined by commas; and its minutes behind `;e=`. Paths, names and
-- texts are escaped fields. It tells the instance among those of its path.
use Rattle.std.specs.Prelude.{ℕ, Bool, true, false, List, [], ◌∷◌, ◌++◌, codes, map, length, ◌==◌, Option, Some, None, if◌then◌else◌}
use Rattle.std.specs.Fmt.{decimal}
use Rattle.std.specs.List.{join_with_byte, flat_map}
use Rattle.cfa_base.specs.declared.places.PromiseId.{PromiseId}
use Rattle.cfa_base.specs.Escapes.{escaped}
use Rattle.cfa_base.specs.Octal.{mode_text}
use Rattle.cfa_vars.specs.declared.scoping.Datum.{Datum}
use Rattle.cfa_vars.specs.declared.scoping.Datum.TheVariants.{Text as text_of, List as list_of}
use Rattle.cfa_acts.specs.declared.acts.Act.{Act}
use Rattle.cfa_acts.specs.declared.acts.Act.TheVariants.{Create, MakeDir, Delete, Content, Copy, Edit, Perms, Start, Stop, Enable, Disable, Restart, Bust}
use Rattle.cfa_acts.specs.Reasons.{code_of}
use Rattle.cfa_edits.specs.Scripts.{script_text}
use Rattle.cfa_resolve.specs.declared.instances.Work.{Work}
use Rattle.cfa_resolve.specs.declared.instances.Work.TheVariants.{Acts, Call, Report}

-- a word, and fields with a space before each
abbrev pub fields_after : List ℕ → List (List ℕ) → List ℕ
fields_after first fields = first ++ flat_map (λ field. 32 ∷ field) fields

-- an asterisk where it isn't given
abbrev pub mode_field : Option ℕ → List ℕ
mode_field None = codes "*"
mode_field (Some mode) = mode_text mode

abbrev pub names_field : List (List ℕ) → List ℕ
names_field names = if length names == 0 then codes "*" else join_with_byte 44 (map escaped names)

abbrev pub yes_or_no : Bool → List ℕ
yes_or_no true = codes "yes"
yes_or_no false = codes "no"

-- the text of an act; an act that couldn't be made tells the promiser
abbrev pub act_text : (promiser : List ℕ) → Act → List ℕ
act_text promiser (Create path) = fields_after (codes "create") (escaped path ∷ [])
act_text promiser (MakeDir path) = fields_after (codes "mkdir") (escaped path ∷ [])
act_text promiser (Delete path with_directories) = fields_after (codes "delete") (escaped path ∷ yes_or_no with_directories ∷ [])
act_text promiser (Content path bytes) = fields_after (codes "content") (escaped path ∷ escaped bytes ∷ [])
act_text promiser (Copy source path) = fields_after (codes "copy") (escaped source ∷ escaped path ∷ [])
act_text promiser (Edit path script) = fields_after (codes "edit") (escaped path ∷ script_text script ∷ [])
act_text promiser (Perms path mode owners groups) =
    fields_after (codes "perms") (escaped path ∷ mode_field mode ∷ names_field owners ∷ names_field groups ∷ [])
act_text promiser (Start name) = fields_after (codes "start") (escaped name ∷ [])
act_text promiser (Stop name) = fields_after (codes "stop") (escaped name ∷ [])
act_text promiser (Enable name) = fields_after (codes "enable") (escaped name ∷ [])
act_text promiser (Disable name) = fields_after (codes "disable") (escaped name ∷ [])
act_text promiser (Restart name) = fields_after (codes "restart") (escaped name ∷ [])
act_text promiser (Bust reason) = fields_after (codes "bust") (code_of reason ∷ escaped promiser ∷ [])

-- `t` and the text, or `l` and the items, a comma before each
abbrev pub datum_text : Datum → List ℕ
datum_text (text_of content) = codes "t" ++ escaped content
datum_text (list_of items) = codes "l" ++ flat_map (λ item. 44 ∷ escaped item) items

-- the parts of a work, `;` before each
abbrev pub work_text : (promiser : List ℕ) → Work → List ℕ
work_text promiser (Acts acts) = flat_map (λ act. 59 ∷ act_text promiser act) acts
work_text promiser (Call name arguments) = 59 ∷ fields_after (codes "call") (name ∷ map datum_text arguments)
work_text promiser (Report content) = 59 ∷ fields_after (codes "report") (escaped content ∷ [])

abbrev pub classes_text : List (List ℕ) → List ℕ
classes_text classes = join_with_byte 44 classes

unfoldable pub key_text : PromiseId → (promiser : List ℕ) → Work → (kept repaired failed : List (List ℕ)) → (minutes : ℕ) → List ℕ
key_text id promiser work kept repaired failed minutes =
    id.bundle ++ (codes " " ++ (decimal id.number ++ (work_text promiser work
    ++ (codes ";k=" ++ (classes_text kept
    ++ (codes ";r=" ++ (classes_text repaired
    ++ (codes ";f=" ++ (classes_text failed
    ++ (codes ";e=" ++ decimal minutes))))))))))
