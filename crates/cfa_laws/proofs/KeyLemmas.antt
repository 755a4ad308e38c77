-- The key text of an instance is one line: what stands in it is fields, numbers, fixed words and canonified names, besides the bundle
-- of the promise and the name of a bundle that is called.
use Rattle.std.proofs.Common.{◌≡◌, ◌≢◌, ℕ, ◌<◌, ◌^◌, Bool, true, false, List, [], ◌∷◌, ◌++◌, length, map, codes, Option, Some, None, refl, arith}
use Rattle.std.specs.Prelude.{All, ◌==◌}
use Rattle.std.specs.Fmt.{decimal}
use Rattle.std.specs.List.{join_with_byte, flat_map}
use Rattle.std.proofs.lemmas.List.Elements.{All-head, All-tail}
use Rattle.cfa_base.specs.declared.places.PromiseId.{PromiseId}
use Rattle.cfa_base.specs.Escapes.{escaped}
use Rattle.cfa_base.specs.Octal.{octal_digit}
use Rattle.cfa_base.specs.lemmas.Modes.{mode-lacks}
use Rattle.cfa_vars.specs.declared.scoping.Datum.{Datum}
use Rattle.cfa_vars.specs.declared.scoping.Datum.TheVariants.{Text as text_of, List as list_of}
use Rattle.cfa_edits.specs.Scripts.{IsOneLine, AreEdits, edit_text, script_text}
use Rattle.cfa_edits.specs.lemmas.Fields.{texts_lack}
use Rattle.cfa_edits.specs.lemmas.Parts.{lacks_joined}
use Rattle.cfa_edits.specs.declared.edits.Edit.{Edit as LineEdit}
use Rattle.cfa_acts.specs.declared.acts.Act.{Act}
use Rattle.cfa_acts.specs.declared.acts.Act.TheVariants.{Create, MakeDir, Delete, Content, Copy, Edit, Perms, Start, Stop, Enable, Disable, Restart, Bust}
use Rattle.cfa_acts.specs.declared.acts.Reason.{Reason}
use Rattle.cfa_acts.specs.declared.acts.Reason.TheVariants.{BadPath, Missing, Obstructed, NotText, NonConvergent, NoAnchor, FieldCount, UnknownService, BadPattern, BadValue, Fault, TooLong, TooMany}
use Rattle.cfa_acts.specs.Reasons.{code_of}
use Rattle.cfa_resolve.specs.declared.instances.Work.{Work}
use Rattle.cfa_resolve.specs.declared.instances.Work.TheVariants.{Acts, Call, Report}
use Rattle.cfa_resolve.specs.KeyTexts.{fields_after, mode_field, names_field, yes_or_no, act_text, datum_text, work_text, classes_text, key_text}
use Rattle.cfa_laws.specs.Keys.{IsGiven, AreGiven, IsPlainId}
use Rattle.cfa_laws.proofs.LineLemmas.{newline, no_text, led_line, both_lines, either_line, no_lines, one_more, joined_line, led_lines, field_line, field_lines, decimal_line}
use Rattle.cfa_scripts.specs.lemmas.OneLine.{one_line}

fields_line : (first : List ℕ) (fields : List (List ℕ)) → IsOneLine first → All IsOneLine fields → IsOneLine (fields_after first fields)
fields_line first fields line lines = both_lines first (flat_map (λ field. 32 ∷ field) fields) line (led_lines 32 fields (λ e. omega arith) lines)

two_lines : (x y : List ℕ) → IsOneLine x → IsOneLine y → All IsOneLine (x ∷ y ∷ [])
two_lines x y h i = one_more x (y ∷ []) h (one_more y [] i no_lines)

four_lines : (w x y z : List ℕ) → IsOneLine w → IsOneLine x → IsOneLine y → IsOneLine z → All IsOneLine (w ∷ x ∷ y ∷ z ∷ [])
four_lines w x y z h i j k = one_more w (x ∷ y ∷ z ∷ []) h (one_more x (y ∷ z ∷ []) i (two_lines y z j k))

-- ---- scripts

script_line : (script : List LineEdit) → AreEdits script → IsOneLine (script_text script)
unfolding script_text
script_line script are = lacks_joined 10 44 (map edit_text script) (λ e. omega arith) (texts_lack 10 script newline (λ e. omega arith) (λ e. omega arith) are.each)

-- ---- acts

octal_other : (n : ℕ) → octal_digit n ≢ 10
octal_other n e = omega arith

mode_line : (mode : Option ℕ) → IsOneLine (mode_field mode)
mode_line None = one_line (codes "*") refl
mode_line (Some m) = mode-lacks 10 m octal_other

names_line : (names : List (List ℕ)) → IsOneLine (names_field names)
names_line names =
    either_line (length names == 0) (codes "*") (join_with_byte 44 (map escaped names)) (one_line (codes "*") refl)
    (joined_line 44 (map escaped names) (λ e. omega arith) (field_lines names))

flag_line : (b : Bool) → IsOneLine (yes_or_no b)
flag_line true = one_line (codes "yes") refl
flag_line false = one_line (codes "no") refl

reason_line : (r : Reason) → IsOneLine (code_of r)
reason_line BadPath = one_line (codes "F1") refl
reason_line Missing = one_line (codes "F2") refl
reason_line Obstructed = one_line (codes "F3") refl
reason_line NotText = one_line (codes "F4") refl
reason_line NonConvergent = one_line (codes "F5") refl
reason_line NoAnchor = one_line (codes "F6") refl
reason_line FieldCount = one_line (codes "F7") refl
reason_line UnknownService = one_line (codes "F8") refl
reason_line BadPattern = one_line (codes "F9") refl
reason_line BadValue = one_line (codes "F10") refl
reason_line Fault = one_line (codes "F11") refl
reason_line TooLong = one_line (codes "F12") refl
reason_line TooMany = one_line (codes "F13") refl

-- a word and a field, and a word with two texts
one_field : (word text : List ℕ) → IsOneLine word → IsOneLine (fields_after word (escaped text ∷ []))
one_field word text line = fields_line word (escaped text ∷ []) line (one_more (escaped text) [] (field_line text) no_lines)

two_fields : (word x y : List ℕ) → IsOneLine word → IsOneLine x → IsOneLine y → IsOneLine (fields_after word (x ∷ y ∷ []))
two_fields word x y line h i = fields_line word (x ∷ y ∷ []) line (two_lines x y h i)

act_line : (promiser : List ℕ) (act : Act) → IsGiven act → IsOneLine (act_text promiser act)
act_line p (Create x) is = one_field (codes "create") x (one_line (codes "create") refl)
act_line p (MakeDir x) is = one_field (codes "mkdir") x (one_line (codes "mkdir") refl)
act_line p (Delete x b) is = two_fields (codes "delete") (escaped x) (yes_or_no b) (one_line (codes "delete") refl) (field_line x) (flag_line b)
act_line p (Content x v) is = two_fields (codes "content") (escaped x) (escaped v) (one_line (codes "content") refl) (field_line x) (field_line v)
act_line p (Copy x y) is = two_fields (codes "copy") (escaped x) (escaped y) (one_line (codes "copy") refl) (field_line x) (field_line y)
act_line p (Edit x s) is = two_fields (codes "edit") (escaped x) (script_text s) (one_line (codes "edit") refl) (field_line x) (script_line s is)
act_line p (Perms x m o g) is =
    fields_line (codes "perms") (escaped x ∷ mode_field m ∷ names_field o ∷ names_field g ∷ []) (one_line (codes "perms") refl)
    (four_lines (escaped x) (mode_field m) (names_field o) (names_field g) (field_line x) (mode_line m) (names_line o) (names_line g))
act_line p (Start x) is = one_field (codes "start") x (one_line (codes "start") refl)
act_line p (Stop x) is = one_field (codes "stop") x (one_line (codes "stop") refl)
act_line p (Enable x) is = one_field (codes "enable") x (one_line (codes "enable") refl)
act_line p (Disable x) is = one_field (codes "disable") x (one_line (codes "disable") refl)
act_line p (Restart x) is = one_field (codes "restart") x (one_line (codes "restart") refl)
act_line p (Bust r) is = two_fields (codes "bust") (code_of r) (escaped p) (one_line (codes "bust") refl) (reason_line r) (field_line p)

acts_line : (promiser : List ℕ) (acts : List Act) → All IsGiven acts → IsOneLine (flat_map (λ (act : Act). 59 ∷ act_text promiser act) acts)
acts_line p [] all = no_text
acts_line p (act ∷ acts) all =
    both_lines (59 ∷ act_text p act) (flat_map (λ (act : Act). 59 ∷ act_text p act) acts)
    (led_line 59 (act_text p act) (λ e. omega arith) (act_line p act (All-head IsGiven act acts all)))
    (acts_line p acts (All-tail IsGiven act acts all))

-- ---- calls

items_line : (items : List (List ℕ)) → IsOneLine (flat_map (λ (item : List ℕ). 44 ∷ escaped item) items)
items_line [] = no_text
items_line (item ∷ items) =
    both_lines (44 ∷ escaped item) (flat_map (λ (item : List ℕ). 44 ∷ escaped item) items)
    (led_line 44 (escaped item) (λ e. omega arith) (field_line item)) (items_line items)

datum_line : (datum : Datum) → IsOneLine (datum_text datum)
datum_line (text_of content) = both_lines (codes "t") (escaped content) (one_line (codes "t") refl) (field_line content)
datum_line (list_of items) =
    both_lines (codes "l") (flat_map (λ (item : List ℕ). 44 ∷ escaped item) items) (one_line (codes "l") refl) (items_line items)

data_lines : (given : List Datum) → All IsOneLine (map datum_text given)
data_lines [] = no_lines
data_lines (datum ∷ given) = one_more (datum_text datum) (map datum_text given) (datum_line datum) (data_lines given)

-- ---- works

-- a call names its bundle without a newline
abbrev pub NamesLine : Work → Type 0
NamesLine (Acts acts) = Unit {0}
NamesLine (Call name arguments) = IsOneLine name
NamesLine (Report content) = Unit {0}

work_line : (promiser : List ℕ) (work : Work) → AreGiven work → NamesLine work → IsOneLine (work_text promiser work)
work_line p (Acts acts) given line = acts_line p acts given
work_line p (Call name arguments) given line =
    led_line 59 (fields_after (codes "call") (name ∷ map datum_text arguments)) (λ e. omega arith)
    (fields_line (codes "call") (name ∷ map datum_text arguments) (one_line (codes "call") refl) (one_more name (map datum_text arguments) line (data_lines arguments)))
work_line p (Report content) given line =
    led_line 59 (fields_after (codes "report") (escaped content ∷ [])) (λ e. omega arith) (one_field (codes "report") content (one_line (codes "report") refl))

-- ---- keys

classes_line : (classes : List (List ℕ)) → All IsOneLine classes → IsOneLine (classes_text classes)
classes_line classes lines = joined_line 44 classes (λ e. omega arith) lines

-- the classes for each outcome and the minutes
module _ (kept repaired failed : List (List ℕ)) (minutes : ℕ) where
  abbrev failing : List ℕ
  failing = classes_text failed ++ (codes ";e=" ++ decimal minutes)

  abbrev repairing : List ℕ
  repairing = classes_text repaired ++ (codes ";f=" ++ failing)

  abbrev keeping : List ℕ
  keeping = classes_text kept ++ (codes ";r=" ++ repairing)

  module _ (keeps : All IsOneLine kept) (repairs : All IsOneLine repaired) (fails : All IsOneLine failed) (small : minutes < 2 ^ 64) where
    failing_line : IsOneLine failing
    failing_line =
        both_lines (classes_text failed) (codes ";e=" ++ decimal minutes) (classes_line failed fails)
        (both_lines (codes ";e=") (decimal minutes) (one_line (codes ";e=") refl) (decimal_line minutes small))

    repairing_line : IsOneLine repairing
    repairing_line =
        both_lines (classes_text repaired) (codes ";f=" ++ failing) (classes_line repaired repairs)
        (both_lines (codes ";f=") failing (one_line (codes ";f=") refl) failing_line)

    keeping_line : IsOneLine keeping
    keeping_line =
        both_lines (classes_text kept) (codes ";r=" ++ repairing) (classes_line kept keeps)
        (both_lines (codes ";r=") repairing (one_line (codes ";r=") refl) repairing_line)

    pub key_line : (id : PromiseId) (promiser : List ℕ) (work : Work) → IsPlainId id → AreGiven work → NamesLine work →
        IsOneLine (key_text id promiser work kept repaired failed minutes)
    unfolding key_text
    key_line id promiser work plain given line =
        both_lines id.bundle (codes " " ++ (decimal id.number ++ (work_text promiser work ++ (codes ";k=" ++ keeping)))) plain.bundle.no_newline
        (both_lines (codes " ") (decimal id.number ++ (work_text promiser work ++ (codes ";k=" ++ keeping))) (one_line (codes " ") refl)
        (both_lines (decimal id.number) (work_text promiser work ++ (codes ";k=" ++ keeping)) (decimal_line id.number plain.number)
        (both_lines (work_text promiser work) (codes ";k=" ++ keeping) (work_line promiser work given line)
        (both_lines (codes ";k=") keeping (one_line (codes ";k=") refl) keeping_line))))
