-- Command lines and what they ask for, computed from the definition.
use Rattle.std.proofs.Common.{◌≡◌, ◌∷◌, [], Bool, Option, Some, None, true, false, refl, codes, List}
use Rattle.cfa_base.specs.Index.{Text}
use Rattle.cfa_words.specs.Words.{asked}
use Rattle.cfa_words.specs.declared.words.Request.{Request}
use Rattle.cfa_words.specs.declared.words.Request.TheVariants.{Run, Check, Show, Audit, Edits, History}

abbrev a_cf : Text
a_cf = codes "a.cf"

-- `run a.cf`, and one word more
abbrev run_with : Text → Option Request
run_with word = asked (codes "run" ∷ a_cf ∷ word ∷ [])

-- a run of a policy with these classes, by locks or not, and strict or not
abbrev run_of : Text → List Text → Bool → Bool → Option Request
run_of policy classes locks strict = Some (Run policy (record { classes = classes; locks = locks; strict = strict }))

abbrev refused : Option Request
refused = None

abbrev with_classes : List Text → Option Request
with_classes names = run_of a_cf names true false

plain_run : asked (codes "run" ∷ a_cf ∷ []) ≡ run_of a_cf [] true false
plain_run = refl

lock_before : asked (codes "-K" ∷ codes "run" ∷ a_cf ∷ []) ≡ run_of a_cf [] false false
lock_before = refl

lock_after : run_with (codes "--no-lock") ≡ run_of a_cf [] false false
lock_after = refl

strict_run : run_with (codes "--strict") ≡ run_of a_cf [] true true
strict_run = refl

attached : run_with (codes "-Da,b") ≡ with_classes (codes "a" ∷ codes "b" ∷ [])
attached = refl

after_equals_sign : run_with (codes "-D=a,b") ≡ with_classes (codes "a" ∷ codes "b" ∷ [])
after_equals_sign = refl

long_equals_sign : run_with (codes "--define=a,b") ≡ with_classes (codes "a" ∷ codes "b" ∷ [])
long_equals_sign = refl

next_word : asked (codes "run" ∷ codes "--define" ∷ codes "web,Hr10" ∷ a_cf ∷ []) ≡ with_classes (codes "web" ∷ codes "Hr10" ∷ [])
next_word = refl

bundled : run_with (codes "-KDa") ≡ run_of a_cf (codes "a" ∷ []) false false
bundled = refl

ended : asked (codes "--" ∷ codes "run" ∷ codes "-K" ∷ []) ≡ run_of (codes "-K") [] true false
ended = refl

dash_alone : asked (codes "show" ∷ codes "-" ∷ []) ≡ Some (Show (codes "-"))
dash_alone = refl

checked : asked (codes "check" ∷ a_cf ∷ codes "-D" ∷ codes "a" ∷ []) ≡ Some (Check a_cf (codes "a" ∷ []))
checked = refl

twice : asked (codes "run" ∷ a_cf ∷ codes "-K" ∷ codes "--no-lock" ∷ []) ≡ refused
twice = refl

two_lists : asked (codes "run" ∷ a_cf ∷ codes "-Da" ∷ codes "-Db" ∷ []) ≡ refused
two_lists = refl

no_class : run_with (codes "-Da-b") ≡ refused
no_class = refl

empty_class : run_with (codes "-Da,,b") ≡ refused
empty_class = refl

empty_list : run_with (codes "--define=") ≡ refused
empty_list = refl

no_text : run_with (codes "-D") ≡ refused
no_text = refl

dashed_text : asked (codes "run" ∷ a_cf ∷ codes "-D" ∷ codes "-K" ∷ []) ≡ refused
dashed_text = refl

flag_with_value : run_with (codes "--no-lock=x") ≡ refused
flag_with_value = refl

cut_name : run_with (codes "--stri") ≡ refused
cut_name = refl

third_word : run_with (codes "b") ≡ refused
third_word = refl

strict_check : asked (codes "check" ∷ a_cf ∷ codes "--strict" ∷ []) ≡ refused
strict_check = refl

lock_show : asked (codes "show" ∷ a_cf ∷ codes "-K" ∷ []) ≡ refused
lock_show = refl

audit : asked (codes "audit" ∷ codes "journal" ∷ []) ≡ Some (Audit (codes "journal"))
audit = refl

strict_audit : asked (codes "audit" ∷ codes "--strict" ∷ codes "journal" ∷ []) ≡ refused
strict_audit = refl

defined_audit : asked (codes "audit" ∷ codes "journal" ∷ codes "-Da" ∷ []) ≡ refused
defined_audit = refl

history : asked (codes "history" ∷ codes "journal" ∷ []) ≡ Some (History (codes "journal"))
history = refl

lock_history : asked (codes "history" ∷ codes "journal" ∷ codes "-K" ∷ []) ≡ refused
lock_history = refl

defined_history : asked (codes "history" ∷ codes "-Da" ∷ codes "journal" ∷ []) ≡ refused
defined_history = refl

edits : asked (codes "edits" ∷ a_cf ∷ codes "-Da,b" ∷ []) ≡ Some (Edits a_cf (codes "a" ∷ codes "b" ∷ []))
edits = refl

lock_edits : asked (codes "edits" ∷ a_cf ∷ codes "-K" ∷ []) ≡ refused
lock_edits = refl

strict_edits : asked (codes "edits" ∷ a_cf ∷ codes "--strict" ∷ []) ≡ refused
strict_edits = refl

class_edits : asked (codes "edits" ∷ a_cf ∷ codes "-Da-b" ∷ []) ≡ refused
class_edits = refl

other_command : asked (codes "start" ∷ a_cf ∷ []) ≡ refused
other_command = refl

one_word : asked (codes "run" ∷ []) ≡ refused
one_word = refl

no_words : asked [] ≡ refused
no_words = refl

help : asked (codes "run" ∷ a_cf ∷ codes "--help" ∷ []) ≡ refused
help = refl
