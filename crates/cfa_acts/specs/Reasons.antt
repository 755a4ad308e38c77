-- The reasons why an act fails, as they are printed: a code and a word each.
use Rattle.std.specs.Prelude.{ℕ, List, codes}
use Rattle.cfa_acts.specs.declared.acts.Reason.{Reason}
use Rattle.cfa_acts.specs.declared.acts.Reason.TheVariants.{BadPath, Missing, Obstructed, NotText, NonConvergent, NoAnchor, FieldCount, UnknownService, BadPattern, BadValue, Fault, TooLong, TooMany}

abbrev pub code_of : Reason → List ℕ
code_of BadPath = codes "F1"
code_of Missing = codes "F2"
code_of Obstructed = codes "F3"
code_of NotText = codes "F4"
code_of NonConvergent = codes "F5"
code_of NoAnchor = codes "F6"
code_of FieldCount = codes "F7"
code_of UnknownService = codes "F8"
code_of BadPattern = codes "F9"
code_of BadValue = codes "F10"
code_of Fault = codes "F11"
code_of TooLong = codes "F12"
code_of TooMany = codes "F13"

abbrev pub word_of : Reason → List ℕ
word_of BadPath = codes "BadPath"
word_of Missing = codes "Missing"
word_of Obstructed = codes "Obstructed"
word_of NotText = codes "NotText"
word_of NonConvergent = codes "NonConvergent"
word_of NoAnchor = codes "NoAnchor"
word_of FieldCount = codes "FieldCount"
word_of UnknownService = codes "UnknownService"
word_of BadPattern = codes "BadPattern"
word_of BadValue = codes "BadValue"
word_of Fault = codes "Fault"
word_of TooLong = codes "TooLong"
word_of TooMany = codes "TooMany"
