-- The codes by which lines tell why a policy or a journal is refused, why a promise fails, and why promises are in conflict.
use Rattle.std.specs.Prelude.{ℕ, List, codes}
use Rattle.cfa_advice.specs.declared.faults.Fault.{Fault}
use Rattle.cfa_advice.specs.declared.faults.Fault.TheVariants.{BadByte, UnclosedText, NotText, LongSource, Unexpected, TooDeep, UnknownType, TypeOutOfScope, UnknownAttribute, WrongValue, UnknownBody, UnknownBundle, ArgumentCount, Duplicate, CallCycle, NoSequence, BadClassText, ReferenceOutOfScope, BadPattern, BadRecord, LongJournal}
use Rattle.cfa_advice.specs.declared.reasons.Reason.{Reason}
use Rattle.cfa_advice.specs.declared.reasons.Reason.TheVariants.{BadPath, Missing, Obstructed, NotText as FailedNotText, NonConvergent, NoAnchor, FieldCount, UnknownService, BadPattern as FailedBadPattern, BadValue, Fault as FailedFault, TooLong, TooMany}
use Rattle.cfa_advice.specs.declared.reasons.Cause.{Cause}
use Rattle.cfa_advice.specs.declared.reasons.Cause.TheVariants.{Restarts, ComesAndGoes, Undoes, Waits}

abbrev pub code_of : Fault → List ℕ
code_of BadByte = codes "L1"
code_of UnclosedText = codes "L2"
code_of NotText = codes "L3"
code_of LongSource = codes "L4"
code_of Unexpected = codes "P1"
code_of TooDeep = codes "P2"
code_of UnknownType = codes "S1"
code_of TypeOutOfScope = codes "S2"
code_of UnknownAttribute = codes "S3"
code_of WrongValue = codes "S4"
code_of UnknownBody = codes "S5"
code_of UnknownBundle = codes "S6"
code_of ArgumentCount = codes "S7"
code_of Duplicate = codes "S8"
code_of CallCycle = codes "S9"
code_of NoSequence = codes "S10"
code_of BadClassText = codes "S11"
code_of ReferenceOutOfScope = codes "S12"
code_of BadPattern = codes "S13"
code_of BadRecord = codes "J1"
code_of LongJournal = codes "J2"

abbrev pub code_of_reason : Reason → List ℕ
code_of_reason BadPath = codes "F1"
code_of_reason Missing = codes "F2"
code_of_reason Obstructed = codes "F3"
code_of_reason FailedNotText = codes "F4"
code_of_reason NonConvergent = codes "F5"
code_of_reason NoAnchor = codes "F6"
code_of_reason FieldCount = codes "F7"
code_of_reason UnknownService = codes "F8"
code_of_reason FailedBadPattern = codes "F9"
code_of_reason BadValue = codes "F10"
code_of_reason FailedFault = codes "F11"
code_of_reason TooLong = codes "F12"
code_of_reason TooMany = codes "F13"

abbrev pub code_of_cause : Cause → List ℕ
code_of_cause Restarts = codes "C1"
code_of_cause ComesAndGoes = codes "C2"
code_of_cause Undoes = codes "C3"
code_of_cause Waits = codes "C4"
