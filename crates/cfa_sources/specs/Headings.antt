-- The codes and the words of the lines of the table of refusals, as they are printed.
use Rattle.std.specs.Prelude.{ℕ, List, codes}
use Rattle.cfa_values.specs.declared.refusals.Code.{Code}
use Rattle.cfa_values.specs.declared.refusals.Code.TheVariants.{UnknownType, TypeOutOfScope, UnknownAttribute, WrongValue, UnknownBody, UnknownBundle, ArgumentCount, Duplicate, CallCycle, NoSequence, BadClassText, ReferenceOutOfScope, BadPattern}

pub record Heading : Type 0 where
  pub code : List ℕ
  pub word : List ℕ

abbrev pub heading : (code word : List ℕ) → Heading
heading code word = record { code = code; word = word }

abbrev pub heading_of : Code → Heading
heading_of UnknownType = heading (codes "S1") (codes "UnknownType")
heading_of TypeOutOfScope = heading (codes "S2") (codes "TypeOutOfScope")
heading_of UnknownAttribute = heading (codes "S3") (codes "UnknownAttribute")
heading_of WrongValue = heading (codes "S4") (codes "WrongValue")
heading_of UnknownBody = heading (codes "S5") (codes "UnknownBody")
heading_of UnknownBundle = heading (codes "S6") (codes "UnknownBundle")
heading_of ArgumentCount = heading (codes "S7") (codes "ArgumentCount")
heading_of Duplicate = heading (codes "S8") (codes "Duplicate")
heading_of CallCycle = heading (codes "S9") (codes "CallCycle")
heading_of NoSequence = heading (codes "S10") (codes "NoSequence")
heading_of BadClassText = heading (codes "S11") (codes "BadClassText")
heading_of ReferenceOutOfScope = heading (codes "S12") (codes "ReferenceOutOfScope")
heading_of BadPattern = heading (codes "S13") (codes "BadPattern")
