-- What a reading of files answers, and what it leaves of the inputs and the patterns.
use Rattle.std.specs.Prelude.{ℕ, ◌≡◌, List, Option, Some, None, Result, Ok, Err, IfOk, IfErr, IfSome}
use Rattle.cfa_base.specs.Shown.{Shown, Untouched, HasFailed, IsLeft}
use Rattle.cfa_base.specs.Patterns.{SizeRefusal}
use Rattle.cfa_tree.specs.declared.blocks.Policy.{Policy}
use Rattle.cfa_tree.specs.Plain.{plain_policy}
use Rattle.cfa_outside.specs.Inputs.{Library, fails}
use Rattle.cfa_output.specs.declared.ends.Object.TheVariants.{Inputs, Site, Sink}
use Rattle.cfa_output.specs.declared.ends.Stop.{Stop}
use Rattle.cfa_output.specs.declared.ends.Stop.TheVariants.{Outside, Memory, Visits, Pattern}
use Rattle.cfa_output.specs.declared.ends.Failure.{Failure}
use Rattle.cfa_output.specs.declared.ends.Failure.TheVariants.{Refused, Stopped}
use Rattle.cfa_output.specs.Ends.{IfRefused}
use Rattle.cfa_schema.specs.declared.checked.Checked.{Checked}
use Rattle.cfa_schema.specs.Sourced.{IsRead}
use Rattle.cfa_schema.specs.Valid.{Valid}
use Rattle.cfa_schema.specs.Seen.{tree_of}
use Rattle.cfa_sources.specs.Sources.{Texts, source_of, ReadsFile, RefusesFile, IsNamed, IsNextFile}
use Rattle.cfa_sources.specs.Checks.{Refuses, IsValidAs, RefusesSize}

-- ---- what stopped a call

abbrev pub stop_of : {T : Type 0} → Result T Failure → Option Stop
stop_of (Ok _) = None
stop_of (Err (Refused line)) = None
stop_of (Err (Stopped stop)) = Some stop

-- of a call that refuses nothing
abbrev pub stopped_by : {T : Type 0} → Result T Stop → Option Stop
stopped_by (Ok _) = None
stopped_by (Err stop) = Some stop

-- the text that was refused for its size, if that stopped a call
abbrev pub text_too_big : Option Stop → Option (List ℕ)
text_too_big None = None
text_too_big (Some (Outside object)) = None
text_too_big (Some Memory) = None
text_too_big (Some Visits) = None
text_too_big (Some (Pattern text)) = Some text

-- ---- the inputs afterwards

-- the reading of a name failed that is next
pub record FailsNext (IsNext : Texts → List ℕ → Type 0)
    (before after : Shown Library) : Type 0 where
  pub name : List ℕ
  pub next : IfSome before.told (λ lib. IsNext lib.texts name)
  pub failed : HasFailed (fails name) before after

-- by what stopped the reading of names of which one after the other is next, if something did:
-- untouched, unless a reading failed or memory ended
abbrev pub ReadUpTo :
    (IsNext : Texts → List ℕ → Type 0) → Option Stop → (before after : Shown Library) → Type 0
ReadUpTo IsNext None before after = Untouched before after
ReadUpTo IsNext (Some (Outside Inputs)) before after = FailsNext IsNext before after
ReadUpTo IsNext (Some (Outside Site)) before after = ⊥
ReadUpTo IsNext (Some (Outside Sink)) before after = ⊥
ReadUpTo IsNext (Some Memory) before after = IsLeft before after
ReadUpTo IsNext (Some Visits) before after = ⊥
ReadUpTo IsNext (Some (Pattern text)) before after = Untouched before after

-- ---- what is read

-- the source of a name was read
pub record SourceRead (name : List ℕ) (before after : Shown Library)
    (result : Result (List ℕ) Stop) : Type 0 where
  pub source : IfOk result
      (λ source. IfSome before.told (λ lib. source_of lib.texts name ≡ Some source))
  pub inputs_are : ReadUpTo (IsNamed name) (stopped_by result) before after
  pub no_pattern : text_too_big (stopped_by result) ≡ None

-- the file of a number and name was read to its tree
pub record TreeRead (file : ℕ) (name : List ℕ) (before after : Shown Library)
    (result : Result Policy Failure) : Type 0 where
  pub is_read : IfOk result (λ tree. IsRead file (plain_policy tree))
  pub tree : IfOk result
      (λ tree. IfSome before.told (λ lib. ReadsFile lib.texts file name (plain_policy tree)))
  pub refused : IfErr result (λ failure. IfRefused failure
      (λ line. IfSome before.told (λ lib. RefusesFile lib.texts file name line)))
  pub inputs_are : ReadUpTo (IsNamed name) (stop_of result) before after
  pub no_pattern : text_too_big (stop_of result) ≡ None

-- a policy was read from its files, and checked
pub record PolicyRead (policy : List ℕ) (before after : Shown Library)
    (pats pats' : Shown (List (List ℕ))) (result : Result Checked Failure) : Type 0 where
  pub valid : IfOk result (λ checked. Valid (tree_of checked))
  pub checked : IfOk result
      (λ checked. IfSome before.told (λ lib. IsValidAs lib.texts policy (tree_of checked)))
  pub refused : IfErr result (λ failure. IfRefused failure
      (λ line. IfSome before.told (λ lib. Refuses lib.texts policy line)))
  pub inputs_are : ReadUpTo (IsNextFile policy) (stop_of result) before after
  pub patterns_are :
      SizeRefusal (λ text. IfSome before.told (λ lib. RefusesSize lib.texts policy text))
      (text_too_big (stop_of result)) pats pats'
