-- Edits of a file by a quiet script never fail because the script doesn't settle.
use Rattle.std.specs.Prelude.{◌≢◌, ℕ, List, All}
use Rattle.cfa_outside.specs.declared.worlds.World.{World}
use Rattle.cfa_edits.specs.declared.edits.Edit.{Edit}
use Rattle.cfa_edits.specs.Scripts.{AreEdits}
use Rattle.cfa_acts.specs.Acts.{decision}
use Rattle.cfa_acts.specs.declared.acts.Act.TheVariants as act
use Rattle.cfa_acts.specs.declared.acts.Decision.TheVariants.{Fail}
use Rattle.cfa_acts.specs.declared.acts.Reason.TheVariants.{NonConvergent}
use Rattle.cfa_edit_proof.specs.Quiet.{HasTexts, IsQuiet}

-- in no world, whatever the file
abbrev pub NeverUnsettled : List Edit → Type 0
NeverUnsettled script = (path : List ℕ) (world : World) → decision (act.Edit path script) world ≢ Fail NonConvergent

abbrev pub QuietDecides : Type 0
QuietDecides = (script : List Edit) → AreEdits script → All HasTexts script → IsQuiet script → NeverUnsettled script
