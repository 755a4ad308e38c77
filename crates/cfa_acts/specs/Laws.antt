-- The laws of acts: a needed change brings about what its act asks for, and leaves what other acts asked for and have
-- unless the act disturbs them.
use Rattle.std.specs.Prelude.{◌≡◌, ◌↔◌, Bool, true, false, List, All, Ok, IsTrue, IsUtf8}
use Rattle.cfa_outside.specs.declared.worlds.World.{World}
use Rattle.cfa_outside.specs.declared.sites.Change.{Change}
use Rattle.cfa_outside.specs.Worlds.{HasParents}
use Rattle.cfa_outside.specs.Sites.{after_change, fits}
use Rattle.cfa_lines.specs.Decks.{text_of}
use Rattle.cfa_edits.specs.declared.edits.Edit.{Edit}
use Rattle.cfa_edits.specs.Edits.{Lines, edited}
use Rattle.cfa_edits.specs.Scripts.{AreEdits, IsOneLine}
use Rattle.cfa_acts.specs.declared.acts.Act.{Act}
use Rattle.cfa_acts.specs.declared.acts.Act.TheVariants as act
use Rattle.cfa_acts.specs.declared.acts.Decision.TheVariants.{Kept, Needs}
use Rattle.cfa_acts.specs.Acts.{post, decision}
use Rattle.cfa_acts.specs.Disturbs.{disturbs}
use Rattle.cfa_acts.specs.Settling.{leaves}

-- a restart is asked for anew each time
abbrev pub is_restart : Act → Bool
is_restart (act.Restart _) = true
is_restart _ = false

-- the edits of an act are those of a script, as the type of scripts keeps
abbrev pub HasScript : Act → Type 0
HasScript (act.Edit _ script) = AreEdits script
HasScript _ = Unit {0}

-- an act is kept exactly where what it asks for holds
abbrev pub KeptWherePostHolds : Type 0
KeptWherePostHolds =
    (act : Act) (world : World) → (decision act world ≡ Kept) ↔ IsTrue (post act world)

abbrev pub NeededFits : Type 0
NeededFits =
    (act : Act) (world : World) (change : Change) →
    decision act world ≡ Needs change → IsTrue (fits change world)

abbrev pub NeededMakesPost : Type 0
NeededMakesPost =
    (act : Act) (world : World) (change : Change) →
    is_restart act ≡ false → decision act world ≡ Needs change →
    IsTrue (post act (after_change change world))

abbrev pub NeededKeepsPost : Type 0
NeededKeepsPost =
    (held later : Act) (world : World) (change : Change) → HasScript held → HasScript later →
    HasParents world.nodes → IsTrue (post held world) →
    decision later world ≡ Needs change → disturbs later held ≡ false →
    IsTrue (post held (after_change change world))

-- where no line holds a newline, a script leaves the text of lines exactly where it leaves the lines: what is edited again
-- may as well be the lines that the edits made
abbrev pub SettlesAsLines : Type 0
SettlesAsLines =
    (script : List Edit) (lines : Lines) → All IsOneLine lines → IsUtf8 (text_of lines) →
    IsTrue (leaves script (text_of lines)) ↔ (edited script lines ≡ Ok lines)
