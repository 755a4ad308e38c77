-- The law that a script's text tells its edits.
use Rattle.std.specs.Prelude.{◌≡◌, List}
use Rattle.cfa_edits.specs.Scripts.{AreEdits, script_text}
use Rattle.cfa_edits.specs.declared.edits.Edit.{Edit}

-- scripts with equal texts have equal edits
abbrev pub TextsTellScripts : Type 0
TextsTellScripts =
    (edits others : List Edit) → AreEdits edits → AreEdits others → script_text edits ≡ script_text others → edits ≡ others
