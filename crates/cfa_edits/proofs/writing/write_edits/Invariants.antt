use Rattle.std.proofs.Common.{◌≡◌, ◌++◌, map, take}
use Rattle.std.specs.Prelude.{◌==◌}
use Rattle.std.specs.String.{string_bytes}
use Rattle.std.specs.List.{join_with_byte}
use Rattle.cfa_edits.specs.Scripts.{edit_text}
use Rattle.cfa_edits.proofs.writing.write_edits.Given as goal

abbrev pub invariant-loop-edit : goal.invariant-loop-edit
invariant-loop-edit l = (l.is_first ≡ (l.edit-index == 0))
    × (string_bytes l.text ≡ string_bytes l.fn.text ++ join_with_byte 44 (map edit_text (take l.edit-index l.edits)))
