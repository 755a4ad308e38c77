use Rattle.std.proofs.Common.{◌≡◌, ◌++◌, take}
use Rattle.std.specs.Prelude.{◌==◌}
use Rattle.std.specs.String.{string_bytes}
use Rattle.cfa_edits.specs.Scripts.{block_text}
use Rattle.cfa_edits.proofs.writing.write_block.Given as goal

abbrev pub invariant-loop-line : goal.invariant-loop-line
invariant-loop-line l = (l.is_first ≡ (l.line-index == 0))
    × (string_bytes l.text ≡ string_bytes l.fn.text ++ block_text (take l.line-index l.line-items))
