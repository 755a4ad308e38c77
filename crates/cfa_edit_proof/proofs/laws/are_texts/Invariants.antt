use Rattle.std.proofs.Common.{IsUtf8}
use Rattle.std.specs.List.{AllWithin}
use Rattle.cfa_edit_proof.proofs.laws.are_texts.Given as goal

abbrev pub invariant-loop-line : goal.invariant-loop-line
invariant-loop-line l = AllWithin IsUtf8 l.lines 0 l.line-index
