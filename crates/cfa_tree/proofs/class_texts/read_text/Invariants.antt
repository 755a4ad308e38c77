use Rattle.std.proofs.Common.{length}
use Rattle.cfa_tree.specs.SeenGuards.{seen_guard}
use Rattle.cfa_tree.proofs.ClassTextSteps.{ReadTo}
use Rattle.cfa_tree.proofs.class_texts.read_text.Given as goal

abbrev pub invariant-loop-rest : goal.invariant-loop-rest
invariant-loop-rest l = ReadTo l.text (seen_guard l.guard) l.rest

abbrev pub decreases-loop-rest : goal.decreases-loop-rest
decreases-loop-rest l = length l.rest
