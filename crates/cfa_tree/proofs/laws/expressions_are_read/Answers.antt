use Rattle.cfa_tree.proofs.ClassTextLaws.{expressions_are_computed, computed_are_expressions}
use Rattle.cfa_tree.proofs.laws.expressions_are_read.Goals as goal

pub returns-clause-computed : goal.returns-clause-computed
returns-clause-computed c = expressions_are_computed

pub returns-clause-read : goal.returns-clause-read
returns-clause-read c = computed_are_expressions
