use Rattle.cfa_parser.proofs.Readings.{one_tree}
use Rattle.cfa_parser.proofs.Uniqueness.{one_answer}
use Rattle.cfa_parser.proofs.laws.reading_is_unique.Goals as goal

pub returns-clause-tree : goal.returns-clause-tree
returns-clause-tree c = one_tree

pub returns-clause-answer : goal.returns-clause-answer
returns-clause-answer c = one_answer
