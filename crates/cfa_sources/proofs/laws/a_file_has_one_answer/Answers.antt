use Rattle.cfa_sources.proofs.FileLemmas.{file_tree, file_line, file_never_both}
use Rattle.cfa_sources.proofs.laws.a_file_has_one_answer.Goals as goal

pub returns-clause-tree : goal.returns-clause-tree
returns-clause-tree c = file_tree c.a_source_has_one_answer.ensures.tree

pub returns-clause-line : goal.returns-clause-line
returns-clause-line c = file_line c.a_source_has_one_answer.ensures.line

pub returns-clause-never_both : goal.returns-clause-never_both
returns-clause-never_both c = file_never_both c.a_source_has_one_answer.ensures.never_both
