use Rattle.cfa_sources.proofs.PolicyLemmas.{policy_tree, policy_line, policy_never_both}
use Rattle.cfa_sources.proofs.laws.a_policy_has_one_answer.Goals as goal

pub returns-clause-tree : goal.returns-clause-tree
returns-clause-tree c = policy_tree (record { tree = c.a_file_has_one_answer.ensures.tree; line = c.a_file_has_one_answer.ensures.line; never_both = c.a_file_has_one_answer.ensures.never_both })

pub returns-clause-line : goal.returns-clause-line
returns-clause-line c = policy_line (record { tree = c.a_file_has_one_answer.ensures.tree; line = c.a_file_has_one_answer.ensures.line; never_both = c.a_file_has_one_answer.ensures.never_both }) c.one_refusal.ensures.one

pub returns-clause-never_both : goal.returns-clause-never_both
returns-clause-never_both c = policy_never_both (record { tree = c.a_file_has_one_answer.ensures.tree; line = c.a_file_has_one_answer.ensures.line; never_both = c.a_file_has_one_answer.ensures.never_both }) c.one_refusal.ensures.never_both
