use Rattle.cfa_main.proofs.LawLemmas.{taken_is_not_refused}
use Rattle.cfa_main.proofs.laws.taken_requests_are_not_refused.Goals as goal

pub returns : goal.returns
returns c = taken_is_not_refused (record {
  tree_one = c.a_file_has_one_answer.ensures.tree;
  file_line = c.a_file_has_one_answer.ensures.line;
  file_both = c.a_file_has_one_answer.ensures.never_both;
  policy_tree = c.a_policy_has_one_answer.ensures.tree;
  policy_line = c.a_policy_has_one_answer.ensures.line;
  policy_both = c.a_policy_has_one_answer.ensures.never_both;
  journal_one = c.one_journal.ensures.one;
  journal_both = c.one_journal.ensures.never_both;
  journal_bad = c.one_journal.ensures.one_bad;
  rows_one = c.rows_are_one.ensures;
})
