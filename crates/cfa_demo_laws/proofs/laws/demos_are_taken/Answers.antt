use Rattle.cfa_demo_laws.specs.Trees.{demo_tree}
use Rattle.cfa_demo_laws.specs.Laws.{demo_name, demo_texts}
use Rattle.cfa_demo_laws.proofs.Taken.{demo_is_valid_as}
use Rattle.cfa_demo_laws.proofs.laws.demos_are_taken.Goals as goal

pub returns-clause-valid_as : goal.returns-clause-valid_as
returns-clause-valid_as c = demo_is_valid_as

pub returns-clause-one_tree : goal.returns-clause-one_tree
returns-clause-one_tree c = λ n tree within valid.
    c.a_policy_has_one_answer.ensures.tree (demo_texts n) demo_name tree (demo_tree n) valid (demo_is_valid_as n within)

pub returns-clause-never_refused : goal.returns-clause-never_refused
returns-clause-never_refused c = λ n line within refused.
    c.a_policy_has_one_answer.ensures.never_both (demo_texts n) demo_name line (demo_tree n) (demo_is_valid_as n within) refused
