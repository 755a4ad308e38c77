use Rattle.cfa_main.proofs.LawLemmas.{runs_in_one}
use Rattle.cfa_main.proofs.laws.a_policy_is_run_in_one_setting.Goals as goal

pub returns : goal.returns
returns c = runs_in_one c.a_policy_has_one_answer.ensures.tree
