use Rattle.cfa_schema.proofs.LawLemmas.{refusal_is_one, never_both}
use Rattle.cfa_schema.proofs.laws.one_refusal.Goals as goal

pub returns-clause-one : goal.returns-clause-one
returns-clause-one c = refusal_is_one

pub returns-clause-never_both : goal.returns-clause-never_both
returns-clause-never_both c = never_both
