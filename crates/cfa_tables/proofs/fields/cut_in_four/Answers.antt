use Rattle.cfa_tables.proofs.FieldLemmas.{none_at_first, none_at_second, none_at_third}
use Rattle.cfa_tables.proofs.fields.cut_in_four.Goals as goal

pub returns-in_default-clause-none : goal.returns-in_default-clause-none
returns-in_default-clause-none c = none_at_first _ c.in_default.ensures.none

pub returns-in_default-cut-clause-none : goal.returns-in_default-cut-clause-none
returns-in_default-cut-clause-none c = none_at_second _ _ _ c.in-Some.ensures.some c.in_default-cut.ensures.none

pub returns-in_default-cut-2-clause-none : goal.returns-in_default-cut-2-clause-none
returns-in_default-cut-2-clause-none c = none_at_third _ _ _ _ _ c.in-Some.ensures.some c.in-Some-cut.ensures.some c.in_default-cut-2.ensures.none
