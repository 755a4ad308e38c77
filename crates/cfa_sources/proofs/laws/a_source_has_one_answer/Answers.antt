use Rattle.cfa_sources.proofs.Outcomes.{source_tree, source_line, source_never_both}
use Rattle.cfa_sources.proofs.laws.a_source_has_one_answer.Goals as goal

pub returns-clause-tree : goal.returns-clause-tree
returns-clause-tree c = source_tree (record { tokens = c.one_lexing.ensures.tokens; fault = c.one_lexing.ensures.fault; never_both = c.one_lexing.ensures.never_both; answer = c.reading_is_unique.ensures.answer })

pub returns-clause-line : goal.returns-clause-line
returns-clause-line c = source_line (record { tokens = c.one_lexing.ensures.tokens; fault = c.one_lexing.ensures.fault; never_both = c.one_lexing.ensures.never_both; answer = c.reading_is_unique.ensures.answer })

pub returns-clause-never_both : goal.returns-clause-never_both
returns-clause-never_both c = source_never_both (record { tokens = c.one_lexing.ensures.tokens; fault = c.one_lexing.ensures.fault; never_both = c.one_lexing.ensures.never_both; answer = c.reading_is_unique.ensures.answer })
