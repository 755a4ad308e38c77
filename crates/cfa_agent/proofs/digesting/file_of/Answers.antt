use Rattle.cfa_agent.proofs.digesting.file_of.Goals as goal

pub returns-clause-whole : goal.returns-clause-whole
returns-clause-whole g c = (c.requires, (c.in_ok-path.ensures.filled, (c.in_ok-before.ensures.whole, c.in_ok-after.ensures.whole)))
