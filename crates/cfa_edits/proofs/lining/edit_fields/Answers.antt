use Rattle.cfa_edits.proofs.lining.edit_fields.Goals as goal

pub returns-clause-ok : goal.returns-clause-ok
returns-clause-ok c = rw (c.in_ok-matcher.ensures, c.in_ok-compiled.ensures) at c.give_fields.ensures.ok

pub returns-clause-refused : goal.returns-clause-refused
returns-clause-refused c = rw (c.in_ok-matcher.ensures, c.in_ok-compiled.ensures) at c.give_fields.ensures.refused
