use Rattle.cfa_edits.proofs.inserting.anchor_in.Goals as goal

pub returns-clause-ok : goal.returns-clause-ok
returns-clause-ok c = rw (c.in_ok-matcher.ensures, c.in_ok-compiled.ensures) at c.anchor_by.ensures.place
