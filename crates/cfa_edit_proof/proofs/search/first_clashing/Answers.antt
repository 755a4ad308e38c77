use Rattle.cfa_edit_proof.proofs.search.first_clashing.Goals as goal

pub returns-in-Insert : goal.returns-in-Insert
returns-in-Insert c = rw c.in-Insert.is (c.first_replacing.ensures c.in-Insert.field-1)
