use Rattle.cfa_edit_proof.proofs.laws.has_texts.Goals as goal

pub returns-in-Insert : goal.returns-in-Insert
returns-in-Insert c = rw c.in-Insert.is c.are_texts.ensures
