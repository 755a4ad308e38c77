use Rattle.cfa_drill.proofs.MarkLemmas.{own_marks}
use Rattle.cfa_drill.proofs.laws.turns_have_their_marks.Goals as goal

pub returns : goal.returns
returns c = own_marks
