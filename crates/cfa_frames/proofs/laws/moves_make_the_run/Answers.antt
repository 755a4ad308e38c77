use Rattle.std.proofs.Common.{◌∙◌, []}
use Rattle.cfa_frames.specs.Frames.{beginning}
use Rattle.cfa_frames.proofs.MoveLemmas.{begins}
use Rattle.cfa_frames.proofs.RunLemmas.{moves_come}
use Rattle.cfa_frames.proofs.laws.moves_make_the_run.Goals as goal

pub returns-clause-left : goal.returns-clause-left
returns-clause-left c = λ s t st h n. moves_come c.instances_are_few.ensures s t n st h

pub returns-clause-run : goal.returns-clause-run
returns-clause-run c = λ s t n less. moves_come c.instances_are_few.ensures s t n (beginning s) [] less ∙ begins s t
