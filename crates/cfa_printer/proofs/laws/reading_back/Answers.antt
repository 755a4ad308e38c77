use Rattle.cfa_printer.proofs.PoliciesAgain.{printed_reads_back}
use Rattle.cfa_printer.proofs.laws.reading_back.Goals as goal

pub returns : goal.returns
returns c = λ levels place source tokens tree lexes reads file. printed_reads_back levels place source tokens tree lexes reads file
