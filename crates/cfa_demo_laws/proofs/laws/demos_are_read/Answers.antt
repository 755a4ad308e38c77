use Rattle.cfa_demo_laws.proofs.Sizes.{demo_is_text}
use Rattle.cfa_demo_laws.proofs.Texts.{demo_reads}
use Rattle.cfa_demo_laws.proofs.laws.demos_are_read.Goals as goal

pub returns-clause-is_text : goal.returns-clause-is_text
returns-clause-is_text c = demo_is_text

pub returns-clause-reads : goal.returns-clause-reads
returns-clause-reads c = demo_reads
