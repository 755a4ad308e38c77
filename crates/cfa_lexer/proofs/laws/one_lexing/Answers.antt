use Rattle.cfa_base.specs.lemmas.Scanning.{lexes_same, first_fault_same, lexes_without_fault, lexes_or_fails}
use Rattle.cfa_lexer.proofs.laws.one_lexing.Goals as goal

pub returns-clause-tokens : goal.returns-clause-tokens
returns-clause-tokens c = λ place bytes tokens others lexes also. lexes_same lexes also

pub returns-clause-fault : goal.returns-clause-fault
returns-clause-fault c = λ place bytes fault other first also. first_fault_same first also

pub returns-clause-never_both : goal.returns-clause-never_both
returns-clause-never_both c = λ place bytes tokens fault lexes first. lexes_without_fault lexes first

pub returns-clause-always_one : goal.returns-clause-always_one
returns-clause-always_one c = λ place bytes. lexes_or_fails place bytes
