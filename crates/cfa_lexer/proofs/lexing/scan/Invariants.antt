use Rattle.std.proofs.Common.{length, map}
use Rattle.cfa_lexer.specs.Lexed.{plain}
use Rattle.cfa_lexer.proofs.ScanSteps.{ReadTo}
use Rattle.cfa_lexer.proofs.lexing.scan.Given as goal

abbrev pub invariant-loop-rest : goal.invariant-loop-rest
invariant-loop-rest l = ReadTo l.text l.file (map plain l.tokens.items) l.place l.rest

abbrev pub decreases-loop-rest : goal.decreases-loop-rest
decreases-loop-rest l = length l.rest
