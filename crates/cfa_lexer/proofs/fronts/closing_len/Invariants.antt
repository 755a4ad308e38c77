use Rattle.std.proofs.Common.{take}
use Rattle.cfa_lexer.proofs.Lengths.{Reads}
use Rattle.cfa_lexer.proofs.fronts.closing_len.Given as goal

abbrev pub invariant-loop-i : goal.invariant-loop-i
invariant-loop-i l = Reads l.quote (take l.i l.bytes) l.behind_backslash
