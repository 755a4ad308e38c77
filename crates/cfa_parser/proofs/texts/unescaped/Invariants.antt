use Rattle.std.proofs.Common.{◌≡◌, ◌++◌, drop, false}
use Rattle.cfa_base.specs.Lexing.{unescaped}
use Rattle.cfa_parser.proofs.texts.unescaped.Given as goal

abbrev pub invariant-loop-byte : goal.invariant-loop-byte
invariant-loop-byte l = l.content.items ++ unescaped l.behind_backslash (drop l.byte-index l.bytes) ≡ unescaped false l.bytes
