use Rattle.std.proofs.Common.{◌≡◌, Some, map, take}
use Rattle.cfa_lexer.specs.Lexed.{plain}
use Rattle.cfa_tree.specs.Grammar.{depth_limit}
use Rattle.cfa_parser.specs.Machine.{start, run}
use Rattle.cfa_parser.specs.Seen.{seen_reader}
use Rattle.cfa_parser.proofs.reader.take_all.Given as goal

abbrev pub invariant-loop-token : goal.invariant-loop-token
invariant-loop-token l = run depth_limit (Some start) (map plain (take l.token-index l.tokens)) ≡ Some (seen_reader l.reader)
