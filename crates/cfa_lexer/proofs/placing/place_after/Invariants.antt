use Rattle.std.proofs.Common.{◌≡◌, ◌+◌, ◌≤◌, drop}
use Rattle.cfa_base.specs.Lexing.{place_after}
use Rattle.cfa_lexer.proofs.placing.place_after.Given as goal

-- what the rest makes of the place so far is what the whole makes of the first place
abbrev pub invariant-loop-byte : goal.invariant-loop-byte
invariant-loop-byte l = record {
  line_within : l.line ≤ l.fn.place.line + l.byte-index;
  col_within : l.col ≤ l.fn.place.col + l.byte-index;
  so_far : place_after (record { file = l.fn.place.file; line = l.line; col = l.col }) (drop l.byte-index l.bytes) ≡ place_after l.fn.place l.bytes;
}
