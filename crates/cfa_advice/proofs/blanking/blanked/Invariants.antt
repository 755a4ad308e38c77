use Rattle.std.proofs.Common.{◌≡◌, ◌+◌, ◌≤◌, ◌++◌, drop, map}
use Rattle.cfa_base.specs.Lexing.{is_newline, first_place}
use Rattle.cfa_advice.specs.Blanks.{IsNumbered}
use Rattle.cfa_advice.proofs.BlankLemmas.{blanks}
use Rattle.cfa_advice.proofs.blanking.blanked.Given as goal

-- the newlines so far stand where they stood, and what was shown so far goes on with the blanks of the rest
abbrev pub invariant-loop-byte : goal.invariant-loop-byte
invariant-loop-byte l = record {
  newlines : map is_newline l.bytes.items ++ map is_newline (drop l.byte-index l.source) ≡ map is_newline l.source;
  line : IsNumbered l.source → l.place.line ≤ 1 + l.byte-index;
  col : IsNumbered l.source → l.place.col ≤ 1 + l.byte-index;
  so_far : IsNumbered l.source → l.bytes.items ++ blanks l.from l.to l.place (drop l.byte-index l.source) ≡ blanks l.from l.to (first_place 0) l.source;
}
