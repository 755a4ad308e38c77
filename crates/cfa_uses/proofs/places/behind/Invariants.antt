use Rattle.std.proofs.Common.{◌≡◌, ◌+◌, ◌^◌, ◌<◌, ◌≤◌, drop, length}
use Rattle.cfa_base.specs.Lexing.{place_after}
use Rattle.cfa_uses.proofs.places.behind.Given as goal

-- what the rest makes of the place so far is what the whole makes of the first place
abbrev pub invariant-loop-byte : goal.invariant-loop-byte
invariant-loop-byte l = record {
  line : l.fn.place.line + length l.text < 2 ^ 32 → l.fn.place.col + length l.text < 2 ^ 32 → l.end.line ≤ l.fn.place.line + l.byte-index;
  col : l.fn.place.line + length l.text < 2 ^ 32 → l.fn.place.col + length l.text < 2 ^ 32 → l.end.col ≤ l.fn.place.col + l.byte-index;
  so_far : l.fn.place.line + length l.text < 2 ^ 32 → l.fn.place.col + length l.text < 2 ^ 32 → place_after l.end (drop l.byte-index l.text) ≡ place_after l.fn.place l.text;
}
