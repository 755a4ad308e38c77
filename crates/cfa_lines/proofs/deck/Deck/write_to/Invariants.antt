use Rattle.std.proofs.Common.{◌≡◌, ◌++◌, reverse}
use Rattle.std.specs.String.{string_bytes}
use Rattle.std.specs.Slice.Iter.{iter_rest}
use Rattle.cfa_lines.specs.Decks.{text_of}
use Rattle.cfa_lines.proofs.deck.Deck.write_to.Given as goal

abbrev pub invariant-loop-line : goal.invariant-loop-line
invariant-loop-line l =
    string_bytes l.text ++ text_of (reverse (iter_rest l.line-iterator.iter)) ≡ string_bytes l.fn.text ++ text_of l.self.lines
