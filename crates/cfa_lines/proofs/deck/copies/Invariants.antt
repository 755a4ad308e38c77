use Rattle.std.proofs.Common.{◌≡◌, map, take}
use Rattle.cfa_lines.proofs.deck.copies.Given as goal

abbrev pub invariant-loop-part : goal.invariant-loop-part
invariant-loop-part l = l.copies.items ≡ map (λ part. part.now) (take l.part-index l.parts)
