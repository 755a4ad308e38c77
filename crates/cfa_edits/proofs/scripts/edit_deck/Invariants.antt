use Rattle.std.proofs.Common.{◌≡◌, drop, IfSome}
use Rattle.cfa_edits.specs.Edits.{edited}
use Rattle.cfa_edits.specs.Steps.{HasLacking, blocks_of}
use Rattle.cfa_edits.proofs.scripts.edit_deck.Given as goal

abbrev pub invariant-loop-edit : goal.invariant-loop-edit
invariant-loop-edit l = (edited (drop l.edit-index l.edits) l.deck.lines ≡ edited l.edits l.fn.deck.lines)
    × IfSome l.wanted (λ set. HasLacking set (blocks_of l.edits) l.deck.lines)
