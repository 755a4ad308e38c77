-- Two edits in the order of their kinds are a script's.
use Rattle.std.proofs.Common.{◌≤◌, [], ◌∷◌}
use Rattle.std.proofs.lemmas.List.Elements.{All-nil, All-cons}
use Rattle.cfa_edits.specs.declared.edits.Edit.{Edit}
use Rattle.cfa_edits.specs.Scripts.{IsEdit, AreEdits, rank}

pub pair_edits : (first second : Edit) → IsEdit first → IsEdit second → rank first ≤ rank second → AreEdits (first ∷ second ∷ [])
pair_edits first second one other order = record {
  each = All-cons IsEdit first (second ∷ []) one (All-cons IsEdit second [] other (All-nil IsEdit));
  order = (order, tt);
}
