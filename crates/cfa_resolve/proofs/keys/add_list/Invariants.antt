use Rattle.std.proofs.Common.{◌≡◌, ◌∷◌, ◌++◌, take}
use Rattle.std.specs.List.{flat_map}
use Rattle.std.specs.String.{string_bytes}
use Rattle.cfa_base.specs.Escapes.{escaped}
use Rattle.cfa_resolve.proofs.keys.add_list.Given as goal

abbrev pub invariant-loop-item : goal.invariant-loop-item
invariant-loop-item l =
    string_bytes l.whole
    ≡ string_bytes l.initial.whole ++ flat_map (λ item. 44 ∷ escaped item) (take l.item-index l.items)
