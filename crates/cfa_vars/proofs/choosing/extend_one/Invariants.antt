use Rattle.std.proofs.Common.{◌≡◌, ◌++◌, ◌∷◌, [], map, take}
use Rattle.cfa_vars.proofs.choosing.extend_one.Given as goal

abbrev pub invariant-loop-item : goal.invariant-loop-item
invariant-loop-item l = l.done.items ≡ l.fn.done.items ++ map (λ item. l.choice-inside.items.items ++ (l.key, item) ∷ []) (take l.item-index l.items)
