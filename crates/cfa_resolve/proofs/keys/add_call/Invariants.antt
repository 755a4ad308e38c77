use Rattle.std.proofs.Common.{◌≡◌, ◌∷◌, ◌++◌, drop, map}
use Rattle.std.specs.List.{flat_map}
use Rattle.std.specs.String.{string_bytes}
use Rattle.cfa_resolve.specs.KeyTexts.{datum_text}
use Rattle.cfa_resolve.proofs.keys.add_call.Given as goal

abbrev pub invariant-loop-datum : goal.invariant-loop-datum
invariant-loop-datum l =
    string_bytes l.whole ++ flat_map (λ field. 32 ∷ field) (map datum_text (drop l.datum-index l.arguments))
    ≡ string_bytes l.initial.whole ++ flat_map (λ field. 32 ∷ field) (map datum_text l.arguments)
