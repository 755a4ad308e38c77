use Rattle.std.proofs.Common.{◌≡◌, ◌∷◌, ◌++◌, drop}
use Rattle.std.specs.List.{flat_map}
use Rattle.std.specs.String.{string_bytes}
use Rattle.cfa_resolve.specs.KeyTexts.{act_text}
use Rattle.cfa_resolve.proofs.keys.add_acts.Given as goal

abbrev pub invariant-loop-act : goal.invariant-loop-act
invariant-loop-act l =
    string_bytes l.whole ++ flat_map (λ act. 59 ∷ act_text l.promiser act) (drop l.act-index l.acts)
    ≡ string_bytes l.initial.whole ++ flat_map (λ act. 59 ∷ act_text l.promiser act) l.acts
