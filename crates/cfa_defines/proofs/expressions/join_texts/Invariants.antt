use Rattle.std.proofs.Common.{◌≡◌, drop, map}
use Rattle.cfa_defines.specs.ClassPromises.{joined, text_said}
use Rattle.cfa_defines.specs.OfTheCode.{operation, together, status_of}
use Rattle.cfa_defines.proofs.expressions.join_texts.Given as goal

abbrev pub invariant-loop-text : goal.invariant-loop-text
invariant-loop-text l =
    joined (operation l.join) l.said (together l.join (map (text_said (status_of l.context)) (drop l.text-index l.texts)))
    ≡ joined (operation l.join) l.initial.said (together l.join (map (text_said (status_of l.context)) l.texts))
