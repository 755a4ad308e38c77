use Rattle.std.proofs.Common.{◌≡◌, drop, map, Ok}
use Rattle.std.specs.String.{string_bytes}
use Rattle.cfa_functions.specs.Functions.{concatenated, followed_by}
use Rattle.cfa_functions.specs.Given.{argument_of}
use Rattle.cfa_functions.proofs.SoFar.{joined}
use Rattle.cfa_functions.proofs.making.add_texts.Given as goal

-- what was joined and the arguments that are left give what all the arguments give behind what was there
abbrev pub invariant-loop-argument : goal.invariant-loop-argument
invariant-loop-argument l =
    followed_by (joined l.is_hidden (string_bytes l.whole)) (concatenated (map argument_of (drop l.argument-index l.arguments)))
    ≡ followed_by (Ok (string_bytes l.fn.whole)) (concatenated (map argument_of l.arguments))
