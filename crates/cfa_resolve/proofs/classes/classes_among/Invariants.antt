use Rattle.std.proofs.Common.{◌≡◌, ◌++◌, drop, map}
use Rattle.std.specs.Prelude.{filter, not}
use Rattle.cfa_functions.specs.Functions.{canonified}
use Rattle.cfa_resolve.specs.FileActs.{is_empty}
use Rattle.cfa_resolve.proofs.classes.classes_among.Given as goal

abbrev pub invariant-loop-text : goal.invariant-loop-text
invariant-loop-text l =
    l.classes ++ map canonified (filter (λ content. not (is_empty content)) (drop l.text-index l.texts))
    ≡ map canonified (filter (λ content. not (is_empty content)) l.texts)
