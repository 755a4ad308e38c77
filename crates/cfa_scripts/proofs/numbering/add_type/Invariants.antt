use Rattle.std.proofs.Common.{◌≡◌, ◌++◌, drop, map}
use Rattle.cfa_scripts.specs.Numbered.{of_type}
use Rattle.cfa_scripts.specs.Walking.{seen_numbered}
use Rattle.cfa_scripts.proofs.numbering.add_type.Given as goal

abbrev pub invariant-loop-promise : goal.invariant-loop-promise
invariant-loop-promise l =
    map seen_numbered l.ordered.items ++ of_type l.promise_type (map seen_numbered (drop l.promise-index l.promises))
    ≡ map seen_numbered l.fn.ordered.items ++ of_type l.promise_type (map seen_numbered l.promises)
