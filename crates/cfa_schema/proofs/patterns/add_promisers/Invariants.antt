use Rattle.std.proofs.Common.{◌≡◌, ◌++◌, drop, map}
use Rattle.std.specs.List.{flat_map}
use Rattle.cfa_tree.specs.Plain.{plain_promise}
use Rattle.cfa_schema.specs.Collected.{pattern_of_promiser, seen_pattern}
use Rattle.cfa_schema.proofs.patterns.add_promisers.Given as goal

-- the patterns so far, and those of the promises left
abbrev pub invariant-loop-promise : goal.invariant-loop-promise
invariant-loop-promise l =
    map seen_pattern l.patterns.items ++ flat_map (pattern_of_promiser l.how) (map plain_promise (drop l.promise-index l.promises))
    ≡ map seen_pattern l.fn.patterns.items ++ flat_map (pattern_of_promiser l.how) (map plain_promise l.promises)
