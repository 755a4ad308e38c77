use Rattle.std.proofs.Common.{◌≡◌, ◌++◌, drop, map}
use Rattle.std.specs.List.{flat_map}
use Rattle.cfa_tree.specs.Plain.{plain_promise}
use Rattle.cfa_calls.specs.Cycles.{seen_call}
use Rattle.cfa_schema.specs.Valid.{calls_in_promise}
use Rattle.cfa_schema.proofs.bundle_calls.add_of_promises.Given as goal

-- the calls so far, and those of the promises left
abbrev pub invariant-loop-promise : goal.invariant-loop-promise
invariant-loop-promise l =
    map seen_call l.calls.items ++ flat_map (calls_in_promise l.caller) (map plain_promise (drop l.promise-index l.promises))
    ≡ map seen_call l.fn.calls.items ++ flat_map (calls_in_promise l.caller) (map plain_promise l.promises)
