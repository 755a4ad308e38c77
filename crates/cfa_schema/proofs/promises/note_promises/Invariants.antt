use Rattle.std.proofs.Common.{◌≡◌, drop, map}
use Rattle.std.specs.List.{flat_map}
use Rattle.cfa_tree.specs.Plain.{plain_promise}
use Rattle.cfa_values.specs.Seen.{seen_context}
use Rattle.cfa_values.specs.Refusals.{noted}
use Rattle.cfa_schema.specs.Valid.{promise_refusals}
use Rattle.cfa_schema.proofs.promises.note_promises.Given as goal

-- what was noted and what is left is what is noted of all
abbrev pub invariant-loop-promise : goal.invariant-loop-promise
invariant-loop-promise l =
    noted l.first (flat_map (promise_refusals (seen_context l.context) l.promise_type) (map plain_promise (drop l.promise-index l.promises)))
    ≡ noted l.fn.first (flat_map (promise_refusals (seen_context l.context) l.promise_type) (map plain_promise l.promises))
