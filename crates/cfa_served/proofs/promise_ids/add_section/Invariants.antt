use Rattle.std.proofs.Common.{◌≡◌, ◌+◌, ◌++◌, drop, map}
use Rattle.cfa_tree.specs.Plain.{plain_promise}
use Rattle.cfa_served.specs.Checked.{ids_from}
use Rattle.cfa_served.proofs.promise_ids.add_section.Given as goal

-- the ids so far, and those of the promises left
abbrev pub invariant-loop-promise : goal.invariant-loop-promise
invariant-loop-promise l =
    (l.ids.items ++ ids_from l.bundle (l.number + 1) (map plain_promise (drop l.promise-index l.promises))
    ≡ l.fn.ids.items ++ ids_from l.bundle (l.fn.before + 1) (map plain_promise l.promises))
    × (l.number ≡ l.fn.before + l.promise-index)
