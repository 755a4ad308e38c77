use Rattle.std.proofs.Common.{◌≡◌, drop, map}
use Rattle.std.specs.Prelude.{slice_get}
use Rattle.std.specs.List.{flat_map}
use Rattle.cfa_tree.specs.Plain.{plain_section}
use Rattle.cfa_served.specs.Checked.{worded_promises_of}
use Rattle.cfa_served.proofs.promise_ids.promise_at.Given as goal

-- the promise stands at the place left of the sections left
abbrev pub invariant-loop-section : goal.invariant-loop-section
invariant-loop-section l =
    slice_get (flat_map worded_promises_of (map plain_section (drop l.section-index l.sections))) l.left
    ≡ slice_get (flat_map worded_promises_of (map plain_section l.sections)) l.fn.place
