use Rattle.std.proofs.Common.{◌≡◌, ◌+◌, ◌≤◌, ◌++◌, drop, length, map}
use Rattle.std.specs.List.{flat_map}
use Rattle.cfa_base.specs.declared.limits.TheConstants.{MOST_SOURCE_BYTES}
use Rattle.cfa_tree.specs.Plain.{plain_section}
use Rattle.cfa_served.specs.Checked.{ids_from, promises_of}
use Rattle.cfa_served.proofs.promise_ids.add_bundle.Given as goal

-- the ids so far, and those of the sections left, of which there are few
abbrev pub invariant-loop-section : goal.invariant-loop-section
invariant-loop-section l =
    (l.ids.items ++ ids_from l.bundle.name.name (l.number + 1) (flat_map promises_of (map plain_section (drop l.section-index l.bundle.sections)))
    ≡ l.fn.ids.items ++ ids_from l.bundle.name.name 1 (flat_map promises_of (map plain_section l.bundle.sections)))
    × (l.number + length (flat_map promises_of (map plain_section (drop l.section-index l.bundle.sections))) ≤ MOST_SOURCE_BYTES)
