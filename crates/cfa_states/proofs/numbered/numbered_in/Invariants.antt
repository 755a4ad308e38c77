use Rattle.std.proofs.Common.{◌≡◌, ◌+◌, ◌++◌, drop, map}
use Rattle.std.specs.List.{flat_map}
use Rattle.cfa_tree.specs.Plain.{plain_section}
use Rattle.cfa_served.specs.Checked.{worded_promises_of}
use Rattle.cfa_states.specs.Numbered.{numbered_from}
use Rattle.cfa_states.specs.Kept.{GuardsRepeat, seen_numbered}
use Rattle.cfa_states.proofs.numbered.numbered_in.Given as goal

-- the promises so far, and those of the sections that are left
abbrev pub invariant-loop-section : goal.invariant-loop-section
invariant-loop-section l =
    (map seen_numbered l.promises.items
    ++ numbered_from l.bundle.name.name (l.number + 1) (flat_map worded_promises_of (map plain_section (drop l.section-index l.section-items)))
    ≡ numbered_from l.bundle.name.name 1 (flat_map worded_promises_of (map plain_section l.bundle.sections)))
    × GuardsRepeat l.promises.items
