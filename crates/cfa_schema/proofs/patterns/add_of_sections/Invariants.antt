use Rattle.std.proofs.Common.{◌≡◌, ◌++◌, drop, map}
use Rattle.std.specs.List.{flat_map}
use Rattle.cfa_tree.specs.Plain.{plain_section}
use Rattle.cfa_schema.specs.Collected.{seen_pattern}
use Rattle.cfa_schema.specs.Valid.{patterns_in_section}
use Rattle.cfa_schema.proofs.patterns.add_of_sections.Given as goal

-- the patterns so far, and those of the sections left
abbrev pub invariant-loop-section : goal.invariant-loop-section
invariant-loop-section l =
    map seen_pattern l.patterns.items ++ flat_map patterns_in_section (map plain_section (drop l.section-index l.sections))
    ≡ map seen_pattern l.fn.patterns.items ++ flat_map patterns_in_section (map plain_section l.sections)
