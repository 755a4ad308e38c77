use Rattle.std.proofs.Common.{◌≡◌, drop, map}
use Rattle.std.specs.List.{flat_map}
use Rattle.cfa_tree.specs.Plain.{plain_section}
use Rattle.cfa_values.specs.Seen.{seen_context}
use Rattle.cfa_values.specs.Refusals.{noted}
use Rattle.cfa_schema.specs.Valid.{section_refusals}
use Rattle.cfa_schema.proofs.blocks.note_sections.Given as goal

-- what was noted and what is left is what is noted of all
abbrev pub invariant-loop-section : goal.invariant-loop-section
invariant-loop-section l =
    noted l.first (flat_map (section_refusals (seen_context l.context) l.within) (map plain_section (drop l.section-index l.sections)))
    ≡ noted l.fn.first (flat_map (section_refusals (seen_context l.context) l.within) (map plain_section l.sections))
