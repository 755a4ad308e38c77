use Rattle.std.proofs.Common.{◌≡◌, ◌++◌, drop, map}
use Rattle.std.specs.List.{flat_map}
use Rattle.cfa_tree.specs.Plain.{plain_section}
use Rattle.cfa_calls.specs.Cycles.{seen_call}
use Rattle.cfa_schema.specs.Valid.{calls_in_section}
use Rattle.cfa_schema.proofs.bundle_calls.add_of_sections.Given as goal

-- the calls so far, and those of the sections left
abbrev pub invariant-loop-section : goal.invariant-loop-section
invariant-loop-section l =
    map seen_call l.calls.items ++ flat_map (calls_in_section l.caller) (map plain_section (drop l.section-index l.sections))
    ≡ map seen_call l.fn.calls.items ++ flat_map (calls_in_section l.caller) (map plain_section l.sections)
