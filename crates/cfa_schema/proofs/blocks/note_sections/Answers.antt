use Rattle.std.proofs.Common.{◌∙◌}
use Rattle.cfa_tree.specs.Plain.{plain_section}
use Rattle.cfa_values.specs.Seen.{seen_context}
use Rattle.cfa_schema.specs.Valid.{section_refusals}
use Rattle.cfa_values.specs.Noted.{noted_more}
use Rattle.cfa_schema.proofs.blocks.note_sections.Goals as goal

pub loop-section-preserved : goal.loop-section-preserved
loop-section-preserved c =
    noted_more plain_section (section_refusals (seen_context c.args.context.now) c.args.within) c.args.sections.now c.loop-section.section-index c.section-item.result
    c.loop-section.first c.note_section.new.first c.loop-section-test.true c.section-item.is c.in_ok-note_section.ensures
    ∙ c.loop-section.invariant
