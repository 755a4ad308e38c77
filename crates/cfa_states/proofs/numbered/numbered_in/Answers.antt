use Rattle.std.proofs.Common.{◌∙◌, map}
use Rattle.cfa_states.specs.Kept.{seen_numbered}
use Rattle.cfa_states.proofs.NumberedLemmas.{section_added}
use Rattle.cfa_states.proofs.numbered.numbered_in.Goals as goal

pub loop-section-preserved : goal.loop-section-preserved
loop-section-preserved c =
    let more = c.in_ok-number.ensures in (
      section_added c.args.bundle.now.name.name c.as_slice-section-items.result.now c.loop-section.section-index c.section-item.result c.loop-section.number c.in_ok-number.number
          (map seen_numbered c.loop-section.promises.items) (map seen_numbered c.add_section.new.promises.items)
          c.loop-section-test.true c.section-item.is more.number more.promises
          ∙ c.loop-section.invariant.0,
      more.guards c.loop-section.invariant.1,
    )
