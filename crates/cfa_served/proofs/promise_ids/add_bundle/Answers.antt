use Rattle.std.proofs.Common.{◌∙◌, arith}
use Rattle.cfa_served.proofs.IdLemmas.{section_ids, section_count}
use Rattle.cfa_served.proofs.promise_ids.add_bundle.Goals as goal

pub add_section-requires : goal.add_section-requires
add_section-requires c =
    let few = c.loop-section.invariant.1 in
    let count = section_count c.args.bundle.now.sections c.as_slice-section-items.result.now c.loop-section.section-index c.section-item.result c.as_slice.result.now
    c.as_slice-section-items.ensures c.loop-section-test.true c.section-item.is c.as_slice.ensures in
    omega (arith, few, count)

pub loop-section-preserved : goal.loop-section-preserved
loop-section-preserved c =
    let few = c.loop-section.invariant.1 in
    let counted = c.in_ok-number.ensures.number in
    let count = section_count c.args.bundle.now.sections c.as_slice-section-items.result.now c.loop-section.section-index c.section-item.result c.as_slice.result.now
    c.as_slice-section-items.ensures c.loop-section-test.true c.section-item.is c.as_slice.ensures in (
      section_ids c.args.bundle.now.sections c.as_slice-section-items.result.now c.loop-section.section-index c.section-item.result c.as_slice.result.now
          c.as_slice-section-items.ensures c.loop-section-test.true c.section-item.is c.as_slice.ensures
          c.args.bundle.now.name.name c.as_str-name.result.now c.loop-section.number c.in_ok-number.number c.loop-section.ids.items c.add_section.new.ids.items
          c.as_str-name.ensures counted c.in_ok-number.ensures.ids
          ∙ c.loop-section.invariant.0,
      omega (arith, few, counted, count),
    )
