use Rattle.std.proofs.Common.{◌∙◌, map}
use Rattle.cfa_scripts.specs.Walking.{seen_numbered}
use Rattle.cfa_scripts.specs.lemmas.Numbering.{one_section}
use Rattle.cfa_scripts.proofs.numbering.numbered_in.Goals as goal

pub loop-section-preserved : goal.loop-section-preserved
loop-section-preserved c =
    let below = rw c.as_slice-section-items.ensures at c.loop-section-test.true in
    let is = rw c.as_slice-section-items.ensures at c.section-item.is in
    one_section c.args.bundle.now.name.name c.args.bundle.now.sections c.loop-section.section-index c.section-item.result c.loop-section.number c.in_ok-number.number
    (map seen_numbered c.loop-section.promises.items) (map seen_numbered c.add_section.new.promises.items) below is
    c.in_ok-number.ensures.number c.in_ok-number.ensures.promises
    ∙ c.loop-section.invariant
