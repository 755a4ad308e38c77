use Rattle.std.proofs.Common.{◌∙◌, ap, map}
use Rattle.std.specs.List.{flat_map}
use Rattle.cfa_tree.specs.Plain.{plain_attribute}
use Rattle.cfa_values.specs.Seen.{seen_context, kind_in}
use Rattle.cfa_values.specs.Refusals.{noted}
use Rattle.cfa_values.specs.Kept.{seen_item}
use Rattle.cfa_values.specs.Attributes.{attribute_name, attribute_refusals}
use Rattle.cfa_values.specs.Values.{repeated}
use Rattle.cfa_values.specs.Noted.{noted_front, noted_more}
use Rattle.cfa_values.proofs.attributes.note_attributes.Goals as goal

pub loop-attribute-init : goal.loop-attribute-init
loop-attribute-init c =
    let attributes = map plain_attribute c.args.attributes.now in
    noted_front c.args.first.now c.note_repeated.new.first (repeated (map attribute_name attributes)) (flat_map (attribute_refusals (seen_context c.args.context.now) (kind_in c.args.table)) attributes)
    (c.in_ok-note_repeated.ensures
    ∙ ap (λ names. noted c.args.first.now (repeated (map seen_item names))) c.deref.ensures.value
    ∙ ap (λ names. noted c.args.first.now (repeated names)) c.in_ok-attribute_names.ensures)

pub loop-attribute-preserved : goal.loop-attribute-preserved
loop-attribute-preserved c =
    noted_more plain_attribute (attribute_refusals (seen_context c.args.context.now) (kind_in c.args.table)) c.args.attributes.now c.loop-attribute.attribute-index c.attribute-item.result
    c.loop-attribute.first c.note_attribute.new.first c.loop-attribute-test.true c.attribute-item.is c.in_ok-note_attribute.ensures
    ∙ c.loop-attribute.invariant
