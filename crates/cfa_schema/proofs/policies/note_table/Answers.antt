use Rattle.std.proofs.Common.{◌∙◌, ap, map}
use Rattle.std.proofs.lemmas.Result.{on_ok_weaker}
use Rattle.cfa_tree.specs.Plain.{plain_attribute, plain_block, plain_policy}
use Rattle.cfa_values.specs.Refusals.{noted}
use Rattle.cfa_values.specs.Kept.{seen_item}
use Rattle.cfa_values.specs.Values.{repeated}
use Rattle.cfa_schema.proofs.PolicyLemmas.{table_noted}
use Rattle.cfa_schema.proofs.policies.note_table.Goals as goal

pub returns : goal.returns
returns c =
    on_ok_weaker c.note_blocks.result
    (table_noted (plain_policy c.args.policy.now) (map plain_block c.as_slice-blocks.result.now) c.args.definitions.now (map seen_item c.in_ok-bundle_items.field-0.items) (map plain_attribute c.control_attributes.result.now)
    c.args.first.now c.note_repeated.new.first c.note_repeated_bodies.new.first c.note_default.new.first c.note_blocks.new.first
    (ap (map plain_block) c.as_slice-blocks.ensures) c.requires c.in_ok-bundle_items.ensures c.control_attributes.ensures
    (c.in_ok-note_repeated.ensures ∙ ap (λ names. noted c.args.first.now (repeated (map seen_item names))) c.deref.ensures.value)
    c.in_ok-note_repeated_bodies.ensures c.note_default.ensures)
    c.note_blocks.ensures
