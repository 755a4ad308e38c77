use Rattle.std.proofs.Common.{◌∙◌, ap, sym}
use Rattle.cfa_kinds.specs.declared.kinds.BundleType.TheVariants.{EditLine}
use Rattle.cfa_values.specs.Seen.{seen_context, shaped}
use Rattle.cfa_values.specs.Refusals.{noted}
use Rattle.cfa_values.specs.Values.{item_refusals, named_bundle, edit_refusals}
use Rattle.cfa_values.proofs.ValueLemmas.{named_call}
use Rattle.cfa_values.proofs.named_blocks.note_edit_value.Goals as goal

pub returns-in-Call : goal.returns-in-Call
returns-in-Call c =
    let s = seen_context c.args.context.now in
    named_call c.args.first.now c.note_bundle_name-in-Call.new.first c.note_items.new.first (λ count. named_bundle s EditLine c.in-Call.name.now count c.in-Call.place)
    (item_refusals s) c.in-Call.arguments.now c.note_bundle_name-in-Call.ensures c.note_items.ensures
    ∙ ap (λ v. noted c.args.first.now (edit_refusals s v)) (sym (ap shaped c.in-Call.is) ∙ c.shape_of.ensures)
