use Rattle.std.proofs.Common.{◌∙◌, ap, sym}
use Rattle.cfa_values.specs.Seen.{seen_context, shaped}
use Rattle.cfa_values.specs.Refusals.{noted}
use Rattle.cfa_values.specs.Values.{full_item_refusals, list_refusals}
use Rattle.cfa_values.proofs.ValueLemmas.{listed}
use Rattle.cfa_values.proofs.lists.note_list_of_full.Goals as goal

pub returns-in-List : goal.returns-in-List
returns-in-List c =
    let s = seen_context c.args.context.now in
    listed c.args.first.now c.note_full_items.new.first (full_item_refusals s) c.in-List.items.now c.note_full_items.ensures
    ∙ ap (λ v. noted c.args.first.now (list_refusals s (full_item_refusals s) v)) (sym (ap shaped c.in-List.is) ∙ c.shape_of.ensures)
