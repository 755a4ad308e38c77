use Rattle.std.proofs.Common.{◌∙◌, ap, sym}
use Rattle.std.proofs.lemmas.Result.{on_ok_weaker}
use Rattle.cfa_values.specs.Seen.{seen_context, shaped}
use Rattle.cfa_values.specs.Refusals.{noted}
use Rattle.cfa_values.specs.Values.{class_item_refusals, list_refusals}
use Rattle.cfa_values.proofs.ValueLemmas.{listed}
use Rattle.cfa_values.proofs.class_texts.note_class_list.Goals as goal

pub returns-in-List : goal.returns-in-List
returns-in-List c =
    let s = seen_context c.args.context.now in
    on_ok_weaker c.note_class_items.result (λ e. listed c.args.first.now c.note_class_items.new.first (class_item_refusals s) c.in-List.items.now e
    ∙ ap (λ v. noted c.args.first.now (list_refusals s (class_item_refusals s) v)) (sym (ap shaped c.in-List.is) ∙ c.shape_of.ensures)) c.note_class_items.ensures
