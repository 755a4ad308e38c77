use Rattle.std.proofs.Common.{◌∙◌, ap, map}
use Rattle.std.specs.List.{flat_map, filter_map}
use Rattle.std.proofs.lemmas.Result.{on_ok_weaker}
use Rattle.cfa_tree.specs.Plain.{plain_value}
use Rattle.cfa_values.specs.Seen.{seen_context}
use Rattle.cfa_values.specs.Values.{known_named, known_item_refusals, repeated}
use Rattle.cfa_values.specs.Refusals.{noted}
use Rattle.cfa_values.specs.Kept.{seen_item}
use Rattle.cfa_values.specs.Noted.{then_noted}
use Rattle.cfa_values.proofs.control_lists.note_input_list.Goals as goal

pub returns : goal.returns
returns c =
    let items = map plain_value c.args.items.now in
    let names = ap (map seen_item) c.deref.ensures.value ∙ c.in_ok-known.ensures in
    on_ok_weaker c.note_repeated.result
    (λ e. then_noted c.args.first.now c.note_known_items.new.first c.note_repeated.new.first
    (flat_map (known_item_refusals (seen_context c.args.context.now)) items) (repeated (filter_map known_named items))
    c.note_known_items.ensures
    (e ∙ ap (λ ns. noted c.note_known_items.new.first (repeated ns)) names))
    c.note_repeated.ensures
