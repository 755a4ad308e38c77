use Rattle.std.proofs.Common.{◌∙◌, ◌++◌, ap, map}
use Rattle.std.specs.List.{flat_map, filter_map}
use Rattle.std.proofs.lemmas.Result.{on_ok_weaker}
use Rattle.cfa_tree.specs.Plain.{plain_value}
use Rattle.cfa_values.specs.Seen.{seen_context}
use Rattle.cfa_values.specs.Values.{known_named, known_item_refusals, sequence_item_refusals, repeated}
use Rattle.cfa_values.specs.Refusals.{noted}
use Rattle.cfa_values.specs.Kept.{seen_item}
use Rattle.cfa_values.specs.Noted.{then_noted}
use Rattle.cfa_values.proofs.control_lists.note_sequence_list.Goals as goal

pub returns : goal.returns
returns c =
    let s = seen_context c.args.context.now in
    let items = map plain_value c.args.items.now in
    let named = flat_map (sequence_item_refusals s.definitions) (filter_map known_named items) in
    let twice = repeated (filter_map known_named items) in
    let items_are = ap (map seen_item) c.deref.ensures.value ∙ c.in_ok-known.ensures in
    let names_are = ap (map seen_item) c.deref-2.ensures.value ∙ c.in_ok-known.ensures in
    on_ok_weaker c.note_repeated.result
    (λ e. then_noted c.args.first.now c.note_known_items.new.first c.note_repeated.new.first (flat_map (known_item_refusals s) items) (named ++ twice)
    c.note_known_items.ensures
    (then_noted c.note_known_items.new.first c.note_sequence_items.new.first c.note_repeated.new.first named twice
    (c.note_sequence_items.ensures ∙ ap (λ ns. noted c.note_known_items.new.first (flat_map (sequence_item_refusals s.definitions) ns)) items_are)
    (e ∙ ap (λ ns. noted c.note_sequence_items.new.first (repeated ns)) names_are)))
    c.note_repeated.ensures
