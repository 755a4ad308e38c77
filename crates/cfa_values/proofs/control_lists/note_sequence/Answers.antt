use Rattle.std.proofs.Common.{◌∙◌, ◌++◌, ap, sym}
use Rattle.std.specs.List.{flat_map, filter_map}
use Rattle.std.proofs.lemmas.Result.{on_ok_weaker}
use Rattle.cfa_values.specs.Seen.{seen_context, shaped}
use Rattle.cfa_values.specs.Values.{known_named, known_item_refusals, sequence_item_refusals, repeated, sequence_refusals}
use Rattle.cfa_values.specs.Refusals.{noted}
use Rattle.cfa_values.proofs.ValueLemmas.{listed_whole}
use Rattle.cfa_values.proofs.control_lists.note_sequence.Goals as goal

pub returns-in-List : goal.returns-in-List
returns-in-List c =
    let s = seen_context c.args.context.now in
    on_ok_weaker c.note_sequence_list.result (λ e. listed_whole c.args.first.now c.note_sequence_list.new.first (λ vs. flat_map (known_item_refusals s) vs ++ (flat_map (sequence_item_refusals s.definitions) (filter_map known_named vs) ++ repeated (filter_map known_named vs)))
    c.in-List.items.now e
    ∙ ap (λ v. noted c.args.first.now (sequence_refusals s v)) (sym (ap shaped c.in-List.is) ∙ c.shape_of.ensures)) c.note_sequence_list.ensures
