use Rattle.std.proofs.Common.{◌∙◌, ◌++◌, ap, sym}
use Rattle.std.specs.Prelude.{nat_lt}
use Rattle.std.specs.List.{flat_map, filter_map}
use Rattle.cfa_base.specs.declared.limits.TheConstants.{MOST_INPUTS}
use Rattle.std.proofs.lemmas.Result.{on_ok_weaker}
use Rattle.cfa_values.specs.Seen.{seen_context, shaped}
use Rattle.cfa_values.specs.Values.{known_named, known_item_refusals, repeated, input_refusals}
use Rattle.cfa_values.specs.Refusals.{noted, only_if}
use Rattle.cfa_values.proofs.ValueLemmas.{counted_whole}
use Rattle.cfa_values.proofs.control_lists.note_inputs.Goals as goal
use Rattle.cfa_values.specs.declared.refusals.Code.TheVariants.{WrongValue}

pub returns-in-List : goal.returns-in-List
returns-in-List c =
    let s = seen_context c.args.context.now in
    on_ok_weaker c.note_input_list.result (λ e. counted_whole c.args.first.now c.note_if.new.first c.note_input_list.new.first (λ count. only_if (nat_lt MOST_INPUTS count) WrongValue c.in-List.place)
    (λ vs. flat_map (known_item_refusals s) vs ++ repeated (filter_map known_named vs))
    c.in-List.items.now c.note_if.ensures e
    ∙ ap (λ v. noted c.args.first.now (input_refusals s v)) (sym (ap shaped c.in-List.is) ∙ c.shape_of.ensures)) c.note_input_list.ensures
