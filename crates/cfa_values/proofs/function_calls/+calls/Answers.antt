use Rattle.std.proofs.Common.{◌∙◌, ap, sym, map, true, false}
use Rattle.cfa_tree.specs.Plain.{plain_value}
use Rattle.cfa_tree.specs.Tree.{value_trees}
use Rattle.cfa_tree.specs.lemmas.Rows.{plain_value-Call}
use Rattle.cfa_values.specs.Seen.{seen_context}
use Rattle.cfa_values.specs.Refusals.{noted}
use Rattle.cfa_values.specs.Values.{call_refusals, argument_refusals}
use Rattle.cfa_values.proofs.ValueLemmas.{call_known, argument_noted}
use Rattle.cfa_values.proofs.function_calls.+calls.Goals as goal

pub note_argument-returns-in-Call : goal.note_argument-returns-in-Call
note_argument-returns-in-Call t c =
    let s = seen_context c.args.context.now in
    let first = c.args.first.now in
    c.note_call.ensures
    ∙ ap (λ name. noted first (call_refusals s false name (value_trees (map plain_value c.as_slice.result.now)) c.in-Call.place)) c.as_str-in-Call.ensures
    ∙ ap (λ vs. noted first (call_refusals s false c.in-Call.name (value_trees (map plain_value vs)) c.in-Call.place)) c.as_slice.ensures.value
    ∙ ap (λ v. noted first (argument_refusals s c.args.takes_list v))
    (sym (plain_value-Call c.in-Call.name c.in-Call.arguments c.in-Call.place) ∙ sym (ap plain_value c.in-Call.is))

pub note_call-returns-then-takes_count : goal.note_call-returns-then-takes_count
note_call-returns-then-takes_count t c =
    let s = seen_context c.args.context.now in
    c.note_arguments.ensures
    ∙ ap (noted c.args.first.now) (sym (call_known s c.args.wants_class c.args.name.now c.args.arguments.now c.args.place c.function_named.result c.in-Some.function c.answers_class.result true
    c.function_named.ensures c.in-Some.is c.answers_class.ensures c.if-answers_class-wants_class.false (sym c.takes_count.ensures ∙ c.if-takes_count.true)))

pub note_call-returns-else-takes_count : goal.note_call-returns-else-takes_count
note_call-returns-else-takes_count t c =
    let s = seen_context c.args.context.now in
    c.note_if-else-takes_count.ensures
    ∙ ap (noted c.args.first.now) (sym (call_known s c.args.wants_class c.args.name.now c.args.arguments.now c.args.place c.function_named.result c.in-Some.function c.answers_class.result false
    c.function_named.ensures c.in-Some.is c.answers_class.ensures c.if-answers_class-wants_class.false (sym c.takes_count.ensures ∙ c.if-takes_count.false)))

pub note_arguments-loop-place-preserved : goal.note_arguments-loop-place-preserved
note_arguments-loop-place-preserved t c =
    let s = seen_context c.args.context.now in
    let x = c.index-arguments-place.result in
    argument_noted s c.args.function c.args.arguments.now c.loop-place.place x c.loop-place.first c.note_argument.new.first
    c.loop-place-test.true c.index-arguments-place.is
    (c.note_argument.ensures ∙ ap (λ b. noted c.loop-place.first (argument_refusals s b (plain_value x))) c.takes_list.ensures)
    ∙ c.loop-place.invariant
