use Rattle.std.proofs.Common.{◌∙◌, ◌++◌, ap, sym, subst, map, List, ℕ}
use Rattle.std.specs.Prelude.{codes, OnOk}
use Rattle.std.proofs.lemmas.Result.{on_ok_weaker}
use Rattle.cfa_base.specs.Joined.{joined}
use Rattle.cfa_tree.specs.Plain.{plain_value}
use Rattle.cfa_printer.specs.OfTheCode.{Appends}
use Rattle.cfa_printer.specs.Printing.{in_parentheses, printed_value}
use Rattle.cfa_printer.proofs.Loops.{regrouped, text_end, text_turn}
use Rattle.cfa_printer.proofs.ValueTexts.{call_is, call_text, list_is, no_items, some_items}
use Rattle.cfa_printer.proofs.values.+printing.Goals as goal

pub push_value-returns-in-List : goal.push_value-returns-in-List
push_value-returns-in-List t c =
    subst (λ (x : List ℕ). OnOk c.push_list.result (Appends c.args.out.now c.push_list.new.out x))
    (sym (list_is _ _ _ _ c.in-List.is c.as_slice.ensures.value)) c.push_list.ensures

pub push_value-returns-in-Call : goal.push_value-returns-in-Call
push_value-returns-in-Call t c =
    subst (λ (x : List ℕ). OnOk c.push_call.result (Appends c.args.out.now c.push_call.new.out x))
    (ap (λ name. name ++ in_parentheses (joined (codes ", ") (map (λ v. printed_value (plain_value v)) c.as_slice-in-Call.result.now))) c.as_str-in-Call.ensures
    ∙ sym (call_is _ _ _ _ _ c.in-Call.is c.as_slice-in-Call.ensures.value)) c.push_call.ensures

pub push_values-loop-i-preserved : goal.push_values-loop-i-preserved
push_values-loop-i-preserved t c =
    text_turn (λ v. printed_value (plain_value v)) _ _ _ _ _ c.args.values.now c.loop-i.i c.index-values-i.result c.loop-i-test.true c.index-values-i.is
    c.in_ok-push_between.ensures c.in_ok-push_value.ensures c.loop-i.invariant

pub push_values-returns : goal.push_values-returns
push_values-returns t c = text_end (λ v. printed_value (plain_value v)) _ _ _ _ _ c.loop-i-test.false c.loop-i.invariant

pub push_list-returns-then-is_empty : goal.push_list-returns-then-is_empty
push_list-returns-then-is_empty t c =
    subst (λ (x : List ℕ). OnOk c.push_text.result (Appends c.args.out.now c.push_text.new.out x))
    (sym (no_items _ (sym c.is_empty.ensures ∙ c.if-is_empty.true))) c.push_text.ensures

pub push_list-returns : goal.push_list-returns
push_list-returns t c =
    on_ok_weaker c.push_text-2.result
    (λ e. regrouped _ (codes "{ ") _ (codes " }") _ _ _ _ (some_items c.args.items.now (sym c.is_empty.ensures ∙ c.if-is_empty.false))
    c.in_ok-push_str.ensures.bytes c.in_ok-push_values.ensures e) c.push_text-2.ensures

pub push_call-returns : goal.push_call-returns
push_call-returns t c =
    on_ok_weaker c.push_text.result
    (λ e. call_text _ _ _ _ _ _ _ c.in_ok-push_str.ensures.bytes c.in_ok-push_str-2.ensures.bytes c.in_ok-push_values.ensures e) c.push_text.ensures
