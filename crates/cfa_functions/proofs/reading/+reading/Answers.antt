use Rattle.std.proofs.Common.{◌≡◌, ◌∙◌, ap, sym, subst, IfOk, map}
use Rattle.cfa_tree.specs.Plain.{plain_value}
use Rattle.cfa_tree.specs.Tree.{value_trees}
use Rattle.cfa_vars.specs.Scopes.{in_scope}
use Rattle.cfa_functions.specs.declared.reading.ValueText.{ValueText}
use Rattle.cfa_kinds.specs.Functions.{function_named}
use Rattle.cfa_functions.specs.Calls.{nested, arguments_given}
use Rattle.cfa_functions.proofs.ArgumentLemmas.{call_given}
use Rattle.cfa_functions.proofs.reading.+reading.Goals as goal

pub text_of_value-returns-in-Call : goal.text_of_value-returns-in-Call
text_of_value-returns-in-Call t c =
    let scopes = in_scope c.args.scopes.now in
    let whole = call_given scopes c.args.choice.now c.args.value.now c.in-Call.name c.in-Call.arguments c.in-Call.field-2 c.in-Call.is in
    let same = ap (λ vs. nested (function_named c.in-Call.name) (λ f. arguments_given scopes c.args.choice.now f 0 (value_trees (map plain_value vs)))) c.as_slice.ensures.value in
    subst (λ (x : ValueText). IfOk c.answer_nested.result (λ v. v ≡ x)) (same ∙ sym whole) c.answer_nested.ensures
