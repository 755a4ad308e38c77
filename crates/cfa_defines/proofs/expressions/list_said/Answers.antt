use Rattle.std.proofs.Common.{◌≡◌, ◌∙◌, ap, sym, subst, map, IfOk, List}
use Rattle.cfa_base.specs.Patterns.{SizeRefusal}
use Rattle.cfa_functions.specs.Builds.{refused_in}
use Rattle.cfa_tree.specs.Plain.{plain_value}
use Rattle.cfa_tree.specs.Tree.{ValueTree, value_trees}
use Rattle.cfa_defines.specs.declared.saying.Said.{Said}
use Rattle.cfa_defines.specs.Builds.{BuiltAmong}
use Rattle.cfa_defines.specs.OfTheCode.{together, variables_of, status_of, items_in}
use Rattle.cfa_defines.proofs.CallLemmas.{items_of_list_said, values_of_list}
use Rattle.cfa_defines.proofs.expressions.list_said.Goals as goal

pub returns-in-List-clause-said : goal.returns-in-List-clause-said
returns-in-List-clause-said g c =
    let context = c.args.context.now in
    let same = ap (λ vs. items_in context (value_trees (map plain_value vs))) c.as_slice.ensures.value in
    let whole = items_of_list_said (status_of context) (variables_of context) context.choice.now c.args.value.now c.in-List.items c.in-List.field-1 c.in-List.is in
    subst (λ (x : List Said). IfOk c.items_said.result (λ s. s ≡ together c.args.join x)) (same ∙ sym whole) c.items_said.ensures.said

pub returns-in-List-clause-sizes : goal.returns-in-List-clause-sizes
returns-in-List-clause-sizes g c =
    let context = c.args.context.now in
    let same = ap (map plain_value) c.as_slice.ensures.value in
    let whole = values_of_list c.args.value.now c.in-List.items c.in-List.field-1 c.in-List.is in
    subst (λ (vs : List ValueTree). SizeRefusal (BuiltAmong (variables_of context) context.choice.now vs) (refused_in c.items_said.result) (g.P.Patterns.shown c.args.pats.now) (g.P.Patterns.shown c.items_said.new.pats)) (same ∙ sym whole) c.items_said.ensures.sizes
