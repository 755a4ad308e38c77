use Rattle.std.proofs.Common.{◌≡◌, ◌∙◌, ℕ, ap, sym, subst, map, IfOk, List, Option}
use Rattle.cfa_base.specs.Patterns.{SizeRefusal}
use Rattle.cfa_functions.specs.Builds.{IsBuilt, refused_in, pattern_of_call}
use Rattle.cfa_functions.specs.Calls.{answer_of}
use Rattle.cfa_tree.specs.Plain.{plain_value}
use Rattle.cfa_tree.specs.Tree.{value_trees}
use Rattle.cfa_defines.specs.declared.saying.Said.{Said}
use Rattle.cfa_defines.specs.ClassPromises.{answer_said}
use Rattle.cfa_defines.specs.OfTheCode.{variables_of, status_of}
use Rattle.cfa_defines.proofs.CallLemmas.{call_said, call_built}
use Rattle.cfa_defines.proofs.expressions.value_said.Goals as goal

pub returns-in-Call-clause-said : goal.returns-in-Call-clause-said
returns-in-Call-clause-said g c =
    let scopes = variables_of c.args.context.now in
    let choice = c.args.context.now.choice.now in
    let same = ap (λ vs. answer_said (answer_of scopes choice c.in-Call.name (value_trees (map plain_value vs)))) c.as_slice.ensures.value in
    let whole = call_said scopes choice (status_of c.args.context.now) c.args.value.now c.in-Call.name c.in-Call.arguments c.in-Call.field-2 c.in-Call.is in
    subst (λ (x : Said). IfOk c.call_said.result (λ s. s ≡ x)) (same ∙ sym whole) c.call_said.ensures.said

pub returns-in-Call-clause-sizes : goal.returns-in-Call-clause-sizes
returns-in-Call-clause-sizes g c =
    let scopes = variables_of c.args.context.now in
    let choice = c.args.context.now.choice.now in
    let same = ap (λ vs. pattern_of_call scopes choice c.in-Call.name (value_trees (map plain_value vs))) c.as_slice.ensures.value in
    let whole = call_built scopes choice c.args.value.now c.in-Call.name c.in-Call.arguments c.in-Call.field-2 c.in-Call.is in
    subst (λ (p : Option (List ℕ)). SizeRefusal (IsBuilt p) (refused_in c.call_said.result) (g.P.Patterns.shown c.args.pats.now) (g.P.Patterns.shown c.call_said.new.pats)) (same ∙ sym whole) c.call_said.ensures.sizes
