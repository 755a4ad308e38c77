use Rattle.std.proofs.Common.{◌≡◌, ◌∙◌, ap, sym, subst, IfOk, map}
use Rattle.cfa_tree.specs.Plain.{plain_value}
use Rattle.cfa_tree.specs.Tree.{value_trees}
use Rattle.cfa_vars.specs.Scopes.{in_scope}
use Rattle.cfa_functions.specs.declared.listing.ValueList.{ValueList}
use Rattle.cfa_functions.specs.Calls.{items_given}
use Rattle.cfa_functions.proofs.ArgumentLemmas.{list_by_items}
use Rattle.cfa_functions.proofs.listing.list_of_value.Goals as goal

pub returns-in-List : goal.returns-in-List
returns-in-List c =
    let scopes = in_scope c.args.scopes.now in
    let whole = list_by_items scopes c.args.choice.now c.args.value.now c.in-List.items c.in-List.field-1 c.in-List.is in
    let same = ap (λ vs. items_given scopes c.args.choice.now (value_trees (map plain_value vs))) c.as_slice.ensures.value in
    subst (λ (x : ValueList). IfOk c.items_given.result (λ l. l ≡ x)) (same ∙ sym whole) c.items_given.ensures
