use Rattle.std.proofs.Common.{◌∙◌, ap, sym, map, nat_lt}
use Rattle.cfa_base.specs.declared.limits.TheConstants.{MOST_COMBINATIONS}
use Rattle.cfa_tree.specs.Plain.{plain_value}
use Rattle.cfa_tree.specs.Tree.{value_trees}
use Rattle.cfa_vars.specs.Scopes.{in_scope}
use Rattle.cfa_defines.specs.Items.{counted}
use Rattle.cfa_defines.proofs.ItemLemmas.{many_in_list}
use Rattle.cfa_defines.proofs.items.has_many_items.Goals as goal

pub returns-in-List : goal.returns-in-List
returns-in-List c =
    let scopes = in_scope c.args.scopes.now in
    c.have_many.ensures
    ∙ ap (λ vs. nat_lt MOST_COMBINATIONS (counted scopes (value_trees (map plain_value vs)))) c.as_slice.ensures.value
    ∙ sym (many_in_list scopes c.args.value.now c.in-List.items c.in-List.field-1 c.in-List.is)
