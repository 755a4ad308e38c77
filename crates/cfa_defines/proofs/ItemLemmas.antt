-- How many items a list gives, by what stands between its brackets.
use Rattle.std.proofs.Common.{◌≡◌, ◌∙◌, ap, map, nat_lt}
use Rattle.std.specs.declared.alloc.Global.{Global}
use Rattle.std.specs.declared.vec.Vec.{Vec}
use Rattle.cfa_base.specs.declared.limits.TheConstants.{MOST_COMBINATIONS}
use Rattle.cfa_base.specs.declared.places.Place.{Place}
use Rattle.cfa_tree.specs.declared.values.Value.{Value, List as Listed}
use Rattle.cfa_tree.specs.Plain.{plain_value}
use Rattle.cfa_tree.specs.Tree.{value_trees}
use Rattle.cfa_tree.specs.lemmas.Rows.{plain_value-List}
use Rattle.cfa_vars.specs.Scopes.{InScope}
use Rattle.cfa_defines.specs.Items.{counted, item_count}

pub many_in_list : (scopes : InScope) (v : Value) (items : Vec Value Global) (place : Place) → v ≡ Listed items place → nat_lt MOST_COMBINATIONS (item_count scopes (plain_value v)) ≡ nat_lt MOST_COMBINATIONS (counted scopes (value_trees (map plain_value items.items)))
many_in_list scopes v items place is = ap (λ x. nat_lt MOST_COMBINATIONS (item_count scopes (plain_value x))) is ∙ ap (λ t. nat_lt MOST_COMBINATIONS (item_count scopes t)) (plain_value-List items place)
