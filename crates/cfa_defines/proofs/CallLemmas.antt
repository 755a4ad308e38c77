-- What a call says, what it builds, and what stands between the brackets of a list of expressions.
use Rattle.std.proofs.Common.{◌≡◌, ◌∙◌, ℕ, List, ap, map}
use Rattle.std.specs.declared.alloc.Global.{Global}
use Rattle.std.specs.declared.vec.Vec.{Vec}
use Rattle.cfa_base.specs.declared.places.Place.{Place}
use Rattle.cfa_statuses.specs.declared.levels.Status.{Status}
use Rattle.cfa_tree.specs.declared.values.Value.{Value, List as Listed, Call as Called}
use Rattle.cfa_tree.specs.Plain.{plain_value}
use Rattle.cfa_tree.specs.Tree.{value_trees, values_in}
use Rattle.cfa_tree.specs.lemmas.Rows.{values_in_trees, plain_value-List, plain_value-Call}
use Rattle.cfa_vars.specs.Scopes.{InScope}
use Rattle.cfa_vars.specs.Expansion.{Chosen}
use Rattle.cfa_functions.specs.Builds.{pattern_of_call}
use Rattle.cfa_functions.specs.Calls.{answer_of}
use Rattle.cfa_defines.specs.Items.{items_written}
use Rattle.cfa_defines.specs.Builds.{pattern_of_value}
use Rattle.cfa_defines.specs.ClassPromises.{answer_said, value_said, items_said, list_said}

module _ (scopes : InScope) (choice : Chosen) where
  pub call_said : (status : List ℕ → Status) (v : Value) (name : List ℕ) (values : Vec Value Global) (place : Place) → v ≡ Called name values place → value_said status scopes choice (plain_value v) ≡ answer_said (answer_of scopes choice name (value_trees (map plain_value values.items)))
  call_said status v name values place is = ap (λ x. value_said status scopes choice (plain_value x)) is ∙ ap (value_said status scopes choice) (plain_value-Call name values place)

  pub call_built : (v : Value) (name : List ℕ) (values : Vec Value Global) (place : Place) → v ≡ Called name values place → pattern_of_value scopes choice (plain_value v) ≡ pattern_of_call scopes choice name (value_trees (map plain_value values.items))
  call_built v name values place is = ap (λ x. pattern_of_value scopes choice (plain_value x)) is ∙ ap (pattern_of_value scopes choice) (plain_value-Call name values place)

-- ---- lists of expressions

pub items_of_list_said : (status : List ℕ → Status) (scopes : InScope) (choice : Chosen) (v : Value) (items : Vec Value Global) (place : Place) → v ≡ Listed items place → list_said status scopes choice (plain_value v) ≡ items_said status scopes choice (value_trees (map plain_value items.items))
items_of_list_said status scopes choice v items place is = ap (λ x. list_said status scopes choice (plain_value x)) is ∙ ap (list_said status scopes choice) (plain_value-List items place)

pub values_of_list : (v : Value) (items : Vec Value Global) (place : Place) → v ≡ Listed items place → values_in (items_written (plain_value v)) ≡ map plain_value items.items
values_of_list v items place is =
    ap (λ x. values_in (items_written (plain_value x))) is
    ∙ ap (λ t. values_in (items_written t)) (plain_value-List items place)
    ∙ values_in_trees (map plain_value items.items)
