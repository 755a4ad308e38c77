-- What a list names before the run.
use Rattle.std.proofs.Common.{◌≡◌, List, [], ◌∷◌, map, refl, ap, sym, ◌∙◌}
use Rattle.std.specs.List.{filter_map}
use Rattle.cfa_base.specs.declared.places.Place.{Place}
use Rattle.cfa_tree.specs.declared.values.Value.{Value}
use Rattle.cfa_tree.specs.Plain.{plain_value}
use Rattle.cfa_tree.specs.Tree.{list, value_trees}
use Rattle.cfa_tree.specs.lemmas.Rows.{values_in_trees}
use Rattle.cfa_values.specs.declared.items.Item.{Item}
use Rattle.cfa_values.specs.Kept.{item_name, seen_item}
use Rattle.cfa_values.specs.Values.{known_named, name_in}
use Rattle.cfa_served.specs.Control.{names_listed}

names_seen : (items : List Item) → map item_name items ≡ map name_in (map seen_item items)
names_seen [] = refl
names_seen (item ∷ items) = ap (λ rest. item.name.now ∷ rest) (names_seen items)

-- the names of a list's known items are those that it lists
pub names_of_list : (definitions : List Item) (items : List Value) (place : Place) →
    map seen_item definitions ≡ filter_map known_named (map plain_value items) →
    map item_name definitions ≡ names_listed (list (value_trees (map plain_value items)) place)
names_of_list definitions items place e =
    names_seen definitions ∙ ap (map name_in) (e ∙ ap (filter_map known_named) (sym (values_in_trees (map plain_value items))))
