-- What passes in a valid policy: the names of its bundles, each of its blocks, and no type but those of the tables.
use Rattle.std.proofs.Common.{◌≡◌, Bool, true, false, [], ◌++◌, inl}
use Rattle.std.specs.Prelude.{codes}
use Rattle.std.specs.List.{Contains, flat_map, filter_map}
use Rattle.cfa_base.specs.declared.places.Place.{Place}
use Rattle.cfa_base.specs.lemmas.Lists.{none_left, none_right, one_empty, none_in}
use Rattle.cfa_tree.specs.Tree.{BlockTree, PolicyTree}
use Rattle.cfa_values.specs.Values.{repeated}
use Rattle.cfa_values.specs.Attributes.{value_of}
use Rattle.cfa_served.specs.Control.{control_of}
use Rattle.cfa_schema.specs.Defined.{definitions_of}
use Rattle.cfa_schema.specs.Valid.{Valid, refusals, repeated_bodies_after, body_name, bundle_name, default_refusals, block_refusals, other_type}

-- no bundle of a valid policy has the name of one before it
pub names_pass : (policy : PolicyTree) → Valid policy → repeated (filter_map bundle_name policy) ≡ []
unfolding refusals
names_pass policy valid =
    let others = repeated_bodies_after [] (filter_map body_name policy) in
    let default = default_refusals (definitions_of policy) (value_of (codes "bundlesequence") (control_of policy)) in
    let blocks = flat_map (block_refusals (definitions_of policy)) policy in
    none_left (repeated (filter_map bundle_name policy)) (others ++ (default ++ blocks)) (none_in (refusals policy) (λ r c. valid.none_applies r (inl c)))

-- no block of a valid policy is refused
pub block_passes : (policy : PolicyTree) (b : BlockTree) → Valid policy → Contains policy b → block_refusals (definitions_of policy) b ≡ []
unfolding refusals
block_passes policy b valid h =
    let names = repeated (filter_map bundle_name policy) in
    let others = repeated_bodies_after [] (filter_map body_name policy) in
    let default = default_refusals (definitions_of policy) (value_of (codes "bundlesequence") (control_of policy)) in
    let blocks = flat_map (block_refusals (definitions_of policy)) policy in
    let none : (names ++ (others ++ (default ++ blocks))) ≡ [] = none_in (refusals policy) (λ r c. valid.none_applies r (inl c)) in
    one_empty (block_refusals (definitions_of policy)) policy b
    (none_right default blocks (none_right others (default ++ blocks) (none_right names (others ++ (default ++ blocks)) none))) h

-- no other type stands in a valid policy
pub never_other : (b : Bool) (place : Place) → other_type b place ≡ [] → ⊥
never_other true place e = cc
never_other false place e = cc
