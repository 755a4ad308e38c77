-- An instance is visited where the place of its name is found.
use Rattle.std.proofs.Common.{◌≡◌, ℕ, ◌||◌, ◌&&◌, List, [], ◌∷◌, refl, ap, ◌∙◌}
use Rattle.std.specs.List.{list_any}
use Rattle.std.specs.Option.{is_some}
use Rattle.cfa_base.specs.Index.{Text, same_pair, pair_place_of}
use Rattle.cfa_resolve.specs.declared.instances.Instance.{Instance}
use Rattle.cfa_values.specs.Lookups.{has_position}
use Rattle.cfa_states.specs.declared.walks.Walk.{Walk}
use Rattle.cfa_states.specs.History.{is_named}
use Rattle.cfa_states.specs.Names.{name_of, names_of}
use Rattle.cfa_states.specs.lemmas.Names.{same_instance}
use Rattle.cfa_conflict.specs.Conflicts.{has_acts, is_live}

named_among : (path text : List ℕ) (instances : List Instance)
    → list_any (same_pair (path, text)) (names_of instances) ≡ list_any (is_named path text) instances
named_among path text [] = refl
named_among path text (instance ∷ instances) =
    ap (λ b. b || list_any (same_pair (path, text)) (names_of instances)) (same_instance path text instance)
    ∙ ap (λ b. is_named path text instance || b) (named_among path text instances)

pub visited_where_named : (path text : List ℕ) (instances : List Instance)
    → is_some (pair_place_of (names_of instances) (path, text)) ≡ list_any (is_named path text) instances
visited_where_named path text instances = has_position (same_pair (path, text)) (names_of instances) ∙ named_among path text instances

pub live_by_names : (kept : Walk) (instance : Instance) (names : List (Text × Text)) → names ≡ names_of kept.instances
    → (has_acts instance.work && is_some (pair_place_of names (name_of instance))) ≡ is_live kept instance
live_by_names kept instance names same =
    ap (λ (n : List (Text × Text)). has_acts instance.work && is_some (pair_place_of n (name_of instance))) same
    ∙ ap (λ b. has_acts instance.work && b) (visited_where_named instance.path instance.text kept.instances)
