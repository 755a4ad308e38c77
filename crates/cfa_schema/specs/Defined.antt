-- What a policy defines: its bundles, its bodies and its sequence.
use Rattle.std.specs.Prelude.{Bool, ◌||◌, length, codes, Option, Some, None, is_some}
use Rattle.std.specs.List.{filter_map}
use Rattle.cfa_tree.specs.Tree.{BlockTree, bundle, body, PolicyTree}
use Rattle.cfa_kinds.specs.Kinds.{bundle_type}
use Rattle.cfa_values.specs.Definitions.{Definitions, BodyHead, BundleHead, bundle_named, is_agent_head}
use Rattle.cfa_served.specs.Control.{control_of, sequence_of}
use Rattle.cfa_values.specs.Attributes.{value_of}

abbrev pub bundle_head : BlockTree → Option BundleHead
bundle_head (bundle type_name name params sections place) = Some (record { type = bundle_type type_name.name; name = name.name; params = length params; place = name.place })
bundle_head (body type_name name params attributes place) = None

abbrev pub body_head : BlockTree → Option BodyHead
body_head (bundle type_name name params sections place) = None
body_head (body type_name name params attributes place) = Some (record { type_word = type_name.name; name = name.name; params = length params })

-- ---- what is defined

unfoldable pub definitions_of : PolicyTree → Definitions
definitions_of policy = record { bundles = filter_map bundle_head policy; bodies = filter_map body_head policy; sequence = sequence_of policy }

-- there is a bundlesequence, or an agent bundle `main`
unfoldable pub has_sequence : PolicyTree → Bool
has_sequence policy =
    is_some (value_of (codes "bundlesequence") (control_of policy)) || is_agent_head (bundle_named (definitions_of policy) (codes "main"))
