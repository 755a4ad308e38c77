-- What a policy serves: its bundles and bodies by their names, its common bundles in text order, and the minutes that `body
-- agent control` gives.
use Rattle.std.specs.Prelude.{ℕ, Bool, true, false, ◌&&◌, List, codes, find, filter, option_and_then, Option, Some, None}
use Rattle.std.specs.Str.{bytes_eq}
use Rattle.cfa_tree.specs.Tree.{NamedTree, BlockTree, bundle, body, PolicyTree}
use Rattle.cfa_kinds.specs.declared.kinds.BundleType.{BundleType}
use Rattle.cfa_kinds.specs.declared.kinds.BundleType.TheVariants.{Common}
use Rattle.cfa_kinds.specs.declared.kinds.BodyType.{BodyType}
use Rattle.cfa_kinds.specs.declared.kinds.BodyType.TheVariants as bodies
use Rattle.cfa_kinds.specs.Forms.{minutes_written}
use Rattle.cfa_kinds.specs.Kinds.{bundle_type, body_word}
use Rattle.cfa_values.specs.Attributes.{value_of}
use Rattle.cfa_values.specs.Values.{known_named}

abbrev pub is_bundle_of : List ℕ → BlockTree → Bool
is_bundle_of name (bundle type_name named params sections place) = bytes_eq name named.name
is_bundle_of name (body type_name named params attributes place) = false

abbrev pub is_body_of : BodyType → List ℕ → BlockTree → Bool
is_body_of type name (bundle type_name named params sections place) = false
is_body_of type name (body type_name named params attributes place) =
    bytes_eq (body_word type) type_name.name && bytes_eq name named.name

abbrev pub if_bundle : BlockTree → Option BlockTree
if_bundle (bundle type_name named params sections place) = Some (bundle type_name named params sections place)
if_bundle (body type_name named params attributes place) = None

abbrev pub if_body : BlockTree → Option BlockTree
if_body (bundle type_name named params sections place) = None
if_body (body type_name named params attributes place) = Some (body type_name named params attributes place)

-- the first bundle of a name
unfoldable pub bundle_of : PolicyTree → List ℕ → Option BlockTree
bundle_of policy name = option_and_then if_bundle (find (is_bundle_of name) policy)

-- the first body of a type and name
unfoldable pub body_of : PolicyTree → BodyType → List ℕ → Option BlockTree
body_of policy type name = option_and_then if_body (find (is_body_of type name) policy)

abbrev pub is_common_type : Option BundleType → Bool
is_common_type None = false
is_common_type (Some Common) = true
is_common_type (Some type) = false

abbrev pub is_common : BlockTree → Bool
is_common (bundle type_name named params sections place) = is_common_type (bundle_type type_name.name)
is_common (body type_name named params attributes place) = false

-- the common bundles, in text order
unfoldable pub common_bundles_of : PolicyTree → List BlockTree
common_bundles_of policy = filter is_common policy

abbrev pub minutes_named : Option NamedTree → Option ℕ
minutes_named None = None
minutes_named (Some n) = minutes_written n.name

abbrev pub minutes_in : Option BlockTree → Option ℕ
minutes_in None = None
minutes_in (Some (bundle type_name named params sections place)) = None
minutes_in (Some (body type_name named params attributes place)) =
    option_and_then (λ v. minutes_named (known_named v)) (value_of (codes "ifelapsed") attributes)

abbrev pub or_one : Option ℕ → ℕ
or_one None = 1
or_one (Some n) = n

-- the minutes of `body agent control`, 1 where they are missing
unfoldable pub minutes_of : PolicyTree → ℕ
minutes_of policy = or_one (minutes_in (body_of policy bodies.Agent (codes "control")))
