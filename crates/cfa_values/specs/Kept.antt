-- Of the code alone: what it keeps of a policy's definitions and of a name with its place.
use Rattle.std.specs.Prelude.{ℕ, List}
use Rattle.cfa_tree.specs.Tree.{NamedTree}
use Rattle.cfa_values.specs.declared.definitions.BundleEntry.{BundleEntry}
use Rattle.cfa_values.specs.declared.definitions.BodyEntry.{BodyEntry}
use Rattle.cfa_values.specs.declared.items.Item.{Item}
use Rattle.cfa_values.specs.Definitions.{BundleHead, BodyHead}

abbrev pub seen_bundle : BundleEntry → BundleHead
seen_bundle b = record { type = b.bundle_type; name = b.name.now; params = b.params; place = b.place }

abbrev pub seen_body : BodyEntry → BodyHead
seen_body b = record { type_word = b.type_word.now; name = b.name.now; params = b.params }

abbrev pub seen_item : Item → NamedTree
seen_item item = record { name = item.name.now; place = item.place }

abbrev pub bundle_key : BundleHead → List ℕ
bundle_key b = b.name

abbrev pub body_key : BodyHead → List ℕ × List ℕ
body_key b = (b.type_word, b.name)

abbrev pub item_name : Item → List ℕ
item_name item = item.name.now
