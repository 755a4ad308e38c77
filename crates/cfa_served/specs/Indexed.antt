-- An index answers the first place of each name of bundles, and of bodies of a type, among the blocks.
use Rattle.std.specs.Prelude.{◌≡◌, ℕ, Bool, false, List, Option, Some, None}
use Rattle.std.specs.List.{position}
use Rattle.std.specs.Str.{bytes_eq}
use Rattle.std.specs.FinMap as finite
use Rattle.cfa_base.specs.TextMaps.{TextMap}
use Rattle.cfa_tree.specs.Tree.{BlockTree, PolicyTree}
use Rattle.cfa_kinds.specs.declared.kinds.BodyType.TheVariants as bodies
use Rattle.cfa_served.specs.declared.index.Wanted.{Wanted}
use Rattle.cfa_served.specs.declared.index.Wanted.TheVariants.{Bundle, Body}
use Rattle.cfa_served.specs.declared.index.Index.{Index}
use Rattle.cfa_served.specs.Served.{is_bundle_of, is_body_of}

abbrev pub is_wanted : Wanted → List ℕ → BlockTree → Bool
is_wanted Bundle name b = is_bundle_of name b
is_wanted (Body type) name b = is_body_of type name b

abbrev pub is_name : List ℕ → Option (List ℕ) → Bool
is_name name None = false
is_name name (Some other) = bytes_eq name other

-- a table answers the first place of each name
abbrev pub AnswersPlaces : Wanted → TextMap ℕ → PolicyTree → Type 0
AnswersPlaces wanted places policy =
    (name : List ℕ) → finite.get places name ≡ position (is_wanted wanted name) policy

-- the table of an index for what is wanted
abbrev pub table_of : Index → Wanted → TextMap ℕ
table_of index Bundle = index.bundles
table_of index (Body bodies.Delete) = index.delete
table_of index (Body bodies.CopyFrom) = index.copy_from
table_of index (Body bodies.EditDefaults) = index.edit_defaults
table_of index (Body bodies.Perms) = index.perms
table_of index (Body bodies.Classes) = index.classes
table_of index (Body bodies.Action) = index.action
table_of index (Body bodies.Location) = index.location
table_of index (Body bodies.ReplaceWith) = index.replace_with
table_of index (Body bodies.EditField) = index.edit_field
table_of index (Body bodies.Common) = index.common
table_of index (Body bodies.Agent) = index.agent

-- the place that an index answers for a name of what is wanted
unfoldable pub place_of : Index → Wanted → List ℕ → Option ℕ
place_of index wanted name = finite.get (table_of index wanted) name

-- it answers the first place of each name among the blocks
abbrev pub IsIndex : Index → PolicyTree → Type 0
IsIndex index policy =
    (wanted : Wanted) (name : List ℕ) → place_of index wanted name ≡ position (is_wanted wanted name) policy
