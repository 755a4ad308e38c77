-- The promises of a bundle, each with its id and its type, in text order: they are numbered from 1 over all types.
use Rattle.std.specs.Prelude.{ℕ, ◌+◌, Bool, true, false, List, [], ◌∷◌, filter, Option, Some, None}
use Rattle.std.specs.List.{flat_map, cons_option}
use Rattle.cfa_base.specs.declared.places.PromiseId.{PromiseId}
use Rattle.cfa_tree.specs.Tree.{PromiseTree, NamedTree, BlockTree, bundle, body}
use Rattle.cfa_kinds.specs.declared.kinds.PromiseType.{PromiseType}
use Rattle.cfa_kinds.specs.declared.kinds.PromiseType.TheVariants.{Vars, Classes, Files, Methods, Services, Reports, DeleteLines, FieldEdits, InsertLines, ReplacePatterns}
use Rattle.cfa_kinds.specs.Kinds.{promise_type}
use Rattle.cfa_served.specs.Checked.{worded_promises_of}

pub record Numbered : Type 0 where
  pub id : PromiseId
  pub type : PromiseType
  pub promise : PromiseTree

abbrev pub numbered_as : (bundle_name : List ℕ) → ℕ → PromiseTree → Option PromiseType → Option Numbered
numbered_as bundle_name number promise None = None
numbered_as bundle_name number promise (Some type) = Some (record {
  id = record { bundle = bundle_name; number = number; line = promise.place.line };
  type = type;
  promise = promise;
})

abbrev pub numbered_from : (bundle_name : List ℕ) → ℕ → List (List ℕ × PromiseTree) → List Numbered
numbered_from bundle_name number [] = []
numbered_from bundle_name number (p ∷ more) =
    cons_option (numbered_as bundle_name number p.1 (promise_type p.0)) (numbered_from bundle_name (number + 1) more)

abbrev pub numbered_in : BlockTree → List Numbered
numbered_in (bundle type_name named params sections place) = numbered_from named.name 1 (flat_map worded_promises_of sections)
numbered_in (body type_name named params attributes place) = []

abbrev pub params_of : BlockTree → List NamedTree
params_of (bundle type_name named params sections place) = params
params_of (body type_name named params attributes place) = []

abbrev pub name_of : BlockTree → List ℕ
name_of (bundle type_name named params sections place) = named.name
name_of (body type_name named params attributes place) = named.name

-- ---- the order of types

-- what an activation goes through in each pass
abbrev pub agent_types : List PromiseType
agent_types = Vars ∷ Classes ∷ Files ∷ Methods ∷ Services ∷ Reports ∷ []

abbrev pub common_types : List PromiseType
common_types = Vars ∷ Classes ∷ []

-- what a walk of an edit bundle goes through
abbrev pub edit_types : List PromiseType
edit_types = Vars ∷ Classes ∷ DeleteLines ∷ FieldEdits ∷ InsertLines ∷ ReplacePatterns ∷ []

abbrev pub is_type : PromiseType → PromiseType → Bool
is_type Vars Vars = true
is_type Classes Classes = true
is_type Files Files = true
is_type Methods Methods = true
is_type Services Services = true
is_type Reports Reports = true
is_type DeleteLines DeleteLines = true
is_type FieldEdits FieldEdits = true
is_type InsertLines InsertLines = true
is_type ReplacePatterns ReplacePatterns = true
is_type type other = false

-- the promises of one type
abbrev pub of_type : PromiseType → List Numbered → List Numbered
of_type type promises = filter (λ p. is_type type p.type) promises
