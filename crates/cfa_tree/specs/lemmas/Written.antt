-- Pieces of policies that are written by hand, for the rows that the prover computes. All stand at one place.
use Rattle.std.specs.Prelude.{ℕ, List, [], ◌∷◌, map, codes, Some, None}
use Rattle.cfa_base.specs.declared.places.Place.{Place}
use Rattle.cfa_tree.specs.Tree.{ExprTree, ValueTree, text, list, value_trees, AttributeTree, PromiseTree, SectionTree, NamedTree, BlockTree, bundle, body}

abbrev pub here : Place
here = record { file = 0; line = 4; col = 5 }

abbrev pub named : List ℕ → NamedTree
named name = record { name = name; place = here }

abbrev pub quoted : List ℕ → ValueTree
quoted content = text content here

abbrev pub says : List ℕ → ValueTree → AttributeTree
says name value = record { name = name; value = value; place = here }

abbrev pub items : List (List ℕ) → ValueTree
items contents = list (value_trees (map quoted contents)) here

-- a promise under a guard
abbrev pub under : ExprTree → List ℕ → List AttributeTree → PromiseTree
under guard promiser attributes =
    record { guard = Some guard; promiser = promiser; promisee = None; attributes = attributes; place = here }

abbrev pub promise : List ℕ → List AttributeTree → PromiseTree
promise promiser attributes =
    record { guard = None; promiser = promiser; promisee = None; attributes = attributes; place = here }

abbrev pub section : List ℕ → List PromiseTree → SectionTree
section kind promises = record { kind = kind; promises = promises; place = here }

abbrev pub a_bundle : (kind name : List ℕ) → List SectionTree → BlockTree
a_bundle kind name sections = bundle (named kind) (named name) [] sections here

abbrev pub a_body : (kind name : List ℕ) → List AttributeTree → BlockTree
a_body kind name attributes = body (named kind) (named name) (named (codes "x") ∷ []) attributes here

abbrev pub created : AttributeTree
created = says (codes "create") (quoted (codes "true"))
