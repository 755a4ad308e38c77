-- The tree of a policy as data: what a policy says, and where each part of it begins, without where it lies in memory.
-- Two trees of one text are equal.
use Rattle.std.specs.Prelude.{ℕ, List, [], ◌∷◌, Option}
use Rattle.cfa_base.specs.declared.places.Place.{Place}

mutual
  -- a class, `!`, and two or more expressions joined by `.` or by `|`
  pub data ExprTree : Type 0 where
    class : (name : List ℕ) → ExprTree
    negated : ExprTree → ExprTree
    all_of : ExprTrees → ExprTree
    one_of : ExprTrees → ExprTree

  -- a list of them, since a type can't stand in a list within itself
  pub data ExprTrees : Type 0 where
    no_expr : ExprTrees
    more_exprs : ExprTree → ExprTrees → ExprTrees

mutual
  -- a value, with the place where it begins
  pub data ValueTree : Type 0 where
    text : (content : List ℕ) (place : Place) → ValueTree
    word : (name : List ℕ) (place : Place) → ValueTree
    reference : (name : List ℕ) (place : Place) → ValueTree
    list_reference : (name : List ℕ) (place : Place) → ValueTree
    list : (items : ValueTrees) (place : Place) → ValueTree
    call : (function : List ℕ) (arguments : ValueTrees) (place : Place) → ValueTree

  pub data ValueTrees : Type 0 where
    no_value : ValueTrees
    more_values : ValueTree → ValueTrees → ValueTrees

-- `NAME => VALUE`, with the place of its name
pub record AttributeTree : Type 0 where
  pub name : List ℕ
  pub value : ValueTree
  pub place : Place

-- a promise with its guard, and the place of its promiser
pub record PromiseTree : Type 0 where
  pub guard : Option ExprTree
  pub promiser : List ℕ
  pub promisee : Option ValueTree
  pub attributes : List AttributeTree
  pub place : Place

-- the promises of one type, with the place of the type's word
pub record SectionTree : Type 0 where
  pub kind : List ℕ
  pub promises : List PromiseTree
  pub place : Place

-- a word, with its place
pub record NamedTree : Type 0 where
  pub name : List ℕ
  pub place : Place

-- a bundle or body, with the place of its first word
pub data BlockTree : Type 0 where
  bundle : (kind name : NamedTree) (params : List NamedTree) (sections : List SectionTree) (place : Place) → BlockTree
  body : (kind name : NamedTree) (params : List NamedTree) (attributes : List AttributeTree) (place : Place) → BlockTree

abbrev pub PolicyTree : Type 0
PolicyTree = List BlockTree

-- the expressions of a list
abbrev pub expr_trees : List ExprTree → ExprTrees
expr_trees [] = no_expr
expr_trees (e ∷ es) = more_exprs e (expr_trees es)

-- the values of a list
abbrev pub value_trees : List ValueTree → ValueTrees
value_trees [] = no_value
value_trees (v ∷ vs) = more_values v (value_trees vs)

-- the values of a list or of a call's arguments, as a list
abbrev pub values_in : ValueTrees → List ValueTree
values_in no_value = []
values_in (more_values v vs) = v ∷ values_in vs
