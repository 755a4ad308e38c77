-- Trees that the grammar reads from some tokens, with no more levels open than are left.
use Rattle.std.proofs.Common.{List, [], ◌∷◌, Option, Some, None}
use Rattle.std.specs.Prelude.{IsTrue}
use Rattle.cfa_base.specs.Lexing.{is_word, is_name}
use Rattle.cfa_tree.specs.Grammar.{Levels, Opens}
use Rattle.cfa_tree.specs.Tree.{ExprTree, class, negated, all_of, one_of, ExprTrees, no_expr, more_exprs, ValueTree, text, word, reference, list_reference, list, call, ValueTrees, no_value, more_values, AttributeTree, PromiseTree, SectionTree, NamedTree, BlockTree, bundle, body, PolicyTree}
use Rattle.cfa_printer.specs.declared.expressions.Around.{Around}
use Rattle.cfa_printer.specs.declared.expressions.Around.TheVariants.{Nothing, Or, And}

-- at least two
abbrev pub Several : ExprTrees → Type 0
Several no_expr = ⊥
Several (more_exprs e no_expr) = ⊥
Several (more_exprs e (more_exprs f es)) = Unit {0}

abbrev mutual
  pub ReadableExpr : Levels → Around → ExprTree → Type 0
  ReadableExpr levels around (class name) = IsTrue (is_word name)
  ReadableExpr levels around (negated e) = (inside : Levels) × Opens levels inside × ReadableExpr inside And e
  ReadableExpr levels Nothing (all_of es) = Several es × EachExpr levels And es
  ReadableExpr levels Or (all_of es) = Several es × EachExpr levels And es
  ReadableExpr levels And (all_of es) = (inside : Levels) × Opens levels inside × Several es × EachExpr inside And es
  ReadableExpr levels Nothing (one_of es) = Several es × EachExpr levels Or es
  ReadableExpr levels Or (one_of es) = (inside : Levels) × Opens levels inside × Several es × EachExpr inside Or es
  ReadableExpr levels And (one_of es) = (inside : Levels) × Opens levels inside × Several es × EachExpr inside Or es

  pub EachExpr : Levels → Around → ExprTrees → Type 0
  EachExpr levels around no_expr = Unit {0}
  EachExpr levels around (more_exprs e es) = ReadableExpr levels around e × EachExpr levels around es

-- what may stand in a list
abbrev pub IsItem : ValueTree → Type 0
IsItem (text content place) = Unit {0}
IsItem (word name place) = Unit {0}
IsItem (reference name place) = Unit {0}
IsItem (list_reference name place) = Unit {0}
IsItem (list items place) = ⊥
IsItem (call function arguments place) = Unit {0}

abbrev mutual
  pub ReadableValue : Levels → ValueTree → Type 0
  ReadableValue levels (text content place) = Unit {0}
  ReadableValue levels (word name place) = IsTrue (is_word name)
  ReadableValue levels (reference name place) = IsTrue (is_name name)
  ReadableValue levels (list_reference name place) = IsTrue (is_name name)
  ReadableValue levels (list items place) = EachItem levels items
  ReadableValue levels (call function arguments place) = IsTrue (is_word function) × ((inside : Levels) × Opens levels inside × EachValue inside arguments)

  pub EachItem : Levels → ValueTrees → Type 0
  EachItem levels no_value = Unit {0}
  EachItem levels (more_values v vs) = IsItem v × ReadableValue levels v × EachItem levels vs

  pub EachValue : Levels → ValueTrees → Type 0
  EachValue levels no_value = Unit {0}
  EachValue levels (more_values v vs) = ReadableValue levels v × EachValue levels vs

abbrev pub ReadableAttribute : Levels → AttributeTree → Type 0
ReadableAttribute levels a = IsTrue (is_word a.name) × ReadableValue levels a.value

abbrev pub EachAttribute : Levels → List AttributeTree → Type 0
EachAttribute levels [] = Unit {0}
EachAttribute levels (a ∷ more) = ReadableAttribute levels a × EachAttribute levels more

abbrev pub ReadablePromisee : Levels → Option ValueTree → Type 0
ReadablePromisee levels None = Unit {0}
ReadablePromisee levels (Some v) = ReadableValue levels v

-- a guard that may hold where this one held before: none only where none held
abbrev pub Follows : Levels → (before guard : Option ExprTree) → Type 0
Follows levels before (Some e) = ReadableExpr levels Nothing e
Follows levels None None = Unit {0}
Follows levels (Some e) None = ⊥

abbrev pub ReadablePromises : Levels → (before : Option ExprTree) → List PromiseTree → Type 0
ReadablePromises levels before [] = Unit {0}
ReadablePromises levels before (p ∷ more) =
    Follows levels before p.guard × ReadablePromisee levels p.promisee × EachAttribute levels p.attributes × ReadablePromises levels p.guard more

abbrev pub ReadableSections : Levels → List SectionTree → Type 0
ReadableSections levels [] = Unit {0}
ReadableSections levels (s ∷ more) = IsTrue (is_word s.kind) × ReadablePromises levels None s.promises × ReadableSections levels more

abbrev pub EachName : List NamedTree → Type 0
EachName [] = Unit {0}
EachName (n ∷ more) = IsTrue (is_word n.name) × EachName more

abbrev pub ReadableBlock : Levels → BlockTree → Type 0
ReadableBlock levels (bundle kind name params sections place) =
    IsTrue (is_word kind.name) × IsTrue (is_word name.name) × EachName params × ReadableSections levels sections
ReadableBlock levels (body kind name params attributes place) =
    IsTrue (is_word kind.name) × IsTrue (is_word name.name) × EachName params × EachAttribute levels attributes

abbrev pub ReadablePolicy : Levels → PolicyTree → Type 0
ReadablePolicy levels [] = Unit {0}
ReadablePolicy levels (b ∷ more) = ReadableBlock levels b × ReadablePolicy levels more
