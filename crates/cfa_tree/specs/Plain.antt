-- The tree that a policy of the program is: each function forgets where its argument lies in memory.
use Rattle.std.specs.Prelude.{map, option_map}
use Rattle.cfa_tree.specs.declared.attributes.Attribute.{Attribute}
use Rattle.cfa_tree.specs.declared.blocks.Block.{Block}
use Rattle.cfa_tree.specs.declared.blocks.Block.TheVariants.{Bundle, Body}
use Rattle.cfa_tree.specs.declared.blocks.Named.{Named}
use Rattle.cfa_tree.specs.declared.blocks.Policy.{Policy}
use Rattle.cfa_tree.specs.declared.expressions.Expr.{Expr, Class, Not', And', Or', Row_of-Expr, end_of-Expr, more_of-Expr}
use Rattle.cfa_tree.specs.declared.promises.Promise.{Promise}
use Rattle.cfa_tree.specs.declared.sections.Section.{Section}
use Rattle.cfa_tree.specs.declared.values.Value.{Value, Text as Quoted, Word, Ref, ListRef, List' as Listed, Call' as Called, Row_of-Value, end_of-Value, more_of-Value}
use Rattle.cfa_tree.specs.Tree.{ExprTree, class, negated, all_of, one_of, ExprTrees, no_expr, more_exprs, ValueTree, text, word, reference, list_reference, list, call, ValueTrees, no_value, more_values, AttributeTree, PromiseTree, SectionTree, NamedTree, BlockTree, bundle, body, PolicyTree}

abbrev mutual
  pub plain_expr : Expr → ExprTree
  plain_expr (Class name) = class name
  plain_expr (Not' p e) = negated (plain_expr e)
  plain_expr (And' shape all) = all_of (plain_exprs all)
  plain_expr (Or' shape all) = one_of (plain_exprs all)

  pub plain_exprs : {m : _} → Row_of-Expr m → ExprTrees
  plain_exprs end_of-Expr = no_expr
  plain_exprs (more_of-Expr e rest) = more_exprs (plain_expr e) (plain_exprs rest)

abbrev mutual
  pub plain_value : Value → ValueTree
  plain_value (Quoted content place) = text content place
  plain_value (Word name place) = word name place
  plain_value (Ref name place) = reference name place
  plain_value (ListRef name place) = list_reference name place
  plain_value (Listed shape all place) = list (plain_values all) place
  plain_value (Called name shape all place) = call name (plain_values all) place

  pub plain_values : {m : _} → Row_of-Value m → ValueTrees
  plain_values end_of-Value = no_value
  plain_values (more_of-Value v rest) = more_values (plain_value v) (plain_values rest)

abbrev pub plain_attribute : Attribute → AttributeTree
plain_attribute a = record { name = a.name; value = plain_value a.value; place = a.place }

abbrev pub plain_promise : Promise → PromiseTree
plain_promise p = record { guard = option_map plain_expr p.guard; promiser = p.promiser; promisee = option_map plain_value p.promisee; attributes = map plain_attribute p.attributes; place = p.place }

abbrev pub plain_section : Section → SectionTree
plain_section s = record { kind = s.kind; promises = map plain_promise s.promises; place = s.place }

abbrev pub plain_named : Named → NamedTree
plain_named n = record { name = n.name; place = n.place }

abbrev pub plain_block : Block → BlockTree
plain_block (Bundle b) = bundle (plain_named b.kind) (plain_named b.name) (map plain_named b.params) (map plain_section b.sections) b.place
plain_block (Body b) = body (plain_named b.kind) (plain_named b.name) (map plain_named b.params) (map plain_attribute b.attributes) b.place

abbrev pub plain_policy : Policy → PolicyTree
plain_policy p = map plain_block p.blocks
