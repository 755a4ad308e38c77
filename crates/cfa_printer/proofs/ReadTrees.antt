-- What the grammar reads from tokens of a lexing is readable.
use Rattle.std.proofs.Common.{ℕ, List, [], ◌∷◌, Option, Some, None}
use Rattle.std.specs.Prelude.{IsTrue}
use Rattle.cfa_base.specs.declared.places.Place.{Place}
use Rattle.cfa_base.specs.Tokens.{Token}
use Rattle.cfa_base.specs.Lexing.{spells, Fault, Scans, ends, a_separator, a_comment, a_token, stops}
use Rattle.cfa_base.specs.lemmas.Taking.{reference_of}
use Rattle.cfa_tree.specs.Grammar.{Levels, Opens, conj_of, guard_of, Atom, Atoms, Conj, Conjs, Guard, not_atom, in_parentheses, class_name, no_atom, next_atom, no_conj, next_conj, Value, Item, Args, MoreArgs, Items, MoreItems, a_list, an_item, a_text, a_reference, a_list_reference, a_word, a_call, no_args, some_args, args_end, next_arg, no_items, some_items, items_end, comma_end, next_item, Attribute, Attributes, no_attribute, last_attribute, next_attribute, Promisee, no_promisee, a_promisee, Promises, no_promise, new_guard, a_promise, Sections, no_section, a_section, Words, last_word, next_word, Params, no_params, empty_params, some_params, BodyAttributes, no_more, one_more, Policy, no_block, a_bundle, a_body}
use Rattle.cfa_tree.specs.Grammar.Conj.{conj}
use Rattle.cfa_tree.specs.Grammar.Guard.{guard}
use Rattle.cfa_tree.specs.Grammar.Attribute.{attribute}
use Rattle.cfa_tree.specs.Tree.{ExprTree, class, negated, all_of, one_of, ExprTrees, no_expr, more_exprs, expr_trees, ValueTree, value_trees, AttributeTree, PromiseTree, SectionTree, NamedTree, PolicyTree}
use Rattle.cfa_printer.specs.declared.expressions.Around.{Around}
use Rattle.cfa_printer.specs.declared.expressions.Around.TheVariants.{Nothing, Or, And}
use Rattle.cfa_printer.proofs.Readable.{ReadableExpr, EachExpr, IsItem, ReadableValue, EachItem, EachValue, ReadableAttribute, EachAttribute, ReadablePromisee, Follows, ReadablePromises, ReadableSections, EachName, ReadablePolicy}

-- each is spelled as its kind says
abbrev pub Spelled : List Token → Type 0
Spelled [] = Unit {0}
Spelled (t ∷ ts) = IsTrue (spells t.kind t.text) × Spelled ts

pub spelled : {place : Place} {bytes : List ℕ} {tokens : List Token} {fault : Option Fault} → Scans place bytes tokens fault → Spelled tokens
spelled ends = tt
spelled (a_separator h scans) = spelled scans
spelled (a_comment h scans) = spelled scans
spelled (a_token takes scans) = (takes.spelled, spelled scans)
spelled (stops h none) = tt

-- Class expressions.

-- what is readable within a level is readable outside of it
mutual
  pub wider : {levels inside : Levels} → Opens levels inside → (around : Around) (e : ExprTree) → ReadableExpr inside around e → ReadableExpr levels around e
  wider opens around (class name) r = r
  wider {inside = inside} opens around (negated e) (more, also, r) = (inside, opens, wider also And e r)
  wider opens Nothing (all_of es) (several, r) = (several, each_wider opens And es r)
  wider opens Or (all_of es) (several, r) = (several, each_wider opens And es r)
  wider {inside = inside} opens And (all_of es) (more, also, several, r) = (inside, opens, several, each_wider also And es r)
  wider opens Nothing (one_of es) (several, r) = (several, each_wider opens Or es r)
  wider {inside = inside} opens Or (one_of es) (more, also, several, r) = (inside, opens, several, each_wider also Or es r)
  wider {inside = inside} opens And (one_of es) (more, also, several, r) = (inside, opens, several, each_wider also Or es r)

  pub each_wider : {levels inside : Levels} → Opens levels inside → (around : Around) (es : ExprTrees) → EachExpr inside around es → EachExpr levels around es
  each_wider opens around no_expr r = tt
  each_wider opens around (more_exprs e es) r = (wider opens around e r.0, each_wider opens around es r.1)

-- what is readable alone is readable as an atom outside of its parentheses
enclosed : {levels inside : Levels} → Opens levels inside → (e : ExprTree) → ReadableExpr inside Nothing e → ReadableExpr levels And e
enclosed opens (class name) r = r
enclosed {inside = inside} opens (negated e) (more, also, r) = (inside, opens, wider also And e r)
enclosed {inside = inside} opens (all_of es) r = (inside, opens, r.0, r.1)
enclosed {inside = inside} opens (one_of es) r = (inside, opens, r.0, r.1)

as_conj : (levels : Levels) (e : ExprTree) → ReadableExpr levels And e → ReadableExpr levels Or e
as_conj levels (class name) r = r
as_conj levels (negated e) r = r
as_conj levels (all_of es) (inside, opens, several, r) = (several, each_wider opens And es r)
as_conj levels (one_of es) r = r

as_guard : (levels : Levels) (e : ExprTree) → ReadableExpr levels Or e → ReadableExpr levels Nothing e
as_guard levels (class name) r = r
as_guard levels (negated e) r = r
as_guard levels (all_of es) r = r
as_guard levels (one_of es) (inside, opens, several, r) = (several, each_wider opens Or es r)

conj_readable : (levels : Levels) (e : ExprTree) (es : List ExprTree) → ReadableExpr levels And e → EachExpr levels And (expr_trees es) → ReadableExpr levels Or (conj_of (e ∷ es))
conj_readable levels e [] r each = as_conj levels e r
conj_readable levels e (f ∷ es) r each = (tt, (r, each))

guard_readable : (levels : Levels) (e : ExprTree) (es : List ExprTree) → ReadableExpr levels Or e → EachExpr levels Or (expr_trees es) → ReadableExpr levels Nothing (guard_of (e ∷ es))
guard_readable levels e [] r each = as_guard levels e r
guard_readable levels e (f ∷ es) r each = (tt, (r, each))

mutual
  pub from_atom : {levels : Levels} {ts rest : List Token} {e : ExprTree} → Atom levels ts e rest → Spelled ts → ReadableExpr levels And e × Spelled rest
  from_atom (not_atom {inside = inside} opens a) s = let r = from_atom a s.1 in ((inside, opens, r.0), r.1)
  from_atom (in_parentheses {e = e} opens g) s = let r = from_guard g s.1 in (enclosed opens e r.0, r.1.1)
  from_atom class_name s = (s.0, s.1)

  pub from_atoms : {levels : Levels} {ts rest : List Token} {es : List ExprTree} → Atoms levels ts es rest → Spelled ts → EachExpr levels And (expr_trees es) × Spelled rest
  from_atoms no_atom s = (tt, s)
  from_atoms (next_atom k a more) s = let r = from_atom a s.1 in let q = from_atoms more r.1 in ((r.0, q.0), q.1)

  pub from_conj : {levels : Levels} {ts rest : List Token} {e : ExprTree} → Conj levels ts e rest → Spelled ts → ReadableExpr levels Or e × Spelled rest
  from_conj (conj {e = e} {es = es} a more) s = let r = from_atom a s in let q = from_atoms more r.1 in (conj_readable _ e es r.0 q.0, q.1)

  pub from_conjs : {levels : Levels} {ts rest : List Token} {es : List ExprTree} → Conjs levels ts es rest → Spelled ts → EachExpr levels Or (expr_trees es) × Spelled rest
  from_conjs no_conj s = (tt, s)
  from_conjs (next_conj c cs) s = let r = from_conj c s.1 in let q = from_conjs cs r.1 in ((r.0, q.0), q.1)

  pub from_guard : {levels : Levels} {ts rest : List Token} {e : ExprTree} → Guard levels ts e rest → Spelled ts → ReadableExpr levels Nothing e × Spelled rest
  from_guard (guard {e = e} {es = es} c cs) s = let r = from_conj c s in let q = from_conjs cs r.1 in (guard_readable _ e es r.0 q.0, q.1)

-- Values.

mutual
  pub from_value : {levels : Levels} {ts rest : List Token} {v : ValueTree} → Value levels ts v rest → Spelled ts → ReadableValue levels v × Spelled rest
  from_value (a_list items) s = from_items items s.1
  from_value (an_item item) s = let r = from_item item s in (r.1, r.2)

  pub from_item : {levels : Levels} {ts rest : List Token} {v : ValueTree} → Item levels ts v rest → Spelled ts → IsItem v × ReadableValue levels v × Spelled rest
  from_item a_text s = (tt, tt, s.1)
  from_item (a_reference {x = x}) s = (tt, (reference_of 36 x s.0).named, s.1)
  from_item (a_list_reference {x = x}) s = (tt, (reference_of 64 x s.0).named, s.1)
  from_item a_word s = (tt, s.0, s.1)
  from_item (a_call args) s = let r = from_args args s.1 in (tt, (s.0, r.0), r.1)

  pub from_args : {levels : Levels} {ts rest : List Token} {vs : List ValueTree} → Args levels ts vs rest → Spelled ts → ((inside : Levels) × Opens levels inside × EachValue inside (value_trees vs)) × Spelled rest
  from_args (no_args {inside = inside} opens) s = ((inside, opens, tt), s.1.1)
  from_args (some_args {inside = inside} opens v vs) s = let r = from_value v s.1 in let q = from_more_args vs r.1 in ((inside, opens, (r.0, q.0)), q.1)

  pub from_more_args : {levels : Levels} {ts rest : List Token} {vs : List ValueTree} → MoreArgs levels ts vs rest → Spelled ts → EachValue levels (value_trees vs) × Spelled rest
  from_more_args args_end s = (tt, s.1)
  from_more_args (next_arg v vs) s = let r = from_value v s.1 in let q = from_more_args vs r.1 in ((r.0, q.0), q.1)

  pub from_items : {levels : Levels} {ts rest : List Token} {vs : List ValueTree} → Items levels ts vs rest → Spelled ts → EachItem levels (value_trees vs) × Spelled rest
  from_items no_items s = (tt, s.1)
  from_items (some_items v vs) s = let r = from_item v s in let q = from_more_items vs r.2 in ((r.0, r.1, q.0), q.1)

  pub from_more_items : {levels : Levels} {ts rest : List Token} {vs : List ValueTree} → MoreItems levels ts vs rest → Spelled ts → EachItem levels (value_trees vs) × Spelled rest
  from_more_items items_end s = (tt, s.1)
  from_more_items comma_end s = (tt, s.1.1)
  from_more_items (next_item v vs) s = let r = from_item v s.1 in let q = from_more_items vs r.2 in ((r.0, r.1, q.0), q.1)

from_attribute : {levels : Levels} {ts rest : List Token} {a : AttributeTree} → Attribute levels ts a rest → Spelled ts → ReadableAttribute levels a × Spelled rest
from_attribute (attribute v) s = let r = from_value v s.1.1 in ((s.0, r.0), r.1)

from_attributes : {levels : Levels} {ts rest : List Token} {more : List AttributeTree} → Attributes levels ts more rest → Spelled ts → EachAttribute levels more × Spelled rest
from_attributes no_attribute s = (tt, s.1)
from_attributes (last_attribute a) s = let r = from_attribute a s in ((r.0, tt), r.1.1)
from_attributes (next_attribute a more) s = let r = from_attribute a s in let q = from_attributes more r.1.1 in ((r.0, q.0), q.1)

-- Promises.

from_promisee : {levels : Levels} {ts rest : List Token} {v : Option ValueTree} → Promisee levels ts v rest → Spelled ts → ReadablePromisee levels v × Spelled rest
from_promisee no_promisee s = (tt, s)
from_promisee (a_promisee v) s = from_value v s.1

-- the guard that holds there follows itself
holds_on : (levels : Levels) (before guard : Option ExprTree) → Follows levels before guard → Follows levels guard guard
holds_on levels before (Some e) r = r
holds_on levels None None r = tt
holds_on levels (Some e) None r = absurd r

from_promises : {levels : Levels} {ts rest : List Token} {g : Option ExprTree} {more : List PromiseTree} → Promises levels ts g more rest →
    (before : Option ExprTree) → Follows levels before g → Spelled ts → ReadablePromises levels before more × Spelled rest
from_promises no_promise before follows s = (tt, s)
from_promises (new_guard g more) before follows s = let r = from_guard g s in from_promises more before r.0 r.1.1
from_promises (a_promise {g = g} promisee attributes more) before follows s =
    let p = from_promisee promisee s.1 in
    let a = from_attributes attributes p.1 in
    let r = from_promises more g (holds_on _ before g follows) a.1 in
    ((follows, p.0, a.0, r.0), r.1)

from_sections : {levels : Levels} {ts rest : List Token} {more : List SectionTree} → Sections levels ts more rest → Spelled ts → ReadableSections levels more × Spelled rest
from_sections no_section s = (tt, s)
from_sections (a_section promises more) s =
    let r = from_promises promises None tt s.1.1 in
    let q = from_sections more r.1 in
    ((s.0, r.0, q.0), q.1)

-- Blocks.

from_words : {ts rest : List Token} {more : List NamedTree} → Words ts more rest → Spelled ts → EachName more × Spelled rest
from_words last_word s = ((s.0, tt), s.1.1)
from_words (next_word more) s = let r = from_words more s.1.1 in ((s.0, r.0), r.1)

from_params : {ts rest : List Token} {more : List NamedTree} → Params ts more rest → Spelled ts → EachName more × Spelled rest
from_params no_params s = (tt, s)
from_params empty_params s = (tt, s.1.1)
from_params (some_params more) s = from_words more s.1

from_body_attributes : {levels : Levels} {ts rest : List Token} {more : List AttributeTree} → BodyAttributes levels ts more rest → Spelled ts → EachAttribute levels more × Spelled rest
from_body_attributes no_more s = (tt, s)
from_body_attributes (one_more a more) s = let r = from_attribute a s in let q = from_body_attributes more r.1.1 in ((r.0, q.0), q.1)

pub from_policy : {levels : Levels} {ts : List Token} {tree : PolicyTree} → Policy levels ts tree → Spelled ts → ReadablePolicy levels tree
from_policy no_block s = tt
from_policy (a_bundle params sections more) s =
    let p = from_params params s.1.1.1 in
    let q = from_sections sections p.1.1 in
    ((s.1.0, s.1.1.0, p.0, q.0), from_policy more q.1.1)
from_policy (a_body params attributes more) s =
    let p = from_params params s.1.1.1 in
    let q = from_body_attributes attributes p.1.1 in
    ((s.1.0, s.1.1.0, p.0, q.0), from_policy more q.1.1)
