-- What stands behind a part of a policy is an end of the tokens.
use Rattle.std.proofs.Common.{◌≤◌, List, ◌∷◌, length, Option, arith}
use Rattle.std.specs.List.{AllByRecursion}
use Rattle.cfa_base.specs.Tokens.{Token}
use Rattle.cfa_tree.specs.Tree.{ExprTree, ValueTree, AttributeTree, PromiseTree, SectionTree, NamedTree}
use Rattle.cfa_tree.specs.Grammar.{Levels, Atom, not_atom, in_parentheses, class_name, Atoms, no_atom, next_atom, Conj, conj, Conjs, no_conj, next_conj, Guard, guard, Value, a_list, an_item, Item, a_text, a_reference, a_list_reference, a_word, a_call, Args, no_args, some_args, MoreArgs, args_end, next_arg, Items, no_items, some_items, MoreItems, items_end, comma_end, next_item, Attribute, attribute, Attributes, no_attribute, last_attribute, next_attribute, Promisee, no_promisee, a_promisee, Promises, no_promise, new_guard, a_promise, Sections, no_section, a_section, Words, last_word, next_word, Params, no_params, empty_params, some_params, BodyAttributes, no_more, one_more}

-- the tokens end with these
pub data EndsWith : List Token → List Token → Type 0 where
  all : {ts : List Token} → EndsWith ts ts
  past : {t : Token} {ts rest : List Token} → EndsWith ts rest → EndsWith (t ∷ ts) rest

pub then_ends : {ts us rest : List Token} → EndsWith ts us → EndsWith us rest → EndsWith ts rest
then_ends all b = b
then_ends (past a) b = past (then_ends a b)

-- what is behind the first token of an end
behind_first : {t : Token} {ts rest : List Token} → EndsWith ts (t ∷ rest) → EndsWith ts rest
behind_first a = then_ends a (past all)

pub all_at_end : (P : Token → Type 0) {ts rest : List Token} → EndsWith ts rest → AllByRecursion P ts → AllByRecursion P rest
all_at_end P all h = h
all_at_end P (past a) h = all_at_end P a h.1

pub end_fits : {ts rest : List Token} → EndsWith ts rest → length rest ≤ length ts
end_fits all = omega arith
end_fits (past a) = omega (arith, end_fits a)

mutual
  atom_ends : {levels : Levels} {ts rest : List Token} {e : ExprTree} → Atom levels ts e rest → EndsWith ts rest
  atom_ends (not_atom opens a) = past (atom_ends a)
  atom_ends (in_parentheses opens g) = past (behind_first (guard_ends g))
  atom_ends class_name = past all

  atoms_end : {levels : Levels} {ts rest : List Token} {es : List ExprTree} → Atoms levels ts es rest → EndsWith ts rest
  atoms_end no_atom = all
  atoms_end (next_atom is a more) = past (then_ends (atom_ends a) (atoms_end more))

  conj_ends : {levels : Levels} {ts rest : List Token} {e : ExprTree} → Conj levels ts e rest → EndsWith ts rest
  conj_ends (conj a more) = then_ends (atom_ends a) (atoms_end more)

  conjs_end : {levels : Levels} {ts rest : List Token} {es : List ExprTree} → Conjs levels ts es rest → EndsWith ts rest
  conjs_end no_conj = all
  conjs_end (next_conj c more) = past (then_ends (conj_ends c) (conjs_end more))

  pub guard_ends : {levels : Levels} {ts rest : List Token} {e : ExprTree} → Guard levels ts e rest → EndsWith ts rest
  guard_ends (guard c more) = then_ends (conj_ends c) (conjs_end more)

mutual
  pub value_ends : {levels : Levels} {ts rest : List Token} {v : ValueTree} → Value levels ts v rest → EndsWith ts rest
  value_ends (a_list items) = past (items_end_with items)
  value_ends (an_item i) = item_ends i

  item_ends : {levels : Levels} {ts rest : List Token} {v : ValueTree} → Item levels ts v rest → EndsWith ts rest
  item_ends a_text = past all
  item_ends a_reference = past all
  item_ends a_list_reference = past all
  item_ends a_word = past all
  item_ends (a_call a) = past (args_end_with a)

  args_end_with : {levels : Levels} {ts rest : List Token} {vs : List ValueTree} → Args levels ts vs rest → EndsWith ts rest
  args_end_with (no_args opens) = past (past all)
  args_end_with (some_args opens v more) = past (then_ends (value_ends v) (more_args_end more))

  more_args_end : {levels : Levels} {ts rest : List Token} {vs : List ValueTree} → MoreArgs levels ts vs rest → EndsWith ts rest
  more_args_end args_end = past all
  more_args_end (next_arg v more) = past (then_ends (value_ends v) (more_args_end more))

  items_end_with : {levels : Levels} {ts rest : List Token} {vs : List ValueTree} → Items levels ts vs rest → EndsWith ts rest
  items_end_with no_items = past all
  items_end_with (some_items i more) = then_ends (item_ends i) (more_items_end more)

  more_items_end : {levels : Levels} {ts rest : List Token} {vs : List ValueTree} → MoreItems levels ts vs rest → EndsWith ts rest
  more_items_end items_end = past all
  more_items_end comma_end = past (past all)
  more_items_end (next_item i more) = past (then_ends (item_ends i) (more_items_end more))

attribute_ends : {levels : Levels} {ts rest : List Token} {a : AttributeTree} → Attribute levels ts a rest → EndsWith ts rest
attribute_ends (attribute v) = past (past (value_ends v))

pub attributes_end : {levels : Levels} {ts rest : List Token} {attributes : List AttributeTree} → Attributes levels ts attributes rest → EndsWith ts rest
attributes_end no_attribute = past all
attributes_end (last_attribute a) = behind_first (attribute_ends a)
attributes_end (next_attribute a more) = then_ends (behind_first (attribute_ends a)) (attributes_end more)

pub promisee_ends : {levels : Levels} {ts rest : List Token} {v : Option ValueTree} → Promisee levels ts v rest → EndsWith ts rest
promisee_ends no_promisee = all
promisee_ends (a_promisee v) = past (value_ends v)

pub promises_end : {levels : Levels} {ts rest : List Token} {g : Option ExprTree} {promises : List PromiseTree} → Promises levels ts g promises rest → EndsWith ts rest
promises_end no_promise = all
promises_end (new_guard e more) = then_ends (behind_first (guard_ends e)) (promises_end more)
promises_end (a_promise v attributes more) = past (then_ends (promisee_ends v) (then_ends (attributes_end attributes) (promises_end more)))

pub sections_end : {levels : Levels} {ts rest : List Token} {sections : List SectionTree} → Sections levels ts sections rest → EndsWith ts rest
sections_end no_section = all
sections_end (a_section promises more) = past (past (then_ends (promises_end promises) (sections_end more)))

words_end : {ts rest : List Token} {names : List NamedTree} → Words ts names rest → EndsWith ts rest
words_end last_word = past (past all)
words_end (next_word more) = past (past (words_end more))

pub params_end : {ts rest : List Token} {names : List NamedTree} → Params ts names rest → EndsWith ts rest
params_end no_params = all
params_end empty_params = past (past all)
params_end (some_params words) = past (words_end words)

pub body_attributes_end : {levels : Levels} {ts rest : List Token} {attributes : List AttributeTree} → BodyAttributes levels ts attributes rest → EndsWith ts rest
body_attributes_end no_more = all
body_attributes_end (one_more a more) = then_ends (behind_first (attribute_ends a)) (body_attributes_end more)
