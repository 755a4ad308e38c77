-- A tree without its places: what a policy says, wherever it stands. Every place becomes the first of a main file.
use Rattle.std.specs.Prelude.{map, option_map}
use Rattle.cfa_base.specs.declared.places.Place.{Place}
use Rattle.cfa_tree.specs.Tree.{ValueTree, text, word, reference, list_reference, list, call, ValueTrees, no_value, more_values, AttributeTree, PromiseTree, SectionTree, NamedTree, BlockTree, bundle, body, PolicyTree}

abbrev pub no_place : Place
no_place = record { file = 0; line = 1; col = 1 }

abbrev mutual
  pub unplaced_value : ValueTree → ValueTree
  unplaced_value (text content place) = text content no_place
  unplaced_value (word name place) = word name no_place
  unplaced_value (reference name place) = reference name no_place
  unplaced_value (list_reference name place) = list_reference name no_place
  unplaced_value (list items place) = list (unplaced_values items) no_place
  unplaced_value (call function arguments place) = call function (unplaced_values arguments) no_place

  pub unplaced_values : ValueTrees → ValueTrees
  unplaced_values no_value = no_value
  unplaced_values (more_values v vs) = more_values (unplaced_value v) (unplaced_values vs)

abbrev pub unplaced_attribute : AttributeTree → AttributeTree
unplaced_attribute a = record { name = a.name; value = unplaced_value a.value; place = no_place }

abbrev pub unplaced_promise : PromiseTree → PromiseTree
unplaced_promise p = record { guard = p.guard; promiser = p.promiser; promisee = option_map unplaced_value p.promisee; attributes = map unplaced_attribute p.attributes; place = no_place }

abbrev pub unplaced_section : SectionTree → SectionTree
unplaced_section s = record { kind = s.kind; promises = map unplaced_promise s.promises; place = no_place }

abbrev pub unplaced_named : NamedTree → NamedTree
unplaced_named n = record { name = n.name; place = no_place }

abbrev pub unplaced_block : BlockTree → BlockTree
unplaced_block (bundle kind name params sections place) = bundle (unplaced_named kind) (unplaced_named name) (map unplaced_named params) (map unplaced_section sections) no_place
unplaced_block (body kind name params attributes place) = body (unplaced_named kind) (unplaced_named name) (map unplaced_named params) (map unplaced_attribute attributes) no_place

abbrev pub unplaced : PolicyTree → PolicyTree
unplaced = map unplaced_block
