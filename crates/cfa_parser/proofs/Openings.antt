-- What is open with more behind it: a promise with more attributes, and a heading with more parameters.
use Rattle.std.proofs.Common.{List, ◌++◌}
use Rattle.cfa_tree.specs.Tree.{AttributeTree, NamedTree}
use Rattle.cfa_parser.specs.Machine.{OpenPromise, Heading}

abbrev pub with_attributes : OpenPromise → List AttributeTree → OpenPromise
with_attributes o attrs = record { promiser = o.promiser; place = o.place; promisee = o.promisee; attributes = o.attributes ++ attrs }

abbrev pub with_params : Heading → List NamedTree → Heading
with_params h names = record { block = h.block; place = h.place; kind = h.kind; name = h.name; params = h.params ++ names }
