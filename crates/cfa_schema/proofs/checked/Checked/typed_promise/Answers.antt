use Rattle.cfa_schema.specs.Seen.{tree_of}
use Rattle.cfa_schema.proofs.checked.Checked.typed_promise.Goals as goal

pub find_typed_promise-requires : goal.find_typed_promise-requires
find_typed_promise-requires c = c.args.self.now.indexed

pub returns : goal.returns
unfolding tree_of
returns c = c.find_typed_promise.ensures
