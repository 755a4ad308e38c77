use Rattle.cfa_schema.specs.Seen.{tree_of}
use Rattle.cfa_schema.proofs.checked.Checked.promise.Goals as goal

pub find_promise-requires : goal.find_promise-requires
find_promise-requires c = c.args.self.now.indexed

pub returns : goal.returns
unfolding tree_of
returns c = c.find_promise.ensures
