use Rattle.std.proofs.Common.{rules, ◌≡◌, ◌<◌, ◌++◌, ◌∷◌, [], length, get_or, sym, subst}
use Rattle.cfa_calls.specs.Reaching.{IsWithin, rows_of}
use Rattle.cfa_calls.proofs.GraphLemmas.{node_within, rows_kept, rows_connect, within_connect}
use Rattle.cfa_calls.proofs.reaching.Graph.connect.Goals as goal

pub invariant_of-self : goal.invariant_of-self
invariant_of-self c =
    let rows = c.self.inside.rows.items in
    let row = c.index_mut-row.result.now in
    let within = node_within rows c.args.self.now c.self.view_is c.args.from c.requires.from_node in
    let is : row ≡ get_or rows c.args.from row = search rules in
    let same : c.push.new.self.items ≡ row.items = search rules in
    subst IsWithin (sym (rows_kept rows c.args.from row c.push.new.self within is same)) c.self.invariant

pub invariant_of-self-2 : goal.invariant_of-self-2
invariant_of-self-2 c =
    let rows = c.self.inside.rows.items in
    let row = c.index_mut-row.result.now in
    let within = node_within rows c.args.self.now c.self.view_is c.args.from c.requires.from_node in
    let is : row ≡ get_or rows c.args.from row = search rules in
    let more : c.push.new.self.items ≡ row.items ++ c.args.to ∷ [] = search rules in
    let from : c.args.from < length (rows_of rows) = rw c.self.view_is c.requires.from_node in
    let to : c.args.to < length (rows_of rows) = rw c.self.view_is c.requires.to_node in
    subst IsWithin (sym (rows_connect rows c.args.from row c.push.new.self c.args.to within is more))
    (within_connect (rows_of rows) c.args.from c.args.to c.self.invariant from to)

pub returns : goal.returns
returns c =
    let rows = c.self.inside.rows.items in
    let row = c.index_mut-row.result.now in
    let within = node_within rows c.args.self.now c.self.view_is c.args.from c.requires.from_node in
    let is : row ≡ get_or rows c.args.from row = search rules in
    let more : c.push.new.self.items ≡ row.items ++ c.args.to ∷ [] = search rules in
    let connected = rows_connect rows c.args.from row c.push.new.self c.args.to within is more in
    rw (← c.self.view_is) connected
