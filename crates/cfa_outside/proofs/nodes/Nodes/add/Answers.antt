use Rattle.std.proofs.Common.{◌≡◌, true, rules}
use Rattle.std.specs.FinMap as map
use Rattle.cfa_outside.specs.Worlds.{is_free}
use Rattle.cfa_outside.proofs.Parents.{add_keeps, kept_if}
use Rattle.cfa_outside.proofs.nodes.Nodes.add.Goals as goal

pub invariant_of-self-2 : goal.invariant_of-self-2
invariant_of-self-2 c =
    let before = c.self.inside.rows in
    let path = c.as_str-text.result.now in
    let free : is_free before path ≡ true = search rules in
    kept_if c.put.result before c.put.new.rows (map.insert before path c.args.node) c.put.ensures.ok c.put.ensures.err
    (add_keeps before path c.args.node free c.self.invariant) c.self.invariant
