use Rattle.cfa_outside.specs.Worlds.{set_perms}
use Rattle.cfa_outside.proofs.Parents.{set_perms_keeps, kept_if}
use Rattle.cfa_outside.proofs.nodes.Nodes.set_perms.Goals as goal

pub invariant_of-self : goal.invariant_of-self
invariant_of-self c =
    let before = c.self.inside.rows in
    let path = c.as_str.result.now in
    kept_if c.set_perms.result before c.set_perms.new.rows (set_perms path c.args.perms.now before) c.set_perms.ensures.ok c.set_perms.ensures.err
    (set_perms_keeps before path c.args.perms.now c.self.invariant) c.self.invariant
