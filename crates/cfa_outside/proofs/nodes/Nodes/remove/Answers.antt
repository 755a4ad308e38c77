use Rattle.std.proofs.Common.{◌≡◌, true, sym, subst}
use Rattle.cfa_outside.specs.Worlds.{look_at, is_removable, HasParents}
use Rattle.cfa_outside.proofs.Parents.{remove_keeps}
use Rattle.cfa_outside.proofs.nodes.Nodes.remove.Goals as goal

pub invariant_of-self : goal.invariant_of-self
invariant_of-self c =
    let before = c.self.inside.rows in
    let path = c.as_str.result.now in
    let fit : is_removable (look_at before path) ≡ true = rw (c.as_str.ensures, c.text.ensures.same, c.self.view_is) c.requires in
    subst HasParents (sym c.remove.ensures) (remove_keeps before path fit c.self.invariant)
