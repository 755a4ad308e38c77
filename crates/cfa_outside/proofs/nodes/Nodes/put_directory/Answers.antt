use Rattle.std.proofs.Common.{◌≡◌, true}
use Rattle.cfa_outside.specs.Worlds.{put_directory, look_at, takes_directory}
use Rattle.cfa_outside.proofs.Parents.{put_directory_keeps, kept_if}
use Rattle.cfa_outside.proofs.nodes.Nodes.put_directory.Goals as goal

pub invariant_of-self : goal.invariant_of-self
invariant_of-self c =
    let before = c.self.inside.rows in
    let path = c.as_str.result.now in
    let fit : takes_directory (look_at before path) ≡ true = rw (c.as_str.ensures, c.text.ensures.same, c.self.view_is) c.requires in
    kept_if c.put_directory.result before c.put_directory.new.rows (put_directory path before) c.put_directory.ensures.ok c.put_directory.ensures.err
    (put_directory_keeps before path fit c.self.invariant) c.self.invariant
