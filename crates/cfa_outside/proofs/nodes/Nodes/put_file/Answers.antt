use Rattle.std.proofs.Common.{◌≡◌, true}
use Rattle.cfa_outside.specs.Worlds.{put_file, look_at, takes_file}
use Rattle.cfa_outside.proofs.Parents.{put_file_keeps, kept_if}
use Rattle.cfa_outside.proofs.nodes.Nodes.put_file.Goals as goal

pub invariant_of-self : goal.invariant_of-self
invariant_of-self c =
    let before = c.self.inside.rows in
    let path = c.as_str.result.now in
    let fit : takes_file (look_at before path) ≡ true = rw (c.as_str.ensures, c.text.ensures.same, c.self.view_is) c.requires in
    kept_if c.put_file.result before c.put_file.new.rows (put_file path c.args.bytes.now before) c.put_file.ensures.ok c.put_file.ensures.err
    (put_file_keeps before path c.args.bytes.now fit c.self.invariant) c.self.invariant
