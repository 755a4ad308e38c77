use Rattle.std.proofs.Common.{◌≡◌, Some, rules}
use Rattle.cfa_outside.specs.Paths.{path_of}
use Rattle.cfa_outside.proofs.PathLemmas.{path_again}
use Rattle.cfa_outside.proofs.paths.Path.read.Goals as goal

pub invariant_of-result : goal.invariant_of-result
unfolding path_of
invariant_of-result c =
    let is : path_of c.args.text.now ≡ Some c.in_ok-text.text = search rules in
    path_again c.args.text.now c.in_ok-text.text is
