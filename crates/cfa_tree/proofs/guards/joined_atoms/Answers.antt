use Rattle.std.proofs.Common.{◌∙◌, ◌≢◌, length, sym, arith}
use Rattle.cfa_tree.specs.Plain.{plain_expr}
use Rattle.cfa_tree.specs.lemmas.Rows.{plain_expr-And}
use Rattle.cfa_tree.proofs.GuardSteps.{conj_of-many}
use Rattle.cfa_tree.proofs.guards.joined_atoms.Goals as goal

pub returns-else-len-eq1 : goal.returns-else-len-eq1
returns-else-len-eq1 c =
    let many : length c.args.atoms.items ≢ 1 = omega (arith, c.args.atoms.ok.0) in
    plain_expr-And c.args.atoms ∙ sym (conj_of-many plain_expr c.args.atoms.items many)
