use Rattle.std.proofs.Common.{◌∙◌, ◌≢◌, length, sym, arith}
use Rattle.cfa_tree.specs.Plain.{plain_expr}
use Rattle.cfa_tree.specs.lemmas.Rows.{plain_expr-Or}
use Rattle.cfa_tree.proofs.GuardSteps.{guard_of-many}
use Rattle.cfa_tree.proofs.guards.joined_conjs.Goals as goal

pub returns-else-len-eq1 : goal.returns-else-len-eq1
returns-else-len-eq1 c =
    let many : length c.args.conjs.items ≢ 1 = omega (arith, c.args.conjs.ok.0) in
    plain_expr-Or c.args.conjs ∙ sym (guard_of-many plain_expr c.args.conjs.items many)
