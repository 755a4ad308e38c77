use Rattle.std.proofs.Common.{arith}
use Rattle.cfa_outside.proofs.nodes.+put_from.Goals as goal

pub range-dir-requires-clause-end_boundary : goal.range-dir-requires-clause-end_boundary
range-dir-requires-clause-end_boundary t c =
    let next = c.in-Some.ensures.some in
    (omega (arith, next.before), λ lt wide. absurd (omega (arith, next.slash)))
