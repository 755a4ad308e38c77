use Rattle.std.proofs.Common.{◌∙◌, ap, sym, map, arith}
use Rattle.cfa_bodies.specs.Bodies.{first_unresolved}
use Rattle.cfa_bodies.proofs.BodyLemmas.{first_here, first_later}
use Rattle.cfa_bodies.proofs.hearing.first_unresolved.Goals as goal

pub returns-in-Some : goal.returns-in-Some
returns-in-Some c =
    let here = c.in-Some.ensures ∙ ap (λ s. first_unresolved (map (λ x. x.1) s)) c.as_slice.ensures in
    sym (first_here c.args.bodies.now c.loop-body.body-index c.body-item.result c.in-Some.name.now (omega arith) c.body-item.is here) ∙ c.loop-body.invariant

pub loop-body-preserved : goal.loop-body-preserved
loop-body-preserved c =
    let here = c.in_default.ensures ∙ ap (λ s. first_unresolved (map (λ x. x.1) s)) c.as_slice.ensures in
    sym (first_later c.args.bodies.now c.loop-body.body-index c.body-item.result (omega arith) c.body-item.is here) ∙ c.loop-body.invariant
