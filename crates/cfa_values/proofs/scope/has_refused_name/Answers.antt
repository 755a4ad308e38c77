use Rattle.std.proofs.Common.{◌∙◌, sym, rules}
use Rattle.cfa_values.proofs.ScopeLemmas.{refused_here, refused_later, refused_none}
use Rattle.cfa_values.proofs.scope.has_refused_name.Goals as goal

pub returns-then-not-admits : goal.returns-then-not-admits
returns-then-not-admits g c =
    let found = c.in-Some.found in
    sym (refused_here (g.A.Admits.admitted c.args.names.now) c.loop-found.rest.now found.before.now found.name.now found.after.now c.in-Some.ensures.first (sym c.admits.ensures ∙ c.if-not-admits.true)) ∙ c.loop-found.invariant.0

pub loop-found-preserved : goal.loop-found-preserved
loop-found-preserved g c =
    let found = c.in-Some.found in
    (sym (refused_later (g.A.Admits.admitted c.args.names.now) c.loop-found.rest.now found.before.now found.name.now found.after.now c.in-Some.ensures.first (sym c.admits.ensures ∙ c.if-not-admits.false)) ∙ c.loop-found.invariant.0, search rules)

pub returns : goal.returns
returns g c = sym (refused_none (g.A.Admits.admitted c.args.names.now) c.loop-found.rest.now c.in_default.ensures.first) ∙ c.loop-found.invariant.0
