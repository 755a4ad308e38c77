use Rattle.std.proofs.Common.{◌∙◌, ap, sym, map, rules}
use Rattle.cfa_vars.specs.References.{literal}
use Rattle.cfa_values.specs.Scope.{has_broken_reference}
use Rattle.cfa_values.proofs.ScopeLemmas.{broken_here, broken_later}
use Rattle.cfa_values.proofs.scope.has_broken_reference.Goals as goal

pub returns-then-has_broken_literal : goal.returns-then-has_broken_literal
returns-then-has_broken_literal c =
    let found = c.in-Some.found in
    let seen = ap (λ t. has_broken_reference (map literal t)) (sym c.as_bytes.ensures.value) ∙ sym c.has_broken_literal.ensures ∙ c.if-has_broken_literal.true in
    sym (broken_here c.loop-found.rest.now found.before.now found.name.now found.after.now c.in-Some.ensures.first seen) ∙ c.loop-found.invariant.0

pub loop-found-preserved : goal.loop-found-preserved
loop-found-preserved c =
    let found = c.in-Some.found in
    let seen = ap (λ t. has_broken_reference (map literal t)) (sym c.as_bytes.ensures.value) ∙ sym c.has_broken_literal.ensures ∙ c.if-has_broken_literal.false in
    (sym (broken_later c.loop-found.rest.now found.before.now found.name.now found.after.now c.in-Some.ensures.first seen) ∙ c.loop-found.invariant.0, search rules)
