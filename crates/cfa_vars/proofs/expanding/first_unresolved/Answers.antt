use Rattle.std.proofs.Common.{sym, ◌∙◌, rules}
use Rattle.cfa_vars.specs.Scopes.{in_scope}
use Rattle.cfa_vars.proofs.ExpansionLemmas.{unresolved_here, unresolved_later, unresolved_none}
use Rattle.cfa_vars.proofs.expanding.first_unresolved.Goals as goal

pub returns-then-is_unresolved : goal.returns-then-is_unresolved
returns-then-is_unresolved c =
    let found = c.in-Some.found in
    sym (unresolved_here (in_scope c.args.scopes.now) c.args.choice.now c.loop-found.rest.now found.before.now found.name.now found.after.now c.in-Some.ensures.first (sym c.is_unresolved.ensures ∙ c.if-is_unresolved.true)) ∙ c.loop-found.invariant.0

pub loop-found-preserved : goal.loop-found-preserved
loop-found-preserved c =
    let found = c.in-Some.found in
    (sym (unresolved_later (in_scope c.args.scopes.now) c.args.choice.now c.loop-found.rest.now found.before.now found.name.now found.after.now c.in-Some.ensures.first (sym c.is_unresolved.ensures ∙ c.if-is_unresolved.false)) ∙ c.loop-found.invariant.0, search rules)

pub returns : goal.returns
returns c = sym (unresolved_none (in_scope c.args.scopes.now) c.args.choice.now c.loop-found.rest.now c.in_default.ensures.first) ∙ c.loop-found.invariant.0
