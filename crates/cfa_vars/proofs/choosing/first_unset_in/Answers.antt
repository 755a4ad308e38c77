use Rattle.std.proofs.Common.{sym, ◌∙◌, rules}
use Rattle.cfa_vars.specs.Scopes.{in_scope}
use Rattle.cfa_vars.proofs.ChoiceLemmas.{unset_here, unset_later, unset_none}
use Rattle.cfa_vars.proofs.choosing.first_unset_in.Goals as goal

pub returns-then-is_unset : goal.returns-then-is_unset
returns-then-is_unset c =
    let found = c.in-Some.found in
    sym (unset_here (in_scope c.args.scopes.now) c.loop-found.rest.now found.before.now found.name.now found.after.now c.in-Some.ensures.first (sym c.is_unset.ensures ∙ c.if-is_unset.true)) ∙ c.loop-found.invariant.0

pub loop-found-preserved : goal.loop-found-preserved
loop-found-preserved c =
    let found = c.in-Some.found in
    (sym (unset_later (in_scope c.args.scopes.now) c.loop-found.rest.now found.before.now found.name.now found.after.now c.in-Some.ensures.first (sym c.is_unset.ensures ∙ c.if-is_unset.false)) ∙ c.loop-found.invariant.0, search rules)

pub returns : goal.returns
returns c = sym (unset_none (in_scope c.args.scopes.now) c.loop-found.rest.now c.in_default.ensures.first) ∙ c.loop-found.invariant.0
