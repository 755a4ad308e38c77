use Rattle.std.proofs.Common.{sym, ◌∙◌, rules}
use Rattle.cfa_vars.specs.Scopes.{in_scope}
use Rattle.cfa_vars.specs.Choices.{seen_lists}
use Rattle.cfa_vars.proofs.ChoiceLemmas.{gathered_more, gathered_all}
use Rattle.cfa_vars.proofs.choosing.gather_text.Goals as goal

pub loop-found-preserved : goal.loop-found-preserved
loop-found-preserved c =
    let found = c.in-Some.found in
    (gathered_more (in_scope c.args.scopes.now) (seen_lists c.loop-found.lists.entries) _ c.loop-found.rest.now found.before.now found.name.now found.after.now c.in-Some.ensures.first c.in_ok-gather_name.ensures ∙ c.loop-found.invariant.0, search rules)

pub returns : goal.returns
returns c = sym (gathered_all (in_scope c.args.scopes.now) (seen_lists c.loop-found.lists.entries) c.loop-found.rest.now c.in_default.ensures.first) ∙ c.loop-found.invariant.0
