use Rattle.std.proofs.Common.{◌≡◌, ◌<◌, IfOk, subst}
use Rattle.std.specs.Prelude.{IsErrOf}
use Rattle.cfa_base.specs.Patterns.{SizeRefusal}
use Rattle.cfa_resolve.specs.Instances.{Reached}
use Rattle.cfa_resolve.specs.Resolution.{IsBuiltFor, resolution}
use Rattle.cfa_resolve.specs.Viewed.{too_big_in}
use Rattle.cfa_resolve.specs.declared.instances.ResolveErr.TheVariants.{TooLarge}
use Rattle.cfa_resolve.specs.declared.instances.Resolved.{Resolved}
use Rattle.cfa_schema.specs.Seen.{tree_of}
use Rattle.cfa_vars.specs.Scopes.{in_scope}
use Rattle.cfa_states.specs.Kept.{seen_numbered}
use Rattle.cfa_visits.proofs.CountLemmas.{viewed}
use Rattle.cfa_visits.proofs.counting.resolve_now.Goals as goal

pub returns-then-resolved-state-clause-too_large : goal.returns-then-resolved-state-clause-too_large
returns-then-resolved-state-clause-too_large g c = λ _.
    subst (λ (r : Resolved). c.args.state.now.left < r.visits)
    (c.in-Some.ensures.resolved (tree_of c.args.checked.now) (seen_numbered c.args.promise.now) c.requires.kept) c.if-resolved-state.true

pub returns-in-Some-clause-resolved : goal.returns-in-Some-clause-resolved
returns-in-Some-clause-resolved g c = c.in-Some.ensures.resolved (tree_of c.args.checked.now) (seen_numbered c.args.promise.now) c.requires.kept

pub returns-clause-resolved : goal.returns-clause-resolved
returns-clause-resolved g c =
    let policy = tree_of c.args.checked.now in
    subst (λ (r : Reached). IfOk c.resolve_promise.result (λ x. x ≡ resolution r))
    (viewed policy (seen_numbered c.args.promise.now) c.args.state.now c.args.activation.now (in_scope c.scopes_of.result) c.statuses.result.now c.scopes_of.ensures.now c.statuses.ensures)
    c.resolve_promise.ensures.resolved

pub returns-clause-too_large : goal.returns-clause-too_large
returns-clause-too_large g c =
    let policy = tree_of c.args.checked.now in
    subst (λ (r : Reached). IsErrOf c.resolve_promise.result TooLarge → c.args.state.now.left < (resolution r).visits)
    (viewed policy (seen_numbered c.args.promise.now) c.args.state.now c.args.activation.now (in_scope c.scopes_of.result) c.statuses.result.now c.scopes_of.ensures.now c.statuses.ensures)
    c.resolve_promise.ensures.too_large

pub returns-clause-sizes : goal.returns-clause-sizes
returns-clause-sizes g c =
    let policy = tree_of c.args.checked.now in
    subst (λ (r : Reached). SizeRefusal (IsBuiltFor r) (too_big_in c.resolve_promise.result) (g.P.Patterns.shown c.args.pats.now) (g.P.Patterns.shown c.resolve_promise.new.pats))
    (viewed policy (seen_numbered c.args.promise.now) c.args.state.now c.args.activation.now (in_scope c.scopes_of.result) c.statuses.result.now c.scopes_of.ensures.now c.statuses.ensures)
    c.resolve_promise.ensures.sizes
