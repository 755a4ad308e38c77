use Rattle.std.proofs.Common.{◌<◌, ℕ, List, map, subst, rules}
use Rattle.std.specs.Prelude.{IsErrOf}
use Rattle.cfa_scripts.proofs.WalkLemmas.{too_large_here, built_here, refused_within}
use Rattle.cfa_scripts.specs.declared.errors.ScriptErr.TheVariants.{TooLarge}
use Rattle.cfa_scripts.specs.declared.walking.Walk.{Walk}
use Rattle.cfa_scripts.specs.EditBundles.{walked_from}
use Rattle.cfa_scripts.specs.Refusals.{too_big_in}
use Rattle.cfa_scripts.specs.ScriptBuilds.{BuiltAt, BuiltAlong}
use Rattle.cfa_scripts.specs.Walking.{seen_around, seen_numbered}
use Rattle.cfa_scripts.proofs.reaching.walk_promises.Goals as goal

pub returns-in_err-reach-clause-too_large : goal.returns-in_err-reach-clause-too_large
returns-in_err-reach-clause-too_large g c =
    let around = seen_around c.args.around.now in
    let whole : IsErrOf c.reach.result TooLarge → c.args.left < (walked_from around c.args.first (map seen_numbered c.args.promises.now)).visits = λ e.
    subst (λ (w : Walk). c.args.left < w.visits) c.loop-promise.invariant.0
    (too_large_here around c.args.promises.now c.loop-promise.promise-index c.promise-item.result c.loop-promise-test.true c.promise-item.is c.args.left c.loop-promise.walk (c.reach.ensures.too_large e)) in
    let was = c.in_err-reach.was in
    search rules

pub returns-in_err-reach-clause-sizes : goal.returns-in_err-reach-clause-sizes
returns-in_err-reach-clause-sizes g c =
    let around = seen_around c.args.around.now in
    let within : (content : List ℕ) → BuiltAt around c.loop-promise.walk.inside (seen_numbered c.promise-item.result) content → BuiltAlong around c.args.first (map seen_numbered c.args.promises.now) content = λ content h.
    c.loop-promise.invariant.3 content
    (built_here around c.args.promises.now c.loop-promise.promise-index c.promise-item.result c.loop-promise-test.true c.promise-item.is c.loop-promise.walk content h) in
    let whole = refused_within (too_big_in c.reach.result) (g.P.Patterns.shown c.args.pats.now) (g.P.Patterns.shown c.loop-promise.pats) (g.P.Patterns.shown c.reach.new.pats) c.loop-promise.invariant.2 within c.reach.ensures.sizes in
    let was = c.in_err-reach.was in
    search rules
