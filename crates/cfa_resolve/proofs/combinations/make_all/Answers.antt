use Rattle.std.proofs.Common.{subst, rules}
use Rattle.cfa_base.specs.Patterns.{SizeRefusal}
use Rattle.cfa_scripts.specs.Refusals.{too_big_in}
use Rattle.cfa_vars.specs.Expansion.{Chosen}
use Rattle.cfa_resolve.specs.Resolution.{caller_of, edit_call, IsBuiltByCall, IsBuiltAmong}
use Rattle.cfa_resolve.specs.OfTheCode.{seen_reached}
use Rattle.cfa_resolve.proofs.ResolutionLemmas.{built_among, sizes_kept}
use Rattle.cfa_resolve.proofs.combinations.make_all.Goals as goal

pub returns-in_err-walk-clause-sizes : goal.returns-in_err-walk-clause-sizes
returns-in_err-walk-clause-sizes g c =
    let r = seen_reached c.args.reached.now in
    let here = subst (λ (choice : Chosen). SizeRefusal (IsBuiltByCall (caller_of r choice) (edit_call r)) (too_big_in c.walk_for.result) (g.P.Patterns.shown c.loop-choice.pats) (g.P.Patterns.shown c.walk_for.new.pats)) c.as_slice.ensures c.walk_for.ensures.sizes in
    let whole = built_among r c.args.choices.now c.loop-choice.choice-index c.choice-item.result c.loop-choice-test.true c.choice-item.is (too_big_in c.walk_for.result) (g.P.Patterns.shown c.args.pats.now) (g.P.Patterns.shown c.loop-choice.pats) (g.P.Patterns.shown c.walk_for.new.pats) c.loop-choice.invariant.5 here in
    let was = c.in_err-walk.was in
    let h = c.from_residual-in_err-walk.ensures in
    sizes_kept (IsBuiltAmong r c.args.choices.now) c.walk_for.result c.from_residual-in_err-walk.result c.in_err-walk.field-0.0 (g.P.Patterns.shown c.args.pats.now) (g.P.Patterns.shown c.walk_for.new.pats) was (search rules) whole
