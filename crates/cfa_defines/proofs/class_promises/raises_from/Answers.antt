use Rattle.std.proofs.Common.{subst, rules}
use Rattle.cfa_base.specs.Patterns.{SizeRefusal}
use Rattle.cfa_functions.specs.Builds.{refused_in}
use Rattle.cfa_tree.specs.Plain.{plain_promise}
use Rattle.cfa_vars.specs.Scopes.{in_scope}
use Rattle.cfa_vars.specs.Expansion.{Chosen}
use Rattle.cfa_defines.specs.Builds.{BuiltAmong, expressions_of}
use Rattle.cfa_defines.proofs.BuildLemmas.{built_in}
use Rattle.cfa_defines.proofs.class_promises.raises_from.Goals as goal

pub returns-in_err-class-clause-sizes : goal.returns-in_err-class-clause-sizes
returns-in_err-class-clause-sizes g c =
    let scopes = in_scope c.args.scopes.now in
    let promise = plain_promise c.args.promise.now in
    let here = subst (λ (choice : Chosen). SizeRefusal (BuiltAmong scopes choice (expressions_of promise)) (refused_in c.raised_in.result) (g.P.Patterns.shown c.loop-choice.pats) (g.P.Patterns.shown c.raised_in.new.pats)) c.as_slice.ensures c.raised_in.ensures.sizes in
    let whole = built_in scopes promise c.args.choices.now c.loop-choice.choice-index c.choice-item.result c.loop-choice-test.true c.choice-item.is (refused_in c.raised_in.result) (g.P.Patterns.shown c.args.pats.now) (g.P.Patterns.shown c.loop-choice.pats) (g.P.Patterns.shown c.raised_in.new.pats) c.loop-choice.invariant.2 here in
    let was = c.in_err-class.was in
    search rules
