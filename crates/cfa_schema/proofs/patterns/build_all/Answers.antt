use Rattle.std.proofs.Common.{◌∙◌}
use Rattle.std.proofs.lemmas.Result.{err_from_is_err_and}
use Rattle.cfa_schema.proofs.CollectedLemmas.{bad_stands, refused_stands, good_more, all_good}
use Rattle.cfa_schema.proofs.patterns.build_all.Goals as goal

pub returns-in_err-build_one-clause-bad : goal.returns-in_err-build_one-clause-bad
returns-in_err-build_one-clause-bad g c =
    let gives = err_from_is_err_and c.from_residual.result c.from_residual.ensures.1 in
    rw (gives.1, gives.2) (bad_stands c.args.patterns.now c.loop-pattern.pattern-index _ c.loop-pattern-test.true c.loop-pattern.invariant.good c.in_err-build_one.field-0.0 c.in_err-build_one.ensures.bad)

pub returns-in_err-build_one-clause-shown : goal.returns-in_err-build_one-clause-shown
returns-in_err-build_one-clause-shown g c =
    let gives = err_from_is_err_and c.from_residual.result c.from_residual.ensures.1 in
    rw (gives.1, gives.2) (refused_stands c.args.patterns.now c.loop-pattern.pattern-index _ c.loop-pattern-test.true c.loop-pattern.invariant.good c.in_err-build_one.field-0.0 _ _ _ c.loop-pattern.invariant.shown c.in_err-build_one.ensures.shown)

pub loop-pattern-preserved : goal.loop-pattern-preserved
loop-pattern-preserved g c = record {
  good = good_more c.args.patterns.now c.loop-pattern.pattern-index _ c.loop-pattern-test.true c.loop-pattern.invariant.good c.in_ok-build_one.ensures.good;
  shown = c.in_ok-build_one.ensures.shown ∙ c.loop-pattern.invariant.shown;
}

pub returns-clause-good : goal.returns-clause-good
returns-clause-good g c = all_good c.args.patterns.now c.loop-pattern.pattern-index c.loop-pattern-test.false c.loop-pattern.invariant.good
