use Rattle.cfa_walk.specs.declared.listing.Telling.TheVariants.{AllKept}
use Rattle.cfa_walk.specs.Settings.{setting_of}
use Rattle.cfa_conflict.proofs.AnalysisLemmas.{kept_too_large, handed_on, handed_built}
use Rattle.cfa_conflict.proofs.analysing.analyse.Goals as goal

pub returns-in_err-kept-clause-too_large : goal.returns-in_err-kept-clause-too_large
returns-in_err-kept-clause-too_large g c is = kept_too_large (setting_of c.args.checked.now c.args.context.now)
    (handed_on (setting_of c.args.checked.now c.args.context.now) AllKept c.from_residual.result c.in_err-kept.field-0.0 c.from_residual.ensures.1 c.in_err-kept.ensures.refused is)

pub returns-in_err-kept-clause-built : goal.returns-in_err-kept-clause-built
returns-in_err-kept-clause-built g c =
    handed_built (setting_of c.args.checked.now c.args.context.now) AllKept c.from_residual.result c.in_err-kept.field-0.0 c.from_residual.ensures.1 c.in_err-kept.ensures.refused
