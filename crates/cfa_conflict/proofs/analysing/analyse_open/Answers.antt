use Rattle.cfa_walk.specs.declared.listing.Telling.TheVariants.{Open}
use Rattle.cfa_walk.specs.Settings.{setting_of}
use Rattle.cfa_conflict.proofs.AnalysisLemmas.{analysed, open_too_large, handed_on, handed_built}
use Rattle.cfa_conflict.proofs.analysing.analyse_open.Goals as goal

pub returns-in_err-open-clause-too_large : goal.returns-in_err-open-clause-too_large
returns-in_err-open-clause-too_large g c is = open_too_large (setting_of c.args.checked.now c.args.context.now)
    (handed_on (setting_of c.args.checked.now c.args.context.now) Open c.from_residual.result c.in_err-open.field-0.0 c.from_residual.ensures.1 c.in_err-open.ensures.refused is)

pub returns-clause-analysed : goal.returns-clause-analysed
returns-clause-analysed g c = analysed (setting_of c.args.checked.now c.args.context.now) c.args.kept.now c.in_ok-open.«open» c.in_ok-judge.field-0 c.requires c.in_ok-open.ensures.walked c.in_ok-judge.ensures

pub returns-in_err-open-clause-built : goal.returns-in_err-open-clause-built
returns-in_err-open-clause-built g c =
    handed_built (setting_of c.args.checked.now c.args.context.now) Open c.from_residual.result c.in_err-open.field-0.0 c.from_residual.ensures.1 c.in_err-open.ensures.refused
