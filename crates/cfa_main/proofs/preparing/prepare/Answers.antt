use Rattle.std.proofs.Common.{◌∙◌, sym, arith}
use Rattle.cfa_main.proofs.PrepareLemmas as prepare
use Rattle.cfa_main.proofs.preparing.prepare.Goals as goal

pub returns-in_default : goal.returns-in_default
returns-in_default g c =
    prepare.words_refused c.args.words.now c.args.moment (g.I.Inputs.shown c.args.inputs.now) (g.P.Patterns.shown c.args.pats.now) c.refusal.result (sym c.in_ok-request.ensures ∙ c.in_default.is) c.refusal.ensures

pub returns-then-moment-gt-LAST_MOMENT : goal.returns-then-moment-gt-LAST_MOMENT
returns-then-moment-gt-LAST_MOMENT g c =
    prepare.moment_refused c.args.words.now c.args.moment (g.I.Inputs.shown c.args.inputs.now) (g.P.Patterns.shown c.args.pats.now) c.refusal-then-moment-gt-LAST_MOMENT.result c.in-Some.request (sym c.in_ok-request.ensures ∙ c.in-Some.is) (omega arith) c.refusal-then-moment-gt-LAST_MOMENT.ensures

pub returns : goal.returns
returns g c =
    prepare.prepared c.args.words.now c.args.moment (g.I.Inputs.shown c.args.inputs.now) (g.P.Patterns.shown c.args.pats.now) c.in-Some.request (sym c.in_ok-request.ensures ∙ c.in-Some.is) (omega arith) (g.I.Inputs.shown c.prepare_request-prepared.new.inputs) (g.P.Patterns.shown c.prepare_request-prepared.new.pats) c.prepare_request-prepared.result c.prepare_request-prepared.ensures
