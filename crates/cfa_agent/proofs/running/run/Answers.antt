use Rattle.std.proofs.Common.{ℕ, List, [], Some, Result, IfErr, refl, sym, ap, subst, ◌∙◌}
use Rattle.cfa_base.specs.lemmas.Results.{on_err}
use Rattle.cfa_base.specs.Shown.{Shown}
use Rattle.cfa_output.specs.declared.ends.Stop.{Stop}
use Rattle.cfa_output.specs.declared.ends.Stop.TheVariants.{Memory}
use Rattle.cfa_agent.specs.declared.running.Tally.{Tally}
use Rattle.cfa_agent.specs.Runs.{Counts}
use Rattle.cfa_agent.specs.Ran.{CountsFaults, RunBuilds, RunRefuses, StopsRun, text_too_big}
use Rattle.cfa_walk.specs.Settings.{setting_of}
use Rattle.cfa_agent.proofs.RunSteps.{short_run, whole_run}
use Rattle.cfa_agent.proofs.RunTold.{run_bracketed, run_built, run_large, run_limit, run_ran, run_refuses, run_stops, total_builds, total_refuses, total_stops}
use Rattle.cfa_agent.proofs.running.run.Goals as goal

pub run_on-ended-requires-clause-holds : goal.run_on-ended-requires-clause-holds
run_on-ended-requires-clause-holds g c = c.in_ok-machine.ensures.begins.holds

pub run_on-ended-requires-clause-stands : goal.run_on-ended-requires-clause-stands
run_on-ended-requires-clause-stands g c =
    let begins = c.in_ok-machine.ensures.begins in
    (setting_of c.args.checked.now c.args.context.now, ([], begins.stands))

pub returns-in_err-ended-clause-too_large : goal.returns-in_err-ended-clause-too_large
returns-in_err-ended-clause-too_large g c is =
    let setting = setting_of c.args.checked.now c.args.context.now in
    let site = g.S.Site.shown in
    let out = g.O.Sink.shown in
    let pats = g.P.Patterns.shown in
    let first = c.begin-running.result in
    let begins = c.in_ok-machine.ensures.begins in
    let ended = c.run_on-ended in
    let stop = c.in_err-ended.field-0.0 in
    let short = short_run first ended.new.running c.in_ok-machine.machine ended.new.machine (site c.args.site.now) (site ended.new.site)
    (out c.args.out.now) (out ended.new.out) (pats c.args.pats.now) (pats ended.new.pats) stop c.in_err-ended.ensures.ends in
    run_large setting (c.moves_keep_what_is_left.ensures.begins setting) (c.moves_keep_what_is_left.ensures.over setting) (c.histories_only_grow.ensures.alike setting)
    c.args.moment c.args.locks first c.begin-running.ensures c.in_ok-machine.machine begins.stands begins.stack
    short.running ended.new.running short.machine ended.new.machine (site c.args.site.now) short.site_there (site ended.new.site)
    (out c.args.out.now) short.out_there (out ended.new.out) (pats c.args.pats.now) short.pats_there (pats ended.new.pats) short.runs stop (sym (rw is at c.from_residual-in_err-ended.ensures.1)) short.step

pub returns-in_err-ended-clause-limit : goal.returns-in_err-ended-clause-limit
returns-in_err-ended-clause-limit g c is =
    let setting = setting_of c.args.checked.now c.args.context.now in
    let site = g.S.Site.shown in
    let out = g.O.Sink.shown in
    let pats = g.P.Patterns.shown in
    let first = c.begin-running.result in
    let begins = c.in_ok-machine.ensures.begins in
    let ended = c.run_on-ended in
    let stop = c.in_err-ended.field-0.0 in
    let short = short_run first ended.new.running c.in_ok-machine.machine ended.new.machine (site c.args.site.now) (site ended.new.site)
    (out c.args.out.now) (out ended.new.out) (pats c.args.pats.now) (pats ended.new.pats) stop c.in_err-ended.ensures.ends in
    run_limit setting (c.moves_keep_what_is_left.ensures.begins setting) (c.moves_keep_what_is_left.ensures.over setting) (c.histories_only_grow.ensures.alike setting)
    c.args.moment c.args.locks first c.begin-running.ensures c.in_ok-machine.machine begins.stands begins.stack
    short.running ended.new.running short.machine ended.new.machine (site c.args.site.now) short.site_there (site ended.new.site)
    (out c.args.out.now) short.out_there (out ended.new.out) (pats c.args.pats.now) short.pats_there (pats ended.new.pats) short.runs (c.steps_keep_what_is_left.ensures.left setting) stop (sym (rw is at c.from_residual-in_err-ended.ensures.1)) short.step

pub returns-in_err-ended-clause-stopped : goal.returns-in_err-ended-clause-stopped
returns-in_err-ended-clause-stopped g c =
    let setting = setting_of c.args.checked.now c.args.context.now in
    let site = g.S.Site.shown in
    let out = g.O.Sink.shown in
    let pats = g.P.Patterns.shown in
    let first = c.begin-running.result in
    let begins = c.in_ok-machine.ensures.begins in
    let ended = c.run_on-ended in
    let stop = c.in_err-ended.field-0.0 in
    let short = short_run first ended.new.running c.in_ok-machine.machine ended.new.machine (site c.args.site.now) (site ended.new.site)
    (out c.args.out.now) (out ended.new.out) (pats c.args.pats.now) (pats ended.new.pats) stop c.in_err-ended.ensures.ends in
    on_err (λ (r : Result Tally Stop). IfErr r (StopsRun (site c.args.site.now) (site ended.new.site) (out c.args.out.now) (out ended.new.out))) c.from_residual-in_err-ended.result stop c.from_residual-in_err-ended.ensures.1
    (run_stops setting (c.moves_keep_what_is_left.ensures.begins setting) (c.moves_keep_what_is_left.ensures.over setting) (c.histories_only_grow.ensures.alike setting)
    c.args.moment c.args.locks first c.begin-running.ensures c.in_ok-machine.machine begins.stands begins.stack
    short.running ended.new.running short.machine ended.new.machine (site c.args.site.now) short.site_there (site ended.new.site)
    (out c.args.out.now) short.out_there (out ended.new.out) (pats c.args.pats.now) short.pats_there (pats ended.new.pats) short.runs stop short.step)

pub returns-in_err-ended-clause-patterns : goal.returns-in_err-ended-clause-patterns
returns-in_err-ended-clause-patterns g c =
    let setting = setting_of c.args.checked.now c.args.context.now in
    let site = g.S.Site.shown in
    let out = g.O.Sink.shown in
    let pats = g.P.Patterns.shown in
    let first = c.begin-running.result in
    let begins = c.in_ok-machine.ensures.begins in
    let ended = c.run_on-ended in
    let stop = c.in_err-ended.field-0.0 in
    let short = short_run first ended.new.running c.in_ok-machine.machine ended.new.machine (site c.args.site.now) (site ended.new.site)
    (out c.args.out.now) (out ended.new.out) (pats c.args.pats.now) (pats ended.new.pats) stop c.in_err-ended.ensures.ends in
    on_err (λ (r : Result Tally Stop). RunRefuses (λ text. RunBuilds setting c.args.moment c.args.locks (site c.args.site.now) (site ended.new.site) (Some text)) r (pats c.args.pats.now) (pats ended.new.pats)) c.from_residual-in_err-ended.result stop c.from_residual-in_err-ended.ensures.1
    (run_refuses setting (c.moves_keep_what_is_left.ensures.begins setting) (c.moves_keep_what_is_left.ensures.over setting) (c.histories_only_grow.ensures.alike setting)
    c.args.moment c.args.locks first c.begin-running.ensures c.in_ok-machine.machine begins.stands begins.stack
    short.running ended.new.running short.machine ended.new.machine (site c.args.site.now) short.site_there (site ended.new.site)
    (out c.args.out.now) short.out_there (out ended.new.out) (pats c.args.pats.now) short.pats_there (pats ended.new.pats) short.runs stop short.step)

pub returns-in_err-ended-clause-built : goal.returns-in_err-ended-clause-built
returns-in_err-ended-clause-built g c =
    let setting = setting_of c.args.checked.now c.args.context.now in
    let site = g.S.Site.shown in
    let out = g.O.Sink.shown in
    let pats = g.P.Patterns.shown in
    let first = c.begin-running.result in
    let begins = c.in_ok-machine.ensures.begins in
    let ended = c.run_on-ended in
    let stop = c.in_err-ended.field-0.0 in
    let short = short_run first ended.new.running c.in_ok-machine.machine ended.new.machine (site c.args.site.now) (site ended.new.site)
    (out c.args.out.now) (out ended.new.out) (pats c.args.pats.now) (pats ended.new.pats) stop c.in_err-ended.ensures.ends in
    on_err (λ (r : Result Tally Stop). RunBuilds setting c.args.moment c.args.locks (site c.args.site.now) (site ended.new.site) (text_too_big r)) c.from_residual-in_err-ended.result stop c.from_residual-in_err-ended.ensures.1
    (run_built setting (c.moves_keep_what_is_left.ensures.begins setting) (c.moves_keep_what_is_left.ensures.over setting) (c.histories_only_grow.ensures.alike setting)
    c.args.moment c.args.locks first c.begin-running.ensures c.in_ok-machine.machine begins.stands begins.stack
    short.running ended.new.running short.machine ended.new.machine (site c.args.site.now) short.site_there (site ended.new.site)
    (out c.args.out.now) short.out_there (out ended.new.out) (pats c.args.pats.now) short.pats_there (pats ended.new.pats) short.runs stop short.step)

pub returns-clause-ran : goal.returns-clause-ran
returns-clause-ran g c =
    let setting = setting_of c.args.checked.now c.args.context.now in
    let site = g.S.Site.shown in
    let out = g.O.Sink.shown in
    let pats = g.P.Patterns.shown in
    let first = c.begin-running.result in
    let begins = c.in_ok-machine.ensures.begins in
    let ended = c.run_on-ended in
    let whole = whole_run first ended.new.running c.in_ok-machine.machine ended.new.machine (site c.args.site.now) (site ended.new.site)
    (out c.args.out.now) (out ended.new.out) (pats c.args.pats.now) (pats ended.new.pats) c.in_ok-ended.field-0 c.in_ok-ended.ensures.ends in
    run_ran setting (c.moves_keep_what_is_left.ensures.begins setting) (c.moves_keep_what_is_left.ensures.over setting) (c.histories_only_grow.ensures.alike setting)
    c.args.moment c.args.locks first c.begin-running.ensures c.in_ok-machine.machine begins.stands begins.stack
    ended.new.running ended.new.machine (site c.args.site.now) (site ended.new.site)
    (out c.args.out.now) (out ended.new.out) (out c.put_total.new.out) (pats c.args.pats.now) (pats ended.new.pats) whole.0 whole.1 c.in_ok-put_total.ensures.put

pub returns-clause-bracketed : goal.returns-clause-bracketed
returns-clause-bracketed g c =
    let setting = setting_of c.args.checked.now c.args.context.now in
    let site = g.S.Site.shown in
    let out = g.O.Sink.shown in
    let pats = g.P.Patterns.shown in
    let first = c.begin-running.result in
    let begins = c.in_ok-machine.ensures.begins in
    let ended = c.run_on-ended in
    let whole = whole_run first ended.new.running c.in_ok-machine.machine ended.new.machine (site c.args.site.now) (site ended.new.site)
    (out c.args.out.now) (out ended.new.out) (pats c.args.pats.now) (pats ended.new.pats) c.in_ok-ended.field-0 c.in_ok-ended.ensures.ends in
    run_bracketed setting (c.moves_keep_what_is_left.ensures.begins setting) (c.moves_keep_what_is_left.ensures.over setting) (c.histories_only_grow.ensures.alike setting)
    c.args.moment c.args.locks first c.begin-running.ensures c.in_ok-machine.machine begins.stands begins.stack
    ended.new.running ended.new.machine (site c.args.site.now) (site ended.new.site)
    (out c.args.out.now) (out ended.new.out) (pats c.args.pats.now) (pats ended.new.pats) whole.0 whole.1

pub returns-in_err-machine-clause-stopped : goal.returns-in_err-machine-clause-stopped
returns-in_err-machine-clause-stopped g c =
    let site = g.S.Site.shown in
    let out = g.O.Sink.shown in
    on_err (λ (r : Result Tally Stop). IfErr r (StopsRun (site c.args.site.now) (site c.args.site.now) (out c.args.out.now) (out c.args.out.now)))
    c.from_residual.result Memory c.from_residual.ensures.1 refl

pub returns-in_err-machine-clause-patterns : goal.returns-in_err-machine-clause-patterns
returns-in_err-machine-clause-patterns g c =
    let setting = setting_of c.args.checked.now c.args.context.now in
    let site = g.S.Site.shown in
    let pats = g.P.Patterns.shown in
    on_err (λ (r : Result Tally Stop). RunRefuses (λ text. RunBuilds setting c.args.moment c.args.locks (site c.args.site.now) (site c.args.site.now) (Some text)) r
    (pats c.args.pats.now) (pats c.args.pats.now)) c.from_residual.result Memory c.from_residual.ensures.1 refl

pub returns-in_err-put_total-clause-stopped : goal.returns-in_err-put_total-clause-stopped
returns-in_err-put_total-clause-stopped g c =
    let site = g.S.Site.shown in
    let out = g.O.Sink.shown in
    let pats = g.P.Patterns.shown in
    let ended = c.run_on-ended in
    let whole = whole_run c.begin-running.result ended.new.running c.in_ok-machine.machine ended.new.machine (site c.args.site.now) (site ended.new.site)
    (out c.args.out.now) (out ended.new.out) (pats c.args.pats.now) (pats ended.new.pats) c.in_ok-ended.field-0 c.in_ok-ended.ensures.ends in
    let stop = c.in_err-put_total.field-0.0 in
    on_err (λ (r : Result Tally Stop). IfErr r (StopsRun (site c.args.site.now) (site ended.new.site) (out c.args.out.now) (out c.put_total.new.out)))
    c.from_residual-in_err-put_total.result stop c.from_residual-in_err-put_total.ensures.1
    (total_stops (site c.args.site.now) (site ended.new.site) (out c.args.out.now) (out ended.new.out) (out c.put_total.new.out) stop
    (ap (λ (o : Shown (List ℕ)). o.faults) whole.1.out_is) c.in_err-put_total.ensures.stopped)

pub returns-in_err-put_total-clause-patterns : goal.returns-in_err-put_total-clause-patterns
returns-in_err-put_total-clause-patterns g c =
    let setting = setting_of c.args.checked.now c.args.context.now in
    let site = g.S.Site.shown in
    let out = g.O.Sink.shown in
    let pats = g.P.Patterns.shown in
    let ended = c.run_on-ended in
    let whole = whole_run c.begin-running.result ended.new.running c.in_ok-machine.machine ended.new.machine (site c.args.site.now) (site ended.new.site)
    (out c.args.out.now) (out ended.new.out) (pats c.args.pats.now) (pats ended.new.pats) c.in_ok-ended.field-0 c.in_ok-ended.ensures.ends in
    let stop = c.in_err-put_total.field-0.0 in
    let B : List ℕ → Type 0 = λ text. RunBuilds setting c.args.moment c.args.locks (site c.args.site.now) (site ended.new.site) (Some text) in
    on_err (λ (r : Result Tally Stop). RunRefuses B r (pats c.args.pats.now) (pats ended.new.pats))
    c.from_residual-in_err-put_total.result stop c.from_residual-in_err-put_total.ensures.1
    (total_refuses B (out ended.new.out) (out c.put_total.new.out) stop (pats c.args.pats.now) (pats ended.new.pats) c.in_err-put_total.ensures.stopped whole.1.patterns_are)

pub returns-in_err-put_total-clause-built : goal.returns-in_err-put_total-clause-built
returns-in_err-put_total-clause-built g c =
    let setting = setting_of c.args.checked.now c.args.context.now in
    let site = g.S.Site.shown in
    let out = g.O.Sink.shown in
    let stop = c.in_err-put_total.field-0.0 in
    let ended = c.run_on-ended in
    on_err (λ (r : Result Tally Stop). RunBuilds setting c.args.moment c.args.locks (site c.args.site.now) (site ended.new.site) (text_too_big r))
    c.from_residual-in_err-put_total.result stop c.from_residual-in_err-put_total.ensures.1
    (total_builds setting c.args.moment c.args.locks (site c.args.site.now) (site ended.new.site) (out ended.new.out) (out c.put_total.new.out) stop c.in_err-put_total.ensures.stopped)

pub returns-clause-calm : goal.returns-clause-calm
returns-clause-calm g c =
    let site = g.S.Site.shown in
    let out = g.O.Sink.shown in
    let pats = g.P.Patterns.shown in
    let ended = c.run_on-ended in
    let whole = whole_run c.begin-running.result ended.new.running c.in_ok-machine.machine ended.new.machine (site c.args.site.now) (site ended.new.site)
    (out c.args.out.now) (out ended.new.out) (pats c.args.pats.now) (pats ended.new.pats) c.in_ok-ended.field-0 c.in_ok-ended.ensures.ends in
    ap (λ (o : Shown (List ℕ)). o.faults) c.in_ok-put_total.ensures.put ∙ ap (λ (o : Shown (List ℕ)). o.faults) whole.1.out_is

pub returns-clause-patterns : goal.returns-clause-patterns
returns-clause-patterns g c =
    let site = g.S.Site.shown in
    let out = g.O.Sink.shown in
    let pats = g.P.Patterns.shown in
    let ended = c.run_on-ended in
    let whole = whole_run c.begin-running.result ended.new.running c.in_ok-machine.machine ended.new.machine (site c.args.site.now) (site ended.new.site)
    (out c.args.out.now) (out ended.new.out) (pats c.args.pats.now) (pats ended.new.pats) c.in_ok-ended.field-0 c.in_ok-ended.ensures.ends in
    whole.1.patterns_are

pub returns-clause-faults : goal.returns-clause-faults
returns-clause-faults g c =
    let site = g.S.Site.shown in
    let first = c.begin-running.result in
    let ended = c.run_on-ended in
    let P : ℕ → Type 0 = λ n. CountsFaults n ended.new.running.tally.failed (site c.args.site.now).faults (site ended.new.site).faults in
    subst P (ap (λ (counts : Counts). counts.failed) c.begin-running.ensures.counts_are) c.in_ok-ended.ensures.counted
