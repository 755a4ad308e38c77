use Rattle.cfa_main.proofs.CallLemmas as calls
use Rattle.cfa_main.proofs.CountLemmas as counts
use Rattle.cfa_main.proofs.JournalLemmas as journal
use Rattle.cfa_main.proofs.SettledLemmas as settled
use Rattle.cfa_main.specs.Demos.{AlwaysTells}
use Rattle.cfa_main.proofs.DemoLemmas as demos
use Rattle.cfa_main.proofs.DemoEndLemmas as demo_ends
use Rattle.cfa_main.proofs.agent.agent_main.Goals as goal

pub returns-clause-exact : goal.returns-clause-exact
returns-clause-exact g c = λ none. calls.exact c.args.words.now c.args.moment (g.I.Inputs.shown c.args.inputs.now) (g.I.Inputs.shown c.call_for.new.inputs) (g.S.Site.shown c.args.site.now) (g.S.Site.shown c.call_for.new.site) (g.O.Sink.shown c.args.out.now) (g.O.Sink.shown c.call_for.new.out) (g.P.Patterns.shown c.args.pats.now) (g.P.Patterns.shown c.call_for.new.pats) c.call_for.result (demos.called (AlwaysTells g.S.Site.shown) c.args.words.now c.args.moment (g.I.Inputs.shown c.args.inputs.now) (g.I.Inputs.shown c.call_for.new.inputs) (g.S.Site.shown c.args.site.now) (g.S.Site.shown c.call_for.new.site) (g.O.Sink.shown c.args.out.now) (g.O.Sink.shown c.call_for.new.out) (g.P.Patterns.shown c.args.pats.now) (g.P.Patterns.shown c.call_for.new.pats) c.call_for.result c.call_for.ensures none)

pub returns-clause-without_site : goal.returns-clause-without_site
returns-clause-without_site g c = λ none. calls.without_site c.args.words.now c.args.moment (g.I.Inputs.shown c.args.inputs.now) (g.I.Inputs.shown c.call_for.new.inputs) (g.S.Site.shown c.args.site.now) (g.S.Site.shown c.call_for.new.site) (g.O.Sink.shown c.args.out.now) (g.O.Sink.shown c.call_for.new.out) (g.P.Patterns.shown c.args.pats.now) (g.P.Patterns.shown c.call_for.new.pats) c.call_for.result (demos.called (AlwaysTells g.S.Site.shown) c.args.words.now c.args.moment (g.I.Inputs.shown c.args.inputs.now) (g.I.Inputs.shown c.call_for.new.inputs) (g.S.Site.shown c.args.site.now) (g.S.Site.shown c.call_for.new.site) (g.O.Sink.shown c.args.out.now) (g.O.Sink.shown c.call_for.new.out) (g.P.Patterns.shown c.args.pats.now) (g.P.Patterns.shown c.call_for.new.pats) c.call_for.result c.call_for.ensures none)

pub returns-clause-site_untouched : goal.returns-clause-site_untouched
returns-clause-site_untouched g c = λ none. calls.site_untouched c.args.words.now c.args.moment (g.I.Inputs.shown c.args.inputs.now) (g.I.Inputs.shown c.call_for.new.inputs) (g.S.Site.shown c.args.site.now) (g.S.Site.shown c.call_for.new.site) (g.O.Sink.shown c.args.out.now) (g.O.Sink.shown c.call_for.new.out) (g.P.Patterns.shown c.args.pats.now) (g.P.Patterns.shown c.call_for.new.pats) c.call_for.result (demos.called (AlwaysTells g.S.Site.shown) c.args.words.now c.args.moment (g.I.Inputs.shown c.args.inputs.now) (g.I.Inputs.shown c.call_for.new.inputs) (g.S.Site.shown c.args.site.now) (g.S.Site.shown c.call_for.new.site) (g.O.Sink.shown c.args.out.now) (g.O.Sink.shown c.call_for.new.out) (g.P.Patterns.shown c.args.pats.now) (g.P.Patterns.shown c.call_for.new.pats) c.call_for.result c.call_for.ensures none)

pub returns-clause-range : goal.returns-clause-range
returns-clause-range g c = λ none. calls.range c.args.words.now c.args.moment (g.I.Inputs.shown c.args.inputs.now) (g.I.Inputs.shown c.call_for.new.inputs) (g.S.Site.shown c.args.site.now) (g.S.Site.shown c.call_for.new.site) (g.O.Sink.shown c.args.out.now) (g.O.Sink.shown c.call_for.new.out) (g.P.Patterns.shown c.args.pats.now) (g.P.Patterns.shown c.call_for.new.pats) c.call_for.result (demos.called (AlwaysTells g.S.Site.shown) c.args.words.now c.args.moment (g.I.Inputs.shown c.args.inputs.now) (g.I.Inputs.shown c.call_for.new.inputs) (g.S.Site.shown c.args.site.now) (g.S.Site.shown c.call_for.new.site) (g.O.Sink.shown c.args.out.now) (g.O.Sink.shown c.call_for.new.out) (g.P.Patterns.shown c.args.pats.now) (g.P.Patterns.shown c.call_for.new.pats) c.call_for.result c.call_for.ensures none)

pub returns-clause-refused : goal.returns-clause-refused
returns-clause-refused g c = λ none. calls.puts_refusal c.args.words.now c.args.moment (g.I.Inputs.shown c.args.inputs.now) (g.I.Inputs.shown c.call_for.new.inputs) (g.S.Site.shown c.args.site.now) (g.S.Site.shown c.call_for.new.site) (g.O.Sink.shown c.args.out.now) (g.O.Sink.shown c.call_for.new.out) (g.P.Patterns.shown c.args.pats.now) (g.P.Patterns.shown c.call_for.new.pats) c.call_for.result (demos.called (AlwaysTells g.S.Site.shown) c.args.words.now c.args.moment (g.I.Inputs.shown c.args.inputs.now) (g.I.Inputs.shown c.call_for.new.inputs) (g.S.Site.shown c.args.site.now) (g.S.Site.shown c.call_for.new.site) (g.O.Sink.shown c.args.out.now) (g.O.Sink.shown c.call_for.new.out) (g.P.Patterns.shown c.args.pats.now) (g.P.Patterns.shown c.call_for.new.pats) c.call_for.result c.call_for.ensures none)

pub returns-clause-refused_untouched : goal.returns-clause-refused_untouched
returns-clause-refused_untouched g c = λ none. calls.refused_untouched c.args.words.now c.args.moment (g.I.Inputs.shown c.args.inputs.now) (g.I.Inputs.shown c.call_for.new.inputs) (g.S.Site.shown c.args.site.now) (g.S.Site.shown c.call_for.new.site) (g.O.Sink.shown c.args.out.now) (g.O.Sink.shown c.call_for.new.out) (g.P.Patterns.shown c.args.pats.now) (g.P.Patterns.shown c.call_for.new.pats) c.call_for.result (demos.called (AlwaysTells g.S.Site.shown) c.args.words.now c.args.moment (g.I.Inputs.shown c.args.inputs.now) (g.I.Inputs.shown c.call_for.new.inputs) (g.S.Site.shown c.args.site.now) (g.S.Site.shown c.call_for.new.site) (g.O.Sink.shown c.args.out.now) (g.O.Sink.shown c.call_for.new.out) (g.P.Patterns.shown c.args.pats.now) (g.P.Patterns.shown c.call_for.new.pats) c.call_for.result c.call_for.ensures none)

pub returns-clause-words_refused : goal.returns-clause-words_refused
returns-clause-words_refused g c = λ none. calls.words_refused c.args.words.now c.args.moment (g.I.Inputs.shown c.args.inputs.now) (g.I.Inputs.shown c.call_for.new.inputs) (g.S.Site.shown c.args.site.now) (g.S.Site.shown c.call_for.new.site) (g.O.Sink.shown c.args.out.now) (g.O.Sink.shown c.call_for.new.out) (g.P.Patterns.shown c.args.pats.now) (g.P.Patterns.shown c.call_for.new.pats) c.call_for.result (demos.called (AlwaysTells g.S.Site.shown) c.args.words.now c.args.moment (g.I.Inputs.shown c.args.inputs.now) (g.I.Inputs.shown c.call_for.new.inputs) (g.S.Site.shown c.args.site.now) (g.S.Site.shown c.call_for.new.site) (g.O.Sink.shown c.args.out.now) (g.O.Sink.shown c.call_for.new.out) (g.P.Patterns.shown c.args.pats.now) (g.P.Patterns.shown c.call_for.new.pats) c.call_for.result c.call_for.ensures none)

pub returns-clause-moment_refused : goal.returns-clause-moment_refused
returns-clause-moment_refused g c = λ none. calls.moment_refused c.args.words.now c.args.moment (g.I.Inputs.shown c.args.inputs.now) (g.I.Inputs.shown c.call_for.new.inputs) (g.S.Site.shown c.args.site.now) (g.S.Site.shown c.call_for.new.site) (g.O.Sink.shown c.args.out.now) (g.O.Sink.shown c.call_for.new.out) (g.P.Patterns.shown c.args.pats.now) (g.P.Patterns.shown c.call_for.new.pats) c.call_for.result (demos.called (AlwaysTells g.S.Site.shown) c.args.words.now c.args.moment (g.I.Inputs.shown c.args.inputs.now) (g.I.Inputs.shown c.call_for.new.inputs) (g.S.Site.shown c.args.site.now) (g.S.Site.shown c.call_for.new.site) (g.O.Sink.shown c.args.out.now) (g.O.Sink.shown c.call_for.new.out) (g.P.Patterns.shown c.args.pats.now) (g.P.Patterns.shown c.call_for.new.pats) c.call_for.result c.call_for.ensures none)

pub returns-clause-request_refused : goal.returns-clause-request_refused
returns-clause-request_refused g c = λ none. calls.request_refused c.args.words.now c.args.moment (g.I.Inputs.shown c.args.inputs.now) (g.I.Inputs.shown c.call_for.new.inputs) (g.S.Site.shown c.args.site.now) (g.S.Site.shown c.call_for.new.site) (g.O.Sink.shown c.args.out.now) (g.O.Sink.shown c.call_for.new.out) (g.P.Patterns.shown c.args.pats.now) (g.P.Patterns.shown c.call_for.new.pats) c.call_for.result c.taken_requests_are_not_refused.ensures (demos.called (AlwaysTells g.S.Site.shown) c.args.words.now c.args.moment (g.I.Inputs.shown c.args.inputs.now) (g.I.Inputs.shown c.call_for.new.inputs) (g.S.Site.shown c.args.site.now) (g.S.Site.shown c.call_for.new.site) (g.O.Sink.shown c.args.out.now) (g.O.Sink.shown c.call_for.new.out) (g.P.Patterns.shown c.args.pats.now) (g.P.Patterns.shown c.call_for.new.pats) c.call_for.result c.call_for.ensures none)

pub returns-clause-failed : goal.returns-clause-failed
returns-clause-failed g c = λ none. calls.failed c.args.words.now c.args.moment (g.I.Inputs.shown c.args.inputs.now) (g.I.Inputs.shown c.call_for.new.inputs) (g.S.Site.shown c.args.site.now) (g.S.Site.shown c.call_for.new.site) (g.O.Sink.shown c.args.out.now) (g.O.Sink.shown c.call_for.new.out) (g.P.Patterns.shown c.args.pats.now) (g.P.Patterns.shown c.call_for.new.pats) c.call_for.result (demos.called (AlwaysTells g.S.Site.shown) c.args.words.now c.args.moment (g.I.Inputs.shown c.args.inputs.now) (g.I.Inputs.shown c.call_for.new.inputs) (g.S.Site.shown c.args.site.now) (g.S.Site.shown c.call_for.new.site) (g.O.Sink.shown c.args.out.now) (g.O.Sink.shown c.call_for.new.out) (g.P.Patterns.shown c.args.pats.now) (g.P.Patterns.shown c.call_for.new.pats) c.call_for.result c.call_for.ensures none)

pub returns-clause-conflict : goal.returns-clause-conflict
returns-clause-conflict g c = λ none. calls.conflict c.args.words.now c.args.moment (g.I.Inputs.shown c.args.inputs.now) (g.I.Inputs.shown c.call_for.new.inputs) (g.S.Site.shown c.args.site.now) (g.S.Site.shown c.call_for.new.site) (g.O.Sink.shown c.args.out.now) (g.O.Sink.shown c.call_for.new.out) (g.P.Patterns.shown c.args.pats.now) (g.P.Patterns.shown c.call_for.new.pats) c.call_for.result (demos.called (AlwaysTells g.S.Site.shown) c.args.words.now c.args.moment (g.I.Inputs.shown c.args.inputs.now) (g.I.Inputs.shown c.call_for.new.inputs) (g.S.Site.shown c.args.site.now) (g.S.Site.shown c.call_for.new.site) (g.O.Sink.shown c.args.out.now) (g.O.Sink.shown c.call_for.new.out) (g.P.Patterns.shown c.args.pats.now) (g.P.Patterns.shown c.call_for.new.pats) c.call_for.result c.call_for.ensures none)

pub returns-clause-conflict_put : goal.returns-clause-conflict_put
returns-clause-conflict_put g c = λ none. calls.conflict_put c.args.words.now c.args.moment (g.I.Inputs.shown c.args.inputs.now) (g.I.Inputs.shown c.call_for.new.inputs) (g.S.Site.shown c.args.site.now) (g.S.Site.shown c.call_for.new.site) (g.O.Sink.shown c.args.out.now) (g.O.Sink.shown c.call_for.new.out) (g.P.Patterns.shown c.args.pats.now) (g.P.Patterns.shown c.call_for.new.pats) c.call_for.result (demos.called (AlwaysTells g.S.Site.shown) c.args.words.now c.args.moment (g.I.Inputs.shown c.args.inputs.now) (g.I.Inputs.shown c.call_for.new.inputs) (g.S.Site.shown c.args.site.now) (g.S.Site.shown c.call_for.new.site) (g.O.Sink.shown c.args.out.now) (g.O.Sink.shown c.call_for.new.out) (g.P.Patterns.shown c.args.pats.now) (g.P.Patterns.shown c.call_for.new.pats) c.call_for.result c.call_for.ensures none)

pub returns-clause-unaccepted : goal.returns-clause-unaccepted
returns-clause-unaccepted g c = λ none. calls.unaccepted c.args.words.now c.args.moment (g.I.Inputs.shown c.args.inputs.now) (g.I.Inputs.shown c.call_for.new.inputs) (g.S.Site.shown c.args.site.now) (g.S.Site.shown c.call_for.new.site) (g.O.Sink.shown c.args.out.now) (g.O.Sink.shown c.call_for.new.out) (g.P.Patterns.shown c.args.pats.now) (g.P.Patterns.shown c.call_for.new.pats) c.call_for.result c.a_policy_is_run_in_one_setting.ensures (demos.called (AlwaysTells g.S.Site.shown) c.args.words.now c.args.moment (g.I.Inputs.shown c.args.inputs.now) (g.I.Inputs.shown c.call_for.new.inputs) (g.S.Site.shown c.args.site.now) (g.S.Site.shown c.call_for.new.site) (g.O.Sink.shown c.args.out.now) (g.O.Sink.shown c.call_for.new.out) (g.P.Patterns.shown c.args.pats.now) (g.P.Patterns.shown c.call_for.new.pats) c.call_for.result c.call_for.ensures none)

pub returns-clause-settled : goal.returns-clause-settled
returns-clause-settled g c = λ none. settled.settled c.args.words.now c.args.moment (g.I.Inputs.shown c.args.inputs.now) (g.I.Inputs.shown c.call_for.new.inputs) (g.S.Site.shown c.args.site.now) (g.S.Site.shown c.call_for.new.site) (g.O.Sink.shown c.args.out.now) (g.O.Sink.shown c.call_for.new.out) (g.P.Patterns.shown c.args.pats.now) (g.P.Patterns.shown c.call_for.new.pats) c.call_for.result c.taken_requests_are_not_refused.ensures c.a_policy_is_run_in_one_setting.ensures c.conflicts_meet_in_resources.ensures (demos.called (AlwaysTells g.S.Site.shown) c.args.words.now c.args.moment (g.I.Inputs.shown c.args.inputs.now) (g.I.Inputs.shown c.call_for.new.inputs) (g.S.Site.shown c.args.site.now) (g.S.Site.shown c.call_for.new.site) (g.O.Sink.shown c.args.out.now) (g.O.Sink.shown c.call_for.new.out) (g.P.Patterns.shown c.args.pats.now) (g.P.Patterns.shown c.call_for.new.pats) c.call_for.result c.call_for.ensures none)

pub returns-clause-complete : goal.returns-clause-complete
returns-clause-complete g c = λ none. settled.complete c.args.words.now c.args.moment (g.I.Inputs.shown c.args.inputs.now) (g.I.Inputs.shown c.call_for.new.inputs) (g.S.Site.shown c.args.site.now) (g.S.Site.shown c.call_for.new.site) (g.O.Sink.shown c.args.out.now) (g.O.Sink.shown c.call_for.new.out) (g.P.Patterns.shown c.args.pats.now) (g.P.Patterns.shown c.call_for.new.pats) c.call_for.result c.taken_requests_are_not_refused.ensures c.a_policy_is_run_in_one_setting.ensures (demos.called (AlwaysTells g.S.Site.shown) c.args.words.now c.args.moment (g.I.Inputs.shown c.args.inputs.now) (g.I.Inputs.shown c.call_for.new.inputs) (g.S.Site.shown c.args.site.now) (g.S.Site.shown c.call_for.new.site) (g.O.Sink.shown c.args.out.now) (g.O.Sink.shown c.call_for.new.out) (g.P.Patterns.shown c.args.pats.now) (g.P.Patterns.shown c.call_for.new.pats) c.call_for.result c.call_for.ensures none)

pub returns-clause-journaled : goal.returns-clause-journaled
returns-clause-journaled g c = λ none end. journal.journaled c.args.words.now c.args.moment (g.I.Inputs.shown c.args.inputs.now) (g.I.Inputs.shown c.call_for.new.inputs) (g.S.Site.shown c.args.site.now) (g.S.Site.shown c.call_for.new.site) (g.O.Sink.shown c.args.out.now) (g.O.Sink.shown c.call_for.new.out) (g.P.Patterns.shown c.args.pats.now) (g.P.Patterns.shown c.call_for.new.pats) c.call_for.result (demos.called (AlwaysTells g.S.Site.shown) c.args.words.now c.args.moment (g.I.Inputs.shown c.args.inputs.now) (g.I.Inputs.shown c.call_for.new.inputs) (g.S.Site.shown c.args.site.now) (g.S.Site.shown c.call_for.new.site) (g.O.Sink.shown c.args.out.now) (g.O.Sink.shown c.call_for.new.out) (g.P.Patterns.shown c.args.pats.now) (g.P.Patterns.shown c.call_for.new.pats) c.call_for.result c.call_for.ensures none) end

pub returns-clause-calm : goal.returns-clause-calm
returns-clause-calm g c = λ other. counts.calm (AlwaysTells g.S.Site.shown) c.args.words.now c.args.moment (g.I.Inputs.shown c.args.inputs.now) (g.I.Inputs.shown c.call_for.new.inputs) (g.S.Site.shown c.args.site.now) (g.S.Site.shown c.call_for.new.site) (g.O.Sink.shown c.args.out.now) (g.O.Sink.shown c.call_for.new.out) (g.P.Patterns.shown c.args.pats.now) (g.P.Patterns.shown c.call_for.new.pats) c.call_for.result c.call_for.ensures other

pub returns-clause-read_whole : goal.returns-clause-read_whole
returns-clause-read_whole g c = λ end. counts.read_whole (AlwaysTells g.S.Site.shown) c.args.words.now c.args.moment (g.I.Inputs.shown c.args.inputs.now) (g.I.Inputs.shown c.call_for.new.inputs) (g.S.Site.shown c.args.site.now) (g.S.Site.shown c.call_for.new.site) (g.O.Sink.shown c.args.out.now) (g.O.Sink.shown c.call_for.new.out) (g.P.Patterns.shown c.args.pats.now) (g.P.Patterns.shown c.call_for.new.pats) c.call_for.result c.call_for.ensures end

pub returns-clause-outside : goal.returns-clause-outside
returns-clause-outside g c = λ none. calls.outside c.args.words.now c.args.moment (g.I.Inputs.shown c.args.inputs.now) (g.I.Inputs.shown c.call_for.new.inputs) (g.S.Site.shown c.args.site.now) (g.S.Site.shown c.call_for.new.site) (g.O.Sink.shown c.args.out.now) (g.O.Sink.shown c.call_for.new.out) (g.P.Patterns.shown c.args.pats.now) (g.P.Patterns.shown c.call_for.new.pats) c.call_for.result (demos.called (AlwaysTells g.S.Site.shown) c.args.words.now c.args.moment (g.I.Inputs.shown c.args.inputs.now) (g.I.Inputs.shown c.call_for.new.inputs) (g.S.Site.shown c.args.site.now) (g.S.Site.shown c.call_for.new.site) (g.O.Sink.shown c.args.out.now) (g.O.Sink.shown c.call_for.new.out) (g.P.Patterns.shown c.args.pats.now) (g.P.Patterns.shown c.call_for.new.pats) c.call_for.result c.call_for.ensures none)

pub returns-clause-names : goal.returns-clause-names
returns-clause-names g c = λ none. calls.names c.args.words.now c.args.moment (g.I.Inputs.shown c.args.inputs.now) (g.I.Inputs.shown c.call_for.new.inputs) (g.S.Site.shown c.args.site.now) (g.S.Site.shown c.call_for.new.site) (g.O.Sink.shown c.args.out.now) (g.O.Sink.shown c.call_for.new.out) (g.P.Patterns.shown c.args.pats.now) (g.P.Patterns.shown c.call_for.new.pats) c.call_for.result (demos.called (AlwaysTells g.S.Site.shown) c.args.words.now c.args.moment (g.I.Inputs.shown c.args.inputs.now) (g.I.Inputs.shown c.call_for.new.inputs) (g.S.Site.shown c.args.site.now) (g.S.Site.shown c.call_for.new.site) (g.O.Sink.shown c.args.out.now) (g.O.Sink.shown c.call_for.new.out) (g.P.Patterns.shown c.args.pats.now) (g.P.Patterns.shown c.call_for.new.pats) c.call_for.result c.call_for.ensures none)

pub returns-clause-put_short : goal.returns-clause-put_short
returns-clause-put_short g c = λ none. calls.put_short c.args.words.now c.args.moment (g.I.Inputs.shown c.args.inputs.now) (g.I.Inputs.shown c.call_for.new.inputs) (g.S.Site.shown c.args.site.now) (g.S.Site.shown c.call_for.new.site) (g.O.Sink.shown c.args.out.now) (g.O.Sink.shown c.call_for.new.out) (g.P.Patterns.shown c.args.pats.now) (g.P.Patterns.shown c.call_for.new.pats) c.call_for.result c.a_policy_is_run_in_one_setting.ensures (demos.called (AlwaysTells g.S.Site.shown) c.args.words.now c.args.moment (g.I.Inputs.shown c.args.inputs.now) (g.I.Inputs.shown c.call_for.new.inputs) (g.S.Site.shown c.args.site.now) (g.S.Site.shown c.call_for.new.site) (g.O.Sink.shown c.args.out.now) (g.O.Sink.shown c.call_for.new.out) (g.P.Patterns.shown c.args.pats.now) (g.P.Patterns.shown c.call_for.new.pats) c.call_for.result c.call_for.ensures none)

pub returns-clause-memory : goal.returns-clause-memory
returns-clause-memory g c = λ none. calls.memory c.args.words.now c.args.moment (g.I.Inputs.shown c.args.inputs.now) (g.I.Inputs.shown c.call_for.new.inputs) (g.S.Site.shown c.args.site.now) (g.S.Site.shown c.call_for.new.site) (g.O.Sink.shown c.args.out.now) (g.O.Sink.shown c.call_for.new.out) (g.P.Patterns.shown c.args.pats.now) (g.P.Patterns.shown c.call_for.new.pats) c.call_for.result (demos.called (AlwaysTells g.S.Site.shown) c.args.words.now c.args.moment (g.I.Inputs.shown c.args.inputs.now) (g.I.Inputs.shown c.call_for.new.inputs) (g.S.Site.shown c.args.site.now) (g.S.Site.shown c.call_for.new.site) (g.O.Sink.shown c.args.out.now) (g.O.Sink.shown c.call_for.new.out) (g.P.Patterns.shown c.args.pats.now) (g.P.Patterns.shown c.call_for.new.pats) c.call_for.result c.call_for.ensures none)

pub returns-clause-memory_told : goal.returns-clause-memory_told
returns-clause-memory_told g c = λ none. calls.memory_told c.args.words.now c.args.moment (g.I.Inputs.shown c.args.inputs.now) (g.I.Inputs.shown c.call_for.new.inputs) (g.S.Site.shown c.args.site.now) (g.S.Site.shown c.call_for.new.site) (g.O.Sink.shown c.args.out.now) (g.O.Sink.shown c.call_for.new.out) (g.P.Patterns.shown c.args.pats.now) (g.P.Patterns.shown c.call_for.new.pats) c.call_for.result (demos.called (AlwaysTells g.S.Site.shown) c.args.words.now c.args.moment (g.I.Inputs.shown c.args.inputs.now) (g.I.Inputs.shown c.call_for.new.inputs) (g.S.Site.shown c.args.site.now) (g.S.Site.shown c.call_for.new.site) (g.O.Sink.shown c.args.out.now) (g.O.Sink.shown c.call_for.new.out) (g.P.Patterns.shown c.args.pats.now) (g.P.Patterns.shown c.call_for.new.pats) c.call_for.result c.call_for.ensures none)

pub returns-clause-pattern_or_visits : goal.returns-clause-pattern_or_visits
returns-clause-pattern_or_visits g c = λ none. calls.pattern_or_visits c.args.words.now c.args.moment (g.I.Inputs.shown c.args.inputs.now) (g.I.Inputs.shown c.call_for.new.inputs) (g.S.Site.shown c.args.site.now) (g.S.Site.shown c.call_for.new.site) (g.O.Sink.shown c.args.out.now) (g.O.Sink.shown c.call_for.new.out) (g.P.Patterns.shown c.args.pats.now) (g.P.Patterns.shown c.call_for.new.pats) c.call_for.result c.a_policy_is_run_in_one_setting.ensures (demos.called (AlwaysTells g.S.Site.shown) c.args.words.now c.args.moment (g.I.Inputs.shown c.args.inputs.now) (g.I.Inputs.shown c.call_for.new.inputs) (g.S.Site.shown c.args.site.now) (g.S.Site.shown c.call_for.new.site) (g.O.Sink.shown c.args.out.now) (g.O.Sink.shown c.call_for.new.out) (g.P.Patterns.shown c.args.pats.now) (g.P.Patterns.shown c.call_for.new.pats) c.call_for.result c.call_for.ensures none)

pub returns-clause-patterns_kept : goal.returns-clause-patterns_kept
returns-clause-patterns_kept g c = λ none. calls.patterns_kept c.args.words.now c.args.moment (g.I.Inputs.shown c.args.inputs.now) (g.I.Inputs.shown c.call_for.new.inputs) (g.S.Site.shown c.args.site.now) (g.S.Site.shown c.call_for.new.site) (g.O.Sink.shown c.args.out.now) (g.O.Sink.shown c.call_for.new.out) (g.P.Patterns.shown c.args.pats.now) (g.P.Patterns.shown c.call_for.new.pats) c.call_for.result (demos.called (AlwaysTells g.S.Site.shown) c.args.words.now c.args.moment (g.I.Inputs.shown c.args.inputs.now) (g.I.Inputs.shown c.call_for.new.inputs) (g.S.Site.shown c.args.site.now) (g.S.Site.shown c.call_for.new.site) (g.O.Sink.shown c.args.out.now) (g.O.Sink.shown c.call_for.new.out) (g.P.Patterns.shown c.args.pats.now) (g.P.Patterns.shown c.call_for.new.pats) c.call_for.result c.call_for.ensures none)

pub returns-clause-demo : goal.returns-clause-demo
returns-clause-demo g c number asks = demos.demonstrated (AlwaysTells g.S.Site.shown) c.args.words.now c.args.moment (g.I.Inputs.shown c.args.inputs.now) (g.I.Inputs.shown c.call_for.new.inputs) (g.S.Site.shown c.args.site.now) (g.S.Site.shown c.call_for.new.site) (g.O.Sink.shown c.args.out.now) (g.O.Sink.shown c.call_for.new.out) (g.P.Patterns.shown c.args.pats.now) (g.P.Patterns.shown c.call_for.new.pats) c.call_for.result c.call_for.ensures number asks

pub returns-clause-demo_ends : goal.returns-clause-demo_ends
returns-clause-demo_ends g c number asks in_time =
    let laws : demo_ends.DemoLaws = record {
      one_tree = c.demos_are_taken.ensures.one_tree;
      never_refused = c.demos_are_taken.ensures.never_refused;
      fits = c.demos_are_walked.ensures.fits;
      accepted = c.demos_are_accepted.ensures;
    } in
    demo_ends.asked_ends (AlwaysTells g.S.Site.shown) (g.S.Site.shown c.call_for.new.site) laws c.args.words.now number c.args.moment asks in_time
    (g.S.Site.shown c.args.site.now) (g.O.Sink.shown c.args.out.now) (g.O.Sink.shown c.call_for.new.out) c.call_for.result
    (λ tells. tells c.args.site.now) (λ tells. tells c.call_for.new.site)
    (demos.demonstrated (AlwaysTells g.S.Site.shown) c.args.words.now c.args.moment (g.I.Inputs.shown c.args.inputs.now) (g.I.Inputs.shown c.call_for.new.inputs) (g.S.Site.shown c.args.site.now) (g.S.Site.shown c.call_for.new.site) (g.O.Sink.shown c.args.out.now) (g.O.Sink.shown c.call_for.new.out) (g.P.Patterns.shown c.args.pats.now) (g.P.Patterns.shown c.call_for.new.pats) c.call_for.result c.call_for.ensures number asks)

pub returns-clause-demo_unread : goal.returns-clause-demo_unread
returns-clause-demo_unread g c number asks = demos.unread_by (AlwaysTells g.S.Site.shown) c.args.words.now c.args.moment (g.I.Inputs.shown c.args.inputs.now) (g.I.Inputs.shown c.call_for.new.inputs) (g.S.Site.shown c.args.site.now) (g.S.Site.shown c.call_for.new.site) (g.O.Sink.shown c.args.out.now) (g.O.Sink.shown c.call_for.new.out) (g.P.Patterns.shown c.args.pats.now) (g.P.Patterns.shown c.call_for.new.pats) c.call_for.result c.call_for.ensures number asks
