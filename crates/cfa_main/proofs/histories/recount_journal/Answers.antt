use Rattle.std.proofs.Common.{refl}
use Rattle.cfa_main.proofs.AuditLemmas.{refuses_journal}
use Rattle.cfa_main.proofs.HistoryLemmas.{few_records, recounts_as}
use Rattle.cfa_main.proofs.histories.recount_journal.Goals as goal

pub history_lines-requires-clause-in_place : goal.history_lines-requires-clause-in_place
history_lines-requires-clause-in_place g c = c.in-Ok.ensures.ok.in_place

pub history_lines-requires-clause-few : goal.history_lines-requires-clause-few
history_lines-requires-clause-few g c = few_records c.no_more_records.ensures c.in_ok-bytes.bytes c.in-Ok.journal.records c.in-Ok.journal.torn c.in-Ok.ensures.within c.in-Ok.ensures.ok

pub returns-in-Ok : goal.returns-in-Ok
returns-in-Ok g c = record {
  text = recounts_as (g.I.Inputs.shown c.args.inputs.now).told c.args.name.now c.in_ok-bytes.bytes c.in_ok-history_lines-in-Ok.field-0 c.in-Ok.journal.records c.in-Ok.journal.torn c.in_ok-bytes.ensures.bytes c.in-Ok.ensures.within c.in-Ok.ensures.ok c.in_ok-history_lines-in-Ok.ensures;
  refused = tt;
  inputs_are = c.in_ok-bytes.ensures.inputs_are;
  no_pattern = refl;
}

pub returns : goal.returns
returns g c = record {
  text = tt;
  refused = refuses_journal (g.I.Inputs.shown c.args.inputs.now).told c.args.name.now c.in_ok-bytes.bytes c.in_ok-refusal_line-in-Err.field-0 c.in-Err.error c.in_ok-bytes.ensures.bytes c.in-Err.ensures.bad c.in-Err.ensures.long c.in_ok-refusal_line-in-Err.ensures;
  inputs_are = c.in_ok-bytes.ensures.inputs_are;
  no_pattern = refl;
}
