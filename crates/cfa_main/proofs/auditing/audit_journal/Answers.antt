use Rattle.std.proofs.Common.{refl}
use Rattle.cfa_main.proofs.AuditLemmas.{audits_as, refuses_journal}
use Rattle.cfa_main.proofs.auditing.audit_journal.Goals as goal

pub returns-in-Ok : goal.returns-in-Ok
returns-in-Ok g c = record {
  text = audits_as (g.I.Inputs.shown c.args.inputs.now).told c.args.name.now c.in_ok-bytes.bytes c.in_ok-audit_lines-in-Ok.field-0 c.in-Ok.journal.records c.in-Ok.journal.torn c.in_ok-bytes.ensures.bytes c.in-Ok.ensures.within c.in-Ok.ensures.ok c.in_ok-audit_lines-in-Ok.ensures;
  refused = tt;
  inputs_are = c.in_ok-bytes.ensures.inputs_are;
  no_pattern = refl;
}

pub returns : goal.returns
returns g c = record {
  text = tt;
  refused = refuses_journal (g.I.Inputs.shown c.args.inputs.now).told c.args.name.now c.in_ok-bytes.bytes c.in_ok-refusal_line-in-Err.field-0 c.in-Err.error c.in_ok-bytes.ensures.bytes c.in-Err.ensures.bad c.in-Err.ensures.long c.in_ok-refusal_line-in-Err.ensures;
  inputs_are = c.in_ok-bytes.ensures.inputs_are;
  no_pattern = refl;
}
