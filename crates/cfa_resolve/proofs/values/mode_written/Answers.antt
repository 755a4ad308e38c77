use Rattle.std.proofs.Common.{sym, ◌∙◌}
use Rattle.cfa_resolve.proofs.ValueLemmas.{mode_read}
use Rattle.cfa_resolve.proofs.values.mode_written.Goals as goal

pub returns-in-Err : goal.returns-in-Err
returns-in-Err c = absurd (mode_read c.args.text.now c.in-Err.field-0 (sym c.has_form.ensures ∙ c.if-not-has_form.false) c.in-Err.ensures.value)
