use Rattle.std.proofs.Common.{◌∙◌, sym}
use Rattle.cfa_kinds.proofs.FormLemmas.{minutes_read}
use Rattle.cfa_kinds.proofs.forms.minutes.Goals as goal

pub returns-in-Err : goal.returns-in-Err
returns-in-Err c = absurd (minutes_read c.args.text.now c.in-Err.field-0 c.in-Err.ensures.value.0 (sym c.has_form.ensures ∙ c.if-not-has_form.false))
