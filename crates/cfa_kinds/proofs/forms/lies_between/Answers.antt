use Rattle.cfa_kinds.proofs.FormLemmas.{always_read}
use Rattle.cfa_kinds.proofs.forms.lies_between.Goals as goal

pub returns-in-Err : goal.returns-in-Err
returns-in-Err c = absurd (always_read c.args.text.now c.in-Err.field-0 c.in-Err.ensures.value.0 c.requires.digits c.requires.some c.requires.short)
