use Rattle.cfa_scripts.proofs.FormLemmas.{number_read}
use Rattle.cfa_scripts.proofs.editing.field_number.Goals as goal

pub returns-in-Err : goal.returns-in-Err
returns-in-Err c = absurd (number_read c.args.text.now c.in-Err.field-0 c.in-Err.ensures.value.0 c.requires)
