use Rattle.std.proofs.Common.{◌∙◌, sym, option_copied}
use Rattle.cfa_scripts.proofs.FormLemmas.{number_of_field}
use Rattle.cfa_scripts.proofs.editing.field_by.Goals as goal

pub field_number-requires : goal.field_number-requires
field_number-requires c =
    number_of_field c.args.separator.now c.args.number.now c.args.value.now (option_copied c.args.operation)
    (sym c.is_right_field.ensures ∙ c.if-not-is_right_field.false)
