use Rattle.std.proofs.Common.{ap, sym, ◌∙◌, length}
use Rattle.std.proofs.lemmas.Bool.{both_ways}
use Rattle.std.specs.List.{list_all}
use Rattle.cfa_base.specs.Octal.{is_octal_digit}
use Rattle.cfa_base.specs.lemmas.Modes.{mode_length}
use Rattle.cfa_tables.proofs.ModeLemmas.{mode-digits, mode_read, four_digits}
use Rattle.cfa_tables.proofs.modes.read_mode.Goals as goal
use Rattle.cfa_tables.proofs.modes.read_mode.Goals.{then-field-ne4-via-then-field-ne4, then-field-ne4-via-else-field-ne4+then-not-are_octal_digits}

pub returns-then-field-ne4 : goal.returns-then-field-ne4
returns-then-field-ne4 c row is same =
    elim c.then-field-ne4.branch [
      | then-field-ne4-via-then-field-ne4 w ↦ w.if-field-ne4.true (ap length (sym same) ∙ mode_length row)
      | then-field-ne4-via-else-field-ne4+then-not-are_octal_digits w ↦ both_ways _ w.if-not-are_octal_digits.true (w.are_octal_digits.ensures ∙ ap (list_all is_octal_digit) (sym same) ∙ mode-digits row)
    ]

pub returns : goal.returns
returns c =
    let all = sym c.are_octal_digits.ensures ∙ c.if-not-are_octal_digits.false in
    let four = four_digits c.args.field.now c.if-field-ne4.false all in
    mode_read c.args.field.now _ _ _ _ four c.from.ensures c.from-2.ensures c.from-3.ensures c.from-4.ensures
