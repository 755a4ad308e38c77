use Rattle.std.proofs.Common.{◌∙◌, sym}
use Rattle.cfa_words.proofs.DemoNumbers.{no_number}
use Rattle.cfa_words.proofs.words.demo_number.Goals as goal

pub returns-in_default-3 : goal.returns-in_default-3
returns-in_default-3 c =
    no_number _ c.args.text.now c.as_bytes.result.now c.in_default.field-0 c.as_bytes.ensures.value (sym c.is_decimal.ensures ∙ c.if-not-is_decimal.false) c.in_default.ensures.value.0
