use Rattle.std.proofs.Common.{ap, sym, ◌∙◌, subst}
use Rattle.std.proofs.lemmas.Bool.{both_ways}
use Rattle.std.proofs.lemmas.Fmt.{IsAscii-decimal}
use Rattle.std.proofs.lemmas.Str.{IsUtf8-from_ascii}
use Rattle.std.specs.Str.{IsUtf8}
use Rattle.cfa_base.specs.Decimals.{is_decimal}
use Rattle.cfa_rows.specs.lemmas.Numbers.{is_decimal-decimal, parsed}
use Rattle.cfa_rows.proofs.numbers.read_number.Goals as goal

pub returns-then-not-is_decimal : goal.returns-then-not-is_decimal
returns-then-not-is_decimal c n small same =
    let is = c.is_decimal.ensures ∙ ap is_decimal (sym same) ∙ is_decimal-decimal n small in
    both_ways _ c.if-not-is_decimal.true is

pub returns-in-Ok : goal.returns-in-Ok
returns-in-Ok c =
    let is = sym c.is_decimal.ensures ∙ c.if-not-is_decimal.false in
    rw c.ok.ensures.value (parsed _ _ _ c.parse.result c.in-Ok.ensures.cases.0 is c.parse.ensures.value.0)

pub returns-in-Err : goal.returns-in-Err
returns-in-Err c n small same = c.in-Err.ensures.cases.0 (subst IsUtf8 same (IsUtf8-from_ascii _ (IsAscii-decimal n small)))
