use Rattle.std.proofs.Common.{◌∙◌, sym, arith}
use Rattle.cfa_functions.proofs.FunctionLemmas.{item_found, item_past}
use Rattle.cfa_functions.proofs.making.item_at.Goals as goal

pub returns-in-Ok : goal.returns-in-Ok
returns-in-Ok c =
    let found = item_found c.args.items.now c.args.text.now c.as_bytes.result.now c.in-Ok.place c.as_bytes.ensures.value (sym c.if-not-is_decimal.false ∙ c.is_decimal.ensures) c.in-Ok.ensures.value.0 in
    c.item_of.ensures ∙ found

pub returns-in-Err : goal.returns-in-Err
returns-in-Err c =
    item_past _ c.args.items.now c.args.text.now c.as_bytes.result.now c.in-Err.field-0 c.as_bytes.ensures.value (sym c.if-not-is_decimal.false ∙ c.is_decimal.ensures) (omega arith) c.in-Err.ensures.value.0
