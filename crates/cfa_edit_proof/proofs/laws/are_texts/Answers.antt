use Rattle.std.proofs.Common.{IsUtf8, arith}
use Rattle.std.proofs.lemmas.List.Elements.{AllWithin-more, at_read}
use Rattle.cfa_edit_proof.proofs.laws.are_texts.Goals as goal

pub loop-line-preserved : goal.loop-line-preserved
loop-line-preserved c =
    let lt = rw c.as_slice-line-items.ensures at c.loop-line-test.true in
    let is = rw c.as_slice-line-items.ensures at c.line-item.is in
    let text = rw c.as_str-text.ensures at c.as_str-text.utf8 in
    AllWithin-more IsUtf8 c.args.lines.now 0 c.loop-line.line-index c.loop-line.invariant
    (at_read c.args.lines.now IsUtf8 c.loop-line.line-index c.line-item.result (omega (arith, lt)) is text)
