use Rattle.std.proofs.Common.{◌++◌, ap, ◌∙◌}
use Rattle.std.specs.String.{string_bytes}
use Rattle.cfa_base.specs.Escapes.{escaped}
use Rattle.cfa_edits.proofs.TextSteps.{first_text, later_text, is_zero, is_later, not_first}
use Rattle.cfa_edits.proofs.writing.write_block.Goals.{then-not-is_first+in_ok-push_str, else-not-is_first}
use Rattle.cfa_edits.proofs.writing.write_block.Goals as goal

pub loop-line-preserved : goal.loop-line-preserved
loop-line-preserved c =
    let start = string_bytes c.args.text.now in
    let xs = c.as_slice-line-items.result.now in
    let i = c.loop-line.line-index in
    let x = c.line-item.result in
    let so_far = c.loop-line.invariant.1 in (
      not_first i,
      elim c.if-not-is_first.branch [
        | then-not-is_first+in_ok-push_str w ↦
            c.in_ok-write_escaped.ensures ∙ ap (λ t. string_bytes c.if-not-is_first.text ++ escaped t) c.as_str.ensures
            ∙ ap (λ t. t ++ escaped x) (rw w.text-is w.in_ok-push_str.ensures.bytes)
            ∙ later_text 43 start (string_bytes c.loop-line.text) escaped xs i x c.loop-line-test.true c.line-item.is so_far (is_later c.loop-line.is_first i c.loop-line.invariant.0 w.if-not-is_first.true)
        | else-not-is_first w ↦
            c.in_ok-write_escaped.ensures ∙ ap (λ t. string_bytes c.if-not-is_first.text ++ escaped t) c.as_str.ensures
            ∙ ap (λ t. string_bytes t ++ escaped x) w.text-is
            ∙ first_text 43 start (string_bytes c.loop-line.text) escaped xs i x c.loop-line-test.true c.line-item.is so_far (is_zero c.loop-line.is_first i c.loop-line.invariant.0 w.if-not-is_first.false)
      ],
    )
