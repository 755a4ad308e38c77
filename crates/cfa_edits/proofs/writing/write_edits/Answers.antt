use Rattle.std.proofs.Common.{◌++◌, map, ap, ◌∙◌}
use Rattle.std.specs.String.{string_bytes}
use Rattle.std.specs.List.{join_with_byte}
use Rattle.std.proofs.lemmas.List.{take_all}
use Rattle.cfa_edits.specs.Scripts.{edit_text, script_text}
use Rattle.cfa_edits.proofs.TextSteps.{first_text, later_text, is_zero, is_later, not_first}
use Rattle.cfa_edits.proofs.writing.write_edits.Goals.{then-not-is_first+in_ok-push_str, else-not-is_first}
use Rattle.cfa_edits.proofs.writing.write_edits.Goals as goal

pub loop-edit-preserved : goal.loop-edit-preserved
loop-edit-preserved c =
    let start = string_bytes c.args.text.now in
    let xs = c.args.edits.now in
    let i = c.loop-edit.edit-index in
    let x = c.edit-item.result in
    let so_far = c.loop-edit.invariant.1 in (
      not_first i,
      elim c.if-not-is_first.branch [
        | then-not-is_first+in_ok-push_str w ↦
            c.in_ok-write_edit.ensures
            ∙ ap (λ t. t ++ edit_text x) (rw w.text-is w.in_ok-push_str.ensures.bytes)
            ∙ later_text 44 start (string_bytes c.loop-edit.text) edit_text xs i x c.loop-edit-test.true c.edit-item.is so_far (is_later c.loop-edit.is_first i c.loop-edit.invariant.0 w.if-not-is_first.true)
        | else-not-is_first w ↦
            c.in_ok-write_edit.ensures
            ∙ ap (λ t. string_bytes t ++ edit_text x) w.text-is
            ∙ first_text 44 start (string_bytes c.loop-edit.text) edit_text xs i x c.loop-edit-test.true c.edit-item.is so_far (is_zero c.loop-edit.is_first i c.loop-edit.invariant.0 w.if-not-is_first.false)
      ],
    )

pub returns : goal.returns
unfolding script_text
returns c =
    c.loop-edit.invariant.1
    ∙ ap (λ edits. string_bytes c.args.text.now ++ join_with_byte 44 (map edit_text edits)) (take_all c.loop-edit.edit-index c.args.edits.now c.loop-edit-test.false)
