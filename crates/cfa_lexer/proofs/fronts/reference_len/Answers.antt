use Rattle.std.proofs.Common.{sym, arith, ◌∙◌, slice_index}
use Rattle.std.proofs.lemmas.List.{take_rest}
use Rattle.cfa_lexer.proofs.Lengths.{no_reference_in, no_bracket, no_name, is_reference_there}
use Rattle.cfa_lexer.proofs.fronts.reference_len.Goals as goal
use Rattle.cfa_lexer.proofs.fronts.reference_len.Goals.{else-len-inner-via-then-len-inner+else-is_name, else-len-inner-via-else-len-inner}

pub returns-in_default : goal.returns-in_default
returns-in_default c = no_reference_in c.args.bytes.now (slice_index c.args.bytes.now 0) (no_bracket c.args.bytes.now (slice_index c.args.bytes.now 0) (sym c.in_default.ensures))

pub returns-then-is_name : goal.returns-then-is_name
returns-then-is_name c =
    is_reference_there c.args.bytes.now _ c.in-Some.close c.len_before-len.result (take_rest c.args.bytes.now 2) (omega arith) (sym c.in-Some.ensures) c.len_before-len.ensures.value c.if-len-inner.true (sym c.is_name.ensures ∙ c.if-is_name.true)

pub returns-else-len-inner : goal.returns-else-len-inner
returns-else-len-inner c =
    no_reference_in c.args.bytes.now (slice_index c.args.bytes.now 0)
    (no_name c.args.bytes.now _ (slice_index c.args.bytes.now 0) c.in-Some.close c.len_before-len.result (take_rest c.args.bytes.now 2) (sym c.in-Some.ensures) c.len_before-len.ensures.value
    (λ inside. elim c.else-len-inner.branch [
      | else-len-inner-via-then-len-inner+else-is_name w ↦ sym w.is_name.ensures ∙ w.if-is_name.false
      | else-len-inner-via-else-len-inner w ↦ absurd (omega (arith, inside))
    ]))
