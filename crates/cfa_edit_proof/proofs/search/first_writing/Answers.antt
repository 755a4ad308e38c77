use Rattle.std.proofs.Common.{◌≡◌, false, true, sym, ◌∙◌, arith}
use Rattle.std.proofs.lemmas.List.Elements.{AllWithin-more, at_read}
use Rattle.cfa_edits.specs.declared.edits.Edit.TheVariants.{Replace}
use Rattle.cfa_edit_proof.specs.Steps.{clash_of_two}
use Rattle.cfa_edit_proof.proofs.search.first_writing.Goals as goal

pub returns-then-branch : goal.returns-then-branch
returns-then-branch c text value all is =
    let on = c.loop-place.auto.place in
    let lt = c.loop-place-test.true in (
      omega (arith, on),
      omega (arith, lt),
      at_read c.args.edits.now (λ other. clash_of_two (Replace text value all) other ≡ true) c.loop-place.place c.index-edits-place.result (omega (arith, lt)) c.index-edits-place.is
          (sym (c.in_ok-replace_clashes.ensures text value all is) ∙ c.if-branch.true),
      c.loop-place.invariant text value all is,
    )

pub loop-place-preserved : goal.loop-place-preserved
loop-place-preserved c text value all is =
    let lt = c.loop-place-test.true in
    AllWithin-more (λ other. clash_of_two (Replace text value all) other ≡ false) c.args.edits.now c.args.from c.loop-place.place (c.loop-place.invariant text value all is)
    (at_read c.args.edits.now (λ other. clash_of_two (Replace text value all) other ≡ false) c.loop-place.place c.index-edits-place.result (omega (arith, lt)) c.index-edits-place.is
    (sym (c.in_ok-replace_clashes.ensures text value all is) ∙ c.if-branch.false))

pub returns : goal.returns
returns c text value all is =
    let past = c.loop-place-test.false in
    λ k d low high. c.loop-place.invariant text value all is k d low (omega (arith, past, high))
