use Rattle.std.proofs.Common.{◌≡◌, ◌≤◌, ◌⊎◌, inl, inr, false, true, sym, ◌∙◌, arith, length}
use Rattle.std.proofs.lemmas.List.Elements.{AllWithin-more, at_read}
use Rattle.cfa_edits.specs.declared.edits.Edit.TheVariants.{Insert}
use Rattle.cfa_edit_proof.specs.Steps.{clash_of_two}
use Rattle.cfa_edit_proof.proofs.FirstClash.{passed_over}
use Rattle.cfa_edit_proof.proofs.search.first_replacing.Goals.{then-from-replaces, else-from-replaces}
use Rattle.cfa_edit_proof.proofs.search.first_replacing.Goals as goal

pub returns-then-insert_clashes : goal.returns-then-insert_clashes
returns-then-insert_clashes c spot =
    let low : c.args.from ≤ c.if-from-replaces.start = elim c.if-from-replaces.branch [
      | then-from-replaces w ↦ rw w.start-is (omega (arith, w.if-from-replaces.true))
      | else-from-replaces w ↦ rw w.start-is (omega arith)
    ] in
    let begins : (c.if-from-replaces.start ≤ c.args.from) ⊎ (c.if-from-replaces.start ≤ c.args.replaces) = elim c.if-from-replaces.branch [
      | then-from-replaces w ↦ inr (rw w.start-is (omega arith))
      | else-from-replaces w ↦ inl (rw w.start-is (omega arith))
    ] in
    let on = c.loop-place.auto.place in
    let lt = c.loop-place-test.true in (
      omega (arith, low, on),
      omega (arith, lt),
      at_read c.args.edits.now (λ other. clash_of_two (Insert c.args.block.now spot) other ≡ true) c.loop-place.place c.index-edits-place.result (omega (arith, lt)) c.index-edits-place.is
          (sym (c.insert_clashes.ensures spot) ∙ c.if-insert_clashes.true),
      passed_over c.args.block.now spot c.args.edits.now c.args.from c.args.replaces c.if-from-replaces.start c.loop-place.place c.requires.replaces begins (c.loop-place.invariant spot),
    )

pub loop-place-preserved : goal.loop-place-preserved
loop-place-preserved c spot =
    let lt = c.loop-place-test.true in
    AllWithin-more (λ other. clash_of_two (Insert c.args.block.now spot) other ≡ false) c.args.edits.now c.if-from-replaces.start c.loop-place.place (c.loop-place.invariant spot)
    (at_read c.args.edits.now (λ other. clash_of_two (Insert c.args.block.now spot) other ≡ false) c.loop-place.place c.index-edits-place.result (omega (arith, lt)) c.index-edits-place.is
    (sym (c.insert_clashes.ensures spot) ∙ c.if-insert_clashes.false))

pub returns : goal.returns
returns c spot =
    let begins : (c.if-from-replaces.start ≤ c.args.from) ⊎ (c.if-from-replaces.start ≤ c.args.replaces) = elim c.if-from-replaces.branch [
      | then-from-replaces w ↦ inr (rw w.start-is (omega arith))
      | else-from-replaces w ↦ inl (rw w.start-is (omega arith))
    ] in
    let past = c.loop-place-test.false in
    passed_over c.args.block.now spot c.args.edits.now c.args.from c.args.replaces c.if-from-replaces.start (length c.args.edits.now) c.requires.replaces begins
    (λ k d low high. c.loop-place.invariant spot k d low (omega (arith, past, high)))
