use Rattle.std.proofs.Common.{◌∙◌, ap}
use Rattle.std.specs.Prelude.{option_map}
use Rattle.cfa_served.proofs.NumberLemmas.{plain_with, promise_here, promise_behind}
use Rattle.cfa_served.proofs.promise_ids.promise_at.Goals as goal

pub returns-then-left-promises : goal.returns-then-left-promises
returns-then-left-promises c =
    let is = c.as_slice-promises.ensures ∙ ap (λ s. s.promises) c.section-item.is in
    let word = c.as_str.ensures ∙ ap (λ s. s.kind) c.section-item.is in
    c.with_word.ensures ∙ ap (λ w. option_map (λ p. plain_with w p.now) c.nth.result) word
    ∙ promise_here c.args.sections.now c.loop-section.section-index c.section-item.result c.loop-section.left c.as_slice-promises.result.now c.loop-section-test.true is c.nth.result c.nth.ensures c.if-left-promises.true
    ∙ c.loop-section.invariant

pub loop-section-preserved : goal.loop-section-preserved
loop-section-preserved c =
    let is = c.as_slice-promises.ensures ∙ ap (λ s. s.promises) c.section-item.is in
    promise_behind c.args.sections.now c.loop-section.section-index c.section-item.result c.loop-section.left c.as_slice-promises.result.now c.loop-section-test.true is c.if-left-promises.false
    ∙ c.loop-section.invariant
