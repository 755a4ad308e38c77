use Rattle.std.proofs.Common.{true, false, ◌∙◌, ap}
use Rattle.cfa_base.specs.Patterns.{replaced}
use Rattle.cfa_base.proofs.PatternLemmas.{replaced_as_built}
use Rattle.cfa_base.proofs.patterns.matcher.Matcher.replace.Goals as goal

pub returns-then-all-clause-value : goal.returns-then-all-clause-value
returns-then-all-clause-value c =
    let text = c.args.text.now in
    let with = c.args.with.now in
    let plain = rw c.as_str.ensures at c.in_ok-value.ensures in
    rw c.if-all.true (c.in_ok-from_string.ensures ∙ (rw c.self.invariant.same at c.in_ok-replace_all.ensures.value)
    ∙ replaced_as_built _ _ _ c.self.invariant.built text (λ k. (c.type_inv.text k).fits) c.in_ok-value.value.pieces.items _ with plain true
    ∙ ap (λ p. replaced p text with true) c.self.view_is)

pub returns-clause-value : goal.returns-clause-value
returns-clause-value c =
    let text = c.args.text.now in
    let with = c.args.with.now in
    let plain = rw c.as_str.ensures at c.in_ok-value.ensures in
    rw c.if-all.false (c.in_ok-from_string-2.ensures ∙ (rw c.self.invariant.same at c.in_ok-replace.ensures.value)
    ∙ replaced_as_built _ _ _ c.self.invariant.built text (λ k. (c.type_inv.text k).fits) c.in_ok-value.value.pieces.items _ with plain false
    ∙ ap (λ p. replaced p text with false) c.self.view_is)
