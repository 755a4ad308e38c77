use Rattle.std.proofs.Common.{◌+◌, drop, sym, ap, ◌∙◌, arith}
use Rattle.std.proofs.lemmas.List.{drop_all}
use Rattle.cfa_vars.specs.Choices.{seen_lists, extended}
use Rattle.cfa_vars.proofs.ChoiceLemmas.{completed, completed-extended, completed_start, completed_last, empty_list}
use Rattle.cfa_vars.proofs.choosing.choose.Goals as goal

pub returns-then-has_empty : goal.returns-then-has_empty
returns-then-has_empty c =
    c.new-choices.ensures.items ∙ sym (empty_list (seen_lists c.args.lists.now.entries) (sym c.has_empty.ensures ∙ c.if-has_empty.true))

pub loop-place-init : goal.loop-place-init
loop-place-init c =
    completed_start (seen_lists c.args.lists.now.entries) c.new-choices.result.items c.push.new.self.items c.new.result.items c.new-choices.ensures.items c.new.ensures.items c.in_ok-push.ensures.items

pub loop-place-preserved : goal.loop-place-preserved
loop-place-preserved c =
    let lists = seen_lists c.args.lists.now.entries in
    let rest = drop (c.loop-place.place + 1) lists in
    let choices = c.loop-place.choices.items in
    let key = c.list_at.result.0.now in
    ap (λ t. completed t rest) (c.in_ok-choices.ensures ∙ ap (extended choices key) c.as_slice.ensures) ∙ completed-extended choices key c.list_at.result.1.now rest ∙ ap (completed choices) (sym c.list_at.ensures) ∙ c.loop-place.invariant

pub returns : goal.returns
returns c =
    let lists = seen_lists c.args.lists.now.entries in
    sym (completed_last c.loop-place.choices.items) ∙ ap (completed c.loop-place.choices.items) (sym (drop_all c.loop-place.place lists (omega arith))) ∙ c.loop-place.invariant
