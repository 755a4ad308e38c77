use Rattle.std.proofs.Common.{◌∙◌, ap, sym, map, rules}
use Rattle.cfa_statuses.specs.Raised.{greater_in}
use Rattle.cfa_tree.specs.Plain.{plain_expr}
use Rattle.cfa_tree.specs.Tree.{expr_trees}
use Rattle.cfa_defines.specs.FirstMaybe.{first_maybe_among}
use Rattle.cfa_defines.proofs.MaybeLemmas.{maybe_of_all, maybe_of_one}
use Rattle.cfa_defines.proofs.maybes.+naming.Goals as goal

pub first_maybe-returns-in-And : goal.first_maybe-returns-in-And
first_maybe-returns-in-And t c =
    let status = greater_in c.args.global.now c.args.local.now in
    c.first_maybe_among.ensures
    ∙ ap (λ parts. first_maybe_among (expr_trees (map plain_expr parts)) status) c.as_slice.ensures.value
    ∙ sym (maybe_of_all status c.args.expr.now c.in-And.parts c.in-And.is)

pub first_maybe-returns-in-Or : goal.first_maybe-returns-in-Or
first_maybe-returns-in-Or t c =
    let status = greater_in c.args.global.now c.args.local.now in
    c.first_maybe_among-in-Or.ensures
    ∙ ap (λ parts. first_maybe_among (expr_trees (map plain_expr parts)) status) c.as_slice-in-Or.ensures.value
    ∙ sym (maybe_of_one status c.args.expr.now c.in-Or.parts c.in-Or.is)

pub first_maybe-returns-in-No : goal.first_maybe-returns-in-No
unfolding greater_in
first_maybe-returns-in-No t c = search rules

pub first_maybe-returns-in-Maybe : goal.first_maybe-returns-in-Maybe
unfolding greater_in
first_maybe-returns-in-Maybe t c = search rules

pub first_maybe-returns-in-Yes : goal.first_maybe-returns-in-Yes
unfolding greater_in
first_maybe-returns-in-Yes t c = search rules
