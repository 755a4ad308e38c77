use Rattle.std.proofs.Common.{ℕ, ◌≡◌, ◌+◌, ◌*◌, min, drop, length, subst, ap, sym, ◌∙◌, arith}
use Rattle.cfa_vars.specs.Choices.{Lists, seen_lists}
use Rattle.cfa_vars.proofs.ChoiceLemmas.{StillToCount, count_more}
use Rattle.cfa_vars.proofs.choosing.are_too_many.Goals as goal

pub loop-place-preserved : goal.loop-place-preserved
loop-place-preserved c =
    let lists = seen_lists c.args.lists.now.entries in
    let rest = drop (c.loop-place.place + 1) lists in
    let items = c.list_at.result.1.now in
    let so_far = subst (λ (left : Lists). StillToCount c.loop-place.count left lists) c.list_at.ensures c.loop-place.invariant in
    let same : length c.as_slice-length.result.now ≡ length items = ap length c.as_slice-length.ensures in
    let counted : min (c.loop-place.count * length items) 4097 ≡ c.min-count.result = ap (λ n. min (c.loop-place.count * n) 4097) (sym same) ∙ sym c.min-count.ensures in
    subst (λ (n : ℕ). StillToCount n rest lists) counted (count_more c.loop-place.count c.list_at.result.0.now items rest lists so_far (omega (arith, same, c.if-length-gt-MOST_COMBINATIONS.false)))
