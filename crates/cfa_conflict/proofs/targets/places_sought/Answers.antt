use Rattle.std.proofs.Common.{eqb, sym, ap, subst, ◌∙◌}
use Rattle.std.proofs.lemmas.Cmp.{nat_cmp_total}
use Rattle.std.proofs.lemmas.List.Filters.{dedup_is}
use Rattle.std.proofs.lemmas.List.Kept.{IsStrictlySortedBy-dedup}
use Rattle.std.proofs.lemmas.List.Sorted.{list_any-IsPermutation}
use Rattle.std.proofs.lemmas.Map.Keys.{non_decreasing_from_sorted}
use Rattle.std.specs.Cmp.{unsigned_ties}
use Rattle.std.specs.List.{list_any, dedup}
use Rattle.std.specs.List.Sorted.{IsNonDecreasing}
use Rattle.std.specs.Prelude.{nat_eq}
use Rattle.cfa_conflict.proofs.RowLemmas.{found_once, sought_done}
use Rattle.cfa_conflict.proofs.targets.places_sought.Goals as goal

pub returns-clause-places : goal.returns-clause-places
returns-clause-places c = λ place.
    let sorted = c.sort.new.self.items in
    ap (list_any (nat_eq place)) (dedup_is eqb sorted c.dedup.new.self.items c.dedup.ensures.filtered) ∙ found_once sorted place
    ∙ sym (list_any-IsPermutation (nat_eq place) c.loop-act.places.items sorted c.in_ok-sort.ensures.permutation)
    ∙ ap (list_any (nat_eq place))
    (sought_done c.args.targets.now c.args.acts.now c.loop-act.act-index c.loop-act.places.items c.loop-act-test.false c.loop-act.invariant)

pub returns-clause-order : goal.returns-clause-order
returns-clause-order c =
    let sorted = c.sort.new.self.items in
    subst IsNonDecreasing (sym (dedup_is eqb sorted c.dedup.new.self.items c.dedup.ensures.filtered))
    (non_decreasing_from_sorted (dedup eqb sorted) (IsStrictlySortedBy-dedup nat_cmp_total unsigned_ties sorted c.in_ok-sort.ensures.sorted))
