use Rattle.std.proofs.Common.{rules, true, ap, ◌∙◌, ◌≡◌, ◌<◌, ◌++◌, ◌∷◌, [], false, length, get_or, arith}
use Rattle.std.proofs.Math.ListN.{length-set}
use Rattle.std.proofs.lemmas.List.{length_push, get_or_append_left}
use Rattle.cfa_calls.specs.Reaching.{Seen}
use Rattle.cfa_calls.proofs.SearchLemmas.{edge_within, follow_seen, follow_new, follow_end}
use Rattle.cfa_calls.proofs.reaching.Graph.follow.Goals as goal

pub bounds-seen-next : goal.bounds-seen-next
bounds-seen-next c =
    let inside = edge_within c.args.self.now c.row-next-items.result.now c.index-node.result.now c.loop-next.next-index c.row-next-items.ensures.within c.row-next-items.ensures.row c.loop-next-test.true in
    omega arith

pub bounds-seen-next-in-loop-next : goal.bounds-seen-next-in-loop-next
bounds-seen-next-in-loop-next c =
    let inside = edge_within c.args.self.now c.row-next-items.result.now c.index-node.result.now c.loop-next.next-index c.row-next-items.ensures.within c.row-next-items.ensures.row c.loop-next-test.true in
    omega arith

pub loop-next-preserved-then-seen-next : goal.loop-next-preserved-then-seen-next
loop-next-preserved-then-seen-next c =
    let row = c.row-next-items.result.now in
    let kept = c.loop-next.invariant in
    let marked : Seen c.loop-next.seen (get_or row c.loop-next.next-index 0) = search rules in (
      kept.0,
      kept.1,
      kept.2,
      λ first s.
          follow_seen c.args.self.now first c.loop-next.seen c.loop-next.order.items c.args.at row c.loop-next.next-index (kept.3 first s) c.loop-next-test.true marked,
    )

pub loop-next-preserved : goal.loop-next-preserved
loop-next-preserved c =
    let row = c.row-next-items.result.now in
    let order = c.loop-next.order.items in
    let next = get_or row c.loop-next.next-index 0 in
    let kept = c.loop-next.invariant in
    let grown : c.push.new.self.items ≡ order ++ next ∷ [] = search rules in
    let new : get_or c.loop-next.seen next false ≡ false = search rules in
    let placed : c.args.at < length order = kept.0 in
    let longer = length_push order next in
    let same_length = ap length grown in (
      omega arith,
      rw grown (get_or_append_left order (next ∷ []) 0 c.args.at placed ∙ kept.1),
      length-set c.loop-next.seen next true ∙ kept.2,
      λ first s.
          follow_new c.args.self.now first c.loop-next.seen order c.push.new.self.items c.args.at row c.loop-next.next-index c.index-node.result.now
          (kept.3 first s) c.row-next-items.ensures.within placed kept.1 c.row-next-items.ensures.row c.loop-next-test.true new grown,
    )

pub returns : goal.returns
returns c = λ first s.
    let kept = c.loop-next.invariant in
    follow_end c.args.self.now first c.loop-next.seen c.loop-next.order.items c.args.at c.row-next-items.result.now c.loop-next.next-index c.index-node.result.now
    (kept.3 first s) kept.0 kept.1 c.row-next-items.ensures.row c.loop-next-test.false
