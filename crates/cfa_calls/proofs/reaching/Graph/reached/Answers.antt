use Rattle.std.proofs.Common.{rules, refl, arith, ◌≡◌, ◌∷◌, [], replicate, false, true, length}
use Rattle.std.proofs.Math.ListN.{set}
use Rattle.cfa_calls.proofs.SearchLemmas.{search_begin, search_end}
use Rattle.cfa_calls.proofs.reaching.Graph.reached.Goals as goal

pub loop-at-init : goal.loop-at-init
loop-at-init c =
    let all = c.args.self.now in
    let first = c.args.from in
    let blank : c.in_ok-seen.seen.items ≡ replicate (length all) false = search rules in
    let order : c.push.new.self.items ≡ first ∷ [] = search rules in
    rw (order, blank) (search_begin all first (length all) (set (replicate (length all) false) first true) refl (search rules) refl)

pub returns : goal.returns
returns c =
    search_end c.args.self.now c.args.from c.loop-at.seen.items c.loop-at.order.items c.loop-at.at [] c.loop-at.invariant (omega arith)
