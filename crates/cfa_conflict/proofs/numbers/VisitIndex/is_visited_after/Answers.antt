use Rattle.std.proofs.Common.{◌≡◌, ◌<◌, length, get_or, sym, ap, ◌∙◌, arith, ltb}
use Rattle.std.proofs.lemmas.List.{get_or_read}
use Rattle.cfa_conflict.specs.Targets.{first_from}
use Rattle.cfa_conflict.proofs.NumberLemmas.{visited_after}
use Rattle.cfa_conflict.proofs.numbers.VisitIndex.is_visited_after.Goals as goal

pub returns : goal.returns
returns c =
    let s = c.args.self.now in
    let first : c.args.place < length s.firsts.items = omega (arith, s.firsts.ok.0) in
    let known : c.args.other < length s.firsts.items = omega (arith, s.firsts.ok.0) in
    let last : c.args.other < length s.lasts.items = omega (arith, s.numbered.lengths) in
    let low : c.index.result.now ≡ get_or s.firsts.items c.args.place 0 = get_or_read s.firsts.items c.args.place c.index.result.now first c.index.ensures 0 in
    let high : c.index-2.result.now ≡ get_or s.lasts.items c.args.other 0 = get_or_read s.lasts.items c.args.other c.index-2.result.now last c.index-2.ensures 0 in
    ap (λ n. ltb n c.index-2.result.now) (low ∙ s.numbered.first c.args.place first)
    ∙ ap (ltb (first_from 0 s.visits.now c.args.place)) (high ∙ s.numbered.last c.args.other known)
    ∙ sym (visited_after s.visits.now c.args.place c.args.other)
