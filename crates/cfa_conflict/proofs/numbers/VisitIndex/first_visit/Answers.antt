use Rattle.std.proofs.Common.{◌≡◌, ◌<◌, length, get_or, sym, ap, ◌∙◌, arith}
use Rattle.std.specs.Prelude.{slice_get}
use Rattle.std.proofs.lemmas.List.{get_or_read}
use Rattle.cfa_conflict.proofs.NumberLemmas.{first_visit_at, got_is}
use Rattle.cfa_conflict.proofs.numbers.VisitIndex.first_visit.Goals as goal

pub returns : goal.returns
returns c =
    let s = c.args.self.now in
    let lt : c.args.place < length s.firsts.items = omega (arith, s.firsts.ok.0) in
    let read : c.index.result.now ≡ get_or s.firsts.items c.args.place 0 = get_or_read s.firsts.items c.args.place c.index.result.now lt c.index.ensures 0 in
    let got = got_is s.visits.now c.index.result.now c.get.result c.get.ensures.lookup in
    got ∙ ap (slice_get s.visits.now) (read ∙ s.numbered.first c.args.place lt) ∙ sym (first_visit_at s.visits.now c.args.place)
