use Rattle.std.proofs.Common.{◌≡◌, ◌+◌, ◌-◌, ◌<◌, length, get_or, drop, sym, ap, ◌∙◌, length-set, arith}
use Rattle.std.proofs.lemmas.List.{get_or_read}
use Rattle.cfa_conflict.specs.Targets.{first_from, last_from}
use Rattle.cfa_conflict.proofs.NumberLemmas.{first_elsewhere, last_elsewhere, first_put, last_put, last_kept}
use Rattle.cfa_conflict.proofs.numbers.VisitIndex.new.Goals as goal

pub loop-i-preserved-then-index-eq0 : goal.loop-i-preserved-then-index-eq0
loop-i-preserved-then-index-eq0 c =
    let visits = c.args.visits.now in
    let n = c.loop-i.i in
    let i = n - 1 in
    let d = c.index-visits-i.result in
    let here = (get_or visits i d).instance in
    let firsts = c.loop-i.firsts.items in
    let lasts = c.loop-i.lasts.items in
    let before = c.loop-i.invariant in
    let one : n ≡ i + 1 = omega arith in
    let lt : i < length visits = omega arith in
    let in_firsts : here < length firsts = omega (arith, before.firsts) in
    let in_lasts : here < length lasts = omega (arith, before.lasts) in
    let read = get_or_read lasts here c.index.result.now in_lasts c.index.ensures 0 in
    record {
      firsts = length-set firsts here i ∙ before.firsts;
      lasts = length-set lasts here i ∙ before.lasts;
      first = λ place within. first_put visits n i d one lt firsts place in_firsts (before.first place within);
      last = λ place within. last_put visits n i d one lt lasts place in_lasts (sym read ∙ c.if-index-eq0.true) (before.last place within);
    }

pub loop-i-preserved-else-index-eq0 : goal.loop-i-preserved-else-index-eq0
loop-i-preserved-else-index-eq0 c =
    let visits = c.args.visits.now in
    let n = c.loop-i.i in
    let i = n - 1 in
    let d = c.index-visits-i.result in
    let here = (get_or visits i d).instance in
    let firsts = c.loop-i.firsts.items in
    let lasts = c.loop-i.lasts.items in
    let before = c.loop-i.invariant in
    let one : n ≡ i + 1 = omega arith in
    let lt : i < length visits = omega arith in
    let in_firsts : here < length firsts = omega (arith, before.firsts) in
    let in_lasts : here < length lasts = omega (arith, before.lasts) in
    let read = get_or_read lasts here c.index.result.now in_lasts c.index.ensures 0 in
    record {
      firsts = length-set firsts here i ∙ before.firsts;
      lasts = before.lasts;
      first = λ place within. first_put visits n i d one lt firsts place in_firsts (before.first place within);
      last = λ place within. last_kept visits n i d one lt lasts place (λ none. c.if-index-eq0.false (read ∙ none)) (before.last place within);
    }

pub loop-i-preserved : goal.loop-i-preserved
loop-i-preserved c =
    let visits = c.args.visits.now in
    let n = c.loop-i.i in
    let i = n - 1 in
    let d = c.index-visits-i.result in
    let here = (get_or visits i d).instance in
    let firsts = c.loop-i.firsts.items in
    let lasts = c.loop-i.lasts.items in
    let before = c.loop-i.invariant in
    let one : n ≡ i + 1 = omega arith in
    let lt : i < length visits = omega arith in
    record {
      firsts = before.firsts;
      lasts = before.lasts;
      first = λ place within. before.first place within ∙ first_elsewhere visits n i d one lt place (λ same. omega (arith, same, c.if-place-count.false));
      last = λ place within. before.last place within ∙ last_elsewhere visits n i d one lt place (λ same. omega (arith, same, c.if-place-count.false));
    }

pub invariant_of-result : goal.invariant_of-result
invariant_of-result c =
    let visits = c.args.visits.now in
    let before = c.loop-i.invariant in
    let none : c.loop-i.i ≡ 0 = omega arith in record {
      numbered = record {
        lengths = before.lasts ∙ sym before.firsts;
        first = λ place lt. before.first place (omega (arith, before.firsts)) ∙ ap (λ m. first_from m (drop m visits) place) none;
        last = λ place lt. before.last place (omega (arith, before.firsts)) ∙ ap (λ m. last_from m (drop m visits) place) none;
      };
    }
