use Rattle.std.proofs.Common.{false, true, sym, ap, ◌∙◌}
use Rattle.std.specs.Prelude.{not}
use Rattle.cfa_states.specs.Passes.{raised_to}
use Rattle.cfa_visits.proofs.EndingLemmas.{found_is, not_in_kept, by_repaired}
use Rattle.cfa_visits.proofs.ending.raised_to.Goals as goal

pub returns-then-is_none : goal.returns-then-is_none
returns-then-is_none c = λ i kept repaired.
    let class = c.args.class.now in
    ap (raised_to c.args.status) (sym (not_in_kept i class
    (found_is i.kept c.args.kept.now class c.as_str.result.now c.find.result kept c.as_str.ensures c.find.ensures false (c.is_none.ensures ∙ ap not c.if-is_none.true))))

pub returns-then-is_none-2 : goal.returns-then-is_none-2
returns-then-is_none-2 c = λ i kept repaired.
    let class = c.args.class.now in
    ap (raised_to c.args.status) (sym (by_repaired i class false
    (found_is i.kept c.args.kept.now class c.as_str.result.now c.find.result kept c.as_str.ensures c.find.ensures true (c.is_none.ensures ∙ ap not c.if-is_none.false))
    (found_is i.repaired c.args.repaired.now class c.as_str-2.result.now c.find-2.result repaired c.as_str-2.ensures c.find-2.ensures false (c.is_none-2.ensures ∙ ap not c.if-is_none-2.true))))

pub returns : goal.returns
returns c = λ i kept repaired.
    let class = c.args.class.now in
    ap (raised_to c.args.status) (sym (by_repaired i class true
    (found_is i.kept c.args.kept.now class c.as_str.result.now c.find.result kept c.as_str.ensures c.find.ensures true (c.is_none.ensures ∙ ap not c.if-is_none.false))
    (found_is i.repaired c.args.repaired.now class c.as_str-2.result.now c.find-2.result repaired c.as_str-2.ensures c.find-2.ensures true (c.is_none-2.ensures ∙ ap not c.if-is_none-2.false))))
