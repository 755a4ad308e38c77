use Rattle.std.proofs.Common.{sym, ◌∙◌, rules}
use Rattle.cfa_statuses.specs.Raised.{greater_in}
use Rattle.cfa_statuses.proofs.Turns.{least_begins, greatest_begins, least_goes_on, greatest_goes_on, least_ends, greatest_ends}
use Rattle.cfa_statuses.proofs.valuing.+value.Goals as goal

pub returns-in-Class : goal.returns-in-Class
unfolding greater_in
returns-in-Class t c = search rules

pub loop-part-init : goal.loop-part-init
loop-part-init t c = least_begins _ _ _ _ c.in-And.is c.deref-part-items.ensures.value

pub loop-part-preserved : goal.loop-part-preserved
loop-part-preserved t c =
    rw (c.lesser-least.ensures, c.value-in-loop-part.ensures)
    (sym (least_goes_on _ _ _ _ _ c.loop-part-test.true c.part-item.is) ∙ c.loop-part.invariant)

pub returns-after-loop-part : goal.returns-after-loop-part
returns-after-loop-part t c = least_ends _ _ _ _ c.loop-part-test.false ∙ c.loop-part.invariant

pub loop-part-2-init : goal.loop-part-2-init
loop-part-2-init t c = greatest_begins _ _ _ _ c.in-Or.is c.deref-part-items-in-Or.ensures.value

pub loop-part-2-preserved : goal.loop-part-2-preserved
loop-part-2-preserved t c =
    rw (c.greater-greatest.ensures, c.value-in-loop-part-2.ensures)
    (sym (greatest_goes_on _ _ _ _ _ c.loop-part-2-test.true c.part-item-in-loop-part-2.is) ∙ c.loop-part-2.invariant)

pub returns-after-loop-part-2 : goal.returns-after-loop-part-2
returns-after-loop-part-2 t c = greatest_ends _ _ _ _ c.loop-part-2-test.false ∙ c.loop-part-2.invariant
