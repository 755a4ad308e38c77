use Rattle.std.proofs.Common.{ap, ◌∙◌}
use Rattle.std.specs.Rc.{rc_str_bytes}
use Rattle.cfa_base.specs.TextMaps.{text_map}
use Rattle.cfa_outcomes.proofs.HashedTexts.{raised-written, raised-added}
use Rattle.cfa_outcomes.proofs.text_marks.TextMarks.raise.Goals as goal

pub returns-in-Some-clause-ok : goal.returns-in-Some-clause-ok
returns-in-Some-clause-ok c =
    raised-written rc_str_bytes c.self.inside.rows (c.get_mut.follows.lender c.greater.result) c.args.self.now c.as_str.result.now c.args.text c.args.to c.in-Some.status.now c.greater.result
    c.self.view_is c.as_str.ensures c.in-Some.ensures.value (c.get_mut.follows.holds c.greater.result) c.greater.ensures

pub returns-in_ok-insert-in-None-clause-ok : goal.returns-in_ok-insert-in-None-clause-ok
returns-in_ok-insert-in-None-clause-ok c =
    raised-added rc_str_bytes c.get_mut.follows.lender-at-none c.insert.new.self c.args.self.now c.into_key.result c.as_str.result.now c.args.text c.args.to
    (ap (λ m. text_map rc_str_bytes m.entries) c.get_mut.follows.holds-at-none ∙ c.self.view_is) c.as_str.ensures c.into_key.ensures
    (rw c.get_mut.follows.holds-at-none c.in-None.ensures.value) c.in_ok-insert-in-None.ensures.updates
