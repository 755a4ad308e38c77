use Rattle.std.proofs.Common.{ap, ◌∙◌}
use Rattle.std.proofs.lemmas.Result.{on_ok_weaker, on_err_weaker}
use Rattle.std.specs.Rc.{rc_str_bytes}
use Rattle.cfa_base.specs.TextMaps.{text_map}
use Rattle.cfa_statuses.specs.Raised.{raised}
use Rattle.cfa_outcomes.proofs.EnvironmentLemmas.{marked-written, marked-left, marked-added}
use Rattle.cfa_outcomes.proofs.marking.Marks.raise.Goals as goal

pub returns-in-Some-clause-ok : goal.returns-in-Some-clause-ok
returns-in-Some-clause-ok c =
    on_ok_weaker c.raise.result (λ raises.
    marked-written rc_str_bytes c.self.inside.rows (c.get_mut.follows.lender c.raise.new.self) c.args.self.now c.as_str.result.now c.args.path.now c.args.text c.args.to c.in-Some.texts.now c.raise.new.self
    c.self.view_is c.as_str.ensures c.in-Some.ensures.value (c.get_mut.follows.holds c.raise.new.self) raises)
    c.raise.ensures.ok

pub returns-in-Some-clause-err : goal.returns-in-Some-clause-err
returns-in-Some-clause-err c =
    on_err_weaker c.raise.result (λ stays.
    marked-left rc_str_bytes c.self.inside.rows (c.get_mut.follows.lender c.raise.new.self) c.args.self.now c.as_str.result.now c.in-Some.texts.now c.raise.new.self
    c.self.view_is c.in-Some.ensures.value (c.get_mut.follows.holds c.raise.new.self) stays)
    c.raise.ensures.err

pub returns-in_ok-insert-in-None-clause-ok : goal.returns-in_ok-insert-in-None-clause-ok
returns-in_ok-insert-in-None-clause-ok c =
    marked-added rc_str_bytes c.get_mut.follows.lender-at-none c.insert.new.self c.args.self.now c.into_key.result c.as_str.result.now c.args.path.now c.args.text c.args.to c.raise-in-None.new.self
    (ap (λ m. text_map rc_str_bytes m.entries) c.get_mut.follows.holds-at-none ∙ c.self.view_is) c.as_str.ensures (c.into_key.ensures ∙ c.in_ok-key-in-None.ensures)
    (rw c.get_mut.follows.holds-at-none c.in-None.ensures.value) c.in_ok-insert-in-None.ensures.updates
    (c.in_ok-raise-in-None.ensures.ok ∙ ap (λ r. raised r c.args.text c.args.to) c.new-texts.ensures)
