use Rattle.std.proofs.Common.{ap, ◌∙◌}
use Rattle.std.proofs.lemmas.Result.{on_ok_weaker, on_err_weaker}
use Rattle.std.specs.Rc.{rc_str_bytes}
use Rattle.cfa_base.specs.TextMaps.{text_map}
use Rattle.cfa_states.proofs.PlaceLemmas.{place-written, place-left, place-added}
use Rattle.cfa_states.proofs.register.Places.note.Goals as goal

pub returns-in-Some-clause-ok : goal.returns-in-Some-clause-ok
returns-in-Some-clause-ok c =
    on_ok_weaker c.insert.result (λ puts.
    place-written rc_str_bytes c.self.inside.rows (c.get_mut.follows.lender c.insert.new.self) c.args.self.now c.as_str.result.now c.args.path c.args.text c.args.place c.in-Some.texts.now c.insert.new.self
    c.self.view_is c.as_str.ensures c.in-Some.ensures.value (c.get_mut.follows.holds c.insert.new.self) puts)
    c.insert.ensures.ok

pub returns-in-Some-clause-err : goal.returns-in-Some-clause-err
returns-in-Some-clause-err c =
    on_err_weaker c.insert.result (λ stays.
    place-left rc_str_bytes c.self.inside.rows (c.get_mut.follows.lender c.insert.new.self) c.args.self.now c.as_str.result.now c.in-Some.texts.now c.insert.new.self
    c.self.view_is c.in-Some.ensures.value (c.get_mut.follows.holds c.insert.new.self) stays)
    c.insert.ensures.err

pub returns-in_ok-insert-in-None-2-clause-ok : goal.returns-in_ok-insert-in-None-2-clause-ok
returns-in_ok-insert-in-None-2-clause-ok c =
    place-added rc_str_bytes c.get_mut.follows.lender-at-none c.insert-in-None-2.new.self c.args.self.now c.into_key.result c.as_str.result.now c.args.path c.args.text c.args.place c.new-texts.result c.insert-in-None.new.self
    (ap (λ m. text_map rc_str_bytes m.entries) c.get_mut.follows.holds-at-none ∙ c.self.view_is) c.as_str.ensures c.into_key.ensures
    (rw c.get_mut.follows.holds-at-none c.in-None.ensures.value) c.in_ok-insert-in-None-2.ensures.updates
    c.new-texts.ensures c.in_ok-insert-in-None.ensures.ok
