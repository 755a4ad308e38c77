use Rattle.std.proofs.Common.{ap, sym, ◌∙◌}
use Rattle.std.specs.Rc.{rc_str_bytes}
use Rattle.cfa_base.specs.TextMaps.{has_front}
use Rattle.cfa_base.proofs.Ranges.{first_tells, none_tells}
use Rattle.cfa_base.proofs.text_maps.TextMap.has_front.Goals as goal

pub returns-in-Some : goal.returns-in-Some
returns-in-Some g c =
    let tested = rw (c.as_bytes.ensures.value, c.as_bytes-in-Some.ensures.value, c.as_str.ensures.value, c.as_str-in-Some.ensures ∙ sym c.as_key.ensures) at c.starts_with.ensures.value in
    tested ∙ first_tells rc_str_bytes c.self.inside.rows c.as_key.result.now _ _ c.range.result (c.range.ensures.in_range tt) c.in-Some.ensures.steps
    ∙ ap (λ m. has_front m (rc_str_bytes c.as_key.result.now)) c.self.view_is ∙ ap (has_front c.args.self.now) c.as_key.ensures

pub returns-in-None : goal.returns-in-None
returns-in-None g c =
    none_tells rc_str_bytes c.self.inside.rows c.as_key.result.now c.range.result (c.range.ensures.in_range tt) c.in-None.ensures.steps.0
    ∙ ap (λ m. has_front m (rc_str_bytes c.as_key.result.now)) c.self.view_is ∙ ap (has_front c.args.self.now) c.as_key.ensures
