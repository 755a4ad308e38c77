use Rattle.std.proofs.Common.{◌≡◌, ℕ, List, ◌<◌, ◌^◌, length, sym, ap, subst, ◌∙◌}
use Rattle.std.specs.Rc.{rc_str_bytes}
use Rattle.cfa_base.specs.TextMaps.{count_leaves}
use Rattle.cfa_base.proofs.Leaves.{Grouped, leaves, grouped, leaves_are_counted, none_behind, none_from, fits_at_start, all_at_start}
use Rattle.cfa_base.proofs.text_maps.TextMap.count_leaves.Goals as goal

pub loop-key-init : goal.loop-key-init
loop-key-init g c =
    let gives : c.into_iter-key-iterator.result ≡ c.range-key-items.result = c.into_iter-key-iterator.ensures.into_iter_gives in
    let is = c.range-key-items.ensures.between tt in (
      tt,
      tt,
      fits_at_start _ _ (subst (λ r. length r < 2 ^ 63) (sym gives) c.range-key-items.ensures.fits),
      all_at_start _ _ (
          ap (λ r. length (leaves rc_str_bytes c.args.front.now r)) gives
          ∙ ap (λ (f : List ℕ). length (leaves rc_str_bytes f c.range-key-items.result)) (sym c.as_key.ensures)
          ∙ leaves_are_counted rc_str_bytes c.as_key.result.now c.self.inside.rows c.range-key-items.result is c.range-key-items.ensures.ordered
          ∙ ap (λ m. count_leaves m (rc_str_bytes c.as_key.result.now)) c.self.view_is
          ∙ ap (count_leaves c.args.self.now) c.as_key.ensures),
      subst (λ r. Grouped rc_str_bytes c.args.front.now r) (sym gives)
          (subst (λ (f : List ℕ). Grouped rc_str_bytes f c.range-key-items.result) c.as_key.ensures
          (grouped rc_str_bytes c.as_key.result.now c.self.inside.rows c.range-key-items.result is c.range-key-items.ensures.ordered)),
    )

pub returns-in-None : goal.returns-in-None
returns-in-None g c =
    none_behind rc_str_bytes c.args.front.now c.loop-key.count _ c.loop-key.key-iterator c.in-None.ensures.steps.0 c.loop-key.invariant.3

pub returns-then-not-starts_with : goal.returns-then-not-starts_with
returns-then-not-starts_with g c =
    let apart = rw (c.as_bytes.ensures.value, c.as_bytes-in-loop-key.ensures.value, c.as_str.ensures.value, c.as_str-in-loop-key.ensures) at c.starts_with.ensures.value in
    none_from rc_str_bytes c.args.front.now c.loop-key.count _ _ _ c.loop-key.key-iterator c.in-Some.ensures.steps (sym apart ∙ c.if-not-starts_with.true) c.loop-key.invariant.4 c.loop-key.invariant.3
