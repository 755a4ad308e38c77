use Rattle.std.proofs.Common.{ap, sym, ◌∙◌}
use Rattle.std.specs.FinMap as map
use Rattle.std.specs.Rc.{rc_str_bytes}
use Rattle.cfa_base.specs.lemmas.TextMaps.{get-text_map}
use Rattle.cfa_base.proofs.text_maps.TextMap.get.Goals as goal

pub returns : goal.returns
returns g c =
    c.get.ensures.value ∙ sym (get-text_map rc_str_bytes c.self.inside.rows.entries c.args.key.now)
    ∙ ap (λ m. map.get m c.args.key.now) c.self.view_is
