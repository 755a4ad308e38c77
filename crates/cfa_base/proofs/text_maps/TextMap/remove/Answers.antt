use Rattle.std.proofs.Common.{ap, ◌∙◌}
use Rattle.std.specs.FinMap as map
use Rattle.std.specs.Rc.{rc_str_bytes}
use Rattle.cfa_base.specs.lemmas.TextMaps.{text_map-update}
use Rattle.cfa_base.proofs.text_maps.TextMap.remove.Goals as goal

pub returns : goal.returns
returns g c =
    text_map-update rc_str_bytes c.args.key.now c.self.inside.rows c.remove.new.self c.remove.ensures.updates
    ∙ ap (λ m. map.remove m c.args.key.now) c.self.view_is
