use Rattle.std.proofs.Common.{ap, ◌∙◌}
use Rattle.std.specs.Rc.{rc_str_bytes}
use Rattle.cfa_base.specs.TextMaps.{text_map}
use Rattle.cfa_base.specs.lemmas.TextMaps.{text_map-insert_entry}
use Rattle.cfa_base.proofs.text_maps.TextMap.insert.Goals as goal

pub returns-clause-ok : goal.returns-clause-ok
returns-clause-ok g c =
    let put = ap (text_map rc_str_bytes) c.in_ok-insert.ensures.entries ∙ text_map-insert_entry rc_str_bytes c.self.inside.rows.entries c.into_key.result c.args.value in
    rw (← c.self.view_is, ← c.into_key.ensures) put
