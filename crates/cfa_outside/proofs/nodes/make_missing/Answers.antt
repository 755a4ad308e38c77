use Rattle.std.proofs.Common.{sym, ap, ◌∙◌}
use Rattle.std.specs.FinMap as map
use Rattle.cfa_base.specs.lemmas.TextMaps.{absent, remove-insert}
use Rattle.cfa_outside.specs.Worlds.{NodeMap}
use Rattle.cfa_outside.specs.declared.worlds.Node.TheVariants.{Dir}
use Rattle.cfa_outside.proofs.nodes.make_missing.Goals as goal

pub returns-clause-undone : goal.returns-clause-undone
returns-clause-undone c =
    let missing = absent c.get.result _ c.get.ensures (sym c.is_some.ensures ∙ c.if-is_some.false) in
    ap (λ (m : NodeMap). map.remove m c.args.path.now) c.in_ok-put.ensures.ok
    ∙ remove-insert c.args.rows.now c.args.path.now (Dir c.in_ok-root_perms.field-0) missing
