use Rattle.std.proofs.Common.{ap, sym, ◌∙◌}
use Rattle.std.specs.Option.{option_map}
use Rattle.cfa_vars.proofs.ChoiceLemmas.{list_seen}
use Rattle.cfa_vars.proofs.choosing.list_at.Goals as goal

pub returns : goal.returns
returns c =
    list_seen c.args.lists.now.entries c.args.place c.unwrap.result.0.now c.unwrap.result.1.now (sym c.get_index.ensures.entry ∙ ap (option_map (λ p. (p.0.now, p.1.now))) c.unwrap.ensures)
