use Rattle.std.proofs.Common.{ap, sym, refl, ◌∙◌, Some}
use Rattle.cfa_vars.specs.Scopes.{in_scope, datum_of}
use Rattle.cfa_vars.proofs.ChoiceLemmas.{list_put}
use Rattle.cfa_vars.proofs.choosing.gather_name.Goals as goal

pub returns-in_ok-_same : goal.returns-in_ok-_same
returns-in_ok-_same c =
    list_put _ (λ x y. refl) (in_scope c.args.scopes.now) c.insert.new.self.entries c.args.lists.now.entries c.list_key.result c.in-Some-List.items c.args.name.now c.in_ok-_same.ensures.entries c.list_key.ensures (sym (ap (λ v. Some (datum_of v)) c.in-Some-List.field-0-is) ∙ c.in-Some-List.ensures)
