use Rattle.std.proofs.Common.{sym, ap, ◌∙◌}
use Rattle.std.specs.Rc.{rc_str_bytes}
use Rattle.cfa_vars.specs.Named.{thing_at}
use Rattle.cfa_vars.proofs.NamedLemmas.{thing_at-by_bytes}
use Rattle.cfa_vars.proofs.scoping.Scope.find.Goals as goal

pub returns : goal.returns
returns c =
    c.get.ensures.value ∙ sym (thing_at-by_bytes rc_str_bytes c.self.inside.values.entries c.args.name.now) ∙ ap (λ t. thing_at t c.args.name.now) c.self.view_is
