use Rattle.std.proofs.Common.{◌≡◌, subst, map, IfOk}
use Rattle.cfa_vars.specs.References.{literal, pieces}
use Rattle.cfa_vars.specs.Scopes.{in_scope}
use Rattle.cfa_vars.proofs.ExpansionLemmas.{expanded_literal}
use Rattle.cfa_vars.proofs.expanding.expand.Goals as goal

pub returns-in-None : goal.returns-in-None
returns-in-None c =
    subst (λ y. IfOk c.keep.result (λ e. e ≡ y)) (expanded_literal (in_scope c.args.scopes.now) c.args.choice.now c.args.text.now (subst (λ t. pieces t ≡ map literal t) c.as_str.ensures c.in-None.ensures.first)) c.keep.ensures
