use Rattle.std.proofs.Common.{Some, refl, sym, ap, ◌∙◌}
use Rattle.std.proofs.lemmas.Result.{on_ok_weaker}
use Rattle.std.specs.FinMap as finite
use Rattle.std.specs.Option.{option_or}
use Rattle.cfa_statuses.specs.lemmas.Raised.{status_in-raised_same, status_in-raised_other}
use Rattle.cfa_outcomes.specs.Environments.{status_of, source_of, sourced}
use Rattle.cfa_outcomes.proofs.EnvironmentLemmas.{is_with_class, sourced_same, sourced_other, sourced_known, sourced_by_none}
use Rattle.cfa_outcomes.proofs.environments.Environment.raise.Goals as goal

pub returns-then-contains-clause-ok : goal.returns-then-contains-clause-ok
returns-then-contains-clause-ok c =
    let known = sourced_known c.self.inside.sources c.args.class c.args.source (ap (finite.contains_key c.self.inside.sources) (sym c.as_str.ensures) ∙ sym c.if-contains.ensures) in
    on_ok_weaker c.raise.result (λ raises. is_with_class _ c.args.self.now _ c.args.class c.args.to c.args.source c.self.view_is raises (sym known) refl) c.raise.ensures.ok

pub returns-in-Some-clause-class : goal.returns-in-Some-clause-class
returns-in-Some-clause-class c =
    on_ok_weaker c.raise_first.result (λ is. ap (λ e. status_of e c.args.class) is ∙ status_in-raised_same c.args.self.now.statuses c.args.class c.args.to) c.raise_first.ensures.ok

pub returns-in-Some-clause-other_classes : goal.returns-in-Some-clause-other_classes
returns-in-Some-clause-other_classes c =
    on_ok_weaker c.raise_first.result (λ is other differ. ap (λ e. status_of e other) is ∙ status_in-raised_other c.args.self.now.statuses c.args.class c.args.to other differ) c.raise_first.ensures.ok

pub returns-in-Some-clause-source : goal.returns-in-Some-clause-source
returns-in-Some-clause-source c =
    on_ok_weaker c.raise_first.result (λ is.
    ap (λ e. source_of e c.args.class) is ∙ sourced_same c.args.self.now.sources c.args.class (Some c.in-Some.source)
    ∙ ap (option_or (source_of c.args.self.now c.args.class)) (sym c.in-Some.is))
    c.raise_first.ensures.ok

pub returns-in-Some-clause-other_sources : goal.returns-in-Some-clause-other_sources
returns-in-Some-clause-other_sources c =
    on_ok_weaker c.raise_first.result (λ is other differ. ap (λ e. source_of e other) is ∙ sourced_other c.args.self.now.sources c.args.class (Some c.in-Some.source) other differ) c.raise_first.ensures.ok

pub returns-in-None-clause-ok : goal.returns-in-None-clause-ok
returns-in-None-clause-ok c =
    on_ok_weaker c.raise-in-None.result (λ raises.
    is_with_class _ c.args.self.now _ c.args.class c.args.to c.args.source c.self.view_is raises
    (sym (ap (sourced c.self.inside.sources c.args.class) c.in-None.is ∙ sourced_by_none c.self.inside.sources c.args.class)) refl)
    c.raise-in-None.ensures.ok
