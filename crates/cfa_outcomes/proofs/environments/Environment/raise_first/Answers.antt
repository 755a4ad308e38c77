use Rattle.std.proofs.Common.{◌≡◌, Some, None, refl, sym, ap, ◌∙◌}
use Rattle.std.specs.FinMap as finite
use Rattle.cfa_statuses.specs.Raised.{raised}
use Rattle.cfa_outcomes.specs.Environments.{source_of, sourced}
use Rattle.cfa_outcomes.proofs.EnvironmentLemmas.{is_with_class, sourced_new, source_taken_out}
use Rattle.cfa_outcomes.proofs.environments.Environment.raise_first.Goals as goal

pub returns-in-Ok-clause-ok : goal.returns-in-Ok-clause-ok
returns-in-Ok-clause-ok c =
    let none : finite.get c.self.inside.sources c.args.class ≡ None = ap (λ e. source_of e c.args.class) c.self.view_is ∙ c.requires in
    let sources : c.insert.new.self ≡ sourced c.self.inside.sources c.args.class (Some c.args.source) =
    c.in_ok-insert.ensures.ok ∙ ap (λ k. finite.insert c.self.inside.sources k c.args.source) c.in_ok-key.ensures
    ∙ sym (sourced_new c.self.inside.sources c.args.class c.args.source none) in
    let statuses : c.raise.new.self ≡ raised c.self.inside.statuses c.args.class c.args.to = c.in-Ok.ensures.ok ∙ ap (λ k. raised c.self.inside.statuses k c.args.to) c.in_ok-copy.ensures in
    is_with_class _ c.args.self.now _ c.args.class c.args.to (Some c.args.source) c.self.view_is statuses sources refl

pub returns-clause-err : goal.returns-clause-err
returns-clause-err c =
    let none : finite.get c.self.inside.sources c.args.class ≡ None = ap (λ e. source_of e c.args.class) c.self.view_is ∙ c.requires in
    let sources : c.remove.new.self ≡ c.self.inside.sources =
    source_taken_out c.self.inside.sources c.insert.new.self c.remove.new.self c.args.class c.in_ok-key.key c.as_str.result.now c.args.source
    c.in_ok-insert.ensures.ok c.in_ok-key.ensures c.remove.ensures c.as_str.ensures none in
    let statuses : c.raise.new.self ≡ c.self.inside.statuses = c.in-Err.ensures.err in
    cc
