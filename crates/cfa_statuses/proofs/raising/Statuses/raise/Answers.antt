use Rattle.std.proofs.Common.{◌≡◌, ap, ◌∙◌}
use Rattle.cfa_statuses.specs.Raised.{raised, status_in}
use Rattle.cfa_statuses.specs.lemmas.Raised.{status_in-raised_same, status_in-raised_other}
use Rattle.cfa_statuses.proofs.raising.Statuses.raise.Goals as goal

raises : (c : goal.In_ok-insert) → c.insert.new.self ≡ raised c.args.self.now c.args.class c.args.to
unfolding raised
raises c = cc c.in_ok-insert.ensures.ok

pub returns-clause-class : goal.returns-clause-class
returns-clause-class c = ap (λ s. status_in s c.args.class) (raises c) ∙ status_in-raised_same c.args.self.now c.args.class c.args.to

pub returns-clause-others : goal.returns-clause-others
returns-clause-others c = λ name apart.
    ap (λ s. status_in s name) (raises c) ∙ status_in-raised_other c.args.self.now c.args.class c.args.to name apart
