use Rattle.std.proofs.Common.{◌≡◌, sym, ap, ◌∙◌}
use Rattle.std.proofs.lemmas.List.{take_all}
use Rattle.std.specs.FinMap as finite
use Rattle.cfa_base.specs.TextMaps.{text_cmp}
use Rattle.cfa_statuses.specs.Raised.{status_in}
use Rattle.cfa_outcomes.specs.Environments.{all_yes, mark_in}
use Rattle.cfa_outcomes.proofs.EnvironmentLemmas.{given, one_more_yes, are_all_yes, mark_in-none, status_in-all_yes}
use Rattle.cfa_outcomes.proofs.environments.Environment.new.Goals as goal

pub loop-class-init : goal.loop-class-init
loop-class-init c = λ class. ap (λ s. finite.get s class) c.new-statuses.ensures.empty ∙ finite.get-empty text_cmp class

pub loop-class-preserved : goal.loop-class-preserved
loop-class-preserved c =
    rw (c.in_ok-raise.ensures.ok, c.in_ok-copy.ensures)
    (one_more_yes c.loop-class.statuses c.as_slice-class-items.result.now c.loop-class.class-index c.class-item.result c.loop-class-test.true (sym c.class-item.is) c.loop-class.invariant)

all_given : (c : goal.After-new-2) → c.loop-class.statuses ≡ all_yes c.args.classes.now
all_given c =
    are_all_yes c.loop-class.statuses c.args.classes.now (λ class.
    c.loop-class.invariant class
    ∙ ap (λ classes. given classes class) (take_all c.loop-class.class-index c.as_slice-class-items.result.now c.loop-class-test.false ∙ c.as_slice-class-items.ensures))

pub returns-clause-ok : goal.returns-clause-ok
returns-clause-ok c = let s = all_given c in cc

pub returns-clause-statuses : goal.returns-clause-statuses
returns-clause-statuses c = λ class. ap (λ s. status_in s class) (all_given c) ∙ status_in-all_yes c.args.classes.now class

pub returns-clause-no_source : goal.returns-clause-no_source
returns-clause-no_source c = λ class. ap (λ s. finite.get s class) c.new.ensures ∙ finite.get-empty text_cmp class

pub returns-clause-no_mark : goal.returns-clause-no_mark
returns-clause-no_mark c = λ path text. ap (λ m. mark_in m path text) c.new-2.ensures ∙ mark_in-none path text
