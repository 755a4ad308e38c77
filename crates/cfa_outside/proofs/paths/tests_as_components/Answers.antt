use Rattle.std.proofs.Common.{sym, ◌∙◌, rules, tests}
use Rattle.std.proofs.lemmas.Iterator.{YieldsList-from_slice}
use Rattle.std.proofs.lemmas.Iterator.Search.{all_from_yields_List}
use Rattle.std.proofs.lemmas.List.Folds.{list_all-map}
use Rattle.cfa_outside.specs.Paths.{is_component}
use Rattle.cfa_outside.proofs.paths.tests_as_components.Goals as goal

pub returns : goal.returns
returns c =
    all_from_yields_List (λ p. is_component p.now) _ _ _ c.all.ensures.ran (YieldsList-from_slice c.args.parts.now cc) (λ x b q k. search (rules, tests))
    ∙ sym (list_all-map is_component (λ x. x.now) c.args.parts.now)
