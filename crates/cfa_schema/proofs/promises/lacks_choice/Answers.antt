use Rattle.std.proofs.Common.{◌∙◌, ap, sym, map}
use Rattle.cfa_tree.specs.Plain.{plain_attribute}
use Rattle.cfa_schema.specs.Valid.{lacks_choice}
use Rattle.cfa_schema.proofs.PromiseLemmas.{choice_counted}
use Rattle.cfa_schema.proofs.promises.lacks_choice.Goals as goal

pub returns-then-not-is_empty : goal.returns-then-not-is_empty
returns-then-not-is_empty c =
    let attributes = map plain_attribute c.args.attributes.now in
    choice_counted c.choices-names.result.now attributes c.count_present.result (sym c.is_empty.ensures ∙ c.if-not-is_empty.true) c.count_present.ensures
    ∙ ap (λ names. lacks_choice names attributes) c.choices-names.ensures
