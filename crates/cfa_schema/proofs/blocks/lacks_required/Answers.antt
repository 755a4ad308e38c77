use Rattle.std.proofs.Common.{◌∙◌, ap, map}
use Rattle.std.specs.Prelude.{not}
use Rattle.cfa_tree.specs.Plain.{plain_attribute}
use Rattle.cfa_values.specs.Attributes.{has_attribute}
use Rattle.cfa_schema.specs.Valid.{lacks_required}
use Rattle.cfa_schema.proofs.BlockLemmas.{any_seen}
use Rattle.cfa_schema.proofs.blocks.lacks_required.Goals as goal

pub returns : goal.returns
returns c =
    let attributes = map plain_attribute c.args.attributes.now in
    c.lacks_one.ensures ∙ any_seen (λ name. name.now) (λ name. not (has_attribute attributes name)) c.required.result.now
    ∙ ap (λ names. lacks_required names attributes) c.required.ensures
