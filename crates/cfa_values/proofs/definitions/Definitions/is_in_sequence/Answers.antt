use Rattle.std.proofs.Common.{◌∙◌, ap}
use Rattle.std.specs.Prelude.{is_some}
use Rattle.cfa_values.specs.Definitions.{Definitions, is_one_of}
use Rattle.cfa_values.proofs.LookupLemmas.{has_place}
use Rattle.cfa_values.proofs.definitions.Definitions.is_in_sequence.Goals as goal

pub returns : goal.returns
returns c =
    c.is_some.ensures ∙ ap is_some c.find.ensures ∙ has_place c.args.name.now c.self.inside.sequence
    ∙ ap (λ (definitions : Definitions). is_one_of c.args.name.now definitions.sequence) c.self.view_is
