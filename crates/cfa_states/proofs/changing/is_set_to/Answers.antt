use Rattle.std.proofs.Common.{◌∙◌, sym, ap}
use Rattle.std.specs.Prelude.{option_copied}
use Rattle.cfa_states.proofs.ChangingLemmas.{never_set, set_before}
use Rattle.cfa_states.proofs.changing.is_set_to.Goals as goal

pub returns-in-None : goal.returns-in-None
returns-in-None c = never_set _ c.args.datum.now (ap option_copied (sym c.in-None.is) ∙ c.get.ensures)

pub returns-in-Some : goal.returns-in-Some
returns-in-Some c = set_before _ c.in-Some.held.now c.args.datum.now _ (ap option_copied (sym c.in-Some.is) ∙ c.get.ensures) c.is_same_datum.ensures
