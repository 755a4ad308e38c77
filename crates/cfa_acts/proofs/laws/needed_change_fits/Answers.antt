use Rattle.cfa_acts.proofs.Needs.{needed_fits}
use Rattle.cfa_acts.proofs.laws.needed_change_fits.Goals as goal

pub returns : goal.returns
returns c = needed_fits
