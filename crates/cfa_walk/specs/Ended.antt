-- Of the code alone: what a run that ended leaves to who made it.
use Rattle.std.specs.Prelude.{Result, Ok, Err}
use Rattle.cfa_output.specs.declared.ends.Stop.{Stop}
use Rattle.cfa_output.specs.declared.ends.Stop.TheVariants.{Outside, Memory, Visits, Pattern}
use Rattle.cfa_states.specs.declared.states.State.{State}
use Rattle.cfa_walk.specs.declared.listing.WalkErr.{WalkErr}
use Rattle.cfa_walk.specs.declared.listing.WalkErr.TheVariants as refusals

-- a state, where a run to it was made
abbrev pub to_state : State → Result (Unit {0}) Stop → Result State Stop
to_state st (Ok done) = Ok st
to_state st (Err stop) = Err stop

-- why a policy was not walked whose run was stopped
abbrev pub refusal_of : Stop → WalkErr
refusal_of (Outside object) = refusals.NoMemory
refusal_of Memory = refusals.NoMemory
refusal_of Visits = refusals.TooLarge
refusal_of (Pattern text) = refusals.PatternTooBig text
