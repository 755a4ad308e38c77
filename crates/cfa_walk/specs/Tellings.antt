-- The tellers of walks: all is kept, or each instance with acts and each call may be kept or repaired.
use Rattle.cfa_outcomes.specs.declared.outcomes.Outcome.TheVariants.{Kept}
use Rattle.cfa_resolve.specs.declared.instances.Work.{Work}
use Rattle.cfa_resolve.specs.declared.instances.Work.TheVariants.{Acts, Call, Report}
use Rattle.cfa_walk.specs.declared.listing.Telling.{Telling}
use Rattle.cfa_walk.specs.declared.listing.Telling.TheVariants.{AllKept, Open}
use Rattle.cfa_states.specs.declared.endings.Ending.{Ending}
use Rattle.cfa_states.specs.declared.endings.Ending.TheVariants.{One, KeptOrRepaired}
use Rattle.cfa_states.specs.Tellers.{Teller, all_kept, open_walk}

abbrev pub told_by : Telling → Teller
told_by AllKept = all_kept
told_by Open = open_walk

-- a report is kept, whoever tells
abbrev pub ending_by : Telling → Ending
ending_by AllKept = One Kept
ending_by Open = KeptOrRepaired

abbrev pub ending_of : Telling → Work → Ending
ending_of telling (Acts acts) = ending_by telling
ending_of telling (Call name arguments) = ending_by telling
ending_of telling (Report content) = One Kept
