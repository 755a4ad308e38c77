-- What a machine waits for, as what a stack of the definition waits for.
use Rattle.std.specs.Prelude.{Bool, true, false}
use Rattle.cfa_frames.specs.Frames.{Ahead}
use Rattle.cfa_frames.specs.Moves.{Need, nothing, skipping, ending, over, ahead_need}
use Rattle.cfa_machine.specs.declared.machines.Need.{Need as Code}
use Rattle.cfa_machine.specs.declared.machines.Need.TheVariants as needs

abbrev pub seen_need : Code → Need
seen_need needs.Nothing = nothing
seen_need (needs.Visit instance status) = skipping instance.now status
seen_need (needs.Ending instance status) = ending instance.now status
seen_need needs.Over = over

-- whether bundles are ahead
abbrev pub need_if : (has_more : Bool) → Need
need_if true = nothing
need_if false = over

abbrev pub need_ahead : Ahead → Need
need_ahead a = ahead_need a.commons a.rounds a.sequence
