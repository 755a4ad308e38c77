-- What a teller needn't hear of. A move adds such events alone. A visit that is listed, and an instance that is told, are heard
-- of; what an answer adds behind these needn't be.
use Rattle.cfa_states.specs.History.{History}
use Rattle.cfa_states.specs.Levels.{Quietly}
use Rattle.cfa_frames.specs.Moves.{Next, goes_on, is_too_large}

abbrev pub NextQuietly : History → Next → Type 0
NextQuietly h (goes_on st k) = Quietly h k
NextQuietly h (is_too_large k) = Quietly h k
