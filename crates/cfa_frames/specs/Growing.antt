-- What has happened stays: a history that comes of another has its events behind those that came since. So what is still to
-- come hangs on the answers at such histories alone.
use Rattle.std.specs.Prelude.{◌≡◌, List, ◌++◌}
use Rattle.cfa_resolve.specs.declared.instances.Instance.{Instance}
use Rattle.cfa_states.specs.History.{History, Event}
use Rattle.cfa_states.specs.Passes.{Course, goes, too_large}
use Rattle.cfa_states.specs.Tellers.{Teller}
use Rattle.cfa_frames.specs.Moves.{Next, goes_on, is_too_large}

-- the second is the first with events that came since
abbrev pub Grows : History → History → Type 0
Grows h k = (since : List Event) × (k ≡ since ++ h)

abbrev pub CourseGrows : History → Course → Type 0
CourseGrows h (goes k) = Grows h k
CourseGrows h (too_large k) = Grows h k

abbrev pub NextGrows : History → Next → Type 0
NextGrows h (goes_on st k) = Grows h k
NextGrows h (is_too_large k) = Grows h k

-- two tellers answer alike at a history and at all that come of it
abbrev pub AnswerAlike : History → Teller → Teller → Type 0
AnswerAlike h t u =
    (k : History) (instance : Instance) → Grows h k
    → (t.skips k instance ≡ u.skips k instance) × (t.tells k instance ≡ u.tells k instance)
