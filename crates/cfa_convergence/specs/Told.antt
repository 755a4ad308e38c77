-- What tellers tell along a history. A run is determined by what is told of its instances, so another teller who tells the same along
-- its history makes the same run. Here a teller skips no instance.
use Rattle.std.specs.Prelude.{◌≡◌, false, List, [], ◌∷◌}
use Rattle.cfa_resolve.specs.declared.instances.Instance.{Instance}
use Rattle.cfa_resolve.specs.declared.instances.Work.{Work}
use Rattle.cfa_resolve.specs.declared.instances.Work.TheVariants.{Acts, Call, Report}
use Rattle.cfa_outcomes.specs.declared.outcomes.Outcome.{Outcome}
use Rattle.cfa_outcomes.specs.declared.outcomes.Outcome.TheVariants.{Kept}
use Rattle.cfa_states.specs.History.{History, Begun, Set, Raised, Reached, Listed, Told}
use Rattle.cfa_states.specs.Passes.{goes, run}
use Rattle.cfa_states.specs.Tellers.{Teller}
use Rattle.cfa_states.specs.Views.{Setting}

-- how instances may end, by all that happened before
abbrev pub Telling : Type 0
Telling = History → Instance → List Outcome

-- the teller of this, who skips none
abbrev pub teller_of : Telling → Teller
teller_of tells = record { skips = λ h instance. false; tells = tells }

-- both tell the same wherever an instance was told
abbrev pub TellAlike : Telling → Telling → History → Type 0
TellAlike tells others [] = Unit {0}
TellAlike tells others (Told instance outcomes ∷ h) = (tells h instance ≡ others h instance) × TellAlike tells others h
TellAlike tells others (Begun path arguments ∷ h) = TellAlike tells others h
TellAlike tells others (Set path name datum ∷ h) = TellAlike tells others h
TellAlike tells others (Raised place class status source ∷ h) = TellAlike tells others h
TellAlike tells others (Reached home promise guard sets visits ∷ h) = TellAlike tells others h
TellAlike tells others (Listed instance status ∷ h) = TellAlike tells others h

abbrev pub RunsAreDetermined : Type 0
RunsAreDetermined =
    (s : Setting) (tells others : Telling) (h : History) →
    run s (teller_of tells) ≡ goes h → TellAlike tells others h → run s (teller_of others) ≡ goes h

-- a report is kept, whoever tells
abbrev pub outcomes_by : Telling → History → Instance → Work → List Outcome
outcomes_by tells h instance (Acts acts) = tells h instance
outcomes_by tells h instance (Call name arguments) = tells h instance
outcomes_by tells h instance (Report content) = Kept ∷ []

-- what was told is what the teller tells
abbrev pub IsToldBy : Telling → History → Type 0
IsToldBy tells [] = Unit {0}
IsToldBy tells (Told instance outcomes ∷ h) = (outcomes ≡ outcomes_by tells h instance instance.work) × IsToldBy tells h
IsToldBy tells (Begun path arguments ∷ h) = IsToldBy tells h
IsToldBy tells (Set path name datum ∷ h) = IsToldBy tells h
IsToldBy tells (Raised place class status source ∷ h) = IsToldBy tells h
IsToldBy tells (Reached home promise guard sets visits ∷ h) = IsToldBy tells h
IsToldBy tells (Listed instance status ∷ h) = IsToldBy tells h

abbrev pub RunsAreTold : Type 0
RunsAreTold = (s : Setting) (tells : Telling) (h : History) → run s (teller_of tells) ≡ goes h → IsToldBy tells h
