-- What a level of the passes does, by what was kept before and after it.
--
-- Who tells how instances end is an object with what it stands on. It agrees with a teller of the definition as far as it was
-- asked, and stands behind a history. What it is asked last decides with what it agrees, so a level speaks of every teller with
-- which the object agrees afterwards.
use Rattle.std.specs.Prelude.{◌≡◌, ℕ, ◌≤◌, Bool, true, false, List, [], ◌∷◌, length, IsTrue, ⊤, Result, Ok, Err}
use Rattle.std.specs.List.{Contains}
use Rattle.cfa_base.specs.Causes.{Rose}
use Rattle.cfa_base.specs.Shown.{Shown, HasFailed}
use Rattle.cfa_base.specs.Patterns.{refuses}
use Rattle.cfa_statuses.specs.declared.levels.Status.{Status}
use Rattle.cfa_output.specs.declared.ends.Object.TheVariants.{Inputs, Site, Sink}
use Rattle.cfa_output.specs.declared.ends.Stop.{Stop}
use Rattle.cfa_output.specs.declared.ends.Stop.TheVariants.{Outside, Memory, Visits, Pattern}
use Rattle.cfa_outcomes.specs.declared.outcomes.Outcome.{Outcome}
use Rattle.cfa_outcomes.specs.declared.outcomes.Outcome.TheVariants.{Kept}
use Rattle.cfa_resolve.specs.declared.instances.Instance.{Instance}
use Rattle.cfa_resolve.specs.declared.instances.Work.{Work}
use Rattle.cfa_resolve.specs.declared.instances.Work.TheVariants.{Acts, Call, Report}
use Rattle.cfa_tree.specs.Tree.{PolicyTree}
use Rattle.cfa_base.specs.Index.{is_listed}
use Rattle.cfa_states.specs.declared.states.State.{State}
use Rattle.cfa_states.specs.declared.activations.Activation.{Activation}
use Rattle.cfa_states.specs.History.{History, Event, Begun, Set, Raised, Reached, Listed, Told}
use Rattle.cfa_states.specs.Kept.{Stands, home_of, SpareShorter, SpareLocals}
use Rattle.cfa_states.specs.Builds.{BuiltOn}
use Rattle.cfa_states.specs.Passes.{Course, goes, too_large}
use Rattle.cfa_states.specs.declared.endings.Ending.{Ending}
use Rattle.cfa_states.specs.Tellers.{Teller, outcomes_in, worst_in, inner_path}
use Rattle.cfa_states.specs.Views.{Setting, Home, shared_names}

-- ---- courses

-- the course goes on, to a history of which this holds
abbrev pub GoesTo : Course → (Holds : History → Type 0) → Type 0
GoesTo (goes h) Holds = Holds h
GoesTo (too_large h) Holds = ⊥

abbrev pub IsTooLarge : Course → Type 0
IsTooLarge (goes h) = ⊥
IsTooLarge (too_large h) = ⊤

-- ---- who tells

-- an event that a teller needn't hear of
abbrev pub is_quiet : Event → Bool
is_quiet (Begun path arguments) = true
is_quiet (Set path name datum) = true
is_quiet (Raised place class status source) = true
is_quiet (Reached home promise guard sets visits) = true
is_quiet (Listed instance status) = false
is_quiet (Told instance outcomes) = false

-- what was told of a visit
abbrev pub visited_by : Instance → Status → (is_skipped : Bool) → History → History
visited_by instance status true h = Told instance [] ∷ (Listed instance status ∷ h)
visited_by instance status false h = Listed instance status ∷ h

-- a report is kept, whoever tells
abbrev pub outcomes_of : Teller → History → Instance → Work → List Outcome
outcomes_of t h instance (Acts acts) = t.tells h instance
outcomes_of t h instance (Call name arguments) = t.tells h instance
outcomes_of t h instance (Report content) = Kept ∷ []

-- the worst outcome in the bundle of a call
abbrev pub EndedAs : Work → Instance → Outcome → History → Type 0
EndedAs (Acts acts) instance _ h = ⊤
EndedAs (Call name arguments) instance worst h = worst ≡ worst_in h (inner_path instance)
EndedAs (Report content) instance _ h = ⊤

-- counts of faults, of a site and of a sink
abbrev pub Faults : Type 0
Faults = ℕ × ℕ

-- the count of the site never falls, and that of the sink stands
abbrev pub Later : (before after : Faults) → Type 0
Later before after = (before.0 ≤ after.0) × (after.1 ≡ before.1)

-- the cause of a stop: the count of the object that failed rose, and at each other stop that of the sink stands
abbrev pub Stops : (before after : Faults) → Stop → Type 0
Stops before after (Outside Inputs) = ⊥
Stops before after (Outside Site) = Rose before.0 after.0 × (after.1 ≡ before.1)
Stops before after (Outside Sink) = Rose before.1 after.1
Stops before after Memory = after.1 ≡ before.1
Stops before after Visits = after.1 ≡ before.1
Stops before after (Pattern text) = after.1 ≡ before.1

-- who tells stops for an object of the outside or for want of memory alone
abbrev pub IsTellersStop : Stop → Type 0
IsTellersStop (Outside object) = ⊤
IsTellersStop Memory = ⊤
IsTellersStop Visits = ⊥
IsTellersStop (Pattern text) = ⊥

module _ {W X : Type 0} (teller : X → Teller) (agrees : W → X → Type 0) (behind : W → X → History → Type 0) where
  -- a visit was told of, and whether it is skipped was answered
  abbrev pub HasVisited : (w w' : W) → Instance → Status → (is_skipped : Bool) → Type 0
  HasVisited w w' instance status is_skipped =
      (x : X) (h : History) → agrees w' x →
      agrees w x × (behind w x h → ((teller x).skips h instance ≡ is_skipped)
      × behind w' x (visited_by instance status is_skipped h))

  -- it was told how an instance ended, or may end
  abbrev pub HasTold : (w w' : W) → Instance → (called : Outcome) → Ending → Type 0
  HasTold w w' instance called ending =
      (x : X) (h : History) → agrees w' x →
      agrees w x × (behind w x h → EndedAs instance.work instance called h →
      (outcomes_of (teller x) h instance instance.work ≡ outcomes_in ending) × behind w' x (Told instance (outcomes_in ending) ∷ h))

-- ---- levels

-- a level of an activation, by the setting, the home and the status of the activation, and who tells
abbrev pub Level : Type 0
Level = Setting → Home → Status → Teller → History → Course

-- what is kept stands at a home
abbrev pub StandsAt : PolicyTree → Setting → Home → Status → State → Activation → History → Type 0
StandsAt policy s home status st a h =
    (s.policy ≡ policy) × ((home_of a ≡ home) × ((a.status ≡ status) × Stands s st a h))

-- the end of a call, without what it answered
abbrev pub done_of : {X : Type 0} → Result X Stop → Result (Unit {0}) Stop
done_of (Ok answer) = Ok tt
done_of (Err stop) = Err stop

-- the builder of patterns is as it was, unless it refused the text that stopped the level
abbrev pub PatternsAre : Result (Unit {0}) Stop → (pats pats' : Shown (List (List ℕ))) → Type 0
PatternsAre (Ok done) pats pats' = pats' ≡ pats
PatternsAre (Err (Outside object)) pats pats' = pats' ≡ pats
PatternsAre (Err Memory) pats pats' = pats' ≡ pats
PatternsAre (Err Visits) pats pats' = pats' ≡ pats
PatternsAre (Err (Pattern text)) pats pats' = HasFailed (refuses text) pats pats'

module _ {W X : Type 0} (teller : X → Teller) (agrees : W → X → Type 0) (behind : W → X → History → Type 0) (policy : PolicyTree) where
  abbrev pub HasDone : Level → (w w' : W) → (st st' : State) → (a a' : Activation) → Type 0
  HasDone level w w' st st' a a' =
      (s : Setting) (home : Home) (status : Status) (x : X) (h : History) → agrees w' x →
      agrees w x × (StandsAt policy s home status st a h → behind w x h →
      GoesTo (level s home status (teller x) h) (λ k. StandsAt policy s home status st' a' k
      × (behind w' x k × SpareShorter (length home.path) h k)))

  abbrev pub IsPastLimit : Level → (w w' : W) → (st : State) → (a : Activation) → Type 0
  IsPastLimit level w w' st a =
      (s : Setting) (home : Home) (status : Status) (x : X) (h : History) → agrees w' x →
      agrees w x × (StandsAt policy s home status st a h → behind w x h → IsTooLarge (level s home status (teller x) h))

  -- a text was refused for its size that the level builds
  abbrev pub HasBuilt : Level → (w w' : W) → (st : State) → (a : Activation) → (text : List ℕ) → Type 0
  HasBuilt level w w' st a text =
      (s : Setting) (home : Home) (status : Status) (x : X) (h : History) → agrees w' x →
      agrees w x × (StandsAt policy s home status st a h → behind w x h → BuiltOn s (level s home status (teller x) h) text)

  -- what came of a level
  abbrev pub LevelDone : Level → (w w' : W) → (st st' : State) → (a a' : Activation) → Result (Unit {0}) Stop → Type 0
  LevelDone level w w' st st' a a' (Ok done) = HasDone level w w' st st' a a'
  LevelDone level w w' st st' a a' (Err (Outside object)) = ⊤
  LevelDone level w w' st st' a a' (Err Memory) = ⊤
  LevelDone level w w' st st' a a' (Err Visits) = IsPastLimit level w w' st a
  LevelDone level w w' st st' a a' (Err (Pattern text)) = HasBuilt level w w' st a text

-- the counts of faults afterwards
abbrev pub FaultsAre : (before after : Faults) → Result (Unit {0}) Stop → Type 0
FaultsAre before after (Ok done) = Later before after
FaultsAre before after (Err stop) = Stops before after stop

-- how a level ended: what came of it, the counts of faults, and the builder of patterns
module _ {W X : Type 0} (teller : X → Teller) (agrees : W → X → Type 0) (behind : W → X → History → Type 0) (faults : W → Faults) (policy : PolicyTree) where
  abbrev pub Ends :
      Level → (w w' : W) → (st st' : State) → (a a' : Activation) → (pats pats' : Shown (List (List ℕ))) →
      Result (Unit {0}) Stop → Type 0
  Ends level w w' st st' a a' pats pats' result =
      LevelDone teller agrees behind policy level w w' st st' a a' result
      × (FaultsAre (faults w) (faults w') result × PatternsAre result pats pats')

-- ---- a level where nothing is told

abbrev pub QuietLevel : Type 0
QuietLevel = Setting → Home → Teller → History → Course

-- the history goes on by events that a teller needn't hear of
pub data Quietly (h : History) : History → Type 0 where
  nothing : Quietly h h
  one_more : {k : History} (event : Event) → IsTrue (is_quiet event) → Quietly h k → Quietly h (event ∷ k)

-- in a common bundle nothing is local to any path
abbrev pub SpareIf : (is_common : Bool) → (h k : History) → Type 0
SpareIf true h k = SpareLocals h k
SpareIf false h k = ⊤

module _ (policy : PolicyTree) (is_common : Bool) where
  abbrev pub HasQuietlyDone : QuietLevel → (st st' : State) → (a a' : Activation) → Type 0
  HasQuietlyDone level st st' a a' =
      (s : Setting) (home : Home) (status : Status) (t : Teller) (h : History) → StandsAt policy s home status st a h →
      GoesTo (level s home t h) (λ k. StandsAt policy s home status st' a' k
      × (Quietly h k × (SpareShorter (length home.path) h k × SpareIf is_common h k)))

  abbrev pub QuietPastLimit : QuietLevel → (st : State) → (a : Activation) → Type 0
  QuietPastLimit level st a =
      (s : Setting) (home : Home) (status : Status) (t : Teller) (h : History) → StandsAt policy s home status st a h →
      IsTooLarge (level s home t h)

  abbrev pub HasQuietlyBuilt : QuietLevel → (st : State) → (a : Activation) → (text : List ℕ) → Type 0
  HasQuietlyBuilt level st a text =
      (s : Setting) (home : Home) (status : Status) (t : Teller) (h : History) → StandsAt policy s home status st a h →
      BuiltOn s (level s home t h) text

  abbrev pub QuietDone : QuietLevel → (st st' : State) → (a a' : Activation) → Result (Unit {0}) Stop → Type 0
  QuietDone level st st' a a' (Ok done) = HasQuietlyDone level st st' a a'
  QuietDone level st st' a a' (Err (Outside object)) = ⊥
  QuietDone level st st' a a' (Err Memory) = ⊤
  QuietDone level st st' a a' (Err Visits) = QuietPastLimit level st a
  QuietDone level st st' a a' (Err (Pattern text)) = HasQuietlyBuilt level st a text

-- no shared scope has a path with a newline
abbrev pub HasPlainNames : PolicyTree → Type 0
HasPlainNames policy = (path : List ℕ) → Contains path 10 → is_listed (shared_names policy) path ≡ false
