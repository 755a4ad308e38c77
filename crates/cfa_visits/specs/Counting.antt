-- Of the code alone: what is found out of a promise that has instances, and how its visits are counted.
use Rattle.std.specs.Prelude.{◌≡◌, ℕ, ◌+◌, ◌-◌, filter_map, nat_le, false, IsTrue, List, ◌∷◌, ⊤, Result, Ok, Err, [], Option, Some, None}
use Rattle.cfa_schema.specs.Laws.{IsCounted}
use Rattle.cfa_resolve.specs.declared.instances.Instance.{Instance}
use Rattle.cfa_resolve.specs.declared.instances.Resolved.{Resolved}
use Rattle.cfa_resolve.specs.declared.instances.ResolveErr.{ResolveErr}
use Rattle.cfa_resolve.specs.declared.instances.ResolveErr.TheVariants.{TooLarge, PatternTooBig, NoMemory}
use Rattle.cfa_resolve.specs.Resolution.{resolution}
use Rattle.cfa_states.specs.declared.activations.Activation.{Activation}
use Rattle.cfa_states.specs.declared.remembering.Found.{Found}
use Rattle.cfa_states.specs.declared.states.State.{State}
use Rattle.cfa_output.specs.declared.ends.Stop.{Stop}
use Rattle.cfa_output.specs.declared.ends.Stop.TheVariants.{Outside, Memory, Visits, Pattern}
use Rattle.cfa_statuses.specs.declared.levels.Status.{Status}
use Rattle.cfa_outcomes.specs.Environments.{source_of}
use Rattle.cfa_tree.specs.Tree.{PolicyTree}
use Rattle.cfa_states.specs.History.{History, Home, Reached, visits_in}
use Rattle.cfa_states.specs.Levels.{StandsAt}
use Rattle.cfa_states.specs.Logs.{logged_blames}
use Rattle.cfa_states.specs.Walks.{blame_edit}
use Rattle.cfa_states.specs.Numbered.{Numbered}
use Rattle.cfa_states.specs.Builds.{BuiltWhere}
use Rattle.cfa_states.specs.Passes.{most_visits}
use Rattle.cfa_states.specs.Views.{Setting, reached_in_history}

-- an instance of the activation of this path, whose promise is one that a policy may have
abbrev pub IsAt : (path : List ℕ) → Instance → Type 0
IsAt path instance = (instance.path ≡ path) × IsCounted instance.source

-- what a promise resolves to, where it is reached
abbrev pub resolution_at : Setting → Home → Numbered → History → Resolved
resolution_at s home p h =
    resolution (reached_in_history s h home p.type p)

abbrev pub reached_event : Home → Numbered → (guard : Status) → Resolved → History → History
reached_event home p guard resolved h = Reached home p guard false resolved.visits ∷ h

-- the instances among what was found out, if anything was
abbrev pub instances_of : Option Found → List Instance
instances_of None = []
instances_of (Some found) = found.resolved.instances

abbrev pub found_by : Option Found → Result (Unit {0}) Stop → Result (List Instance) Stop
found_by kept (Ok done) = Ok (instances_of kept)
found_by kept (Err stop) = Err stop

-- what stops a run in which a promise isn't resolved
abbrev pub stop_of : ResolveErr → Stop
stop_of TooLarge = Visits
stop_of (PatternTooBig text) = Pattern text
stop_of NoMemory = Memory

-- the visits of a promise are counted, and what is unsettled in its edits is noted
abbrev pub counted_in : Resolved → State → State
counted_in resolved st = record st {
  left = st.left - resolved.visits;
  log = logged_blames (filter_map (blame_edit (source_of st.environment)) resolved.unsettled) st.log;
}

-- the visits of a promise were counted, and these are its instances
module _ (policy : PolicyTree) (p : Numbered) (guard : Status) where
  abbrev pub Counts : (st st' : State) → (a a' : Activation) → Result (List Instance) Stop → Type 0
  Counts st st' a a' (Ok instances) =
      (s : Setting) (home : Home) (status : Status) (h : History) → StandsAt policy s home status st a h →
      (instances ≡ (resolution_at s home p h).instances)
      × (IsTrue (nat_le ((resolution_at s home p h).visits + visits_in h) most_visits)
      × StandsAt policy s home status st' a' (reached_event home p guard (resolution_at s home p h) h))
  Counts st st' a a' (Err (Outside object)) = ⊥
  Counts st st' a a' (Err Memory) = ⊤
  Counts st st' a a' (Err Visits) =
      (s : Setting) (home : Home) (status : Status) (h : History) → StandsAt policy s home status st a h →
      nat_le ((resolution_at s home p h).visits + visits_in h) most_visits ≡ false
  Counts st st' a a' (Err (Pattern text)) =
      (s : Setting) (home : Home) (status : Status) (h : History) → StandsAt policy s home status st a h →
      BuiltWhere s guard h home p text
