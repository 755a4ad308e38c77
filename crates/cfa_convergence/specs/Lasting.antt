-- What the actuations of one or several agents on one world leave behind. A trace tells who actuated which instance, the newest
-- first; each of its instances does what its acts need on the world as it stands, and none fails. What else an agent puts, as its
-- records, is no part of the host.
--
-- Where no live instance is in conflict and each agent follows the order of the open walk, the posts of each live instance hold that
-- every agent has actuated.
use Rattle.std.specs.Prelude.{◌≡◌, ◌⊎◌, ◌==◌, ℕ, Bool, true, false, List, [], ◌∷◌, None, IsTrue}
use Rattle.std.specs.List.{AllByRecursion as Each}
use Rattle.cfa_outside.specs.declared.worlds.World.{World}
use Rattle.cfa_outside.specs.Worlds.{HasParents}
use Rattle.cfa_acts.specs.declared.acts.Act.{Act}
use Rattle.cfa_acts.specs.Acts.{post}
use Rattle.cfa_resolve.specs.declared.instances.Instance.{Instance}
use Rattle.cfa_states.specs.History.{History}
use Rattle.cfa_states.specs.Tellers.{actuated, after_all, acts_of}
use Rattle.cfa_agent.specs.Hosts.{SameHost}
use Rattle.cfa_laws.specs.Keys.{IsKeyed}
use Rattle.cfa_convergence.specs.Conflicts.{IsLive, is_same, IsAfter, AreFree}

-- ---- worlds

abbrev pub PostsHold : World → List Act → Type 0
PostsHold world acts = Each (λ (act : Act). IsTrue (post act world)) acts

-- ---- traces

-- by the numbers of agents, the newest first
abbrev pub Trace : Type 0
Trace = List (ℕ × Instance)

abbrev pub by_agent : (agent : ℕ) → Trace → List Instance
by_agent agent [] = []
by_agent agent (step ∷ trace) = elim (step.0 == agent) [ true ↦ step.1 ∷ by_agent agent trace | false ↦ by_agent agent trace ]

-- the first world becomes the other by these actuations, of which none fails
pub data Becomes (first : World) : Trace → World → Type 0 where
  unchanged : Becomes first [] first
  actuates : {step : ℕ × Instance} {trace : Trace} {world other : World} → Becomes first trace world →
      (actuated (acts_of step.1.work) world).failure ≡ None →
      SameHost other (after_all (actuated (acts_of step.1.work) world).changes world) → Becomes first (step ∷ trace) other

-- the instance, or one of its path and key text, stands among these
abbrev pub IsAmong : Instance → List Instance → Type 0
IsAmong instance [] = ⊥
IsAmong instance (other ∷ more) = (is_same instance other ≡ true) ⊎ IsAmong instance more

-- each stands after those before it, the newest first
abbrev pub Follow : (Instance → Instance → Type 0) → List Instance → Type 0
Follow After [] = Unit {0}
Follow After (instance ∷ more) = ((earlier : Instance) → IsAmong earlier more → After instance earlier) × Follow After more

-- ---- the law

abbrev pub PostsLast : Type 0
PostsLast =
    (kept walk : History) (is_agent : ℕ → Bool) (one : ℕ) (first world : World) (trace : Trace) →
    AreFree kept walk → is_agent one ≡ true → HasParents first.nodes → Becomes first trace world →
    Each (λ (step : ℕ × Instance). (is_agent step.0 ≡ true) × IsKeyed step.1) trace →
    ((agent : ℕ) → is_agent agent ≡ true → Follow (IsAfter walk) (by_agent agent trace)) →
    (i : Instance) → IsKeyed i → IsLive kept i → ((agent : ℕ) → is_agent agent ≡ true → IsAmong i (by_agent agent trace)) →
    PostsHold world (acts_of i.work)
