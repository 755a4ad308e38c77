-- Of the code alone: what comes of a bundle that begins.
use Rattle.std.specs.Prelude.{◌≡◌, ⊤, ℕ, List, [], ◌∷◌, length, Some}
use Rattle.cfa_served.specs.Served.{bundle_of}
use Rattle.cfa_statuses.specs.declared.levels.Status.TheVariants.{Yes}
use Rattle.cfa_tree.specs.Tree.{BlockTree, PolicyTree}
use Rattle.cfa_frames.specs.Frames.{Ahead, Frame, common}
use Rattle.cfa_frames.specs.Moves.{Next, activated, goes_on, named_next, stack}
use Rattle.cfa_states.specs.declared.states.State.{State}
use Rattle.cfa_states.specs.History.{History}
use Rattle.cfa_states.specs.Kept.{Keeps, KeepsLocally}
use Rattle.cfa_states.specs.Views.{Setting}
use Rattle.cfa_machine.specs.declared.frames.Doing.TheVariants.{Idle}
use Rattle.cfa_machine.specs.declared.tops.Top.{Top}
use Rattle.cfa_machine.specs.declared.tops.Top.TheVariants as tops
use Rattle.cfa_machine.specs.Commons.{seen_common}
use Rattle.cfa_machine.specs.Machines.{seen_frame}
use Rattle.cfa_machine.specs.Standing.{FrameHolds}

-- the frames of what began alone
abbrev pub seen_alone : (depth : ℕ) → Top → List Frame
seen_alone depth tops.Nothing = []
seen_alone depth (tops.Common c) = seen_common depth c ∷ []
seen_alone depth (tops.Agent f) = seen_frame f ∷ []

abbrev pub KeepsAlone : Setting → Top → History → Type 0
KeepsAlone s tops.Nothing h = ⊤
KeepsAlone s (tops.Common c) h = KeepsLocally s c.activation h
KeepsAlone s (tops.Agent f) h = KeepsLocally s f.activation h × (f.doing ≡ Idle)

-- no common bundle began
abbrev pub TopHoldsAlone : PolicyTree → State → Top → Type 0
TopHoldsAlone policy st tops.Nothing = ⊤
TopHoldsAlone policy st (tops.Common c) = ⊥
TopHoldsAlone policy st (tops.Agent f) = FrameHolds policy st f

-- a common bundle began
abbrev pub CommonBegins : Setting → BlockTree → Top → History → Type 0
CommonBegins s block tops.Nothing h = ⊥
CommonBegins s block (tops.Common c) h = (seen_common (length s.policy) c ≡ common s block) × KeepsLocally s c.activation h
CommonBegins s block (tops.Agent f) h = ⊥

-- a bundle of the sequence began, by the move of the definition
pub record Begun (s : Setting) (move : Ahead → Next) (top : Top) (st : State) : Type 0 where
  pub after : History
  pub next : (a : Ahead) → move a ≡ goes_on (stack (seen_alone (length s.policy) top) a) after
  pub keeps : Keeps s st after
  pub local : KeepsAlone s top after

abbrev pub AgentBegins : Setting → (name : List ℕ) → BlockTree → Top → State → History → Type 0
AgentBegins s name block top st h = Begun s (λ a. activated (length s.policy) name Yes [] (Some block) [] a h) top st

-- where it is an agent bundle
abbrev pub NamedBegins : Setting → (name : List ℕ) → Top → State → History → Type 0
NamedBegins s name top st h = Begun s (λ a. named_next s name (bundle_of s.policy name) a h) top st
