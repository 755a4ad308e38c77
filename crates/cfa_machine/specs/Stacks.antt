-- The stack of a machine, as those of the definition, and what the machine keeps of a history.
use Rattle.std.specs.Prelude.{◌≡◌, ◌<◌, ◌≤◌, ⊤, ℕ, List, [], ◌∷◌, ◌++◌, drop, length, map, reverse, Result, Ok, Err, slice_get, Some}
use Rattle.std.specs.Borrow.{Bor}
use Rattle.cfa_output.specs.declared.ends.Stop.{Stop}
use Rattle.cfa_output.specs.declared.ends.Stop.TheVariants.{Outside, Memory, Visits, Pattern}
use Rattle.cfa_schema.specs.declared.checked.Checked.{Checked}
use Rattle.cfa_schema.specs.Seen.{tree_of}
use Rattle.cfa_served.specs.Control.{sequence_of}
use Rattle.cfa_served.specs.Served.{common_bundles_of}
use Rattle.cfa_tree.specs.Tree.{BlockTree, PolicyTree}
use Rattle.cfa_tree.specs.declared.blocks.Bundle.{Bundle}
use Rattle.cfa_frames.specs.Frames.{Ahead, Frame, Stack, beginning}
use Rattle.cfa_frames.specs.Moves.{Next, goes_on, is_too_large, ahead, stack}
use Rattle.cfa_frames.specs.Standing.{IsNested}
use Rattle.cfa_states.specs.declared.states.State.{State}
use Rattle.cfa_states.specs.Builds.{BuiltIn}
use Rattle.cfa_states.specs.History.{History}
use Rattle.cfa_states.specs.Kept.{Keeps, KeepsLocally}
use Rattle.cfa_states.specs.Levels.{EndedAs}
use Rattle.cfa_states.specs.Views.{Setting}
use Rattle.cfa_resolve.specs.declared.instances.Instance.{Instance}
use Rattle.cfa_machine.specs.declared.frames.Doing.{Doing as Code}
use Rattle.cfa_machine.specs.declared.frames.Doing.TheVariants.{Idle, Asked, Running}
use Rattle.cfa_machine.specs.declared.frames.Frame.{Frame as Held}
use Rattle.cfa_machine.specs.declared.machines.Machine.{Machine}
use Rattle.cfa_machine.specs.declared.tops.Top.{Top}
use Rattle.cfa_machine.specs.declared.tops.Top.TheVariants as tops
use Rattle.cfa_visits.specs.Bundles.{seen_bundle}
use Rattle.cfa_visits.specs.Clear.{IsClear}
use Rattle.cfa_machine.specs.Commons.{seen_common}
use Rattle.cfa_machine.specs.Machines.{row_in, seen_frame}
use Rattle.cfa_machine.specs.Standing.{FrameHolds}

-- ---- the stack

-- the innermost first
abbrev pub seen_frames : (depth : ℕ) → Top → (below : List Held) → List Frame
seen_frames depth tops.Nothing below = []
seen_frames depth (tops.Common c) below = seen_common depth c ∷ []
seen_frames depth (tops.Agent f) below = seen_frame f ∷ map seen_frame below

abbrev pub seen_bundles : List (Bor Bundle) → List BlockTree
seen_bundles bundles = map (λ b. seen_bundle b.now) bundles

abbrev pub seen_ahead : Machine → Ahead
seen_ahead m = ahead (drop m.round (seen_bundles m.commons.items)) m.rounds (drop m.at m.names)

abbrev pub seen_stack : Machine → Stack
seen_stack m = stack (seen_frames m.depth m.top (reverse m.below.items)) (seen_ahead m)

-- ---- what the code alone keeps

abbrev pub AreAll : (Held → Type 0) → List Held → Type 0
AreAll P [] = ⊤
AreAll P (f ∷ fs) = P f × AreAll P fs

-- only an agent bundle has others below it
abbrev pub TopHolds : PolicyTree → State → Top → (below : List Held) → Type 0
TopHolds policy st tops.Nothing below = below ≡ []
TopHolds policy st (tops.Common c) below = below ≡ []
TopHolds policy st (tops.Agent f) below = FrameHolds policy st f × AreAll (FrameHolds policy st) below

-- once a bundle of the sequence has begun no common bundle is left
abbrev pub NotCommon : Top → Type 0
NotCommon tops.Nothing = ⊤
NotCommon (tops.Common c) = ⊥
NotCommon (tops.Agent f) = ⊤

abbrev pub NotAgent : Top → Type 0
NotAgent tops.Nothing = ⊤
NotAgent (tops.Common c) = ⊤
NotAgent (tops.Agent f) = ⊥

pub record HasBegun (m : Machine) : Type 0 where
  pub rounds : m.rounds ≡ 0
  pub round : length m.commons.items ≤ m.round
  pub top : NotCommon m.top

-- what is remembered in its frames holds, and what is ahead is of its policy
pub record Holds (m : Machine) : Type 0 where
  pub top : TopHolds (tree_of m.checked.now) m.state m.top (reverse m.below.items)
  pub depth : m.depth ≡ length (tree_of m.checked.now)
  pub commons : seen_bundles m.commons.items ≡ common_bundles_of (tree_of m.checked.now)
  pub names : m.names ≡ sequence_of (tree_of m.checked.now)
  pub begun : 0 < m.at → HasBegun m
  pub unbegun : m.at ≡ 0 → NotAgent m.top

-- ---- what is kept of a history

-- the worst outcome in the bundle of the call that is to be told
abbrev pub CalledAs : Code → List Instance → History → Type 0
CalledAs Idle row h = ⊤
CalledAs (Asked at status) row h = ⊤
CalledAs (Running at status worst) row h = (instance : Instance) → slice_get row at ≡ Some instance → EndedAs instance.work instance worst h

abbrev pub TopKeeps : Setting → Top → (below : List Held) → History → Type 0
TopKeeps s tops.Nothing below h = ⊤
TopKeeps s (tops.Common c) below h = KeepsLocally s c.activation h
TopKeeps s (tops.Agent f) below h =
    KeepsLocally s f.activation h × (CalledAs f.doing (row_in f.rows.items f.hand) h × AreAll (λ (g : Held). KeepsLocally s g.activation h) below)

pub record Stands (s : Setting) (m : Machine) (h : History) : Type 0 where
  pub policy : s.policy ≡ tree_of m.checked.now
  pub state : Keeps s m.state h
  pub frames : TopKeeps s m.top (reverse m.below.items) h
  pub clear : m.at ≡ 0 → IsClear h
  pub nested : IsNested (seen_stack m)

-- ---- what came of a move

abbrev pub next_built : Setting → Next → (text : List ℕ) → Type 0
next_built s (goes_on st h) text = BuiltIn s h text
next_built s (is_too_large h) text = BuiltIn s h text

abbrev pub Came : Setting → Machine → Result (Unit {0}) Stop → Next → Type 0
Came s m (Ok done) (goes_on st h) = (seen_stack m ≡ st) × Stands s m h
Came s m (Ok done) (is_too_large h) = ⊥
Came s m (Err (Outside object)) next = ⊥
Came s m (Err Memory) next = ⊤
Came s m (Err Visits) (goes_on st h) = ⊥
Came s m (Err Visits) (is_too_large h) = ⊤
Came s m (Err (Pattern text)) next = next_built s next text

-- ---- a bundle that is called

-- it began above this one, which calls it
abbrev pub PushesOnto : Top → (m m' : Machine) → Held → Type 0
PushesOnto tops.Nothing m m' f = m' ≡ record m { top = tops.Agent f }
PushesOnto (tops.Common c) m m' f = m' ≡ record m { top = tops.Agent f }
PushesOnto (tops.Agent caller) m m' f =
    (m' ≡ record m { top = tops.Agent f; below = m'.below }) × (m'.below.items ≡ m.below.items ++ caller ∷ [])

-- ---- a run that begins

-- nothing has happened, and all is ahead
pub record Begins (checked : Checked) (classes : List (List ℕ)) (m : Machine) : Type 0 where
  pub policy : m.checked.now ≡ checked
  pub holds : Holds m
  pub stands : Stands (record { policy = tree_of checked; classes = classes }) m []
  pub stack : seen_stack m ≡ beginning (record { policy = tree_of checked; classes = classes })
