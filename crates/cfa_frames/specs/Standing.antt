-- How the frames of a run stand to one another: the instances of a frame are of its activation, and each frame but the
-- innermost runs the call whose bundle is gone through above it, one call deeper, with the status of the visit.
use Rattle.std.specs.Prelude.{◌≡◌, ◌<◌, ⊤, ℕ, suc, List, [], ◌∷◌, All, length}
use Rattle.cfa_resolve.specs.declared.instances.Instance.{Instance}
use Rattle.cfa_states.specs.Tellers.{inner_path}
use Rattle.cfa_frames.specs.Frames.{Doing, Frame, Stack, asked, idle, running}
use Rattle.cfa_frames.specs.Moves.{Next, goes_on, is_too_large}

abbrev pub IsOf : (path : List ℕ) → Instance → Type 0
IsOf path instance = instance.path ≡ path

-- the instance in hand
abbrev pub IsInHand : (path : List ℕ) → Doing → Type 0
IsInHand path idle = ⊤
IsInHand path (asked instance status) = IsOf path instance
IsInHand path (running instance status) = IsOf path instance

pub record HasOwn (f : Frame) : Type 0 where
  pub doing : IsInHand f.home.path f.doing
  pub instances : All (IsOf f.home.path) f.instances

-- a frame runs the call whose bundle is that of the frame above
abbrev pub RunsCall : Doing → (depth : ℕ) → (above : Frame) → Type 0
RunsCall idle depth above = ⊥
RunsCall (asked instance status) depth above = ⊥
RunsCall (running instance status) depth above =
    (above.home.path ≡ inner_path instance) × (suc above.depth ≡ depth) × (above.status ≡ status)

abbrev pub AreBelow : (above : Frame) → List Frame → Type 0
AreBelow above [] = ⊤
AreBelow above (f ∷ frames) = RunsCall f.doing f.depth above × HasOwn f × AreBelow f frames

-- the innermost first
abbrev pub AreNested : List Frame → Type 0
AreNested [] = ⊤
AreNested (f ∷ frames) = HasOwn f × AreBelow f frames

-- each path is shorter than this
abbrev pub AreShorter : ℕ → List Frame → Type 0
AreShorter n [] = ⊤
AreShorter n (f ∷ frames) = (length f.home.path < n) × AreShorter n frames

abbrev pub IsNested : Stack → Type 0
IsNested stack = AreNested stack.frames

abbrev pub NextIsNested : Next → Type 0
NextIsNested (goes_on stack h) = IsNested stack
NextIsNested (is_too_large h) = ⊤
