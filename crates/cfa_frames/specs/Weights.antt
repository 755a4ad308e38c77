-- The weight of a stack is a number that falls with each move and with each answer. A visit that may still be counted
-- pays for an instance, and an instance for all that the bundle does that it calls, so the weight hangs on no depth.
use Rattle.std.specs.Prelude.{ℕ, ◌+◌, ◌-◌, ◌*◌, ◌<◌, ⊤, List, [], ◌∷◌, length, max}
use Rattle.cfa_kinds.specs.declared.kinds.PromiseType.{PromiseType}
use Rattle.cfa_served.specs.Served.{common_bundles_of}
use Rattle.cfa_states.specs.History.{History, visits_in}
use Rattle.cfa_states.specs.Numbered.{numbered_in}
use Rattle.cfa_states.specs.Passes.{most_visits}
use Rattle.cfa_states.specs.Views.{Setting}
use Rattle.cfa_tree.specs.Tree.{BlockTree}
use Rattle.cfa_frames.specs.Frames.{Ahead, Doing, Frame, Stack, asked, idle, running}
use Rattle.cfa_frames.specs.Moves.{Next, goes_on, is_too_large}

-- ---- bundles, by the number of their promises

-- a pass goes through six types, and for each through all promises
abbrev pub pass_weight : ℕ → ℕ
pass_weight n = 1 + 6 * (1 + n)

abbrev pub fresh_weight : ℕ → ℕ
fresh_weight n = 1 + 3 * pass_weight n

-- the most that a bundle of a policy weighs
abbrev pub heaviest : List BlockTree → ℕ
heaviest [] = 0
heaviest (block ∷ blocks) = max (fresh_weight (length (numbered_in block))) (heaviest blocks)

-- a common bundle goes through two types
abbrev pub common_weight : ℕ → ℕ
common_weight n = 2 + 2 * (1 + n)

abbrev pub commons_weight : List BlockTree → ℕ
commons_weight [] = 0
commons_weight (block ∷ blocks) = common_weight (length (numbered_in block)) + commons_weight blocks

-- ---- frames, where no bundle weighs more

abbrev pub doing_weight : (heaviest : ℕ) → Doing → ℕ
doing_weight b idle = 0
doing_weight b (asked instance status) = b + 2
doing_weight b (running instance status) = 1

-- the promises that are left for the type in hand, and all for each type behind it
abbrev pub types_weight : (all left : ℕ) → List PromiseType → ℕ
types_weight n left [] = 0
types_weight n left (type ∷ types) = 1 + left + length types * (1 + n)

abbrev pub frame_weight : (heaviest : ℕ) → Frame → ℕ
frame_weight b f =
    1 + f.passes * pass_weight (length f.all) + types_weight (length f.all) (length f.promises) f.types
    + (b + 3) * length f.instances + doing_weight b f.doing

abbrev pub frames_weight : (heaviest : ℕ) → List Frame → ℕ
frames_weight b [] = 0
frames_weight b (f ∷ frames) = frame_weight b f + frames_weight b frames

-- ---- stacks

-- the visits that a run may still count
abbrev pub free_visits : History → ℕ
free_visits h = most_visits - visits_in h

-- by what a round of the common bundles weighs
abbrev pub ahead_weight : (heaviest round : ℕ) → Ahead → ℕ
ahead_weight b round a = commons_weight a.commons + a.rounds * (1 + round) + (b + 1) * length a.sequence

abbrev pub stack_weight : (heaviest round : ℕ) → Stack → History → ℕ
stack_weight b round st h = frames_weight b st.frames + ahead_weight b round st.ahead + (b + 3) * free_visits h

abbrev pub weight : Setting → Stack → History → ℕ
weight s st h = stack_weight (heaviest s.policy) (commons_weight (common_bundles_of s.policy)) st h

-- less is left than so much
abbrev pub IsLighter : Setting → Next → ℕ → Type 0
IsLighter s (goes_on st h) w = weight s st h < w
IsLighter s (is_too_large h) w = ⊤
