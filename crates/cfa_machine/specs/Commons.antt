-- Of the code alone: a common bundle that is gone through, as a frame of the definition, and what comes of its moves.
use Rattle.std.specs.Prelude.{◌≡◌, ⊤, ℕ, Bool, true, false, List, [], ◌∷◌, drop, map, Result, Ok, Err}
use Rattle.cfa_kinds.specs.declared.kinds.PromiseType.{PromiseType}
use Rattle.cfa_output.specs.declared.ends.Stop.{Stop}
use Rattle.cfa_output.specs.declared.ends.Stop.TheVariants.{Outside, Memory, Visits, Pattern}
use Rattle.cfa_statuses.specs.declared.levels.Status.TheVariants.{Yes}
use Rattle.cfa_tree.specs.Tree.{PolicyTree}
use Rattle.cfa_frames.specs.Frames.{Frame, idle}
use Rattle.cfa_frames.specs.Moves.{FrameNext, stays, leaves, goes_past, frame_next, type_next}
use Rattle.cfa_states.specs.declared.states.State.{State}
use Rattle.cfa_states.specs.History.{History, everywhere}
use Rattle.cfa_states.specs.Kept.{SpareLocals, Stands, home_of, seen_numbered}
use Rattle.cfa_states.specs.Numbered.{Numbered, common_types}
use Rattle.cfa_states.specs.Views.{Setting}
use Rattle.cfa_machine.specs.declared.commons.Common.{Common}
use Rattle.cfa_machine.specs.Reaching.{BuiltBy}

abbrev pub promises_in : Common → List Numbered
promises_in c = map seen_numbered c.promises.items

abbrev pub seen_common : (depth : ℕ) → Common → Frame
seen_common depth c = record {
  depth = depth;
  raises_in = everywhere;
  home = home_of c.activation;
  status = c.activation.status;
  all = promises_in c;
  doing = idle;
  guard = Yes;
  instances = [];
  types = drop c.kind common_types;
  promises = drop c.place (promises_in c);
  passes = 0;
}

module _ (s : Setting) (depth : ℕ) (h : History) where
  abbrev pub CommonCame : (after : Common) → (after_state : State) → Result Bool Stop → FrameNext → Type 0
  CommonCame c st (Ok true) (stays g k) = (seen_common depth c ≡ g) × (Stands s st c.activation k × SpareLocals h k)
  CommonCame c st (Ok false) leaves = ⊤
  CommonCame c st (Ok true) leaves = ⊥
  CommonCame c st (Ok true) (goes_past k) = ⊥
  CommonCame c st (Ok false) (stays g k) = ⊥
  CommonCame c st (Ok false) (goes_past k) = ⊥
  CommonCame c st (Err (Outside object)) next = ⊥
  CommonCame c st (Err Memory) next = ⊤
  CommonCame c st (Err Visits) (goes_past k) = ⊤
  CommonCame c st (Err Visits) (stays g k) = ⊥
  CommonCame c st (Err Visits) leaves = ⊥
  CommonCame c st (Err (Pattern text)) next = BuiltBy s next text

-- by the move of the definition
abbrev pub CommonStepsTo : PolicyTree → (st st' : State) → (c c' : Common) → Result Bool Stop → Type 0
CommonStepsTo policy st st' c c' result =
    (s : Setting) (depth : ℕ) (h : History) → s.policy ≡ policy → Stands s st c.activation h →
    CommonCame s depth h c' st' result (frame_next s (seen_common depth c) h)

abbrev pub CommonTypeStepsTo : PolicyTree → PromiseType → (st st' : State) → (c c' : Common) → Result Bool Stop → Type 0
CommonTypeStepsTo policy type st st' c c' result =
    (s : Setting) (depth : ℕ) (h : History) (types : List PromiseType) → s.policy ≡ policy → Stands s st c.activation h →
    drop c.kind common_types ≡ type ∷ types →
    CommonCame s depth h c' st' result (type_next s (type ∷ types) (seen_common depth c).promises (seen_common depth c) h)
