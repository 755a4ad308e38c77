-- A run that stands between two of its moves. What it has still to do is a stack of frames, one for each bundle that
-- is being gone through, the innermost first, and ahead of them the common bundles and the names of the sequence that
-- haven't begun. A history and a stack still come to what the passes make of the history, begun where each frame
-- stands: the innermost frame goes first, and what is ahead comes last.
use Rattle.std.specs.Prelude.{ℕ, List, [], ◌∷◌, length}
use Rattle.cfa_kinds.specs.declared.kinds.PromiseType.{PromiseType}
use Rattle.cfa_resolve.specs.declared.instances.Instance.{Instance}
use Rattle.cfa_served.specs.Control.{sequence_of}
use Rattle.cfa_states.specs.History.{History, Home, Where, everywhere, within, Listed}
use Rattle.cfa_states.specs.Levels.{outcomes_of}
use Rattle.cfa_states.specs.Numbered.{Numbered, numbered_in, name_of, of_type, common_types}
use Rattle.cfa_states.specs.Passes.{Course, goes, then_on, told, unless_skipped, instances_from, promises_from, types_from, passes, calls_of, commons_from, common_passes, sequence_from}
use Rattle.cfa_states.specs.Tellers.{Teller}
use Rattle.cfa_states.specs.Views.{Setting}
use Rattle.cfa_statuses.specs.declared.levels.Status.{Status}
use Rattle.cfa_statuses.specs.declared.levels.Status.TheVariants.{Yes}
use Rattle.cfa_tree.specs.Tree.{BlockTree}

-- how far the visit in hand is
pub data Doing : Type 0 where
  -- there is none
  idle : Doing
  -- it is to be said whether the instance is skipped
  asked : (instance : Instance) (status : Status) → Doing
  -- it is to be said how the instance ended, once the bundle that it calls is gone through
  running : (instance : Instance) (status : Status) → Doing

-- a bundle that is being gone through, and what is left of it
pub record Frame : Type 0 where
  -- how deep calls may go in it
  pub depth : ℕ
  -- where its classes are raised
  pub raises_in : Where
  pub home : Home
  pub status : Status
  -- all of its promises
  pub all : List Numbered
  pub doing : Doing
  -- the status of the guard of the promise that was reached last, and its instances that weren't visited
  pub guard : Status
  pub instances : List Instance
  -- the types that the pass still goes through, that in hand first, and the promises, of whatever type, that are still
  -- to be looked at for that one
  pub types : List PromiseType
  pub promises : List Numbered
  -- the passes behind this one
  pub passes : ℕ

-- what has no frame yet
pub record Ahead : Type 0 where
  -- the common bundles of the round, and the rounds behind it
  pub commons : List BlockTree
  pub rounds : ℕ
  -- the bundles of the sequence
  pub sequence : List (List ℕ)

pub record Stack : Type 0 where
  pub frames : List Frame
  pub ahead : Ahead

-- ---- frames that begin

-- an agent bundle, with three passes
abbrev pub fresh : (depth : ℕ) → (path : List ℕ) → Status → BlockTree → Frame
fresh depth path status block = record {
  depth = depth;
  raises_in = within path;
  home = record { path = path; bundle = name_of block };
  status = status;
  all = numbered_in block;
  doing = idle;
  guard = Yes;
  instances = [];
  types = [];
  promises = [];
  passes = 3;
}

-- a common bundle, which has vars and classes alone
abbrev pub common : Setting → BlockTree → Frame
common s block = record {
  depth = length s.policy;
  raises_in = everywhere;
  home = record { path = name_of block; bundle = name_of block };
  status = Yes;
  all = numbered_in block;
  doing = idle;
  guard = Yes;
  instances = [];
  types = common_types;
  promises = numbered_in block;
  passes = 0;
}

-- ---- what is left

module _ (s : Setting) (t : Teller) where
  -- to the visit in hand
  abbrev pub doing_rest : (depth : ℕ) → Doing → History → Course
  doing_rest depth idle h = goes h
  doing_rest depth (asked instance status) h =
      unless_skipped t (calls_of s t depth) instance status (t.skips h instance) (Listed instance status ∷ h)
  doing_rest depth (running instance status) h = goes (told instance (outcomes_of t h instance instance.work) status h)

  -- to the pass, behind the instances in hand
  abbrev pub types_rest : Frame → List PromiseType → History → Course
  types_rest f [] h = goes h
  types_rest f (type ∷ types) h =
      then_on (promises_from s t (calls_of s t f.depth) f.raises_in f.home f.status (of_type type f.promises) h)
      (types_from s t (calls_of s t f.depth) f.raises_in f.home f.status f.all types)

  -- to all passes, behind the instances in hand
  abbrev pub passes_rest : Frame → History → Course
  passes_rest f h =
      then_on (types_rest f f.types h) (passes s t (calls_of s t f.depth) f.raises_in f.home f.status f.all f.passes)

  -- behind the visit in hand
  abbrev pub behind_visit : Frame → History → Course
  behind_visit f h = then_on (instances_from t (calls_of s t f.depth) f.guard f.status f.instances h) (passes_rest f)

  abbrev pub frame_rest : Frame → History → Course
  frame_rest f h = then_on (doing_rest f.depth f.doing h) (behind_visit f)

  abbrev pub ahead_rest : Ahead → History → Course
  ahead_rest a h =
      then_on (commons_from s t a.commons h) (λ h.
      then_on (common_passes s t a.rounds h) (sequence_from s t a.sequence))

  abbrev pub frames_rest : List Frame → Ahead → History → Course
  frames_rest [] a h = ahead_rest a h
  frames_rest (f ∷ frames) a h = then_on (frame_rest f h) (frames_rest frames a)

  -- what a history and a stack still come to
  abbrev pub rest : Stack → History → Course
  rest stack h = frames_rest stack.frames stack.ahead h

-- ---- the stack of a run that begins: three rounds of the common bundles, and the sequence

abbrev pub beginning : Setting → Stack
beginning s = record { frames = []; ahead = record { commons = []; rounds = 3; sequence = sequence_of s.policy } }
