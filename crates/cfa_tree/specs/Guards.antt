-- Reading a guard token by token: what was read of it in each level that is open, and what one more token makes of that.
use Rattle.std.specs.Prelude.{ℕ, suc, zero, List, [], ◌∷◌, ◌++◌, Option, Some, None}
use Rattle.cfa_base.specs.declared.tokens.Kind.{Kind}
use Rattle.cfa_base.specs.declared.tokens.Kind.TheVariants.{Word, CloseParen, OpenParen, Bang, Dot, And, Or}
use Rattle.cfa_tree.specs.Tree.{ExprTree, class, negated}
use Rattle.cfa_tree.specs.Grammar.{Levels, conj_of, guard_of}
use Rattle.cfa_tree.specs.Room.{has_room, only_if}

-- what was read inside one parenthesis, or outside all: whole conjs, atoms of a further conj, and how many `!` after these
pub record GuardLevel : Type 0 where
  pub conjs : List ExprTree
  pub atoms : List ExprTree
  pub negations : ℕ

-- an atom is wanted, or one was just read; the levels around are those of open parentheses, the innermost first
pub data GuardState : Type 0 where
  wants_atom : (level : GuardLevel) (outer : List GuardLevel) → GuardState
  has_atom : (conjs atoms : List ExprTree) (outer : List GuardLevel) → GuardState

-- a guard goes on, or it has ended before this token
pub data GuardProgress : Type 0 where
  goes_on : GuardState → GuardProgress
  ended : ExprTree → GuardProgress

abbrev pub empty_level : GuardLevel
empty_level = record { conjs = []; atoms = []; negations = 0 }

-- nothing of a guard was read
abbrev pub guard_start : GuardState
guard_start = wants_atom empty_level []

-- so many levels more
abbrev pub more_levels : ℕ → ℕ → ℕ
more_levels zero open_levels = open_levels
more_levels (suc n) open_levels = suc (more_levels n open_levels)

-- how many levels are open: each parenthesis, and each `!` before one
abbrev pub level_count : List GuardLevel → ℕ
level_count [] = 0
level_count (level ∷ outer) = suc (more_levels level.negations (level_count outer))

-- so many `!` before an expression
abbrev pub negated_by : ℕ → ExprTree → ExprTree
negated_by zero e = e
negated_by (suc n) e = negated (negated_by n e)

-- the expression that whole conjs and the atoms of a last one are
abbrev pub level_tree : (conjs atoms : List ExprTree) → ExprTree
level_tree conjs atoms = guard_of (conjs ++ conj_of atoms ∷ [])

-- an atom was read, and the `!` before it are closed
abbrev pub atom_taken : GuardLevel → ExprTree → List GuardLevel → GuardState
atom_taken level e outer = has_atom level.conjs (level.atoms ++ negated_by level.negations e ∷ []) outer

abbrev pub with_negation : GuardLevel → GuardLevel
with_negation level = record { conjs = level.conjs; atoms = level.atoms; negations = suc level.negations }

abbrev pub wants_step : Levels → GuardLevel → List GuardLevel → Kind → List ℕ → Option GuardState
wants_step limit level outer Word x = Some (atom_taken level (class x) outer)
wants_step limit level outer Bang x =
    only_if (has_room limit (more_levels level.negations (level_count outer))) (wants_atom (with_negation level) outer)
wants_step limit level outer OpenParen x =
    only_if (has_room limit (more_levels level.negations (level_count outer))) (wants_atom empty_level (level ∷ outer))
wants_step limit level outer _ x = None

-- a further atom of the last conj
abbrev pub after_and : (conjs atoms : List ExprTree) → List GuardLevel → GuardState
after_and conjs atoms outer = wants_atom (record { conjs = conjs; atoms = atoms; negations = 0 }) outer

-- a further conj
abbrev pub after_or : (conjs atoms : List ExprTree) → List GuardLevel → GuardState
after_or conjs atoms outer = wants_atom (record { conjs = conjs ++ conj_of atoms ∷ []; atoms = []; negations = 0 }) outer

abbrev pub has_step : (conjs atoms : List ExprTree) → List GuardLevel → Kind → Option GuardProgress
has_step conjs atoms outer Dot = Some (goes_on (after_and conjs atoms outer))
has_step conjs atoms outer And = Some (goes_on (after_and conjs atoms outer))
has_step conjs atoms outer Or = Some (goes_on (after_or conjs atoms outer))
has_step conjs atoms (level ∷ outer) CloseParen = Some (goes_on (atom_taken level (level_tree conjs atoms) outer))
has_step conjs atoms (level ∷ outer) _ = None
has_step conjs atoms [] _ = Some (ended (level_tree conjs atoms))

abbrev pub going_on : Option GuardState → Option GuardProgress
going_on None = None
going_on (Some s) = Some (goes_on s)

-- what one more token, of this kind and spelling, makes of a guard; None where no guard goes on so
abbrev pub guard_step : Levels → GuardState → Kind → List ℕ → Option GuardProgress
guard_step limit (wants_atom level outer) k x = going_on (wants_step limit level outer k x)
guard_step limit (has_atom conjs atoms outer) k x = has_step conjs atoms outer k

-- a token that continues no guard ends one outside all parentheses, and can't stand within one
abbrev pub guard_end : (conjs atoms : List ExprTree) → List GuardLevel → Option GuardProgress
guard_end conjs atoms [] = Some (ended (level_tree conjs atoms))
guard_end conjs atoms (level ∷ outer) = None

abbrev pub paren_closed : (conjs atoms : List ExprTree) → List GuardLevel → Option GuardProgress
paren_closed conjs atoms [] = Some (ended (level_tree conjs atoms))
paren_closed conjs atoms (level ∷ outer) = Some (goes_on (atom_taken level (level_tree conjs atoms) outer))
