-- Texts of class expressions. Such a text is a guard on one line: the tokens of a guard that opens at most 16 levels at
-- once, with spaces and tabs before, between and behind them, and no comment.
use Rattle.std.specs.Prelude.{ℕ, Bool, not, ◌||◌, ◌==◌, if◌then◌else◌, IsTrue, List, [], ◌∷◌, length, Option, Some, None}
use Rattle.std.specs.List.{list_all}
use Rattle.std.specs.Option.{option_and_then}
use Rattle.cfa_base.specs.declared.places.Place.{Place}
use Rattle.cfa_base.specs.Tokens.{Token}
use Rattle.cfa_base.specs.Lexing.{is_newline, is_hash, first_place, Fault, Lexes}
use Rattle.cfa_base.specs.Scanned.{scan}
use Rattle.cfa_tree.specs.Tree.{ExprTree}
use Rattle.cfa_tree.specs.Grammar.{Guard, depth_limit}
use Rattle.cfa_tree.specs.Guards.{GuardState, wants_atom, has_atom, GuardProgress, goes_on, ended, guard_start, guard_step, level_tree}

-- neither a newline nor a carriage return, nor `#`
abbrev pub stays_on_line : ℕ → Bool
stays_on_line b = not (is_newline b || ((b == 13) || is_hash b))

-- the text is this expression: its tokens are those of a guard, with spaces and tabs around them
pub record IsExpression (text : List ℕ) (tree : ExprTree) : Type 0 where
  pub tokens : List Token
  pub blanks : IsTrue (list_all stays_on_line text)
  pub lexes : Lexes (first_place 0) text tokens
  pub reads : Guard depth_limit tokens tree []

-- The expression of a text, computed. That this is the expression that the text is, is proved, not assumed.

-- the state of a guard that goes on with a token
abbrev pub state_of : Option GuardProgress → Option GuardState
state_of None = None
state_of (Some (goes_on g)) = Some g
state_of (Some (ended e)) = None

-- a guard is whole behind an atom, outside all parentheses
abbrev pub whole_guard : GuardState → Option ExprTree
whole_guard (has_atom conjs atoms []) = Some (level_tree conjs atoms)
whole_guard (has_atom conjs atoms (level ∷ outer)) = None
whole_guard (wants_atom level outer) = None

-- what a guard in this state becomes by these tokens, which are all that is left of it
abbrev pub guard_by : List Token → GuardState → Option ExprTree
guard_by [] g = whole_guard g
guard_by (t ∷ tokens) g = option_and_then (guard_by tokens) (state_of (guard_step depth_limit g t.kind t.text))

abbrev pub guard_by_all : List Token → Option Fault → GuardState → Option ExprTree
guard_by_all tokens None g = guard_by tokens g
guard_by_all tokens (Some fault) g = None

-- what a guard in this state becomes by these bytes, which stand from a place on
abbrev pub guard_by_bytes : Place → List ℕ → GuardState → Option ExprTree
guard_by_bytes place bytes g =
    let scanned = scan (length bytes) place bytes in
    if list_all stays_on_line bytes then guard_by_all scanned.tokens scanned.fault g else None

-- the expression that a text is, if it is one
unfoldable pub expression_of : List ℕ → Option ExprTree
expression_of text = guard_by_bytes (first_place 0) text guard_start
