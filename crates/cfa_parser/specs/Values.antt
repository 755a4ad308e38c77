-- Of the code alone: reading a value token by token, the calls and lists that are open, and what one more token makes of them.
use Rattle.std.specs.Prelude.{ℕ, List, [], ◌∷◌, ◌++◌, length, Option, Some, None}
use Rattle.cfa_base.specs.declared.places.Place.{Place}
use Rattle.cfa_base.specs.declared.tokens.Kind.{Kind}
use Rattle.cfa_base.specs.declared.tokens.Kind.TheVariants.{Word, Text, Ref, ListRef, Comma, OpenBrace, CloseBrace, OpenParen, CloseParen}
use Rattle.cfa_base.specs.Lexing.{content_of, name_of}
use Rattle.cfa_tree.specs.Tree.{ValueTree, text, word, reference, list_reference, list, call, value_trees}
use Rattle.cfa_tree.specs.Grammar.{Levels}
use Rattle.cfa_tree.specs.Room.{has_room, only_if}

-- a list that is open: the items so far, and its place
pub record OpenList : Type 0 where
  pub items : List ValueTree
  pub place : Place

-- a call that is open: the list around it, if it is an item, its word, and the arguments so far
pub record OpenCall : Type 0 where
  pub around : Option OpenList
  pub function : List ℕ
  pub place : Place
  pub arguments : List ValueTree

-- A value or an item is wanted; a word was read, which may be a call's; a call's parenthesis was read; an item was read;
-- an argument was read; or the value is whole. The open calls stand innermost first.
pub data ValueState : Type 0 where
  wants_value : (inside : Option OpenList) (calls : List OpenCall) → ValueState
  has_word : (name : List ℕ) (place : Place) (inside : Option OpenList) (calls : List OpenCall) → ValueState
  has_paren : (innermost : OpenCall) (calls : List OpenCall) → ValueState
  has_item : (inside : OpenList) (calls : List OpenCall) → ValueState
  has_argument : (innermost : OpenCall) (calls : List OpenCall) → ValueState
  has_value : ValueTree → ValueState

-- a value goes on, or it has ended before this token
pub data ValueProgress : Type 0 where
  goes_on : ValueState → ValueProgress
  ended : ValueTree → ValueProgress

-- nothing of a value was read
abbrev pub value_start : ValueState
value_start = wants_value None []

abbrev pub with_item : OpenList → ValueTree → OpenList
with_item l v = record { items = l.items ++ v ∷ []; place = l.place }

abbrev pub with_argument : OpenCall → ValueTree → OpenCall
with_argument c v = record { around = c.around; function = c.function; place = c.place; arguments = c.arguments ++ v ∷ [] }

-- a value was read: it is an item of the open list, else an argument of the innermost call, else the whole
abbrev pub value_taken : ValueTree → Option OpenList → List OpenCall → ValueState
value_taken v (Some l) calls = has_item (with_item l v) calls
value_taken v None (c ∷ calls) = has_argument (with_argument c v) calls
value_taken v None [] = has_value v

abbrev pub list_closed : OpenList → List OpenCall → ValueState
list_closed l calls = value_taken (list (value_trees l.items) l.place) None calls

abbrev pub call_closed : OpenCall → List OpenCall → ValueState
call_closed c calls = value_taken (call c.function (value_trees c.arguments) c.place) c.around calls

-- no item of a list is itself a list
abbrev pub list_opened : Place → Option OpenList → List OpenCall → Option ValueState
list_opened p None calls = Some (wants_value (Some (record { items = []; place = p })) calls)
list_opened p (Some l) calls = None

-- a list may end behind its brace or a comma
abbrev pub list_ended : Option OpenList → List OpenCall → Option ValueState
list_ended None calls = None
list_ended (Some l) calls = Some (list_closed l calls)

abbrev pub wants_step : Option OpenList → List OpenCall → Kind → List ℕ → Place → Option ValueState
wants_step inside calls Text x p = Some (value_taken (text (content_of x) p) inside calls)
wants_step inside calls Ref x p = Some (value_taken (reference (name_of x) p) inside calls)
wants_step inside calls ListRef x p = Some (value_taken (list_reference (name_of x) p) inside calls)
wants_step inside calls Word x p = Some (has_word x p inside calls)
wants_step inside calls OpenBrace x p = list_opened p inside calls
wants_step inside calls CloseBrace x p = list_ended inside calls
wants_step inside calls _ x p = None

abbrev pub going_on : Option ValueState → Option ValueProgress
going_on None = None
going_on (Some s) = Some (goes_on s)

-- a token behind a value; what is not whole refuses it
abbrev pub behind_step : ValueState → Kind → Option ValueProgress
behind_step (has_item l calls) Comma = Some (goes_on (wants_value (Some l) calls))
behind_step (has_item l calls) CloseBrace = Some (goes_on (list_closed l calls))
behind_step (has_item l calls) _ = None
behind_step (has_argument c calls) Comma = Some (goes_on (wants_value None (c ∷ calls)))
behind_step (has_argument c calls) CloseParen = Some (goes_on (call_closed c calls))
behind_step (has_argument c calls) _ = None
behind_step (has_value v) _ = Some (ended v)
behind_step (wants_value inside calls) _ = None
behind_step (has_word x p inside calls) _ = None
behind_step (has_paren c calls) _ = None

abbrev pub new_call : Option OpenList → List ℕ → Place → OpenCall
new_call inside x p = record { around = inside; function = x; place = p; arguments = [] }

-- a token behind a call's parenthesis: the arguments end, or the first begins
abbrev pub paren_step : OpenCall → List OpenCall → Kind → List ℕ → Place → Option ValueState
paren_step c calls CloseParen x p = Some (call_closed c calls)
paren_step c calls k x p = wants_step None (c ∷ calls) k x p

-- a token behind a word: a parenthesis makes it a call's, any other stands behind the word as a value
abbrev pub word_step : Levels → List ℕ → Place → Option OpenList → List OpenCall → Kind → Option ValueProgress
word_step limit x p inside calls OpenParen =
    going_on (only_if (has_room limit (length calls)) (has_paren (new_call inside x p) calls))
word_step limit x p inside calls k = behind_step (value_taken (word x p) inside calls) k

-- what one more token makes of a value; None where no value goes on so
abbrev pub value_step : Levels → ValueState → Kind → List ℕ → Place → Option ValueProgress
value_step limit (wants_value inside calls) k x p = going_on (wants_step inside calls k x p)
value_step limit (has_word y q inside calls) k x p = word_step limit y q inside calls k
value_step limit (has_paren c calls) k x p = going_on (paren_step c calls k x p)
value_step limit (has_item l calls) k x p = behind_step (has_item l calls) k
value_step limit (has_argument c calls) k x p = behind_step (has_argument c calls) k
value_step limit (has_value v) k x p = Some (ended v)
