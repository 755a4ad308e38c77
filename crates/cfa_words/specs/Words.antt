-- How a command line is read. Its words are taken from left to right: each gives words of its own, flags and the classes
-- of `-D`, each flag and `-D` may be given once, and the command that the first word names says which of them it takes.
use Rattle.std.specs.Prelude.{ℕ, Bool, true, false, not, ◌==◌, ◌||◌, List, [], ◌∷◌, ◌++◌, Option, Some, None, codes, if◌then◌else◌, is_some, option_and_then, option_map}
use Rattle.std.specs.List.{list_all, list_any, before_first, after_first, slice_split}
use Rattle.std.specs.Str.{bytes_eq}
use Rattle.cfa_base.specs.Index.{Text}
use Rattle.cfa_base.specs.Lexing.{is_word}
use Rattle.cfa_words.specs.declared.words.Options.{Options}
use Rattle.cfa_words.specs.declared.words.Request.{Request}
use Rattle.cfa_words.specs.declared.words.Request.TheVariants.{Run, Check, Show, Audit, Edits, History}

-- ---- what a word gives

-- a word of its own, a flag, the text of classes after `-D`, or something that no command line has
pub data Piece : Type 0 where
  plain : Text → Piece
  no_lock : Piece
  strict : Piece
  classes : Text → Piece
  unknown : Piece

-- how the next word is read: as any word, as the text after `-D`, or, after `--`, as a word of its own
pub data Next : Type 0 where
  any : Next
  value : Next
  plain_only : Next

abbrev pub dash : ℕ
dash = 45

abbrev pub is_equals_sign : ℕ → Bool
is_equals_sign b = b == 61

-- a flag has no value of its own
abbrev pub flag : Piece → Option Text → List Piece × Next
flag piece None = (piece ∷ [], any)
flag piece (Some text) = (unknown ∷ [], any)

-- `--define` has its value after `=`, or as the next word
abbrev pub define : Option Text → List Piece × Next
define None = ([], value)
define (Some text) = (classes text ∷ [], any)

-- `--NAME` or `--NAME=VALUE`: a name is written out whole
abbrev pub named : Text → Option Text → List Piece × Next
named name text =
    if bytes_eq (codes "define") name then define text
    else (if bytes_eq (codes "no-lock") name then flag no_lock text
    else (if bytes_eq (codes "strict") name then flag strict text else (unknown ∷ [], any)))

-- what follows the first `=`
abbrev pub after_equals : Text → Option Text
after_equals text = if list_any is_equals_sign text then Some (after_first is_equals_sign text) else None

-- what follows two dashes; nothing does where the word is `--`, which ends the options
abbrev pub after_two_dashes : Text → List Piece × Next
after_two_dashes [] = ([], plain_only)
after_two_dashes (b ∷ rest) = named (before_first is_equals_sign (b ∷ rest)) (after_equals (b ∷ rest))

-- what follows `D` in its word is its text, without a first `=`; where nothing follows, the next word is
abbrev pub after_D : Text → List Piece × Next
after_D [] = ([], value)
after_D (b ∷ rest) = (classes (if is_equals_sign b then rest else b ∷ rest) ∷ [], any)

abbrev pub also : Piece → List Piece × Next → List Piece × Next
also piece more = (piece ∷ more.0, more.1)

-- what follows one dash: letters of flags, of which `D` (68) is the last and `K` (75) may stand before it
abbrev pub letters : Text → List Piece × Next
letters [] = ([], any)
letters (b ∷ rest) =
    if b == 75 then also no_lock (letters rest) else (if b == 68 then after_D rest else (unknown ∷ [], any))

abbrev pub after_dash : Text → List Piece × Next
after_dash [] = (plain (dash ∷ []) ∷ [], any)
after_dash (b ∷ rest) = if b == dash then after_two_dashes rest else letters (b ∷ rest)

-- one word, where any word may stand; `-` alone is a word of its own
abbrev pub word_read : Text → List Piece × Next
word_read [] = (plain [] ∷ [], any)
word_read (b ∷ rest) = if b == dash then after_dash rest else (plain (b ∷ rest) ∷ [], any)

-- the word begins with a dash, and has more than that
abbrev pub is_dashed : Text → Bool
is_dashed (b ∷ c ∷ rest) = b == dash
is_dashed _ = false

-- all that the words give, in their order; no text of `-D` is dashed
abbrev pub pieces : Next → List Text → List Piece
pieces value [] = unknown ∷ []
pieces any [] = []
pieces plain_only [] = []
pieces any (word ∷ rest) = (word_read word).0 ++ pieces (word_read word).1 rest
pieces value (word ∷ rest) = if is_dashed word then unknown ∷ [] else classes word ∷ pieces any rest
pieces plain_only (word ∷ rest) = plain word ∷ pieces plain_only rest

-- ---- what a whole line gives

pub record Given : Type 0 where
  -- the words of their own, in order
  pub words : List Text
  pub no_lock : Bool
  pub strict : Bool
  -- the text after `-D`
  pub classes : Option Text

abbrev pub nothing_given : Given
nothing_given = record { words = []; no_lock = false; strict = false; classes = None }

-- there are at most three words of their own
abbrev pub with_word : Text → List Text → Option (List Text)
with_word w [] = Some (w ∷ [])
with_word w (a ∷ []) = Some (a ∷ w ∷ [])
with_word w (a ∷ b ∷ []) = Some (a ∷ b ∷ w ∷ [])
with_word w (a ∷ b ∷ c ∷ more) = None

-- one piece more; what was given already is not given again
abbrev pub with_piece : Given → Piece → Option Given
with_piece g (plain w) = option_map (λ ws. record g { words = ws }) (with_word w g.words)
with_piece g no_lock = if g.no_lock then None else Some (record g { no_lock = true })
with_piece g strict = if g.strict then None else Some (record g { strict = true })
with_piece g (classes text) = if is_some g.classes then None else Some (record g { classes = Some text })
with_piece g unknown = None

abbrev pub with_pieces : Given → List Piece → Option Given
with_pieces g [] = Some g
with_pieces g (p ∷ ps) = option_and_then (λ h. with_pieces h ps) (with_piece g p)

abbrev pub has_two : List Text → Bool
has_two (a ∷ b ∷ more) = true
has_two _ = false

-- a command and its argument are there
abbrev pub whole : Given → Option Given
whole g = if has_two g.words then Some g else None

-- what the words give, or `None` where they are refused whatever the commands are
abbrev pub given : List Text → Option Given
given words = option_and_then whole (with_pieces nothing_given (pieces any words))

-- ---- what is asked for

-- one or more ASCII letters, digits or underscores
abbrev pub is_class : Text → Bool
is_class text = is_word text

-- the classes between commas (44)
abbrev pub class_list : Text → Option (List Text)
class_list text =
    if list_all is_class (slice_split (λ b. b == 44) text) then Some (slice_split (λ b. b == 44) text) else None

abbrev pub class_names : Option Text → Option (List Text)
class_names None = Some []
class_names (Some text) = class_list text

abbrev pub options_of : Given → List Text → Options
options_of g names = record { classes = names; locks = not g.no_lock; strict = g.strict }

-- `run` takes each flag and option, `check` and `edits` the classes, `show`, `audit` and `history` nothing
abbrev pub run_asked : Text → Given → Option Request
run_asked policy g = option_map (λ names. Run policy (options_of g names)) (class_names g.classes)

abbrev pub check_asked : Text → Given → Option Request
check_asked policy g =
    if g.no_lock || g.strict then None else option_map (λ names. Check policy names) (class_names g.classes)

abbrev pub show_asked : Text → Given → Option Request
show_asked policy g = if g.no_lock || (g.strict || is_some g.classes) then None else Some (Show policy)

abbrev pub audit_asked : Text → Given → Option Request
audit_asked journal g = if g.no_lock || (g.strict || is_some g.classes) then None else Some (Audit journal)

abbrev pub edits_asked : Text → Given → Option Request
edits_asked policy g =
    if g.no_lock || g.strict then None else option_map (λ names. Edits policy names) (class_names g.classes)

abbrev pub history_asked : Text → Given → Option Request
history_asked journal g = if g.no_lock || (g.strict || is_some g.classes) then None else Some (History journal)

abbrev pub asked_of : Text → Text → Given → Option Request
asked_of command argument g =
    if bytes_eq command (codes "run") then run_asked argument g
    else (if bytes_eq command (codes "check") then check_asked argument g
    else (if bytes_eq command (codes "show") then show_asked argument g
    else (if bytes_eq command (codes "audit") then audit_asked argument g
    else (if bytes_eq command (codes "edits") then edits_asked argument g
    else (if bytes_eq command (codes "history") then history_asked argument g else None)))))

-- a command has one argument, and no command takes a third word
abbrev pub words_asked : List Text → Given → Option Request
words_asked (command ∷ argument ∷ []) g = asked_of command argument g
words_asked _ g = None

-- what the words ask for, or `None` where they are refused
abbrev pub asked : List Text → Option Request
asked words = option_and_then (λ (g : Given). words_asked g.words g) (given words)
