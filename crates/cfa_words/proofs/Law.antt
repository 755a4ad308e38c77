-- What the rows of a parse show of a command line, use by use, and what they show at its end.
use Rattle.std.proofs.Common.{◌≡◌, ◌∙◌, ◌&&◌, ◌||◌, ◌++◌, ◌∷◌, [], List, ℕ, Bool, cond, if◌then◌else◌, Option, Some, None, true, false, true≢false, refl, ap, codes, is_some, get_or}
use Rattle.std.specs.List.{fold, list_any, slice_get}
use Rattle.std.specs.Option.{option_and_then, option_map, option_map_or}
use Rattle.std.specs.Str.{bytes_eq}
use Rattle.clap.specs.Walk.{Row, Rule, Text, first_of, has_row, one_of, used, with_default, with_values, row_text}
use Rattle.clap.specs.Kinds.{Kinds, or_else}
use Rattle.clap.specs.Faults.{settle_fault, use_fault}
use Rattle.clap.specs.Values.{bool_text}
use Rattle.clap.specs.Takes.{is_given}
use Rattle.clap.specs.Facts.{explicit_source}
use Rattle.clap.specs.declared.builder.value_parser.Reading.TheVariants.{AsWritten}
use Rattle.clap.specs.declared.parser.matches.ValueSource.TheVariants.{DefaultValue}
use Rattle.clap.specs.declared.error.kind.ErrorKind.{ErrorKind}
use Rattle.clap.specs.declared.error.kind.ErrorKind.TheVariants as kind
use Rattle.cfa_words.specs.OfTheCode.{command_rule}
use Rattle.cfa_words.specs.Words.{Given}
use Rattle.cfa_words.proofs.Rows.{default_row, has_row-look, look, look_other, look_same, or_some, used_new, value_row, with_new}
use Rattle.cfa_words.proofs.Walking.{held, rules}

-- ---- what is given, as the rows show it

abbrev pub mk : List Text → Bool → Bool → Option Text → Given
mk ws n s c = record { words = ws; no_lock = n; strict = s; classes = c }

abbrev pub flag_value : Bool → Option Text
flag_value true = Some (codes "true")
flag_value false = None

-- each argument that was used has its row, and no other has one
pub record Holds (ws : List Text) (n s : Bool) (c : Option Text) (rows : List Row) : Type 0 where
  pub command : look (codes "command") rows ≡ option_map (value_row (codes "command")) (slice_get ws 0)
  pub argument : look (codes "argument") rows ≡ option_map (value_row (codes "argument")) (slice_get ws 1)
  pub extra : look (codes "extra") rows ≡ option_map (value_row (codes "extra")) (slice_get ws 2)
  pub locks : look (codes "no-lock") rows ≡ option_map (value_row (codes "no-lock")) (flag_value n)
  pub strictly : look (codes "strict") rows ≡ option_map (value_row (codes "strict")) (flag_value s)
  pub defines : look (codes "define") rows ≡ option_map (value_row (codes "define")) c

-- what the getters read at the end
pub record Shows (g : Given) (rows : List Row) : Type 0 where
  pub command : first_of (codes "command") rows ≡ slice_get g.words 0
  pub argument : first_of (codes "argument") rows ≡ slice_get g.words 1
  pub extra : first_of (codes "extra") rows ≡ slice_get g.words 2
  pub defines : first_of (codes "define") rows ≡ g.classes
  pub locks : one_of (codes "no-lock") rows ≡ Some (bool_text g.no_lock)
  pub strictly : one_of (codes "strict") rows ≡ Some (bool_text g.strict)

abbrev pub Agrees : Option Given → Kinds × List Row → Type 0
Agrees None r = r.0 ≡ [] → ⊥
Agrees (Some g) r = (r.0 ≡ []) × Shows g r.1

-- where the next word of its own goes
abbrev pub place : List Text → ℕ
place [] = 1
place (a ∷ []) = 2
place (a ∷ b ∷ []) = 3
place (a ∷ b ∷ c ∷ more) = 4

-- there are at most three
abbrev pub fits : List Text → Bool
fits (a ∷ b ∷ c ∷ d ∷ more) = false
fits _ = true

-- ---- uses

module _ (ws : List Text) (n s : Bool) (c : Option Text) (rows after : List Row) (h : Holds ws n s c rows) where
  pub holds_lock : n ≡ false → after ≡ rows ++ value_row (codes "no-lock") (codes "true") ∷ [] → Holds ws true s c after
  holds_lock free is =
      let y : Row = value_row (codes "no-lock") (codes "true") in
      record {
        command = look_other (codes "command") rows after y is refl ∙ h.command;
        argument = look_other (codes "argument") rows after y is refl ∙ h.argument;
        extra = look_other (codes "extra") rows after y is refl ∙ h.extra;
        locks = look_same (codes "no-lock") rows after y is refl (h.locks ∙ ap (λ b. option_map (value_row (codes "no-lock")) (flag_value b)) free);
        strictly = look_other (codes "strict") rows after y is refl ∙ h.strictly;
        defines = look_other (codes "define") rows after y is refl ∙ h.defines;
      }

  pub holds_strict : s ≡ false → after ≡ rows ++ value_row (codes "strict") (codes "true") ∷ [] → Holds ws n true c after
  holds_strict free is =
      let y : Row = value_row (codes "strict") (codes "true") in
      record {
        command = look_other (codes "command") rows after y is refl ∙ h.command;
        argument = look_other (codes "argument") rows after y is refl ∙ h.argument;
        extra = look_other (codes "extra") rows after y is refl ∙ h.extra;
        locks = look_other (codes "no-lock") rows after y is refl ∙ h.locks;
        strictly = look_same (codes "strict") rows after y is refl (h.strictly ∙ ap (λ b. option_map (value_row (codes "strict")) (flag_value b)) free);
        defines = look_other (codes "define") rows after y is refl ∙ h.defines;
      }

  pub holds_define : (v : Text) → c ≡ None → after ≡ rows ++ value_row (codes "define") v ∷ [] → Holds ws n s (Some v) after
  holds_define v free is =
      let y : Row = value_row (codes "define") v in
      record {
        command = look_other (codes "command") rows after y is refl ∙ h.command;
        argument = look_other (codes "argument") rows after y is refl ∙ h.argument;
        extra = look_other (codes "extra") rows after y is refl ∙ h.extra;
        locks = look_other (codes "no-lock") rows after y is refl ∙ h.locks;
        strictly = look_other (codes "strict") rows after y is refl ∙ h.strictly;
        defines = look_same (codes "define") rows after y is refl (h.defines ∙ ap (option_map (value_row (codes "define"))) free);
      }

  pub holds_command : (v : Text) → ws ≡ [] → after ≡ rows ++ value_row (codes "command") v ∷ [] → Holds (v ∷ []) n s c after
  holds_command v none is =
      let y : Row = value_row (codes "command") v in
      record {
        command = look_same (codes "command") rows after y is refl (h.command ∙ ap (λ (xs : List Text). option_map (value_row (codes "command")) (slice_get xs 0)) none);
        argument = look_other (codes "argument") rows after y is refl ∙ h.argument ∙ ap (λ (xs : List Text). option_map (value_row (codes "argument")) (slice_get xs 1)) none;
        extra = look_other (codes "extra") rows after y is refl ∙ h.extra ∙ ap (λ (xs : List Text). option_map (value_row (codes "extra")) (slice_get xs 2)) none;
        locks = look_other (codes "no-lock") rows after y is refl ∙ h.locks;
        strictly = look_other (codes "strict") rows after y is refl ∙ h.strictly;
        defines = look_other (codes "define") rows after y is refl ∙ h.defines;
      }

  pub holds_argument : (a v : Text) → ws ≡ a ∷ [] → after ≡ rows ++ value_row (codes "argument") v ∷ [] → Holds (a ∷ v ∷ []) n s c after
  holds_argument a v one is =
      let y : Row = value_row (codes "argument") v in
      record {
        command = look_other (codes "command") rows after y is refl ∙ h.command ∙ ap (λ (xs : List Text). option_map (value_row (codes "command")) (slice_get xs 0)) one;
        argument = look_same (codes "argument") rows after y is refl (h.argument ∙ ap (λ (xs : List Text). option_map (value_row (codes "argument")) (slice_get xs 1)) one);
        extra = look_other (codes "extra") rows after y is refl ∙ h.extra ∙ ap (λ (xs : List Text). option_map (value_row (codes "extra")) (slice_get xs 2)) one;
        locks = look_other (codes "no-lock") rows after y is refl ∙ h.locks;
        strictly = look_other (codes "strict") rows after y is refl ∙ h.strictly;
        defines = look_other (codes "define") rows after y is refl ∙ h.defines;
      }

  pub holds_extra : (a b v : Text) → ws ≡ a ∷ b ∷ [] → after ≡ rows ++ value_row (codes "extra") v ∷ [] → Holds (a ∷ b ∷ v ∷ []) n s c after
  holds_extra a b v two is =
      let y : Row = value_row (codes "extra") v in
      record {
        command = look_other (codes "command") rows after y is refl ∙ h.command ∙ ap (λ (xs : List Text). option_map (value_row (codes "command")) (slice_get xs 0)) two;
        argument = look_other (codes "argument") rows after y is refl ∙ h.argument ∙ ap (λ (xs : List Text). option_map (value_row (codes "argument")) (slice_get xs 1)) two;
        extra = look_same (codes "extra") rows after y is refl (h.extra ∙ ap (λ (xs : List Text). option_map (value_row (codes "extra")) (slice_get xs 2)) two);
        locks = look_other (codes "no-lock") rows after y is refl ∙ h.locks;
        strictly = look_other (codes "strict") rows after y is refl ∙ h.strictly;
        defines = look_other (codes "define") rows after y is refl ∙ h.defines;
      }

-- ---- faults

pub cons≢nil : (k : ErrorKind) (ks : Kinds) → k ∷ ks ≡ [] → ⊥
cons≢nil k ks e = true≢false (ap (λ (xs : Kinds). list_any (λ _. true) xs) e)

-- the first of two faults stays
pub fails_first : (a b : Kinds) → (a ≡ [] → ⊥) → or_else a b ≡ [] → ⊥
fails_first [] b bad e = bad refl
fails_first (k ∷ ks) b bad e = cons≢nil k ks e

pub fails_second : (a b : Kinds) → (b ≡ [] → ⊥) → or_else a b ≡ [] → ⊥
fails_second [] b bad e = bad e
fails_second (k ∷ ks) b bad e = cons≢nil k ks e

pub none_first : (a b : Kinds) → a ≡ [] → or_else a b ≡ b
none_first a b e = ap (λ x. or_else x b) e

-- a use of an argument that has been used
abbrev again : Bool → Kinds
again b = if b && true then kind.ArgumentConflict ∷ [] else []

free_of : (id : Text) (rows : List Row) → look id rows ≡ None → has_row id rows ≡ false
free_of id rows e = has_row-look id rows ∙ ap (λ (o : Option Row). is_some o) e

taken_of : (id : Text) (rows : List Row) (r : Row) → look id rows ≡ Some r → has_row id rows ≡ true
taken_of id rows r e = has_row-look id rows ∙ ap (λ (o : Option Row). is_some o) e

-- the rules as building leaves them
abbrev pub lock : Rule
lock = get_or rules 3 command_rule

abbrev pub stricter : Rule
stricter = get_or rules 4 command_rule

abbrev pub definer : Rule
definer = get_or rules 5 command_rule

pub lock_free : (rows : List Row) → look (codes "no-lock") rows ≡ None → use_fault false lock [] rows ≡ []
lock_free rows e = ap (λ b. or_else (again b) []) (free_of (codes "no-lock") rows e)

pub lock_taken : (rows : List Row) (r : Row) → look (codes "no-lock") rows ≡ Some r → use_fault false lock [] rows ≡ kind.ArgumentConflict ∷ []
lock_taken rows r e = ap (λ b. or_else (again b) []) (taken_of (codes "no-lock") rows r e)

pub define_free : (rows : List Row) (v : Text) → look (codes "define") rows ≡ None → use_fault false definer (v ∷ []) rows ≡ []
define_free rows v e = ap (λ b. or_else (again b) []) (free_of (codes "define") rows e)

pub lock_used : (rows : List Row) → look (codes "no-lock") rows ≡ None → used lock [] rows ≡ rows ++ value_row (codes "no-lock") (codes "true") ∷ []
lock_used rows e = used_new (codes "no-lock") (codes "true") rows e

pub define_used : (rows : List Row) (v : Text) → look (codes "define") rows ≡ None → used definer (v ∷ []) rows ≡ rows ++ value_row (codes "define") v ∷ []
define_used rows v e = used_new (codes "define") v rows e

pub command_free : (rows : List Row) (v : Text) → look (codes "command") rows ≡ None → settle_fault rules false (held rows (Some (codes "command", v ∷ []))) ≡ []
command_free rows v e = ap (λ b. or_else (again b) []) (free_of (codes "command") rows e)

pub argument_free : (rows : List Row) (v : Text) → look (codes "argument") rows ≡ None → settle_fault rules false (held rows (Some (codes "argument", v ∷ []))) ≡ []
argument_free rows v e = ap (λ b. or_else (again b) []) (free_of (codes "argument") rows e)

pub extra_free : (rows : List Row) (v : Text) → look (codes "extra") rows ≡ None → settle_fault rules false (held rows (Some (codes "extra", v ∷ []))) ≡ []
extra_free rows v e = ap (λ b. or_else (again b) []) (free_of (codes "extra") rows e)

pub define_taken : (rows : List Row) (v : Text) (r : Row) → look (codes "define") rows ≡ Some r → use_fault false definer (v ∷ []) rows ≡ kind.ArgumentConflict ∷ []
define_taken rows v r e = ap (λ b. or_else (again b) []) (taken_of (codes "define") rows r e)

pub strict_free : (rows : List Row) → look (codes "strict") rows ≡ None → use_fault false stricter [] rows ≡ []
strict_free rows e = ap (λ b. or_else (again b) []) (free_of (codes "strict") rows e)

pub strict_taken : (rows : List Row) (r : Row) → look (codes "strict") rows ≡ Some r → use_fault false stricter [] rows ≡ kind.ArgumentConflict ∷ []
strict_taken rows r e = ap (λ b. or_else (again b) []) (taken_of (codes "strict") rows r e)

pub strict_used : (rows : List Row) → look (codes "strict") rows ≡ None → used stricter [] rows ≡ rows ++ value_row (codes "strict") (codes "true") ∷ []
strict_used rows e = used_new (codes "strict") (codes "true") rows e

-- ---- the end of the line

pub cond_same : {X : Type 0} (b : Bool) (x : X) → cond b x x ≡ x
cond_same true x = refl
cond_same false x = refl

-- a default value of an id that was not used
abbrev pub defaulted : Text → List Row → List Row
defaulted id rows = cond (has_row id rows) rows (with_values id AsWritten DefaultValue (codes "false" ∷ []) rows)

default_other : (id other : Text) (rows : List Row) (o : Option Row) → look id rows ≡ o → bytes_eq id other ≡ false → look other (defaulted id rows) ≡ look other rows
default_other id other rows None e apart =
    let after : List Row = with_values id AsWritten DefaultValue (codes "false" ∷ []) rows in
    ap (λ (b : Bool). look other (cond b rows after)) (free_of id rows e)
    ∙ look_other other rows after (default_row id (codes "false")) (with_new id (codes "false") DefaultValue rows e) apart
default_other id other rows (Some r) e apart =
    ap (λ (b : Bool). look other (cond b rows (with_values id AsWritten DefaultValue (codes "false" ∷ []) rows))) (taken_of id rows r e)

default_same : (id : Text) (rows : List Row) (o : Option Row) → look id rows ≡ o → bytes_eq id id ≡ true
    → look id (defaulted id rows) ≡ or_some o (Some (default_row id (codes "false")))
default_same id rows None e same =
    let after : List Row = with_values id AsWritten DefaultValue (codes "false" ∷ []) rows in
    ap (λ (b : Bool). look id (cond b rows after)) (free_of id rows e)
    ∙ look_same id rows after (default_row id (codes "false")) (with_new id (codes "false") DefaultValue rows e) same e
default_same id rows (Some r) e same =
    ap (λ (b : Bool). look id (cond b rows (with_values id AsWritten DefaultValue (codes "false" ∷ []) rows))) (taken_of id rows r e) ∙ e

abbrev pub both_defaulted : List Row → List Row
both_defaulted rows = defaulted (codes "strict") (defaulted (codes "no-lock") rows)

-- the three words and `-D` have no default
pub with_flag_defaults : (rows : List Row) → fold with_default rows rules ≡ both_defaulted rows
with_flag_defaults rows =
    let last : List Row → List Row = λ x. with_default x definer in
    let flags : List Row → List Row = λ x. last (with_default (with_default x lock) stricter) in
    let two : List Row → List Row = λ x. flags (with_default x (get_or rules 2 command_rule)) in
    let one : List Row → List Row = λ x. two (with_default x (get_or rules 1 command_rule)) in
    ap one (cond_same (has_row (codes "command") rows) rows) ∙ ap two (cond_same (has_row (codes "argument") rows) rows)
    ∙ ap flags (cond_same (has_row (codes "extra") rows) rows) ∙ cond_same (has_row (codes "define") (both_defaulted rows)) (both_defaulted rows)

-- no default is refused
pub default_fine : (b : Bool) (rest : Kinds) → or_else (cond (b || true) [] []) rest ≡ rest
default_fine true rest = refl
default_fine false rest = refl

first_text : (id : Text) (rows : List Row) (o : Option Text) → look id rows ≡ option_map (value_row id) o → first_of id rows ≡ o
first_text id rows None e = ap (option_and_then (λ (r : Row). slice_get r.values 0)) e
first_text id rows (Some v) e = ap (option_and_then (λ (r : Row). slice_get r.values 0)) e

flag_text : (id : Text) (rows : List Row) (b : Bool) → look id rows ≡ or_some (option_map (value_row id) (flag_value b)) (Some (default_row id (codes "false")))
    → one_of id rows ≡ Some (bool_text b)
flag_text id rows true e = ap (option_and_then row_text) e
flag_text id rows false e = ap (option_and_then row_text) e

module _ (ws : List Text) (n s : Bool) (c : Option Text) (rows : List Row) (h : Holds ws n s c rows) where
  kept : (id : Text) → bytes_eq (codes "no-lock") id ≡ false → bytes_eq (codes "strict") id ≡ false → look id (both_defaulted rows) ≡ look id rows
  kept id apart further =
      default_other (codes "strict") id (defaulted (codes "no-lock") rows) _ refl further ∙ default_other (codes "no-lock") id rows _ refl apart

  pub shown : Shows (mk ws n s c) (both_defaulted rows)
  shown = record {
    command = first_text (codes "command") (both_defaulted rows) (slice_get ws 0) (kept (codes "command") refl refl ∙ h.command);
    argument = first_text (codes "argument") (both_defaulted rows) (slice_get ws 1) (kept (codes "argument") refl refl ∙ h.argument);
    extra = first_text (codes "extra") (both_defaulted rows) (slice_get ws 2) (kept (codes "extra") refl refl ∙ h.extra);
    defines = first_text (codes "define") (both_defaulted rows) c (kept (codes "define") refl refl ∙ h.defines);
    locks = flag_text (codes "no-lock") (both_defaulted rows) n
        (default_other (codes "strict") (codes "no-lock") (defaulted (codes "no-lock") rows) _ refl refl ∙ default_same (codes "no-lock") rows _ h.locks refl);
    strictly = flag_text (codes "strict") (both_defaulted rows) s
        (default_same (codes "strict") (defaulted (codes "no-lock") rows) _ (default_other (codes "no-lock") (codes "strict") rows _ refl refl ∙ h.strictly) refl);
  }

  pub command_there : is_given (codes "command") (both_defaulted rows) ≡ is_some (slice_get ws 0)
  command_there = ap (λ (o : Option Row). option_map_or (λ (r : Row). explicit_source r.source) o false) (kept (codes "command") refl refl ∙ h.command) ∙ go (slice_get ws 0)
    where
      go : (o : Option Text) → option_map_or (λ (r : Row). explicit_source r.source) (option_map (value_row (codes "command")) o) false ≡ is_some o
      go None = refl
      go (Some v) = refl

  pub argument_there : is_given (codes "argument") (both_defaulted rows) ≡ is_some (slice_get ws 1)
  argument_there = ap (λ (o : Option Row). option_map_or (λ (r : Row). explicit_source r.source) o false) (kept (codes "argument") refl refl ∙ h.argument) ∙ go (slice_get ws 1)
    where
      go : (o : Option Text) → option_map_or (λ (r : Row). explicit_source r.source) (option_map (value_row (codes "argument")) o) false ≡ is_some o
      go None = refl
      go (Some v) = refl
