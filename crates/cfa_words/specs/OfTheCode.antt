-- Of the code alone: what the parser of command lines is told, and what a line that was read gives.
use Rattle.std.specs.Prelude.{true, Some, codes, List, [], ◌∷◌, Option, None, option_map}
use Rattle.std.specs.Borrow.{Bor}
use Rattle.clap.specs.Words.{App, Rule, new_app, new_rule, with_rule}
use Rattle.clap.specs.declared.builder.ArgAction.TheVariants.{SetTrue}
use Rattle.cfa_words.specs.declared.words.Line.{Line}
use Rattle.cfa_base.specs.Index.{Text}
use Rattle.cfa_words.specs.Words.{Given}

-- What the parser of command lines is told, three words, two flags and one option with a value.

abbrev pub command_rule : Rule
command_rule = record (new_rule (codes "command")) { required = true }

abbrev pub argument_rule : Rule
argument_rule = record (new_rule (codes "argument")) { required = true }

abbrev pub extra_rule : Rule
extra_rule = new_rule (codes "extra")

abbrev pub no_lock_rule : Rule
no_lock_rule = record (new_rule (codes "no-lock")) { short = Some 75; long = Some (codes "no-lock"); action = Some SetTrue }

abbrev pub strict_rule : Rule
strict_rule = record (new_rule (codes "strict")) { long = Some (codes "strict"); action = Some SetTrue }

abbrev pub define_rule : Rule
define_rule = record (new_rule (codes "define")) { short = Some 68; long = Some (codes "define") }

-- the words come without the program's name, and there is no help or version
abbrev pub bare_line : App
bare_line = record (new_app (codes "diwalmeq")) {
  top = record (new_app (codes "diwalmeq")).top {
    no_binary_name = true;
    disable_help_flag = true;
    disable_version_flag = true;
  };
}

abbrev pub command_line : App
command_line = with_rule (with_rule (with_rule (with_rule (with_rule (with_rule bare_line command_rule) argument_rule) extra_rule) no_lock_rule) strict_rule) define_rule

-- What a line that was read gives, as the definition of command lines says it.

-- the text behind a reference
abbrev pub text_in : Option (Bor Text) → Option Text
text_in = option_map (λ t. t.now)

-- the words up to the first that is missing
abbrev pub words_in : List (Option Text) → List Text
words_in [] = []
words_in (None ∷ rest) = []
words_in (Some w ∷ rest) = w ∷ words_in rest

abbrev pub given_of : Line → Given
given_of l = record {
  words = words_in (text_in l.command ∷ text_in l.argument ∷ text_in l.extra ∷ []);
  no_lock = l.without_locks;
  strict = l.strict;
  classes = text_in l.classes;
}

abbrev pub lines_given : Option Line → Option Given
lines_given = option_map given_of
