-- A file, by what its lexing and parsing answer.
use Rattle.std.proofs.Common.{◌≡◌, ℕ, ◌<◌, List, length, Result, Ok, Err, Option, Some, None, refl, sym, ap, subst, ◌∙◌, ◌↔◌, arith, IsErrOf, IfSome}
use Rattle.std.proofs.lemmas.Option.{IfSome_then}
use Rattle.cfa_base.specs.declared.places.Place.{Place}
use Rattle.cfa_base.specs.Shown.{Shown, IsLeft}
use Rattle.cfa_base.specs.Tokens.{Token}
use Rattle.cfa_base.specs.Lexing.{FirstFault, Lexes, first_place, place_after, bad_byte, unclosed_text}
use Rattle.cfa_lexer.specs.declared.errors.LexErr.{LexErr}
use Rattle.cfa_lexer.specs.declared.errors.LexErr.TheVariants.{BadByte, UnclosedText, NotText, TooLong, NoMemory as lex_memory}
use Rattle.cfa_lexer.specs.Lexed.{IsText, StopsBeingText, max_len}
use Rattle.cfa_parser.specs.declared.errors.ParseErr.{ParseErr}
use Rattle.cfa_parser.specs.declared.errors.ParseErr.TheVariants.{Unexpected, TooDeep, NoMemory as parse_memory}
use Rattle.cfa_parser.specs.Reading.{UnexpectedAt, TooDeepAt}
use Rattle.cfa_tree.specs.declared.blocks.Policy.{Policy}
use Rattle.cfa_tree.specs.Tree.{PolicyTree}
use Rattle.cfa_tree.specs.Plain.{plain_policy}
use Rattle.cfa_outside.specs.Inputs.{Library}
use Rattle.cfa_output.specs.declared.ends.Stop.TheVariants.{Outside, Memory, Visits, Pattern}
use Rattle.cfa_output.specs.declared.ends.Failure.{Failure}
use Rattle.cfa_output.specs.declared.ends.Failure.TheVariants.{Refused, Stopped}
use Rattle.cfa_schema.specs.Sourced.{IsRead}
use Rattle.cfa_sources.specs.Sources.{source_of, ReadsSource, RefusesSource, too_long, not_text, begins_no_token, unclosed, unexpected, too_deep}
use Rattle.cfa_sources.specs.Readings.{SourceRead, TreeRead}
use Rattle.cfa_sources.specs.Steps.{LexTells, ParseTells, LexRefuses, ParseRefuses, TextRead}

-- ---- refusals

-- why the lexer refused, by its clauses
pub lex_why : {T : Type 0} (file : ℕ) (source : List ℕ) (result : Result T LexErr) (error : LexErr) → result ≡ Err error
    → IsErrOf result TooLong ↔ (max_len < length source)
    → ((place : Place) → IsErrOf result (NotText place) ↔ StopsBeingText source file place)
    → ((place : Place) → IsErrOf result (BadByte place) → IsText source × FirstFault (first_place file) source (bad_byte place))
    → ((place : Place) → IsErrOf result (UnclosedText place) → IsText source × FirstFault (first_place file) source (unclosed_text place))
    → LexRefuses file source error
lex_why file source result (BadByte place) is long text bad open_text = bad place is
lex_why file source result (UnclosedText place) is long text bad open_text = open_text place is
lex_why file source result (NotText place) is long text bad open_text = (text place).0 is
lex_why file source result TooLong is long text bad open_text = long.0 is
lex_why file source result lex_memory is long text bad open_text = tt

-- why the parser refused, by its clauses
pub parse_why : {T : Type 0} (tokens : List Token) (end : Place) (result : Result T ParseErr) (error : ParseErr) → result ≡ Err error
    → ((place : Place) → IsErrOf result (Unexpected place) → UnexpectedAt tokens end place)
    → ((place : Place) → IsErrOf result (TooDeep place) → TooDeepAt tokens place)
    → ParseRefuses tokens end error
parse_why tokens end result (Unexpected place) is stops_at deep_at = stops_at place is
parse_why tokens end result (TooDeep place) is stops_at deep_at = deep_at place is
parse_why tokens end result parse_memory is stops_at deep_at = tt

-- what holds of a line holds of one that is equal to it
with_line : (file : ℕ) (name source line told : List ℕ) → told ≡ line → RefusesSource file name source line → RefusesSource file name source told
with_line file name source line told is r = subst (RefusesSource file name source) (sym is) r

memory_or_line : (line : List ℕ) → Result.Ok line ≡ Err Memory → ⊥
memory_or_line line e = cc

lex_refuses : (file : ℕ) (name source line : List ℕ) (error : LexErr) → LexRefuses file source error → LexTells name error (Ok line) → RefusesSource file name source line
lex_refuses file name source line (BadByte place) why told = with_line file name source _ line told (begins_no_token place why.0 why.1)
lex_refuses file name source line (UnclosedText place) why told = with_line file name source _ line told (unclosed place why.0 why.1)
lex_refuses file name source line (NotText place) why told = with_line file name source _ line told (not_text place why)
lex_refuses file name source line TooLong why told = with_line file name source _ line told (too_long why)
lex_refuses file name source line lex_memory why told = absurd (memory_or_line line told)

parse_refuses : (file : ℕ) (name source line : List ℕ) (tokens : List Token) (error : ParseErr) → IsText source → Lexes (first_place file) source tokens
    → ParseRefuses tokens (place_after (first_place file) source) error → ParseTells name error (Ok line) → RefusesSource file name source line
parse_refuses file name source line tokens (Unexpected place) text lexes why told = with_line file name source _ line told (unexpected tokens place text lexes why)
parse_refuses file name source line tokens (TooDeep place) text lexes why told = with_line file name source _ line told (too_deep tokens place text lexes why)
parse_refuses file name source line tokens parse_memory text lexes why told = absurd (memory_or_line line told)

pub lex_refused : (file : ℕ) (name source line : List ℕ) (error : LexErr) → LexRefuses file source error → LexTells name error (Ok line) → TextRead file name source (Err (Refused line))
lex_refused file name source line error why told = record { tree = tt; refused = lex_refuses file name source line error why told; stopped = tt }

pub parse_refused : (file : ℕ) (name source line : List ℕ) (tokens : List Token) (end : Place) (error : ParseErr) → IsText source → Lexes (first_place file) source tokens → end ≡ place_after (first_place file) source
    → ParseRefuses tokens end error → ParseTells name error (Ok line) → TextRead file name source (Err (Refused line))
parse_refused file name source line tokens end error text lexes at why told = record {
  tree = tt;
  refused = parse_refuses file name source line tokens error text lexes (subst (λ (p : Place). ParseRefuses tokens p error) at why) told;
  stopped = tt;
}

-- ---- a file

-- what is untouched is left
pub left : {T : Type 0} (before after : Shown T) → after ≡ before → IsLeft before after
left {T} before after same = record {
  told = ap (λ (s : Shown T). s.told) same;
  later = omega (arith, ap (λ (s : Shown T). s.faults) same);
}

read_of : (file : ℕ) (source : List ℕ) (tree : PolicyTree) → ReadsSource file source tree → IsRead file tree
read_of file source tree r = record { source = source; tokens = r.tokens; fits = r.is_text.fits; utf8 = r.is_text.utf8; lexes = r.lexes; reads = r.reads }

-- the source that was found is the one that is read
pub file_read : (file : ℕ) (name source seen : List ℕ) (before after : Shown Library) (result : Result Policy Failure) → seen ≡ source
    → SourceRead name before after (Ok source) → TextRead file name seen result → TreeRead file name before after result
file_read file name source seen before after (Ok tree) same found read = record {
  is_read = read_of file seen (plain_policy tree) read.tree;
  tree = IfSome_then before.told found.source (λ (lib : Library) (is : source_of lib.texts name ≡ Some source). record { source = seen; found = is ∙ ap Some (sym same); reads = read.tree });
  refused = tt;
  inputs_are = found.inputs_are;
  no_pattern = refl;
}
file_read file name source seen before after (Err (Refused line)) same found read = record {
  is_read = tt;
  tree = tt;
  refused = IfSome_then before.told found.source (λ (lib : Library) (is : source_of lib.texts name ≡ Some source). record { source = seen; found = is ∙ ap Some (sym same); refuses = read.refused });
  inputs_are = found.inputs_are;
  no_pattern = refl;
}
file_read file name source seen before after (Err (Stopped (Outside object))) same found read = absurd read.stopped
file_read file name source seen before after (Err (Stopped Memory)) same found read = record {
  is_read = tt;
  tree = tt;
  refused = tt;
  inputs_are = left before after found.inputs_are;
  no_pattern = refl;
}
file_read file name source seen before after (Err (Stopped Visits)) same found read = absurd read.stopped
file_read file name source seen before after (Err (Stopped (Pattern text))) same found read = absurd read.stopped
