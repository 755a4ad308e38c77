-- Of the code alone: what holds between the steps of a reading.
use Rattle.std.specs.Prelude.{ℕ, ◌≡◌, ◌+◌, ◌<◌, ⊤, List, ◌∷◌, length, map, codes, Option, Some, None, Result, Err, IfOk, IfErr, OnOk, IfSome}
use Rattle.std.specs.declared.alloc.Global.{Global}
use Rattle.std.specs.declared.vec.Vec.{Vec}
use Rattle.cfa_base.specs.declared.places.Place.{Place}
use Rattle.cfa_base.specs.Shown.{Shown}
use Rattle.cfa_base.specs.Patterns.{SizeRefusal}
use Rattle.cfa_base.specs.Tokens.{Token}
use Rattle.cfa_base.specs.Lexing.{FirstFault, first_place, bad_byte, unclosed_text}
use Rattle.cfa_lexer.specs.declared.errors.LexErr.{LexErr}
use Rattle.cfa_lexer.specs.declared.errors.LexErr.TheVariants.{BadByte, UnclosedText, NotText, TooLong, NoMemory as lex_memory}
use Rattle.cfa_lexer.specs.Lexed.{IsText, StopsBeingText, max_len}
use Rattle.cfa_parser.specs.declared.errors.ParseErr.{ParseErr}
use Rattle.cfa_parser.specs.declared.errors.ParseErr.TheVariants.{Unexpected, TooDeep, NoMemory as parse_memory}
use Rattle.cfa_parser.specs.Reading.{UnexpectedAt, TooDeepAt}
use Rattle.cfa_tree.specs.declared.blocks.Policy.{Policy}
use Rattle.cfa_tree.specs.Tree.{PolicyTree}
use Rattle.cfa_tree.specs.Plain.{plain_policy}
use Rattle.cfa_outside.specs.Inputs.{Library}
use Rattle.cfa_output.specs.declared.ends.Stop.{Stop}
use Rattle.cfa_output.specs.declared.ends.Stop.TheVariants.{Outside, Memory, Visits, Pattern}
use Rattle.cfa_output.specs.declared.ends.Failure.{Failure}
use Rattle.cfa_output.specs.Ends.{IfRefused, Tells}
use Rattle.cfa_output.specs.Lines.{source_long_line}
use Rattle.cfa_schema.specs.declared.checked.Checked.{Checked}
use Rattle.cfa_schema.specs.Sourced.{AreRead}
use Rattle.cfa_schema.specs.Valid.{Valid, IsRefusedForSize}
use Rattle.cfa_schema.specs.Seen.{tree_of}
use Rattle.cfa_sources.specs.Lines.{line_at}
use Rattle.cfa_sources.specs.Sources.{Texts, ReadsSource, RefusesSource, ReadsFiles, RefusesFile, InputIsNext}
use Rattle.cfa_sources.specs.Checks.{RefusesTree}
use Rattle.cfa_sources.specs.Readings.{stop_of, text_too_big, ReadUpTo}

-- nothing but want of memory stopped the step
abbrev pub OnlyMemory : Option Stop → Type 0
OnlyMemory None = ⊤
OnlyMemory (Some (Outside object)) = ⊥
OnlyMemory (Some Memory) = ⊤
OnlyMemory (Some Visits) = ⊥
OnlyMemory (Some (Pattern text)) = ⊥

-- no object of the outside stopped the step
abbrev pub NoObject : Option Stop → Type 0
NoObject None = ⊤
NoObject (Some (Outside object)) = ⊥
NoObject (Some Memory) = ⊤
NoObject (Some Visits) = ⊥
NoObject (Some (Pattern text)) = ⊤

-- ---- lines

abbrev pub LexTells : (name : List ℕ) → LexErr → Result (List ℕ) Stop → Type 0
LexTells name TooLong result = Tells (source_long_line name) result
LexTells name (NotText place) result =
    Tells (line_at name place (codes "L3") (codes "NotText")) result
LexTells name (BadByte place) result =
    Tells (line_at name place (codes "L1") (codes "BadByte")) result
LexTells name (UnclosedText place) result =
    Tells (line_at name place (codes "L2") (codes "UnclosedText")) result
LexTells name lex_memory result = result ≡ Err Memory

abbrev pub ParseTells : (name : List ℕ) → ParseErr → Result (List ℕ) Stop → Type 0
ParseTells name (Unexpected place) result =
    Tells (line_at name place (codes "P1") (codes "Unexpected")) result
ParseTells name (TooDeep place) result =
    Tells (line_at name place (codes "P2") (codes "TooDeep")) result
ParseTells name parse_memory result = result ≡ Err Memory

-- why the lexer refused the source of the file of this number
abbrev pub LexRefuses : (file : ℕ) → (source : List ℕ) → LexErr → Type 0
LexRefuses file source (BadByte place) =
    IsText source × FirstFault (first_place file) source (bad_byte place)
LexRefuses file source (UnclosedText place) =
    IsText source × FirstFault (first_place file) source (unclosed_text place)
LexRefuses file source (NotText place) = StopsBeingText source file place
LexRefuses file source TooLong = max_len < length source
LexRefuses file source lex_memory = ⊤

-- why the parser refused the tokens of a source
abbrev pub ParseRefuses : List Token → (end : Place) → ParseErr → Type 0
ParseRefuses tokens end (Unexpected place) = UnexpectedAt tokens end place
ParseRefuses tokens end (TooDeep place) = TooDeepAt tokens place
ParseRefuses tokens end parse_memory = ⊤

-- ---- steps

-- a source was read as the file of this number and name
pub record TextRead (file : ℕ) (name source : List ℕ)
    (result : Result Policy Failure) : Type 0 where
  pub tree : IfOk result (λ tree. ReadsSource file source (plain_policy tree))
  pub refused : IfErr result (λ failure. IfRefused failure (RefusesSource file name source))
  pub stopped : OnlyMemory (stop_of result)

-- the trees are the main file's and those of the inputs of these names
pub record AreOfInputs (texts : Texts) (main : PolicyTree) (names : List (List ℕ))
    (trees : List PolicyTree) : Type 0 where
  pub inputs : List PolicyTree
  pub trees_are : trees ≡ main ∷ inputs
  pub read : ReadsFiles texts 1 names inputs

-- one of the inputs is refused with the line, and those before it are read
pub record RefusesInput (texts : Texts) (inputs : List (List ℕ)) (line : List ℕ) : Type 0 where
  pub file : ℕ
  pub name : List ℕ
  pub next : InputIsNext texts inputs file name
  pub refuses : RefusesFile texts file name line

-- the name is that of the next input
abbrev pub IsNextInput : List (List ℕ) → Texts → List ℕ → Type 0
IsNextInput inputs texts name = (file : ℕ) × InputIsNext texts inputs file name

-- the trees of the files so far, the main file's first
pub record PartsRead (told : Option Library) (main : PolicyTree) (names : List (List ℕ))
    (trees : List PolicyTree) : Type 0 where
  pub count : length trees ≡ length names + 1
  pub are_read : AreRead 0 trees
  pub of_inputs : IfSome told (λ lib. AreOfInputs lib.texts main names trees)

-- the inputs of these names were read behind the main file
pub record InputsRead (main : PolicyTree) (names : List (List ℕ)) (before after : Shown Library)
    (result : Result (Vec Policy Global) Failure) : Type 0 where
  pub parts : IfOk result (λ parts. PartsRead before.told main names (map plain_policy parts.items))
  pub refused : IfErr result (λ failure. IfRefused failure
      (λ line. IfSome before.told (λ lib. RefusesInput lib.texts names line)))
  pub inputs_are : ReadUpTo (IsNextInput names) (stop_of result) before after
  pub no_pattern : text_too_big (stop_of result) ≡ None

-- a tree was checked
pub record TreeChecked (policy : List ℕ) (inputs : List (List ℕ)) (tree : PolicyTree)
    (pats pats' : Shown (List (List ℕ))) (result : Result Checked Failure) : Type 0 where
  pub tree_is : IfOk result (λ checked. tree_of checked ≡ tree)
  pub valid : OnOk result (Valid tree)
  pub refused : IfErr result (λ failure. IfRefused failure (RefusesTree policy inputs tree))
  pub patterns_are : SizeRefusal (IsRefusedForSize tree) (text_too_big (stop_of result)) pats pats'
  pub no_object : NoObject (stop_of result)
