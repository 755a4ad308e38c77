-- A source has one outcome: it is too long, no text, has a first fault, or its tokens have one answer.
use Rattle.std.proofs.Common.{◌≡◌, ℕ, ◌<◌, ◌≤◌, List, [], length, refl, sym, ap, subst, ◌∙◌, arith}
use Rattle.std.specs.Prelude.{⊤, codes}
use Rattle.cfa_base.specs.declared.places.Place.{Place}
use Rattle.cfa_base.specs.Tokens.{Token}
use Rattle.cfa_base.specs.Lexing.{Fault, bad_byte, unclosed_text, Lexes, FirstFault, first_place, place_after}
use Rattle.cfa_lexer.specs.Lexed.{IsText, StopsBeingText, max_len}
use Rattle.cfa_lexer.specs.Laws as lexing
use Rattle.cfa_parser.specs.Laws as parsing
use Rattle.cfa_tree.specs.Tree.{PolicyTree}
use Rattle.cfa_output.specs.Lines.{source_long_line}
use Rattle.cfa_sources.specs.Lines.{line_at}
use Rattle.cfa_sources.specs.Sources.{ReadsSource, RefusesSource, too_long, not_text, begins_no_token, unclosed, unexpected, too_deep}
use Rattle.cfa_sources.specs.Laws.{SourceTreeIsOne, SourceLineIsOne, SourceNeverBoth}

-- what the lexer and the parser say of one answer
pub record OneAnswer : Type 0 where
  pub tokens : lexing.TokensAreOne
  pub fault : lexing.FaultIsOne
  pub never_both : lexing.NeverBoth
  pub answer : parsing.OneAnswer

pub data Outcome : Type 0 where
  long : Outcome
  broken : Place → Outcome
  faulty : Fault → Outcome
  parsed : parsing.Answer → Outcome

pub record Parses (file : ℕ) (source : List ℕ) (answer : parsing.Answer) : Type 0 where
  pub tokens : List Token
  pub lexes : Lexes (first_place file) source tokens
  pub answers : parsing.Answers tokens (place_after (first_place file) source) answer

abbrev pub Has : (file : ℕ) → (source : List ℕ) → Outcome → Type 0
Has file source long = max_len < length source
Has file source (broken place) = StopsBeingText source file place
Has file source (faulty fault) = IsText source × FirstFault (first_place file) source fault
Has file source (parsed answer) = IsText source × Parses file source answer

long_or_not : (source : List ℕ) → max_len < length source → length source ≤ max_len → ⊥
long_or_not source over fits = omega arith

one_answer : OneAnswer → (file : ℕ) (source : List ℕ) (a b : parsing.Answer) → Parses file source a → Parses file source b → a ≡ b
one_answer laws file source a b p q =
    let same : q.tokens ≡ p.tokens = laws.tokens (first_place file) source q.tokens p.tokens q.lexes p.lexes in
    laws.answer p.tokens (place_after (first_place file) source) a b p.answers
    (subst (λ (ts : List Token). parsing.Answers ts (place_after (first_place file) source) b) same q.answers)

pub one_outcome : OneAnswer → (file : ℕ) (source : List ℕ) (a b : Outcome) → Has file source a → Has file source b → a ≡ b
one_outcome laws file source long long h k = refl
one_outcome laws file source long (broken q) h k = absurd (long_or_not source h k.fits)
one_outcome laws file source long (faulty g) h k = absurd (long_or_not source h k.0.fits)
one_outcome laws file source long (parsed b) h k = absurd (long_or_not source h k.0.fits)
one_outcome laws file source (broken p) long h k = absurd (long_or_not source k h.fits)
one_outcome laws file source (broken p) (broken q) h k = ap broken (h.at ∙ sym k.at)
one_outcome laws file source (broken p) (faulty g) h k = absurd (h.broken k.0.utf8)
one_outcome laws file source (broken p) (parsed b) h k = absurd (h.broken k.0.utf8)
one_outcome laws file source (faulty f) long h k = absurd (long_or_not source k h.0.fits)
one_outcome laws file source (faulty f) (broken q) h k = absurd (k.broken h.0.utf8)
one_outcome laws file source (faulty f) (faulty g) h k = ap faulty (laws.fault (first_place file) source f g h.1 k.1)
one_outcome laws file source (faulty f) (parsed b) h k = absurd (laws.never_both (first_place file) source k.1.tokens f k.1.lexes h.1)
one_outcome laws file source (parsed a) long h k = absurd (long_or_not source k h.0.fits)
one_outcome laws file source (parsed a) (broken q) h k = absurd (k.broken h.0.utf8)
one_outcome laws file source (parsed a) (faulty g) h k = absurd (laws.never_both (first_place file) source h.1.tokens g h.1.lexes k.1)
one_outcome laws file source (parsed a) (parsed b) h k = ap parsed (one_answer laws file source a b h.1 k.1)

-- ---- outcomes that are refusals

abbrev line_of : (name : List ℕ) → Outcome → List ℕ
line_of name long = source_long_line name
line_of name (broken place) = line_at name place (codes "L3") (codes "NotText")
line_of name (faulty (bad_byte place)) = line_at name place (codes "L1") (codes "BadByte")
line_of name (faulty (unclosed_text place)) = line_at name place (codes "L2") (codes "UnclosedText")
line_of name (parsed (parsing.tree t)) = []
line_of name (parsed (parsing.unexpected place)) = line_at name place (codes "P1") (codes "Unexpected")
line_of name (parsed (parsing.too_deep place)) = line_at name place (codes "P2") (codes "TooDeep")

abbrev IsTree : Outcome → Type 0
IsTree long = ⊥
IsTree (broken place) = ⊥
IsTree (faulty fault) = ⊥
IsTree (parsed (parsing.tree t)) = ⊤
IsTree (parsed (parsing.unexpected place)) = ⊥
IsTree (parsed (parsing.too_deep place)) = ⊥

abbrev tree_or : PolicyTree → Outcome → PolicyTree
tree_or other long = other
tree_or other (broken place) = other
tree_or other (faulty fault) = other
tree_or other (parsed (parsing.tree t)) = t
tree_or other (parsed (parsing.unexpected place)) = other
tree_or other (parsed (parsing.too_deep place)) = other

record Refusal (file : ℕ) (name source line : List ℕ) : Type 0 where
  outcome : Outcome
  has : Has file source outcome
  no_tree : IsTree outcome → ⊥
  line_is : line ≡ line_of name outcome

refusal_of : {file : ℕ} {name source line : List ℕ} → RefusesSource file name source line → Refusal file name source line
refusal_of (too_long h) = record { outcome = long; has = h; no_tree = λ t. t; line_is = refl }
refusal_of (not_text place h) = record { outcome = broken place; has = h; no_tree = λ t. t; line_is = refl }
refusal_of (begins_no_token place text h) = record { outcome = faulty (bad_byte place); has = (text, h); no_tree = λ t. t; line_is = refl }
refusal_of (unclosed place text h) = record { outcome = faulty (unclosed_text place); has = (text, h); no_tree = λ t. t; line_is = refl }
refusal_of (unexpected tokens place text lexes h) = record {
  outcome = parsed (parsing.unexpected place);
  has = (text, record { tokens = tokens; lexes = lexes; answers = h });
  no_tree = λ t. t;
  line_is = refl;
}
refusal_of (too_deep tokens place text lexes h) = record {
  outcome = parsed (parsing.too_deep place);
  has = (text, record { tokens = tokens; lexes = lexes; answers = h });
  no_tree = λ t. t;
  line_is = refl;
}

read_has : (file : ℕ) (source : List ℕ) (tree : PolicyTree) → ReadsSource file source tree → Has file source (parsed (parsing.tree tree))
read_has file source tree r = (r.is_text, record { tokens = r.tokens; lexes = r.lexes; answers = r.reads })

-- ---- the laws of a source

pub source_tree : OneAnswer → SourceTreeIsOne
source_tree laws = λ file source tree other r q.
    ap (tree_or tree) (one_outcome laws file source (parsed (parsing.tree tree)) (parsed (parsing.tree other)) (read_has file source tree r) (read_has file source other q))

pub source_line : OneAnswer → SourceLineIsOne
source_line laws = λ file name source line other r q.
    let a = refusal_of r in
    let b = refusal_of q in
    a.line_is ∙ (ap (line_of name) (one_outcome laws file source a.outcome b.outcome a.has b.has) ∙ sym b.line_is)

pub source_never_both : OneAnswer → SourceNeverBoth
source_never_both laws = λ file name source line tree r q.
    let b = refusal_of q in
    b.no_tree (subst IsTree (one_outcome laws file source (parsed (parsing.tree tree)) b.outcome (read_has file source tree r) b.has) tt)
