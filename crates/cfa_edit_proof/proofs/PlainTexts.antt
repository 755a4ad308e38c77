-- A plain text is read as itself: a pattern of it finds the text where it stands, and nothing else.
use Rattle.std.proofs.Common.{◌≡◌, ℕ, ◌<◌, ◌≤◌, zero, suc, Bool, true, false, cond, List, [], ◌∷◌, ◌++◌, length, Option, None, Some, IsSomeAnd, chars, refl, ap, ◌∙◌, subst, arith, ◌⊎◌, nat_lt}
use Rattle.std.proofs.lemmas.Bool.{and_parts, ltb-true}
use Rattle.std.proofs.lemmas.Bool.Decides.{nat_tests}
use Rattle.std.proofs.lemmas.Str.{chars-IsAscii, encodes-IsAscii, IsUtf8-from_ascii}
use lib.Utf8.{encodes}
use Rattle.std.specs.Str.{IsAscii}
use Rattle.std.specs.List.{list_all}
use Rattle.regex_hir.specs.Re.{Re, literal}
use Rattle.regex_syntax.proofs.EscapeLemmas.{escaped_reads, escaped_is_read_as}
use Rattle.regex_syntax.specs.Brackets.{Nested}
use Rattle.regex_syntax.specs.Captures.{SameCaptures}
use Rattle.regex_syntax.specs.Grammar.{Names, read}
use Rattle.regex_syntax.specs.Same.{SameTree, SameMatches}
use Rattle.regex_syntax.specs.Verdict.{default_config, is_meta, escaped_text, ReadsAsText}
use Rattle.cfa_base.specs.Patterns.{within_limit, tree_of}
use Rattle.cfa_edit_proof.specs.Plain.{is_plain_byte, is_plain}

-- ---- plain bytes

abbrev InPlain : ℕ → Type 0
InPlain b = ((48 ≤ b) × (b ≤ 57)) ⊎ (((65 ≤ b) × (b ≤ 90)) ⊎ (((97 ≤ b) × (b ≤ 122)) ⊎ ((b ≡ 95) ⊎ (b ≡ 32))))

plain_range : (b : ℕ) → is_plain_byte b ≡ true → InPlain b
plain_range b plain = grind (arith, nat_tests)

abbrev InMeta : ℕ → Type 0
InMeta c = ((35 ≤ c) × (c ≤ 46)) ⊎ ((c ≡ 63) ⊎ (((91 ≤ c) × (c ≤ 94)) ⊎ ((123 ≤ c) × (c ≤ 126))))

meta_range : (c : ℕ) → is_meta c ≡ true → InMeta c
meta_range c meta = grind (arith, nat_tests)

apart : (b : ℕ) → InPlain b → InMeta b → ⊥
apart b plain meta = grind arith

no_meta : (b : ℕ) → is_plain_byte b ≡ true → is_meta b ≡ false
no_meta b plain = by (is_meta b) refl where
  by : (x : Bool) → is_meta b ≡ x → x ≡ false
  by true is = absurd (apart b (plain_range b plain) (meta_range b is))
  by false is = refl

pub plain_ascii : (b : ℕ) → is_plain_byte b ≡ true → b < 128
plain_ascii b plain = let in_range = plain_range b plain in grind arith

-- ---- plain texts

abbrev pub AllPlain : List ℕ → Type 0
AllPlain text = list_all is_plain_byte text ≡ true

pub plain_parts : (text : List ℕ) → is_plain text ≡ true → (0 < length text) × AllPlain text
plain_parts text plain =
    let both = and_parts (nat_lt 0 (length text)) (list_all is_plain_byte text) plain in
    (ltb-true 0 (length text) both.0, both.1)

pub all_ascii : (text : List ℕ) → AllPlain text → IsAscii text
all_ascii [] plain i = omega arith
all_ascii (b ∷ bs) plain zero = plain_ascii b (and_parts (is_plain_byte b) (list_all is_plain_byte bs) plain).0
all_ascii (b ∷ bs) plain (suc i) = all_ascii bs (and_parts (is_plain_byte b) (list_all is_plain_byte bs) plain).1 i

unescaped : (text : List ℕ) → AllPlain text → escaped_text text ≡ text
unescaped [] plain = refl
unescaped (b ∷ bs) plain =
    let both = and_parts (is_plain_byte b) (list_all is_plain_byte bs) plain in
    ap (λ (x : Bool). cond x (0x5C ∷ b ∷ []) (b ∷ []) ++ escaped_text bs) (no_meta b both.0) ∙ ap (λ (t : List ℕ). b ∷ t) (unescaped bs both.1)

-- what is read in an escaped plain text is read in the text
same_text : (text : List ℕ) → AllPlain text → encodes (escaped_text (chars text)) ≡ text
same_text text plain =
    let ascii = all_ascii text plain in
    ap (λ (cs : List ℕ). encodes (escaped_text cs)) (chars-IsAscii text ascii) ∙ ap encodes (unescaped text plain) ∙ encodes-IsAscii text ascii

abbrev Reading : Type 0
Reading = Option (Nested Re × Names)

abbrev AsWords : Reading → List ℕ → Type 0
AsWords o text = IsSomeAnd o (λ (re, names). (re.depth ≤ 1) × SameCaptures re.value (literal text) × (names ≡ None ∷ []))

abbrev AsTree : Reading → List ℕ → Type 0
AsTree o text = IsSomeAnd o (λ (re, names). SameTree re.value (literal text))

within : (found : Nested Re × Names) → found.0.depth ≤ 1 → within_limit (Some found) ≡ Some found.0.value
within found h = grind (arith, nat_tests)

-- the tree of a text, which matches as the text does
pub record IsTreeOf (text : List ℕ) (tree : Re) : Type 0 where
  pub is : tree_of text ≡ Some tree
  pub same : SameMatches tree (literal text)

tree_in : (o : Reading) (text : List ℕ) → AsWords o text → AsTree o text → (tree : Re) × (within_limit o ≡ Some tree) × SameMatches tree (literal text)
tree_in None text words tree = absurd words
tree_in (Some found) text words tree = (found.0.value, within found words.0, tree.matches)

pub plain_tree : (text : List ℕ) → AllPlain text → (tree : Re) × IsTreeOf text tree
unfolding tree_of ReadsAsText
plain_tree text plain =
    let utf8 = IsUtf8-from_ascii text (all_ascii text plain) in
    let same = same_text text plain in
    let words : AsWords (read default_config (chars text)) text =
    subst (λ (t : List ℕ). AsWords (read default_config (chars t)) text) same (escaped_reads text utf8 default_config refl refl) in
    let tree : AsTree (read default_config (chars text)) text =
    subst (λ (t : List ℕ). AsTree (read default_config (chars t)) text) same (escaped_is_read_as default_config refl refl text utf8) in
    let found = tree_in (read default_config (chars text)) text words tree in
    (found.0, record { is = found.1; same = found.2 })
