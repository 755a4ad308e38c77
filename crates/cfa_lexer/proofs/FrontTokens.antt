-- A front that the first byte's kind spells is the longest token, and where no front does none begins there.
use Rattle.std.proofs.Common.{◌≡◌, ℕ, zero, suc, ◌+◌, ◌≤◌, ◌<◌, true, false, List, [], ◌∷◌, ◌++◌, length, get_or, take, drop, refl, ap, sym, ◌∙◌, subst, arith, add-one}
use Rattle.std.specs.Prelude.{IsTrue}
use Rattle.std.specs.List.{list_all, prefix_len, take_while}
use Rattle.std.proofs.lemmas.Bool.{both_ways, and_from, and_right, cond-true}
use Rattle.std.proofs.lemmas.List.{take-append-drop, take_at}
use Rattle.std.proofs.lemmas.List.Sums.{prefix_len-le-length}
use Rattle.std.proofs.lemmas.List.Folds.{length-prefix_len}
use Rattle.cfa_base.specs.declared.tokens.Kind.{Kind}
use Rattle.cfa_base.specs.declared.tokens.Kind.TheVariants.{Word, Text, Ref, ListRef}
use Rattle.cfa_base.specs.Lexing.{is_word_byte, is_word, is_quote, is_quoted, closes, is_reference, spells, Takes, BeginsNone}
use Rattle.cfa_base.specs.Scanned.{kind_at, kind_from}
use Rattle.cfa_base.specs.lemmas.Spelled.{kind_is, quote_is}
use Rattle.cfa_base.specs.lemmas.Scanning.{front_first}
use Rattle.cfa_base.specs.lemmas.Taking.{prefix_passes, takes_word, takes_text, takes_ref, takes_list_ref}
use Rattle.cfa_lexer.specs.Fronts.{IsFront}

front_of : (kind : Kind) (bytes : List ℕ) (n : ℕ) → n ≤ length bytes → IsTrue (spells kind (take n bytes)) →
    ((text rest : List ℕ) → IsTrue (spells kind text) → Takes (text ++ rest) kind text rest) → IsFront bytes kind n
front_of kind bytes n within spelled builds = record {
  within = within;
  takes = subst (λ (x : List ℕ). Takes x kind (take n bytes) (drop n bytes)) (take-append-drop n bytes) (builds (take n bytes) (drop n bytes) spelled);
}

none_of : (kind : Kind) (b : ℕ) (bs : List ℕ) → ((tail : List ℕ) → kind_from b tail ≡ kind) → ((n : ℕ) → spells kind (take n (b ∷ bs)) ≡ false) → BeginsNone (b ∷ bs)
none_of kind b bs there none other front after cut spelled =
    let first = front_first other front after b bs cut spelled in
    let only : other ≡ kind = sym (kind_is other front spelled) ∙ (ap kind_at first.1 ∙ there first.0) in
    let same : take (length front) (b ∷ bs) ≡ front = ap (take (length front)) (sym cut) ∙ take_at front after (length front) refl in
    both_ways (spells kind front) (subst (λ (x : List ℕ). spells kind x ≡ false) same (none (length front))) (subst (λ (k : Kind). IsTrue (spells k front)) only spelled)

-- Words.

word_in : (b : ℕ) (xs : List ℕ) → IsTrue (list_all is_word_byte (b ∷ xs)) → IsTrue (is_word (b ∷ xs))
word_in b xs passes = passes

pub word_front : (bytes : List ℕ) → 0 < length bytes → is_word_byte (get_or bytes 0 0) ≡ true → IsFront bytes Word (length (take_while is_word_byte bytes))
word_front [] some first = absurd (omega arith)
word_front (b ∷ bs) some first =
    let n = prefix_len is_word_byte (b ∷ bs) in
    let parts = prefix_passes is_word_byte (b ∷ bs) in
    let longer : n ≡ suc (prefix_len is_word_byte bs) = cond-true (is_word_byte b) _ _ first ∙ omega arith in
    let word : IsTrue (is_word (take n (b ∷ bs))) =
    subst (λ (m : ℕ). IsTrue (is_word (take m (b ∷ bs)))) (sym longer) (subst (λ (m : ℕ). IsTrue (list_all is_word_byte (take m (b ∷ bs)))) longer parts.0) in
    subst (IsFront (b ∷ bs) Word) (sym (length-prefix_len is_word_byte (b ∷ bs))) (record {
      within = prefix_len-le-length is_word_byte (b ∷ bs);
      takes = subst (λ (x : List ℕ). Takes x Word (take n (b ∷ bs)) (drop n (b ∷ bs))) (take-append-drop n (b ∷ bs)) (takes_word (take n (b ∷ bs)) (drop n (b ∷ bs)) word parts.1);
    })

-- Texts.

pub text_front : (bytes inner : List ℕ) (len : ℕ) → inner ≡ drop 1 bytes → 0 < length bytes → is_quote (get_or bytes 0 0) ≡ true →
    (len ≤ length inner) × IsTrue (closes (get_or bytes 0 0) false (take len inner)) → IsFront bytes Text (len + 1)
text_front [] inner len rest some quote closed = absurd (omega arith)
text_front (b ∷ bs) inner len rest some quote closed =
    let within : len ≤ length bs = omega (arith, closed.0, ap length rest) in
    let ends : IsTrue (closes b false (take len bs)) = subst (λ (x : List ℕ). IsTrue (closes b false (take len x))) rest closed.1 in
    front_of Text (b ∷ bs) (len + 1) (omega arith)
    (subst (λ (m : ℕ). IsTrue (is_quoted (take m (b ∷ bs)))) (sym (add-one len)) (and_from (is_quote b) (closes b false (take len bs)) quote ends)) takes_text

pub no_text : (bytes inner : List ℕ) → inner ≡ drop 1 bytes → 0 < length bytes → is_quote (get_or bytes 0 0) ≡ true →
    ((n : ℕ) → closes (get_or bytes 0 0) false (take n inner) ≡ false) → BeginsNone bytes
no_text [] inner rest some quote none = absurd (omega arith)
no_text (b ∷ bs) inner rest some quote none = none_of Text b bs (λ tail. quote_is b tail quote) opened
  where
    opened : (n : ℕ) → spells Text (take n (b ∷ bs)) ≡ false
    opened zero = refl
    opened (suc n) = and_right (is_quote b) (closes b false (take n bs)) (subst (λ (x : List ℕ). closes b false (take n x) ≡ false) rest (none n))

-- References.

abbrev Begins : ℕ → List ℕ → Type 0
Begins b bytes = (0 < length bytes) × (get_or bytes 0 0 ≡ b)

begun : (b : ℕ) (bytes : List ℕ) → Begins b bytes → bytes ≡ b ∷ drop 1 bytes
begun b [] begins = absurd (omega (arith, begins.0))
begun b (x ∷ xs) begins = ap (λ y. y ∷ xs) begins.1

passing : (sign : ℕ) (bytes : List ℕ) (len : ℕ) → get_or bytes 0 0 ≡ sign → IsTrue (is_reference (get_or bytes 0 0) (take len bytes)) → IsTrue (is_reference sign (take len bytes))
passing sign bytes len first reference = subst (λ (s : ℕ). IsTrue (is_reference s (take len bytes))) first reference

pub ref_front : (bytes : List ℕ) (len : ℕ) → get_or bytes 0 0 ≡ 36 → (len ≤ length bytes) × IsTrue (is_reference (get_or bytes 0 0) (take len bytes)) → IsFront bytes Ref len
ref_front bytes len first reference = front_of Ref bytes len reference.0 (passing 36 bytes len first reference.1) takes_ref

pub list_ref_front : (bytes : List ℕ) (len : ℕ) → get_or bytes 0 0 ≡ 64 → (len ≤ length bytes) × IsTrue (is_reference (get_or bytes 0 0) (take len bytes)) → IsFront bytes ListRef len
list_ref_front bytes len first reference = front_of ListRef bytes len reference.0 (passing 64 bytes len first reference.1) takes_list_ref

failing : (sign : ℕ) (bytes : List ℕ) → get_or bytes 0 0 ≡ sign → ((n : ℕ) → is_reference (get_or bytes 0 0) (take n bytes) ≡ false) → (n : ℕ) → is_reference sign (take n bytes) ≡ false
failing sign bytes first none n = subst (λ (s : ℕ). is_reference s (take n bytes) ≡ false) first (none n)

pub no_ref : (bytes : List ℕ) → 0 < length bytes → get_or bytes 0 0 ≡ 36 → ((n : ℕ) → is_reference (get_or bytes 0 0) (take n bytes) ≡ false) → BeginsNone bytes
no_ref bytes some first none =
    let is = begun 36 bytes (some, first) in
    subst BeginsNone (sym is) (none_of Ref 36 (drop 1 bytes) (λ tail. refl) (λ n. subst (λ (x : List ℕ). is_reference 36 (take n x) ≡ false) is (failing 36 bytes first none n)))

pub no_list_ref : (bytes : List ℕ) → 0 < length bytes → get_or bytes 0 0 ≡ 64 → ((n : ℕ) → is_reference (get_or bytes 0 0) (take n bytes) ≡ false) → BeginsNone bytes
no_list_ref bytes some first none =
    let is = begun 64 bytes (some, first) in
    subst BeginsNone (sym is) (none_of ListRef 64 (drop 1 bytes) (λ tail. refl) (λ n. subst (λ (x : List ℕ). is_reference 64 (take n x) ≡ false) is (failing 64 bytes first none n)))
