-- What the fields of records tell.
use Rattle.std.proofs.Common.{◌≡◌, ℕ, ◌-◌, ◌^◌, ◌<◌, true, false, List, [], ◌∷◌, ◌++◌, Option, Some, None, codes, All, length, take, drop, ⊎_elim, refl, sym, ap, ◌∙◌, subst, arith}
use Rattle.std.proofs.lemmas.Bool.{and_parts, both_ways, cases_Bool}
use Rattle.std.proofs.lemmas.Bool.Decides.{nat_tests}
use Rattle.std.proofs.lemmas.List.Elements.{All-nil, All-cons}
use Rattle.std.proofs.lemmas.Str.{IsUtf8-nil, IsUtf8-from_ascii}
use Rattle.std.proofs.lemmas.Str.Ascii.{IsAscii-from_all}
use Rattle.std.proofs.lemmas.Fmt.{decimal_injective}
use Rattle.std.proofs.Math.Seq.{take-length}
use Rattle.std.specs.Char.{is_ascii_digit}
use Rattle.std.specs.Fmt.{decimal}
use Rattle.std.specs.List.{list_all}
use Rattle.std.specs.Prelude.{if◌then◌else◌}
use Rattle.std.specs.Str.{bytes_eq, IsUtf8}
use Rattle.cfa_base.specs.Escapes.{escaped}
use Rattle.cfa_base.specs.Keys.{is_key}
use Rattle.cfa_base.specs.Lexing.{is_word, is_word_byte}
use Rattle.cfa_base.specs.declared.places.PromiseId.{PromiseId}
use Rattle.cfa_base.specs.lemmas.EqualTexts.{texts_differ}
use Rattle.cfa_base.specs.lemmas.Escapes.{escaped-avoids}
use Rattle.cfa_rows.specs.Cuts.{IsCut}
use Rattle.cfa_rows.specs.lemmas.Cuts.{one_cut, Lacks-from_test, Lacks-append, Lacks-cons}
use Rattle.cfa_base.specs.Lacking.{Lacks}
use Rattle.cfa_rows.specs.lemmas.Numbers.{decimal-lacks}
use Rattle.cfa_rows.specs.lemmas.Keys.{key-lacks}
use Rattle.cfa_journal.specs.Records.{IsCount, IsMoment, IsReason, IsId, IsDigest, id_text, reason_text, digest_text}
use Rattle.cfa_journal.specs.declared.records.Digest.{Digest}
use Rattle.cfa_journal.specs.declared.records.Digest.TheVariants.{Nothing, Over, Sha}

-- Numbers.

pub count_small : (n : ℕ) → IsCount n → n < 2 ^ 64
count_small n count = omega arith

pub moment_small : (n : ℕ) → IsMoment n → n < 2 ^ 64
moment_small n moment = omega arith

pub reason_small : (n : ℕ) → IsReason n → n < 2 ^ 64
reason_small n reason = omega arith

-- a number that a text is in decimal is the one that was read
pub same_number : (m n : ℕ) (text : List ℕ) → m < 2 ^ 64 → n < 2 ^ 64 → decimal m ≡ text → decimal n ≡ text → m ≡ n
same_number m n text small small' e e' = decimal_injective m n small small' (e ∙ sym e')

pub count-lacks : (byte n : ℕ) → is_ascii_digit byte ≡ false → IsCount n → Lacks byte (decimal n)
count-lacks byte n other count = decimal-lacks byte n other (count_small n count)

-- Words.

word_byte_differs : (byte b : ℕ) → is_word_byte byte ≡ false → is_word_byte b ≡ true → b ≡ byte → ⊥
word_byte_differs byte b other word same = both_ways (is_word_byte byte) other (sym (ap is_word_byte same) ∙ word)

words-lack : (byte : ℕ) (text : List ℕ) → is_word_byte byte ≡ false → list_all is_word_byte text ≡ true → Lacks byte text
words-lack byte [] other all = Lacks-from_test byte [] refl
words-lack byte (b ∷ bs) other all =
    let parts = and_parts (is_word_byte b) (list_all is_word_byte bs) all in
    Lacks-cons byte b bs (word_byte_differs byte b other parts.0) (words-lack byte bs other parts.1)

pub word-lacks : (byte : ℕ) (text : List ℕ) → is_word_byte byte ≡ false → is_word text ≡ true → Lacks byte text
word-lacks byte [] other word = Lacks-from_test byte [] refl
word-lacks byte (b ∷ bs) other word = words-lack byte (b ∷ bs) other word

-- Ids.

colon_is_other : is_word_byte 58 ≡ false
colon_is_other = refl

pub id_cut : (id : PromiseId) (text bundle rest : List ℕ) → IsId id → id_text id ≡ text → IsCut 58 text bundle rest → (id.bundle ≡ bundle) × (decimal id.number ++ 64 ∷ decimal id.line ≡ rest)
id_cut id text bundle rest is same cut =
    one_cut 58 id.bundle (decimal id.number ++ 64 ∷ decimal id.line) bundle rest (word-lacks 58 id.bundle refl is.0) cut.first (same ∙ cut.whole)

pub numbers_cut : (n l : ℕ) (rest number line : List ℕ) → IsCount n → decimal n ++ 64 ∷ decimal l ≡ rest → IsCut 64 rest number line → (decimal n ≡ number) × (decimal l ≡ line)
numbers_cut n l rest number line is same cut =
    one_cut 64 (decimal n) (decimal l) number line (count-lacks 64 n refl is) cut.first (same ∙ cut.whole)

same_id : (a b : PromiseId) → a.bundle ≡ b.bundle → a.number ≡ b.number → a.line ≡ b.line → a ≡ b
same_id a b e f g =
    ap (λ x. record { bundle = x; number = a.number; line = a.line }) e
    ∙ ap (λ x. record { bundle = b.bundle; number = x; line = a.line }) f
    ∙ ap (λ x. record { bundle = b.bundle; number = b.number; line = x }) g

pub id_tells : (a b : PromiseId) → IsId a → IsId b → id_text a ≡ id_text b → a ≡ b
id_tells a b is is' same =
    let front = one_cut 58 a.bundle (decimal a.number ++ 64 ∷ decimal a.line) b.bundle (decimal b.number ++ 64 ∷ decimal b.line) (word-lacks 58 a.bundle refl is.0) (word-lacks 58 b.bundle refl is'.0) same in
    let back = one_cut 64 (decimal a.number) (decimal a.line) (decimal b.number) (decimal b.line) (count-lacks 64 a.number refl is.1.0) (count-lacks 64 b.number refl is'.1.0) front.1 in
    same_id a b front.0 (decimal_injective a.number b.number (count_small a.number is.1.0) (count_small b.number is'.1.0) back.0) (decimal_injective a.line b.line (count_small a.line is.1.1) (count_small b.line is'.1.1) back.1)

pub id-lacks : (id : PromiseId) → IsId id → Lacks 32 (id_text id)
id-lacks id is =
    Lacks-append 32 id.bundle (58 ∷ (decimal id.number ++ 64 ∷ decimal id.line)) (word-lacks 32 id.bundle refl is.0)
    (Lacks-cons 32 58 (decimal id.number ++ 64 ∷ decimal id.line) (λ e. omega arith)
    (Lacks-append 32 (decimal id.number) (64 ∷ decimal id.line) (count-lacks 32 id.number refl is.1.0)
    (Lacks-cons 32 64 (decimal id.line) (λ e. omega arith) (count-lacks 32 id.line refl is.1.1))))

pub id-lacks_newline : (id : PromiseId) → IsId id → Lacks 10 (id_text id)
id-lacks_newline id is =
    Lacks-append 10 id.bundle (58 ∷ (decimal id.number ++ 64 ∷ decimal id.line)) (word-lacks 10 id.bundle refl is.0)
    (Lacks-cons 10 58 (decimal id.number ++ 64 ∷ decimal id.line) (λ e. omega arith)
    (Lacks-append 10 (decimal id.number) (64 ∷ decimal id.line) (count-lacks 10 id.number refl is.1.0)
    (Lacks-cons 10 64 (decimal id.line) (λ e. omega arith) (count-lacks 10 id.line refl is.1.1))))

word_byte_ascii : (b : ℕ) → is_word_byte b ≡ true → b < 128
word_byte_ascii b word = grind (arith, nat_tests)

words_ascii : (text : List ℕ) → list_all is_word_byte text ≡ true → All (λ b. b < 128) text
words_ascii [] all = All-nil (λ b. b < 128)
words_ascii (b ∷ bs) all =
    let parts = and_parts (is_word_byte b) (list_all is_word_byte bs) all in
    let word = parts.0 in
    All-cons (λ b. b < 128) b bs (word_byte_ascii b word) (words_ascii bs parts.1)

pub word_utf8 : (text : List ℕ) → is_word text ≡ true → IsUtf8 text
word_utf8 [] word = IsUtf8-nil
word_utf8 (b ∷ bs) word = IsUtf8-from_ascii (b ∷ bs) (IsAscii-from_all (b ∷ bs) (words_ascii (b ∷ bs) word))

-- Keys.

pub key_none : (key : List ℕ) (r : Option (List ℕ)) → r ≡ (if is_key key then Some key else None) → r ≡ None → is_key key ≡ true → ⊥
key_none key r made none is =
    let found = rw is at made in
    cc

pub key_some : (key : List ℕ) (r : Option (List ℕ)) (k : List ℕ) → r ≡ (if is_key key then Some key else None) → r ≡ Some k → (is_key k ≡ true) × (k ≡ key)
key_some key r k made some =
    ⊎_elim
    (λ is.
    let found = rw is at made in
    let same : k ≡ key = cc in
    (ap is_key same ∙ is, same))
    (λ none.
    let found = rw none at made in
    absurd (cc))
    (cases_Bool (is_key key))

-- Paths and digests.

pub path-lacks_space : (path : List ℕ) → Lacks 32 (escaped path)
path-lacks_space path = escaped-avoids 32 path (omega arith) refl

pub path-lacks_newline : (path : List ℕ) → Lacks 10 (escaped path)
path-lacks_newline path = escaped-avoids 10 path (omega arith) refl

pub digest-lacks_space : (digest : Digest) → IsDigest digest → Lacks 32 (digest_text digest)
digest-lacks_space Nothing is = Lacks-from_test 32 (codes "-") refl
digest-lacks_space Over is = Lacks-from_test 32 (codes "*") refl
digest-lacks_space (Sha key) is = key-lacks 32 key refl is

pub digest-lacks_newline : (digest : Digest) → IsDigest digest → Lacks 10 (digest_text digest)
digest-lacks_newline Nothing is = Lacks-from_test 10 (codes "-") refl
digest-lacks_newline Over is = Lacks-from_test 10 (codes "*") refl
digest-lacks_newline (Sha key) is = key-lacks 10 key refl is

-- a key is no text that isn't one
no_key : (key text : List ℕ) → is_key key ≡ true → is_key text ≡ false → key ≡ text → ⊥
no_key key text is other e = both_ways (is_key text) other (ap is_key (sym e) ∙ is)

pub digest_tells : (a b : Digest) → IsDigest a → IsDigest b → digest_text a ≡ digest_text b → a ≡ b
digest_tells Nothing Nothing is is' e = refl
digest_tells Over Over is is' e = refl
digest_tells (Sha key) (Sha key') is is' e = ap Sha e
digest_tells Nothing Over is is' e = absurd (texts_differ (codes "-") (codes "*") refl e)
digest_tells Over Nothing is is' e = absurd (texts_differ (codes "*") (codes "-") refl e)
digest_tells Nothing (Sha key) is is' e = absurd (no_key key (codes "-") is' refl (sym e))
digest_tells Over (Sha key) is is' e = absurd (no_key key (codes "*") is' refl (sym e))
digest_tells (Sha key) Nothing is is' e = absurd (no_key key (codes "-") is refl e)
digest_tells (Sha key) Over is is' e = absurd (no_key key (codes "*") is refl e)

-- a text that is none of the three is no digest
pub no_digest : (digest : Digest) (text : List ℕ) → IsDigest digest → digest_text digest ≡ text → bytes_eq text (codes "-") ≡ false → bytes_eq text (codes "*") ≡ false → (is_key text ≡ true → ⊥) → ⊥
no_digest Nothing text is e not_nothing not_over not_key = texts_differ text (codes "-") not_nothing (sym e)
no_digest Over text is e not_nothing not_over not_key = texts_differ text (codes "*") not_over (sym e)
no_digest (Sha key) text is e not_nothing not_over not_key = not_key (ap is_key (sym e) ∙ is)

-- Numbers and reasons by their texts.

pub count_tells : (m n : ℕ) → IsCount m → IsCount n → decimal m ≡ decimal n → m ≡ n
count_tells m n is is' e = decimal_injective m n (count_small m is) (count_small n is') e

pub reason_tells : (m n : ℕ) → IsReason m → IsReason n → reason_text m ≡ reason_text n → m ≡ n
reason_tells m n is is' e =
    let same : decimal m ≡ decimal n = cc in
    decimal_injective m n (reason_small m is) (reason_small n is') same

pub reason-lacks : (byte reason : ℕ) → is_ascii_digit byte ≡ false → (70 ≡ byte → ⊥) → IsReason reason → Lacks byte (reason_text reason)
reason-lacks byte reason other letter is = Lacks-cons byte 70 (decimal reason) letter (decimal-lacks byte reason other (reason_small reason is))

pub tail_of : (b : ℕ) (bs text : List ℕ) → b ∷ bs ≡ text → take (length text - 1) (drop 1 text) ≡ bs
tail_of b bs text e =
    let P : List ℕ → Type 0 = λ t. take (length t - 1) (drop 1 t) ≡ bs in
    let less : length (b ∷ bs) - 1 ≡ length bs = omega arith in
    subst P e (ap (λ n. take n bs) less ∙ take-length bs)
