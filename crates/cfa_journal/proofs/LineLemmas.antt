-- A record that was read has its line, a line tells its record, and is one line.
use Rattle.std.proofs.Common.{◌≡◌, ℕ, true, false, List, ◌∷◌, ◌++◌, codes, refl, sym, ap, ◌∙◌, arith}
use Rattle.std.proofs.lemmas.Slice.Eq.{bytes_eq-Decides}
use Rattle.std.proofs.lemmas.Fmt.{decimal_injective}
use Rattle.std.specs.Fmt.{decimal}
use Rattle.std.specs.Str.{bytes_eq}
use Rattle.cfa_base.specs.Escapes.{escaped}
use Rattle.cfa_base.specs.declared.places.PromiseId.{PromiseId}
use Rattle.cfa_base.specs.lemmas.EqualTexts.{texts_differ}
use Rattle.cfa_base.specs.lemmas.Escapes.{fields_tell_texts}
use Rattle.cfa_rows.specs.Cuts.{IsCut}
use Rattle.cfa_rows.specs.lemmas.Cuts.{one_cut, no_cut, Lacks-from_test, Lacks-append, Lacks-cons}
use Rattle.cfa_base.specs.Lacking.{Lacks}
use Rattle.cfa_rows.specs.lemmas.Keys.{key-lacks}
use Rattle.cfa_rows.specs.lemmas.Numbers.{decimal-lacks}
use Rattle.cfa_journal.specs.Records.{IsMoment, IsRecord, id_text, reason_text, digest_text, word_of, fields_of, record_text}
use Rattle.cfa_journal.specs.declared.records.Digest.{Digest}
use Rattle.cfa_journal.specs.declared.records.Record.{Record}
use Rattle.cfa_journal.specs.declared.records.Record.TheVariants.{Run, Run2, Open, File, Repaired, Failed, Fail}
use Rattle.cfa_journal.proofs.FieldLemmas.{moment_small, count_tells, reason_tells, count-lacks, id_tells, id-lacks, id-lacks_newline, path-lacks_space, path-lacks_newline, digest-lacks_space, digest-lacks_newline, digest_tells, reason-lacks}
use Rattle.cfa_journal.proofs.RecordLemmas.{word_of-lacks, behind_number}

-- Texts of records that were read.

pub open_text : (n : ℕ) (id : PromiseId) (key rest front behind : List ℕ) → id_text id ≡ front → key ≡ behind → IsCut 32 rest front behind → record_text (Open n id key) ≡ codes "open" ++ 32 ∷ (decimal n ++ 32 ∷ rest)
unfolding record_text
open_text n id key rest front behind e f cut =
    let inner : id_text id ++ 32 ∷ key ≡ rest = ap (λ x. x ++ 32 ∷ key) e ∙ ap (λ x. front ++ 32 ∷ x) f ∙ sym cut.whole in
    ap (λ x. codes "open" ++ 32 ∷ (decimal n ++ 32 ∷ x)) inner

pub repaired_text : (n changes : ℕ) (rest word value : List ℕ) → bytes_eq word (codes "repaired") ≡ true → decimal changes ≡ value → IsCut 32 rest word value → record_text (Repaired n changes) ≡ codes "done" ++ 32 ∷ (decimal n ++ 32 ∷ rest)
unfolding record_text
repaired_text n changes rest word value tells e cut =
    let inner : codes "repaired" ++ 32 ∷ decimal changes ≡ rest = ap (λ x. x ++ 32 ∷ decimal changes) (sym ((bytes_eq-Decides word (codes "repaired")).0 tells)) ∙ ap (λ x. word ++ 32 ∷ x) e ∙ sym cut.whole in
    ap (λ x. codes "done" ++ 32 ∷ (decimal n ++ 32 ∷ x)) inner

pub failed_text : (n reason : ℕ) (rest word value : List ℕ) → bytes_eq word (codes "failed") ≡ true → reason_text reason ≡ value → IsCut 32 rest word value → record_text (Failed n reason) ≡ codes "done" ++ 32 ∷ (decimal n ++ 32 ∷ rest)
unfolding record_text
failed_text n reason rest word value tells e cut =
    let inner : codes "failed" ++ 32 ∷ reason_text reason ≡ rest = ap (λ x. x ++ 32 ∷ reason_text reason) (sym ((bytes_eq-Decides word (codes "failed")).0 tells)) ∙ ap (λ x. word ++ 32 ∷ x) e ∙ sym cut.whole in
    ap (λ x. codes "done" ++ 32 ∷ (decimal n ++ 32 ∷ x)) inner

pub fail_text : (n : ℕ) (id : PromiseId) (key : List ℕ) (reason : ℕ) (rest front behind key' reason' : List ℕ) → id_text id ≡ front → key ≡ key' → reason_text reason ≡ reason' → IsCut 32 rest front behind → IsCut 32 behind key' reason' → record_text (Fail n id key reason) ≡ codes "fail" ++ 32 ∷ (decimal n ++ 32 ∷ rest)
unfolding record_text
fail_text n id key reason rest front behind key' reason' e f g cut cut' =
    let last : key ++ 32 ∷ reason_text reason ≡ behind = ap (λ x. x ++ 32 ∷ reason_text reason) f ∙ ap (λ x. key' ++ 32 ∷ x) g ∙ sym cut'.whole in
    let inner : id_text id ++ 32 ∷ (key ++ 32 ∷ reason_text reason) ≡ rest = ap (λ x. x ++ 32 ∷ (key ++ 32 ∷ reason_text reason)) e ∙ ap (λ x. front ++ 32 ∷ x) last ∙ sym cut.whole in
    ap (λ x. codes "fail" ++ 32 ∷ (decimal n ++ 32 ∷ x)) inner

pub file_text : (n : ℕ) (path : List ℕ) (before after : Digest) (rest front behind first second : List ℕ) → escaped path ≡ front → digest_text before ≡ first → digest_text after ≡ second → IsCut 32 rest front behind → IsCut 32 behind first second → record_text (File n path before after) ≡ codes "file" ++ 32 ∷ (decimal n ++ 32 ∷ rest)
unfolding record_text
file_text n path before after rest front behind first second e f g cut cut' =
    let last : digest_text before ++ 32 ∷ digest_text after ≡ behind = ap (λ x. x ++ 32 ∷ digest_text after) f ∙ ap (λ x. first ++ 32 ∷ x) g ∙ sym cut'.whole in
    let inner : escaped path ++ 32 ∷ (digest_text before ++ 32 ∷ digest_text after) ≡ rest = ap (λ x. x ++ 32 ∷ (digest_text before ++ 32 ∷ digest_text after)) e ∙ ap (λ x. front ++ 32 ∷ x) last ∙ sym cut.whole in
    ap (λ x. codes "file" ++ 32 ∷ (decimal n ++ 32 ∷ x)) inner

pub run_text : (moment : ℕ) (rest : List ℕ) → decimal moment ≡ rest → record_text (Run moment) ≡ codes "run" ++ 32 ∷ rest
unfolding record_text
run_text moment rest e = ap (λ x. codes "run" ++ 32 ∷ x) e

pub run2_text : (moment : ℕ) (rest front version : List ℕ) → decimal moment ≡ front → bytes_eq version (codes "2") ≡ true → IsCut 32 rest front version → record_text (Run2 moment) ≡ codes "run" ++ 32 ∷ rest
unfolding record_text
run2_text moment rest front version e tells cut =
    let inner : decimal moment ++ 32 ∷ codes "2" ≡ rest = ap (λ x. x ++ 32 ∷ codes "2") e ∙ ap (λ x. front ++ 32 ∷ x) (sym ((bytes_eq-Decides version (codes "2")).0 tells)) ∙ sym cut.whole in
    ap (λ x. codes "run" ++ 32 ∷ x) inner

-- A record's line tells the record.

same_fields : (r other : Record) → record_text r ≡ record_text other → (word_of r ≡ word_of other) × (fields_of r ≡ fields_of other)
unfolding record_text
same_fields r other e = one_cut 32 (word_of r) (fields_of r) (word_of other) (fields_of other) (word_of-lacks r) (word_of-lacks other) e

-- lines that begin with different words aren't equal
differ : (r other : Record) → bytes_eq (word_of r) (word_of other) ≡ false → record_text r ≡ record_text other → ⊥
differ r other other_word e = texts_differ (word_of r) (word_of other) other_word (same_fields r other e).0

moment_tells : (m n : ℕ) → IsMoment m → IsMoment n → decimal m ≡ decimal n → m ≡ n
moment_tells m n is is' e = decimal_injective m n (moment_small m is) (moment_small n is') e

moment-lacks : (moment : ℕ) → IsMoment moment → Lacks 32 (decimal moment)
moment-lacks moment is = decimal-lacks 32 moment refl (moment_small moment is)

two_words : (moment moment' : ℕ) → IsMoment moment → decimal moment ≡ decimal moment' ++ 32 ∷ codes "2" → ⊥
two_words moment moment' is e = no_cut 32 (decimal moment) (decimal moment') (codes "2") (moment-lacks moment is) e

pub record_tells : (r other : Record) → IsRecord r → IsRecord other → record_text r ≡ record_text other → r ≡ other
record_tells (Run m) (Run m') is is' e = ap Run (moment_tells m m' is is' (same_fields (Run m) (Run m') e).1)
record_tells (Run2 m) (Run2 m') is is' e =
    ap Run2 (moment_tells m m' is is' (one_cut 32 (decimal m) (codes "2") (decimal m') (codes "2") (moment-lacks m is) (moment-lacks m' is') (same_fields (Run2 m) (Run2 m') e).1).0)
record_tells (Run m) (Run2 m') is is' e = absurd (two_words m m' is (same_fields (Run m) (Run2 m') e).1)
record_tells (Run2 m) (Run m') is is' e = absurd (two_words m' m is' (sym (same_fields (Run2 m) (Run m') e).1))
record_tells (File n path before after) (File n' path' before' after') is is' e =
    let at = behind_number n n' (escaped path ++ 32 ∷ (digest_text before ++ 32 ∷ digest_text after)) (escaped path' ++ 32 ∷ (digest_text before' ++ 32 ∷ digest_text after')) is.0 is'.0 (same_fields (File n path before after) (File n' path' before' after') e).1 in
    let cut = one_cut 32 (escaped path) (digest_text before ++ 32 ∷ digest_text after) (escaped path') (digest_text before' ++ 32 ∷ digest_text after') (path-lacks_space path) (path-lacks_space path') at.1 in
    let cut' = one_cut 32 (digest_text before) (digest_text after) (digest_text before') (digest_text after') (digest-lacks_space before is.1.1.0) (digest-lacks_space before' is'.1.1.0) cut.1 in
    let number : n ≡ n' = at.0 in
    let paths : path ≡ path' = fields_tell_texts path path' cut.0 in
    let first : before ≡ before' = digest_tells before before' is.1.1.0 is'.1.1.0 cut'.0 in
    let second : after ≡ after' = digest_tells after after' is.1.1.1 is'.1.1.1 cut'.1 in
    cc
record_tells (Open n id key) (Open n' id' key') is is' e =
    let at = behind_number n n' (id_text id ++ 32 ∷ key) (id_text id' ++ 32 ∷ key') is.0 is'.0 (same_fields (Open n id key) (Open n' id' key') e).1 in
    let cut = one_cut 32 (id_text id) key (id_text id') key' (id-lacks id is.1.0) (id-lacks id' is'.1.0) at.1 in
    let same : id ≡ id' = id_tells id id' is.1.0 is'.1.0 cut.0 in
    let number : n ≡ n' = at.0 in
    let keys : key ≡ key' = cut.1 in
    cc
record_tells (Repaired n k) (Repaired n' k') is is' e =
    let at = behind_number n n' (codes "repaired" ++ 32 ∷ decimal k) (codes "repaired" ++ 32 ∷ decimal k') is.0 is'.0 (same_fields (Repaired n k) (Repaired n' k') e).1 in
    let cut = one_cut 32 (codes "repaired") (decimal k) (codes "repaired") (decimal k') (Lacks-from_test 32 (codes "repaired") refl) (Lacks-from_test 32 (codes "repaired") refl) at.1 in
    let number : n ≡ n' = at.0 in
    let changes : k ≡ k' = count_tells k k' is.1 is'.1 cut.1 in
    cc
record_tells (Failed n k) (Failed n' k') is is' e =
    let at = behind_number n n' (codes "failed" ++ 32 ∷ reason_text k) (codes "failed" ++ 32 ∷ reason_text k') is.0 is'.0 (same_fields (Failed n k) (Failed n' k') e).1 in
    let cut = one_cut 32 (codes "failed") (reason_text k) (codes "failed") (reason_text k') (Lacks-from_test 32 (codes "failed") refl) (Lacks-from_test 32 (codes "failed") refl) at.1 in
    let number : n ≡ n' = at.0 in
    let reasons : k ≡ k' = reason_tells k k' is.1 is'.1 cut.1 in
    cc
record_tells (Fail n id key k) (Fail n' id' key' k') is is' e =
    let at = behind_number n n' (id_text id ++ 32 ∷ (key ++ 32 ∷ reason_text k)) (id_text id' ++ 32 ∷ (key' ++ 32 ∷ reason_text k')) is.0 is'.0 (same_fields (Fail n id key k) (Fail n' id' key' k') e).1 in
    let cut = one_cut 32 (id_text id) (key ++ 32 ∷ reason_text k) (id_text id') (key' ++ 32 ∷ reason_text k') (id-lacks id is.1.0) (id-lacks id' is'.1.0) at.1 in
    let cut' = one_cut 32 key (reason_text k) key' (reason_text k') (key-lacks 32 key refl is.1.1.0) (key-lacks 32 key' refl is'.1.1.0) cut.1 in
    let same : id ≡ id' = id_tells id id' is.1.0 is'.1.0 cut.0 in
    let number : n ≡ n' = at.0 in
    let keys : key ≡ key' = cut'.0 in
    let reasons : k ≡ k' = reason_tells k k' is.1.1.1 is'.1.1.1 cut'.1 in
    cc
record_tells (Repaired n k) (Failed n' k') is is' e =
    let at = behind_number n n' (codes "repaired" ++ 32 ∷ decimal k) (codes "failed" ++ 32 ∷ reason_text k') is.0 is'.0 (same_fields (Repaired n k) (Failed n' k') e).1 in
    absurd (texts_differ (codes "repaired") (codes "failed") refl (one_cut 32 (codes "repaired") (decimal k) (codes "failed") (reason_text k') (Lacks-from_test 32 (codes "repaired") refl) (Lacks-from_test 32 (codes "failed") refl) at.1).0)
record_tells (Failed n k) (Repaired n' k') is is' e =
    let at = behind_number n n' (codes "failed" ++ 32 ∷ reason_text k) (codes "repaired" ++ 32 ∷ decimal k') is.0 is'.0 (same_fields (Failed n k) (Repaired n' k') e).1 in
    absurd (texts_differ (codes "failed") (codes "repaired") refl (one_cut 32 (codes "failed") (reason_text k) (codes "repaired") (decimal k') (Lacks-from_test 32 (codes "failed") refl) (Lacks-from_test 32 (codes "repaired") refl) at.1).0)
record_tells (Run moment) (Open n' id' key') is is' e = absurd (differ (Run moment) (Open n' id' key') refl e)
record_tells (Run moment) (File n' path' before' after') is is' e = absurd (differ (Run moment) (File n' path' before' after') refl e)
record_tells (Run moment) (Repaired n' changes') is is' e = absurd (differ (Run moment) (Repaired n' changes') refl e)
record_tells (Run moment) (Failed n' reason') is is' e = absurd (differ (Run moment) (Failed n' reason') refl e)
record_tells (Run moment) (Fail n' id' key' reason') is is' e = absurd (differ (Run moment) (Fail n' id' key' reason') refl e)
record_tells (Run2 moment) (Open n' id' key') is is' e = absurd (differ (Run2 moment) (Open n' id' key') refl e)
record_tells (Run2 moment) (File n' path' before' after') is is' e = absurd (differ (Run2 moment) (File n' path' before' after') refl e)
record_tells (Run2 moment) (Repaired n' changes') is is' e = absurd (differ (Run2 moment) (Repaired n' changes') refl e)
record_tells (Run2 moment) (Failed n' reason') is is' e = absurd (differ (Run2 moment) (Failed n' reason') refl e)
record_tells (Run2 moment) (Fail n' id' key' reason') is is' e = absurd (differ (Run2 moment) (Fail n' id' key' reason') refl e)
record_tells (Open n id key) (Run moment') is is' e = absurd (differ (Open n id key) (Run moment') refl e)
record_tells (Open n id key) (Run2 moment') is is' e = absurd (differ (Open n id key) (Run2 moment') refl e)
record_tells (Open n id key) (File n' path' before' after') is is' e = absurd (differ (Open n id key) (File n' path' before' after') refl e)
record_tells (Open n id key) (Repaired n' changes') is is' e = absurd (differ (Open n id key) (Repaired n' changes') refl e)
record_tells (Open n id key) (Failed n' reason') is is' e = absurd (differ (Open n id key) (Failed n' reason') refl e)
record_tells (Open n id key) (Fail n' id' key' reason') is is' e = absurd (differ (Open n id key) (Fail n' id' key' reason') refl e)
record_tells (File n path before after) (Run moment') is is' e = absurd (differ (File n path before after) (Run moment') refl e)
record_tells (File n path before after) (Run2 moment') is is' e = absurd (differ (File n path before after) (Run2 moment') refl e)
record_tells (File n path before after) (Open n' id' key') is is' e = absurd (differ (File n path before after) (Open n' id' key') refl e)
record_tells (File n path before after) (Repaired n' changes') is is' e = absurd (differ (File n path before after) (Repaired n' changes') refl e)
record_tells (File n path before after) (Failed n' reason') is is' e = absurd (differ (File n path before after) (Failed n' reason') refl e)
record_tells (File n path before after) (Fail n' id' key' reason') is is' e = absurd (differ (File n path before after) (Fail n' id' key' reason') refl e)
record_tells (Repaired n changes) (Run moment') is is' e = absurd (differ (Repaired n changes) (Run moment') refl e)
record_tells (Repaired n changes) (Run2 moment') is is' e = absurd (differ (Repaired n changes) (Run2 moment') refl e)
record_tells (Repaired n changes) (Open n' id' key') is is' e = absurd (differ (Repaired n changes) (Open n' id' key') refl e)
record_tells (Repaired n changes) (File n' path' before' after') is is' e = absurd (differ (Repaired n changes) (File n' path' before' after') refl e)
record_tells (Repaired n changes) (Fail n' id' key' reason') is is' e = absurd (differ (Repaired n changes) (Fail n' id' key' reason') refl e)
record_tells (Failed n reason) (Run moment') is is' e = absurd (differ (Failed n reason) (Run moment') refl e)
record_tells (Failed n reason) (Run2 moment') is is' e = absurd (differ (Failed n reason) (Run2 moment') refl e)
record_tells (Failed n reason) (Open n' id' key') is is' e = absurd (differ (Failed n reason) (Open n' id' key') refl e)
record_tells (Failed n reason) (File n' path' before' after') is is' e = absurd (differ (Failed n reason) (File n' path' before' after') refl e)
record_tells (Failed n reason) (Fail n' id' key' reason') is is' e = absurd (differ (Failed n reason) (Fail n' id' key' reason') refl e)
record_tells (Fail n id key reason) (Run moment') is is' e = absurd (differ (Fail n id key reason) (Run moment') refl e)
record_tells (Fail n id key reason) (Run2 moment') is is' e = absurd (differ (Fail n id key reason) (Run2 moment') refl e)
record_tells (Fail n id key reason) (Open n' id' key') is is' e = absurd (differ (Fail n id key reason) (Open n' id' key') refl e)
record_tells (Fail n id key reason) (File n' path' before' after') is is' e = absurd (differ (Fail n id key reason) (File n' path' before' after') refl e)
record_tells (Fail n id key reason) (Repaired n' changes') is is' e = absurd (differ (Fail n id key reason) (Repaired n' changes') refl e)
record_tells (Fail n id key reason) (Failed n' reason') is is' e = absurd (differ (Fail n id key reason) (Failed n' reason') refl e)

-- A record's line is one line.

spaced : (front rest : List ℕ) → Lacks 10 front → Lacks 10 rest → Lacks 10 (front ++ 32 ∷ rest)
spaced front rest lacks lacks' = Lacks-append 10 front (32 ∷ rest) lacks (Lacks-cons 10 32 rest (λ e. omega arith) lacks')

pub record-lacks : (r : Record) → IsRecord r → Lacks 10 (record_text r)
unfolding record_text
record-lacks (Run moment) is = spaced (codes "run") (decimal moment) (Lacks-from_test 10 (codes "run") refl) (decimal-lacks 10 moment refl (moment_small moment is))
record-lacks (Run2 moment) is =
    spaced (codes "run") (decimal moment ++ 32 ∷ codes "2") (Lacks-from_test 10 (codes "run") refl)
    (spaced (decimal moment) (codes "2") (decimal-lacks 10 moment refl (moment_small moment is)) (Lacks-from_test 10 (codes "2") refl))
record-lacks (File n path before after) is =
    spaced (codes "file") (decimal n ++ 32 ∷ (escaped path ++ 32 ∷ (digest_text before ++ 32 ∷ digest_text after))) (Lacks-from_test 10 (codes "file") refl)
    (spaced (decimal n) (escaped path ++ 32 ∷ (digest_text before ++ 32 ∷ digest_text after)) (count-lacks 10 n refl is.0)
    (spaced (escaped path) (digest_text before ++ 32 ∷ digest_text after) (path-lacks_newline path) (spaced (digest_text before) (digest_text after) (digest-lacks_newline before is.1.1.0) (digest-lacks_newline after is.1.1.1))))
record-lacks (Open n id key) is =
    spaced (codes "open") (decimal n ++ 32 ∷ (id_text id ++ 32 ∷ key)) (Lacks-from_test 10 (codes "open") refl)
    (spaced (decimal n) (id_text id ++ 32 ∷ key) (count-lacks 10 n refl is.0) (spaced (id_text id) key (id-lacks_newline id is.1.0) (key-lacks 10 key refl is.1.1)))
record-lacks (Repaired n changes) is =
    spaced (codes "done") (decimal n ++ 32 ∷ (codes "repaired" ++ 32 ∷ decimal changes)) (Lacks-from_test 10 (codes "done") refl)
    (spaced (decimal n) (codes "repaired" ++ 32 ∷ decimal changes) (count-lacks 10 n refl is.0) (spaced (codes "repaired") (decimal changes) (Lacks-from_test 10 (codes "repaired") refl) (count-lacks 10 changes refl is.1)))
record-lacks (Failed n reason) is =
    spaced (codes "done") (decimal n ++ 32 ∷ (codes "failed" ++ 32 ∷ reason_text reason)) (Lacks-from_test 10 (codes "done") refl)
    (spaced (decimal n) (codes "failed" ++ 32 ∷ reason_text reason) (count-lacks 10 n refl is.0) (spaced (codes "failed") (reason_text reason) (Lacks-from_test 10 (codes "failed") refl) (reason-lacks 10 reason refl (λ e. omega arith) is.1)))
record-lacks (Fail n id key reason) is =
    spaced (codes "fail") (decimal n ++ 32 ∷ (id_text id ++ 32 ∷ (key ++ 32 ∷ reason_text reason))) (Lacks-from_test 10 (codes "fail") refl)
    (spaced (decimal n) (id_text id ++ 32 ∷ (key ++ 32 ∷ reason_text reason)) (count-lacks 10 n refl is.0)
    (spaced (id_text id) (key ++ 32 ∷ reason_text reason) (id-lacks_newline id is.1.0) (spaced key (reason_text reason) (key-lacks 10 key refl is.1.1.0) (reason-lacks 10 reason refl (λ e. omega arith) is.1.1.1))))
