-- What a record's line tells of it, by its word.
use Rattle.std.proofs.Common.{◌≡◌, ℕ, true, false, List, ◌∷◌, ◌++◌, codes, refl, sym, ◌∙◌}
use Rattle.std.proofs.lemmas.Slice.Eq.{bytes_eq-Decides}
use Rattle.std.proofs.lemmas.Fmt.{decimal_injective}
use Rattle.std.specs.Fmt.{decimal}
use Rattle.std.specs.Str.{bytes_eq}
use Rattle.cfa_base.specs.Escapes.{escaped}
use Rattle.cfa_base.specs.Keys.{is_key}
use Rattle.cfa_base.specs.declared.places.PromiseId.{PromiseId}
use Rattle.cfa_base.specs.lemmas.EqualTexts.{texts_differ}
use Rattle.cfa_rows.specs.Cuts.{IsCut}
use Rattle.cfa_rows.specs.lemmas.Cuts.{one_cut, no_cut, Lacks-from_test}
use Rattle.cfa_base.specs.Lacking.{Lacks}
use Rattle.cfa_rows.specs.lemmas.Keys.{key-lacks}
use Rattle.cfa_rows.specs.lemmas.Numbers.{decimal-lacks}
use Rattle.cfa_journal.specs.Records.{IsCount, IsMoment, IsReason, IsId, IsFilled, IsDigest, IsRecord, id_text, reason_text, digest_text, word_of, fields_of, record_text}
use Rattle.cfa_journal.specs.declared.records.Digest.{Digest}
use Rattle.cfa_journal.specs.declared.records.Record.{Record}
use Rattle.cfa_journal.specs.declared.records.Record.TheVariants.{Run, Run2, Open, File, Repaired, Failed, Fail}
use Rattle.cfa_journal.proofs.FieldLemmas.{count_small, count-lacks, moment_small, id-lacks, path-lacks_space, digest-lacks_space}

-- Words.

pub word_of-lacks : (r : Record) → Lacks 32 (word_of r)
word_of-lacks (Run moment) = Lacks-from_test 32 (codes "run") refl
word_of-lacks (Run2 moment) = Lacks-from_test 32 (codes "run") refl
word_of-lacks (Open n id key) = Lacks-from_test 32 (codes "open") refl
word_of-lacks (File n path before after) = Lacks-from_test 32 (codes "file") refl
word_of-lacks (Repaired n changes) = Lacks-from_test 32 (codes "done") refl
word_of-lacks (Failed n reason) = Lacks-from_test 32 (codes "done") refl
word_of-lacks (Fail n id key reason) = Lacks-from_test 32 (codes "fail") refl

pub word_cut : (r : Record) (word rest : List ℕ) → Lacks 32 word → record_text r ≡ word ++ 32 ∷ rest → (word_of r ≡ word) × (fields_of r ≡ rest)
unfolding record_text
word_cut r word rest lacks e = one_cut 32 (word_of r) (fields_of r) word rest (word_of-lacks r) lacks e

-- a record doesn't begin with another word than its own
pub other_word : (r : Record) (word rest : List ℕ) → Lacks 32 word → bytes_eq (word_of r) word ≡ false → record_text r ≡ word ++ 32 ∷ rest → ⊥
other_word r word rest lacks differ e = texts_differ (word_of r) word differ (word_cut r word rest lacks e).0

pub has_space : (r : Record) (line : List ℕ) → record_text r ≡ line → Lacks 32 line → ⊥
unfolding record_text
has_space r line same lacks = no_cut 32 line (word_of r) (fields_of r) lacks (sym same)

-- `run`.

pub data RunParts (rest : List ℕ) : Type 0 where
  version_1 : (moment : ℕ) → IsMoment moment → decimal moment ≡ rest → RunParts rest
  version_2 : (moment : ℕ) → IsMoment moment → decimal moment ++ 32 ∷ codes "2" ≡ rest → RunParts rest

run_word : Lacks 32 (codes "run")
run_word = Lacks-from_test 32 (codes "run") refl

pub run_only : (r : Record) (rest : List ℕ) → IsRecord r → record_text r ≡ codes "run" ++ 32 ∷ rest → RunParts rest
run_only (Run moment) rest is e = version_1 moment is (word_cut (Run moment) (codes "run") rest run_word e).1
run_only (Run2 moment) rest is e = version_2 moment is (word_cut (Run2 moment) (codes "run") rest run_word e).1
run_only (Open n id key) rest is e = absurd (other_word (Open n id key) (codes "run") rest run_word refl e)
run_only (File n path before after) rest is e = absurd (other_word (File n path before after) (codes "run") rest run_word refl e)
run_only (Repaired n changes) rest is e = absurd (other_word (Repaired n changes) (codes "run") rest run_word refl e)
run_only (Failed n reason) rest is e = absurd (other_word (Failed n reason) (codes "run") rest run_word refl e)
run_only (Fail n id key reason) rest is e = absurd (other_word (Fail n id key reason) (codes "run") rest run_word refl e)

moment-lacks : (moment : ℕ) → IsMoment moment → Lacks 32 (decimal moment)
moment-lacks moment is = decimal-lacks 32 moment refl (moment_small moment is)

-- fields without a space are those of a run of version 1
pub run_one_field : {rest : List ℕ} → RunParts rest → Lacks 32 rest → ((moment : ℕ) → IsMoment moment → decimal moment ≡ rest → ⊥) → ⊥
run_one_field (version_1 moment is e) lacks none = none moment is e
run_one_field {rest} (version_2 moment is e) lacks none = no_cut 32 rest (decimal moment) (codes "2") lacks (sym e)

-- and with one those of a run of version 2
pub run_two_fields : {rest : List ℕ} (p : RunParts rest) (moment version : List ℕ) → IsCut 32 rest moment version → (codes "2" ≡ version → (n : ℕ) → IsMoment n → decimal n ≡ moment → ⊥) → ⊥
run_two_fields {rest} (version_1 n is e) moment version cut none = no_cut 32 (decimal n) moment version (moment-lacks n is) (e ∙ cut.whole)
run_two_fields {rest} (version_2 n is e) moment version cut none =
    let parts = one_cut 32 (decimal n) (codes "2") moment version (moment-lacks n is) cut.first (e ∙ cut.whole) in
    none parts.1 n is parts.0

-- What stands behind the number.

pub behind_number : (n n' : ℕ) (tail rest : List ℕ) → IsCount n → IsCount n' → decimal n ++ 32 ∷ tail ≡ decimal n' ++ 32 ∷ rest → (n ≡ n') × (tail ≡ rest)
behind_number n n' tail rest is is' e =
    let cut = one_cut 32 (decimal n) tail (decimal n') rest (count-lacks 32 n refl is) (count-lacks 32 n' refl is') e in
    (decimal_injective n n' (count_small n is) (count_small n' is') cut.0, cut.1)

-- `open`.

pub record OpenParts (rest : List ℕ) : Type 0 where
  pub id : PromiseId
  pub key : List ℕ
  pub is_id : IsId id
  pub has_key : is_key key ≡ true
  pub whole : id_text id ++ 32 ∷ key ≡ rest

pub open_only : (r : Record) (n : ℕ) (rest : List ℕ) → IsRecord r → IsCount n → record_text r ≡ codes "open" ++ 32 ∷ (decimal n ++ 32 ∷ rest) → OpenParts rest
open_only (Open n' id key) n rest is count e = record {
  id = id;
  key = key;
  is_id = is.1.0;
  has_key = is.1.1;
  whole = (behind_number n' n (id_text id ++ 32 ∷ key) rest is.0 count (word_cut (Open n' id key) (codes "open") (decimal n ++ 32 ∷ rest) (Lacks-from_test 32 (codes "open") refl) e).1).1;
}
open_only (Run moment) n rest is count e = absurd (other_word (Run moment) (codes "open") (decimal n ++ 32 ∷ rest) (Lacks-from_test 32 (codes "open") refl) refl e)
open_only (Run2 moment) n rest is count e = absurd (other_word (Run2 moment) (codes "open") (decimal n ++ 32 ∷ rest) (Lacks-from_test 32 (codes "open") refl) refl e)
open_only (File n' path before after) n rest is count e = absurd (other_word (File n' path before after) (codes "open") (decimal n ++ 32 ∷ rest) (Lacks-from_test 32 (codes "open") refl) refl e)
open_only (Repaired n' changes) n rest is count e = absurd (other_word (Repaired n' changes) (codes "open") (decimal n ++ 32 ∷ rest) (Lacks-from_test 32 (codes "open") refl) refl e)
open_only (Failed n' reason) n rest is count e = absurd (other_word (Failed n' reason) (codes "open") (decimal n ++ 32 ∷ rest) (Lacks-from_test 32 (codes "open") refl) refl e)
open_only (Fail n' id key reason) n rest is count e = absurd (other_word (Fail n' id key reason) (codes "open") (decimal n ++ 32 ∷ rest) (Lacks-from_test 32 (codes "open") refl) refl e)

pub open_cut : {rest : List ℕ} (p : OpenParts rest) (id key : List ℕ) → IsCut 32 rest id key → (id_text p.id ≡ id) × (p.key ≡ key)
open_cut p id key cut = one_cut 32 (id_text p.id) p.key id key (id-lacks p.id p.is_id) cut.first (p.whole ∙ cut.whole)

-- `file`.

pub record FileParts (rest : List ℕ) : Type 0 where
  pub path : List ℕ
  pub before : Digest
  pub after : Digest
  pub is_path : IsFilled path
  pub is_before : IsDigest before
  pub is_after : IsDigest after
  pub whole : escaped path ++ 32 ∷ (digest_text before ++ 32 ∷ digest_text after) ≡ rest

pub file_only : (r : Record) (n : ℕ) (rest : List ℕ) → IsRecord r → IsCount n → record_text r ≡ codes "file" ++ 32 ∷ (decimal n ++ 32 ∷ rest) → FileParts rest
file_only (File n' path before after) n rest is count e = record {
  path = path;
  before = before;
  after = after;
  is_path = is.1.0;
  is_before = is.1.1.0;
  is_after = is.1.1.1;
  whole = (behind_number n' n (escaped path ++ 32 ∷ (digest_text before ++ 32 ∷ digest_text after)) rest is.0 count (word_cut (File n' path before after) (codes "file") (decimal n ++ 32 ∷ rest) (Lacks-from_test 32 (codes "file") refl) e).1).1;
}
file_only (Run moment) n rest is count e = absurd (other_word (Run moment) (codes "file") (decimal n ++ 32 ∷ rest) (Lacks-from_test 32 (codes "file") refl) refl e)
file_only (Run2 moment) n rest is count e = absurd (other_word (Run2 moment) (codes "file") (decimal n ++ 32 ∷ rest) (Lacks-from_test 32 (codes "file") refl) refl e)
file_only (Open n' id key) n rest is count e = absurd (other_word (Open n' id key) (codes "file") (decimal n ++ 32 ∷ rest) (Lacks-from_test 32 (codes "file") refl) refl e)
file_only (Repaired n' changes) n rest is count e = absurd (other_word (Repaired n' changes) (codes "file") (decimal n ++ 32 ∷ rest) (Lacks-from_test 32 (codes "file") refl) refl e)
file_only (Failed n' reason) n rest is count e = absurd (other_word (Failed n' reason) (codes "file") (decimal n ++ 32 ∷ rest) (Lacks-from_test 32 (codes "file") refl) refl e)
file_only (Fail n' id key reason) n rest is count e = absurd (other_word (Fail n' id key reason) (codes "file") (decimal n ++ 32 ∷ rest) (Lacks-from_test 32 (codes "file") refl) refl e)

pub file_cut : {rest : List ℕ} (p : FileParts rest) (path behind : List ℕ) → IsCut 32 rest path behind → (escaped p.path ≡ path) × (digest_text p.before ++ 32 ∷ digest_text p.after ≡ behind)
file_cut p path behind cut = one_cut 32 (escaped p.path) (digest_text p.before ++ 32 ∷ digest_text p.after) path behind (path-lacks_space p.path) cut.first (p.whole ∙ cut.whole)

pub digests_cut : {rest : List ℕ} (p : FileParts rest) (path behind before after : List ℕ) → IsCut 32 rest path behind → IsCut 32 behind before after → (digest_text p.before ≡ before) × (digest_text p.after ≡ after)
digests_cut p path behind before after cut cut' = one_cut 32 (digest_text p.before) (digest_text p.after) before after (digest-lacks_space p.before p.is_before) cut'.first ((file_cut p path behind cut).1 ∙ cut'.whole)

-- `fail`.

pub record FailParts (rest : List ℕ) : Type 0 where
  pub id : PromiseId
  pub key : List ℕ
  pub reason : ℕ
  pub is_id : IsId id
  pub has_key : is_key key ≡ true
  pub is_reason : IsReason reason
  pub whole : id_text id ++ 32 ∷ (key ++ 32 ∷ reason_text reason) ≡ rest

pub fail_only : (r : Record) (n : ℕ) (rest : List ℕ) → IsRecord r → IsCount n → record_text r ≡ codes "fail" ++ 32 ∷ (decimal n ++ 32 ∷ rest) → FailParts rest
fail_only (Fail n' id key reason) n rest is count e = record {
  id = id;
  key = key;
  reason = reason;
  is_id = is.1.0;
  has_key = is.1.1.0;
  is_reason = is.1.1.1;
  whole = (behind_number n' n (id_text id ++ 32 ∷ (key ++ 32 ∷ reason_text reason)) rest is.0 count (word_cut (Fail n' id key reason) (codes "fail") (decimal n ++ 32 ∷ rest) (Lacks-from_test 32 (codes "fail") refl) e).1).1;
}
fail_only (Run moment) n rest is count e = absurd (other_word (Run moment) (codes "fail") (decimal n ++ 32 ∷ rest) (Lacks-from_test 32 (codes "fail") refl) refl e)
fail_only (Run2 moment) n rest is count e = absurd (other_word (Run2 moment) (codes "fail") (decimal n ++ 32 ∷ rest) (Lacks-from_test 32 (codes "fail") refl) refl e)
fail_only (Open n' id key) n rest is count e = absurd (other_word (Open n' id key) (codes "fail") (decimal n ++ 32 ∷ rest) (Lacks-from_test 32 (codes "fail") refl) refl e)
fail_only (File n' path before after) n rest is count e = absurd (other_word (File n' path before after) (codes "fail") (decimal n ++ 32 ∷ rest) (Lacks-from_test 32 (codes "fail") refl) refl e)
fail_only (Repaired n' changes) n rest is count e = absurd (other_word (Repaired n' changes) (codes "fail") (decimal n ++ 32 ∷ rest) (Lacks-from_test 32 (codes "fail") refl) refl e)
fail_only (Failed n' reason) n rest is count e = absurd (other_word (Failed n' reason) (codes "fail") (decimal n ++ 32 ∷ rest) (Lacks-from_test 32 (codes "fail") refl) refl e)

pub fail_cut : {rest : List ℕ} (p : FailParts rest) (id behind : List ℕ) → IsCut 32 rest id behind → (id_text p.id ≡ id) × (p.key ++ 32 ∷ reason_text p.reason ≡ behind)
fail_cut p id behind cut = one_cut 32 (id_text p.id) (p.key ++ 32 ∷ reason_text p.reason) id behind (id-lacks p.id p.is_id) cut.first (p.whole ∙ cut.whole)

pub reason_cut : {rest : List ℕ} (p : FailParts rest) (id behind key reason : List ℕ) → IsCut 32 rest id behind → IsCut 32 behind key reason → (p.key ≡ key) × (reason_text p.reason ≡ reason)
reason_cut p id behind key reason cut cut' = one_cut 32 p.key (reason_text p.reason) key reason (key-lacks 32 p.key refl p.has_key) cut'.first ((fail_cut p id behind cut).1 ∙ cut'.whole)

-- `done`.

pub data DoneParts (rest : List ℕ) : Type 0 where
  repaired : (changes : ℕ) → IsCount changes → codes "repaired" ++ 32 ∷ decimal changes ≡ rest → DoneParts rest
  failed : (reason : ℕ) → IsReason reason → codes "failed" ++ 32 ∷ reason_text reason ≡ rest → DoneParts rest

pub done_only : (r : Record) (n : ℕ) (rest : List ℕ) → IsRecord r → IsCount n → record_text r ≡ codes "done" ++ 32 ∷ (decimal n ++ 32 ∷ rest) → DoneParts rest
done_only (Repaired n' changes) n rest is count e = repaired changes is.1 (behind_number n' n (codes "repaired" ++ 32 ∷ decimal changes) rest is.0 count (word_cut (Repaired n' changes) (codes "done") (decimal n ++ 32 ∷ rest) (Lacks-from_test 32 (codes "done") refl) e).1).1
done_only (Failed n' reason) n rest is count e = failed reason is.1 (behind_number n' n (codes "failed" ++ 32 ∷ reason_text reason) rest is.0 count (word_cut (Failed n' reason) (codes "done") (decimal n ++ 32 ∷ rest) (Lacks-from_test 32 (codes "done") refl) e).1).1
done_only (Run moment) n rest is count e = absurd (other_word (Run moment) (codes "done") (decimal n ++ 32 ∷ rest) (Lacks-from_test 32 (codes "done") refl) refl e)
done_only (Run2 moment) n rest is count e = absurd (other_word (Run2 moment) (codes "done") (decimal n ++ 32 ∷ rest) (Lacks-from_test 32 (codes "done") refl) refl e)
done_only (Open n' id key) n rest is count e = absurd (other_word (Open n' id key) (codes "done") (decimal n ++ 32 ∷ rest) (Lacks-from_test 32 (codes "done") refl) refl e)
done_only (File n' path before after) n rest is count e = absurd (other_word (File n' path before after) (codes "done") (decimal n ++ 32 ∷ rest) (Lacks-from_test 32 (codes "done") refl) refl e)
done_only (Fail n' id key reason) n rest is count e = absurd (other_word (Fail n' id key reason) (codes "done") (decimal n ++ 32 ∷ rest) (Lacks-from_test 32 (codes "done") refl) refl e)

pub done_has_space : {rest : List ℕ} → DoneParts rest → Lacks 32 rest → ⊥
done_has_space {rest} (repaired changes is e) lacks = no_cut 32 rest (codes "repaired") (decimal changes) lacks (sym e)
done_has_space {rest} (failed reason is e) lacks = no_cut 32 rest (codes "failed") (reason_text reason) lacks (sym e)

repaired_cut : (changes : ℕ) (rest word value : List ℕ) → codes "repaired" ++ 32 ∷ decimal changes ≡ rest → IsCut 32 rest word value → (codes "repaired" ≡ word) × (decimal changes ≡ value)
repaired_cut changes rest word value e cut = one_cut 32 (codes "repaired") (decimal changes) word value (Lacks-from_test 32 (codes "repaired") refl) cut.first (e ∙ cut.whole)

failed_cut : (reason : ℕ) (rest word value : List ℕ) → codes "failed" ++ 32 ∷ reason_text reason ≡ rest → IsCut 32 rest word value → (codes "failed" ≡ word) × (reason_text reason ≡ value)
failed_cut reason rest word value e cut = one_cut 32 (codes "failed") (reason_text reason) word value (Lacks-from_test 32 (codes "failed") refl) cut.first (e ∙ cut.whole)

pub done_repaired : {rest : List ℕ} → DoneParts rest → (word value : List ℕ) → IsCut 32 rest word value → bytes_eq word (codes "repaired") ≡ true → ((changes : ℕ) → IsCount changes → decimal changes ≡ value → ⊥) → ⊥
done_repaired {rest} (repaired changes is e) word value cut tells none = none changes is (repaired_cut changes rest word value e cut).1
done_repaired {rest} (failed reason is e) word value cut tells none = texts_differ (codes "failed") (codes "repaired") refl ((failed_cut reason rest word value e cut).0 ∙ (bytes_eq-Decides word (codes "repaired")).0 tells)

pub done_failed : {rest : List ℕ} → DoneParts rest → (word value : List ℕ) → IsCut 32 rest word value → bytes_eq word (codes "failed") ≡ true → ((reason : ℕ) → IsReason reason → reason_text reason ≡ value → ⊥) → ⊥
done_failed {rest} (failed reason is e) word value cut tells none = none reason is (failed_cut reason rest word value e cut).1
done_failed {rest} (repaired changes is e) word value cut tells none = texts_differ (codes "repaired") (codes "failed") refl ((repaired_cut changes rest word value e cut).0 ∙ (bytes_eq-Decides word (codes "failed")).0 tells)

pub done_neither : {rest : List ℕ} → DoneParts rest → (word value : List ℕ) → IsCut 32 rest word value → bytes_eq word (codes "repaired") ≡ false → bytes_eq word (codes "failed") ≡ false → ⊥
done_neither {rest} (repaired changes is e) word value cut not_repaired not_failed = texts_differ word (codes "repaired") not_repaired (sym (repaired_cut changes rest word value e cut).0)
done_neither {rest} (failed reason is e) word value cut not_repaired not_failed = texts_differ word (codes "failed") not_failed (sym (failed_cut reason rest word value e cut).0)

-- the number and what stands behind it, in all records but `run`
pub record NumberedParts (fields : List ℕ) : Type 0 where
  pub n : ℕ
  pub tail : List ℕ
  pub is : IsCount n
  pub whole : decimal n ++ 32 ∷ tail ≡ fields

pub numbered : (r : Record) (line word fields : List ℕ) → IsRecord r → record_text r ≡ line → IsCut 32 line word fields → bytes_eq word (codes "run") ≡ false → NumberedParts fields
numbered (Run moment) line word fields is e cut not_run = absurd (texts_differ word (codes "run") not_run (sym (word_cut (Run moment) word fields cut.first (e ∙ cut.whole)).0))
numbered (Run2 moment) line word fields is e cut not_run = absurd (texts_differ word (codes "run") not_run (sym (word_cut (Run2 moment) word fields cut.first (e ∙ cut.whole)).0))
numbered (Open n id key) line word fields is e cut not_run = record { n = n; tail = id_text id ++ 32 ∷ key; is = is.0; whole = (word_cut (Open n id key) word fields cut.first (e ∙ cut.whole)).1 }
numbered (File n path before after) line word fields is e cut not_run = record { n = n; tail = escaped path ++ 32 ∷ (digest_text before ++ 32 ∷ digest_text after); is = is.0; whole = (word_cut (File n path before after) word fields cut.first (e ∙ cut.whole)).1 }
numbered (Repaired n changes) line word fields is e cut not_run = record { n = n; tail = codes "repaired" ++ 32 ∷ decimal changes; is = is.0; whole = (word_cut (Repaired n changes) word fields cut.first (e ∙ cut.whole)).1 }
numbered (Failed n reason) line word fields is e cut not_run = record { n = n; tail = codes "failed" ++ 32 ∷ reason_text reason; is = is.0; whole = (word_cut (Failed n reason) word fields cut.first (e ∙ cut.whole)).1 }
numbered (Fail n id key reason) line word fields is e cut not_run = record { n = n; tail = id_text id ++ 32 ∷ (key ++ 32 ∷ reason_text reason); is = is.0; whole = (word_cut (Fail n id key reason) word fields cut.first (e ∙ cut.whole)).1 }

pub number_cut : {fields : List ℕ} (p : NumberedParts fields) (number rest : List ℕ) → IsCut 32 fields number rest → decimal p.n ≡ number
number_cut p number rest cut = (one_cut 32 (decimal p.n) p.tail number rest (count-lacks 32 p.n refl p.is) cut.first (p.whole ∙ cut.whole)).0

-- a word that is none of the five
pub five_words : (r : Record) (word rest : List ℕ) → Lacks 32 word → record_text r ≡ word ++ 32 ∷ rest → bytes_eq word (codes "run") ≡ false → bytes_eq word (codes "open") ≡ false → bytes_eq word (codes "file") ≡ false → bytes_eq word (codes "done") ≡ false → bytes_eq word (codes "fail") ≡ false → ⊥
five_words (Run moment) word rest lacks e a b c d f = texts_differ word (codes "run") a (sym (word_cut (Run moment) word rest lacks e).0)
five_words (Run2 moment) word rest lacks e a b c d f = texts_differ word (codes "run") a (sym (word_cut (Run2 moment) word rest lacks e).0)
five_words (Open n id key) word rest lacks e a b c d f = texts_differ word (codes "open") b (sym (word_cut (Open n id key) word rest lacks e).0)
five_words (File n path before after) word rest lacks e a b c d f = texts_differ word (codes "file") c (sym (word_cut (File n path before after) word rest lacks e).0)
five_words (Repaired n changes) word rest lacks e a b c d f = texts_differ word (codes "done") d (sym (word_cut (Repaired n changes) word rest lacks e).0)
five_words (Failed n reason) word rest lacks e a b c d f = texts_differ word (codes "done") d (sym (word_cut (Failed n reason) word rest lacks e).0)
five_words (Fail n id key reason) word rest lacks e a b c d f = texts_differ word (codes "fail") f (sym (word_cut (Fail n id key reason) word rest lacks e).0)
