-- What the line of a changed row tells of it.
use Rattle.std.proofs.Common.{◌≡◌, ℕ, false, List, refl, sym, ap, ◌∙◌}
use Rattle.std.specs.Prelude.{codes}
use Rattle.std.specs.Str.{bytes_eq}
use Rattle.cfa_base.specs.Escapes.{escaped}
use Rattle.cfa_base.specs.lemmas.EqualTexts.{texts_differ}
use Rattle.cfa_outside.specs.declared.worlds.Perms.{Perms}
use Rattle.cfa_outside.specs.declared.worlds.ServiceRow.{ServiceRow}
use Rattle.cfa_base.specs.Lacking.{Lacks}
use Rattle.cfa_rows.specs.Cuts.{IsCut}
use Rattle.cfa_rows.specs.Rows.{◌then◌}
use Rattle.cfa_rows.specs.lemmas.Cuts.{one_cut, no_cut, Lacks-from_test}
use Rattle.cfa_tables.specs.declared.row_changes.RowChange.{RowChange}
use Rattle.cfa_tables.specs.declared.row_changes.RowChange.TheVariants.{Permissions, Gone, Service, Lock, LockBehind}
use Rattle.cfa_tables.specs.RowChanges.{IsRowChange, IsBehindRow, behind_text, word_of, fields_of, change_text}
use Rattle.cfa_tables.specs.Tables.{IsPath, IsPermsRow, IsServiceRow, IsLockRow, perms_text, service_text, lock_text}

word-lacks : (change : RowChange) → Lacks 32 (word_of change)
word-lacks (Permissions path perms) = Lacks-from_test 32 (codes "perms") refl
word-lacks (Gone path) = Lacks-from_test 32 (codes "gone") refl
word-lacks (Service name row) = Lacks-from_test 32 (codes "service") refl
word-lacks (Lock key moment) = Lacks-from_test 32 (codes "lock") refl
word-lacks (LockBehind length key moment) = Lacks-from_test 32 (codes "behind") refl

pub change_space : (change : RowChange) (line : List ℕ) → change_text change ≡ line → Lacks 32 line → ⊥
unfolding change_text
change_space change line same lacks = no_cut 32 line (word_of change) (fields_of change) lacks (sym same)

-- a line that begins with a word has it from the changed row
pub same_word : (change : RowChange) (word fields : List ℕ) → Lacks 32 word → change_text change ≡ word then fields → (word_of change ≡ word) × (fields_of change ≡ fields)
unfolding change_text
same_word change word fields lacks same = one_cut 32 (word_of change) (fields_of change) word fields (word-lacks change) lacks same

module _ (fields : List ℕ) where
  pub no_permissions : (change : RowChange) → ((row : List ℕ × Perms) → IsPermsRow row → perms_text row ≡ fields → ⊥) → IsRowChange change → change_text change ≡ codes "perms" then fields → ⊥
  no_permissions (Permissions path perms) none is e = none (path, perms) is (same_word (Permissions path perms) (codes "perms") fields (Lacks-from_test 32 (codes "perms") refl) e).1
  no_permissions (Gone path) none is e = texts_differ (codes "gone") (codes "perms") refl (same_word (Gone path) (codes "perms") fields (Lacks-from_test 32 (codes "perms") refl) e).0
  no_permissions (Service name row) none is e = texts_differ (codes "service") (codes "perms") refl (same_word (Service name row) (codes "perms") fields (Lacks-from_test 32 (codes "perms") refl) e).0
  no_permissions (Lock key moment) none is e = texts_differ (codes "lock") (codes "perms") refl (same_word (Lock key moment) (codes "perms") fields (Lacks-from_test 32 (codes "perms") refl) e).0
  no_permissions (LockBehind length key moment) none is e = texts_differ (codes "behind") (codes "perms") refl (same_word (LockBehind length key moment) (codes "perms") fields (Lacks-from_test 32 (codes "perms") refl) e).0

  pub no_gone : (change : RowChange) → ((path : List ℕ) → IsPath path → escaped path ≡ fields → ⊥) → IsRowChange change → change_text change ≡ codes "gone" then fields → ⊥
  no_gone (Permissions path perms) none is e = texts_differ (codes "perms") (codes "gone") refl (same_word (Permissions path perms) (codes "gone") fields (Lacks-from_test 32 (codes "gone") refl) e).0
  no_gone (Gone path) none is e = none path is (same_word (Gone path) (codes "gone") fields (Lacks-from_test 32 (codes "gone") refl) e).1
  no_gone (Service name row) none is e = texts_differ (codes "service") (codes "gone") refl (same_word (Service name row) (codes "gone") fields (Lacks-from_test 32 (codes "gone") refl) e).0
  no_gone (Lock key moment) none is e = texts_differ (codes "lock") (codes "gone") refl (same_word (Lock key moment) (codes "gone") fields (Lacks-from_test 32 (codes "gone") refl) e).0
  no_gone (LockBehind length key moment) none is e = texts_differ (codes "behind") (codes "gone") refl (same_word (LockBehind length key moment) (codes "gone") fields (Lacks-from_test 32 (codes "gone") refl) e).0

  pub no_service : (change : RowChange) → ((row : List ℕ × ServiceRow) → IsServiceRow row → service_text row ≡ fields → ⊥) → IsRowChange change → change_text change ≡ codes "service" then fields → ⊥
  no_service (Permissions path perms) none is e = texts_differ (codes "perms") (codes "service") refl (same_word (Permissions path perms) (codes "service") fields (Lacks-from_test 32 (codes "service") refl) e).0
  no_service (Gone path) none is e = texts_differ (codes "gone") (codes "service") refl (same_word (Gone path) (codes "service") fields (Lacks-from_test 32 (codes "service") refl) e).0
  no_service (Service name row) none is e = none (name, row) is (same_word (Service name row) (codes "service") fields (Lacks-from_test 32 (codes "service") refl) e).1
  no_service (Lock key moment) none is e = texts_differ (codes "lock") (codes "service") refl (same_word (Lock key moment) (codes "service") fields (Lacks-from_test 32 (codes "service") refl) e).0
  no_service (LockBehind length key moment) none is e = texts_differ (codes "behind") (codes "service") refl (same_word (LockBehind length key moment) (codes "service") fields (Lacks-from_test 32 (codes "service") refl) e).0

  pub no_lock : (change : RowChange) → ((row : List ℕ × ℕ) → IsLockRow row → lock_text row ≡ fields → ⊥) → IsRowChange change → change_text change ≡ codes "lock" then fields → ⊥
  no_lock (Permissions path perms) none is e = texts_differ (codes "perms") (codes "lock") refl (same_word (Permissions path perms) (codes "lock") fields (Lacks-from_test 32 (codes "lock") refl) e).0
  no_lock (Gone path) none is e = texts_differ (codes "gone") (codes "lock") refl (same_word (Gone path) (codes "lock") fields (Lacks-from_test 32 (codes "lock") refl) e).0
  no_lock (Service name row) none is e = texts_differ (codes "service") (codes "lock") refl (same_word (Service name row) (codes "lock") fields (Lacks-from_test 32 (codes "lock") refl) e).0
  no_lock (Lock key moment) none is e = none (key, moment) is (same_word (Lock key moment) (codes "lock") fields (Lacks-from_test 32 (codes "lock") refl) e).1
  no_lock (LockBehind length key moment) none is e = texts_differ (codes "behind") (codes "lock") refl (same_word (LockBehind length key moment) (codes "lock") fields (Lacks-from_test 32 (codes "lock") refl) e).0

  pub no_behind : (change : RowChange) → ((row : ℕ × (List ℕ × ℕ)) → IsBehindRow row → behind_text row ≡ fields → ⊥) → IsRowChange change → change_text change ≡ codes "behind" then fields → ⊥
  no_behind (Permissions path perms) none is e = texts_differ (codes "perms") (codes "behind") refl (same_word (Permissions path perms) (codes "behind") fields (Lacks-from_test 32 (codes "behind") refl) e).0
  no_behind (Gone path) none is e = texts_differ (codes "gone") (codes "behind") refl (same_word (Gone path) (codes "behind") fields (Lacks-from_test 32 (codes "behind") refl) e).0
  no_behind (Service name row) none is e = texts_differ (codes "service") (codes "behind") refl (same_word (Service name row) (codes "behind") fields (Lacks-from_test 32 (codes "behind") refl) e).0
  no_behind (Lock key moment) none is e = texts_differ (codes "lock") (codes "behind") refl (same_word (Lock key moment) (codes "behind") fields (Lacks-from_test 32 (codes "behind") refl) e).0
  no_behind (LockBehind length key moment) none is e = none (length, (key, moment)) is (same_word (LockBehind length key moment) (codes "behind") fields (Lacks-from_test 32 (codes "behind") refl) e).1

-- a word that is none of the five
pub five_words : (change : RowChange) (line word fields : List ℕ) → change_text change ≡ line → IsCut 32 line word fields → bytes_eq word (codes "perms") ≡ false → bytes_eq word (codes "gone") ≡ false → bytes_eq word (codes "service") ≡ false → bytes_eq word (codes "lock") ≡ false → bytes_eq word (codes "behind") ≡ false → ⊥
five_words (Permissions path perms) line word fields e cut a b c d f = texts_differ word (codes "perms") a (sym (same_word (Permissions path perms) word fields cut.first (e ∙ cut.whole)).0)
five_words (Gone path) line word fields e cut a b c d f = texts_differ word (codes "gone") b (sym (same_word (Gone path) word fields cut.first (e ∙ cut.whole)).0)
five_words (Service name row) line word fields e cut a b c d f = texts_differ word (codes "service") c (sym (same_word (Service name row) word fields cut.first (e ∙ cut.whole)).0)
five_words (Lock key moment) line word fields e cut a b c d f = texts_differ word (codes "lock") d (sym (same_word (Lock key moment) word fields cut.first (e ∙ cut.whole)).0)
five_words (LockBehind length key moment) line word fields e cut a b c d f = texts_differ word (codes "behind") f (sym (same_word (LockBehind length key moment) word fields cut.first (e ∙ cut.whole)).0)

-- the line of a change that was read
pub text_of : (change : RowChange) (fields : List ℕ) → fields_of change ≡ fields → change_text change ≡ word_of change then fields
unfolding change_text
text_of change fields e = ap (λ x. word_of change then x) e
