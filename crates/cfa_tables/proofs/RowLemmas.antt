-- What the line of a row tells of it.
use Rattle.std.proofs.Common.{◌≡◌, ℕ, ◌^◌, ◌<◌, Bool, List, ◌∷◌, refl, sym, ap, ◌∙◌, arith}
use Rattle.std.proofs.lemmas.Bool.{both_ways}
use Rattle.std.proofs.lemmas.Fmt.{decimal_injective}
use Rattle.std.specs.Fmt.{decimal}
use Rattle.std.specs.Prelude.{IsTrue, false}
use Rattle.std.specs.declared.cmp.Ordering.TheVariants.{Less}
use Rattle.cfa_base.specs.Escapes.{escaped}
use Rattle.cfa_base.specs.Octal.{mode_text}
use Rattle.cfa_base.specs.TextMaps.{text_cmp}
use Rattle.cfa_base.specs.lemmas.Escapes.{escaped-avoids, fields_tell_texts}
use Rattle.cfa_base.specs.lemmas.Modes.{mode-lacks, mode_tells}
use Rattle.cfa_outside.specs.declared.worlds.Perms.{Perms}
use Rattle.cfa_outside.specs.declared.worlds.ServiceRow.{ServiceRow}
use Rattle.cfa_base.specs.Lacking.{Lacks}
use Rattle.cfa_rows.specs.Cuts.{IsCut}
use Rattle.cfa_rows.specs.Rows.{◌then◌}
use Rattle.cfa_rows.specs.lemmas.Cuts.{one_cut, no_cut, Lacks-append, Lacks-cons}
use Rattle.cfa_rows.specs.lemmas.Keys.{key-lacks}
use Rattle.cfa_rows.specs.lemmas.Numbers.{decimal-lacks}
use Rattle.cfa_rows.specs.lemmas.Rows.{TellsRows}
use Rattle.cfa_tables.specs.Fields.{IsFourFields}
use Rattle.cfa_tables.specs.RowChanges.{IsBehindRow, behind_text}
use Rattle.cfa_tables.specs.Tables.{service_text, perms_text, lock_text, running_text, enabled_text, IsServiceRow, IsPermsRow, IsLockRow, Rises}
use Rattle.cfa_tables.proofs.FieldLemmas.{running-lacks, enabled-lacks, running_tells, enabled_tells, same_fields, four_text}
use Rattle.cfa_tables.proofs.ModeLemmas.{octal-lacks}

pub restarts_small : (n : ℕ) → n < 2 ^ 32 → n < 2 ^ 64
restarts_small n small = omega arith

escaped-lacks_space : (text : List ℕ) → Lacks 32 (escaped text)
escaped-lacks_space text = escaped-avoids 32 text (omega arith) refl

escaped-lacks_newline : (text : List ℕ) → Lacks 10 (escaped text)
escaped-lacks_newline text = escaped-avoids 10 text (omega arith) refl

-- fields without a newline, and a space between them
then-lacks : (front rest : List ℕ) → Lacks 10 front → Lacks 10 rest → Lacks 10 (front then rest)
then-lacks front rest lacks lacks' = Lacks-append 10 front (32 ∷ rest) lacks (Lacks-cons 10 32 rest (λ e. omega arith) lacks')

-- Services.

pub service_fields : (row : List ℕ × ServiceRow) (line : List ℕ) → service_text row ≡ line → IsFourFields line (escaped row.0) (running_text row.1.running) (enabled_text row.1.enabled) (decimal row.1.restarts)
unfolding service_text
service_fields row line e = record {
  whole = e;
  lacks_first = escaped-lacks_space row.0;
  lacks_second = running-lacks 32 refl refl row.1.running;
  lacks_third = enabled-lacks 32 refl refl row.1.enabled;
}

pub service_of : (name : List ℕ) (running enabled : Bool) (restarts : ℕ) (line a b c d : List ℕ) → IsFourFields line a b c d → escaped name ≡ a → running_text running ≡ b → enabled_text enabled ≡ c → decimal restarts ≡ d → service_text (name, record { running = running; enabled = enabled; restarts = restarts }) ≡ line
unfolding service_text
service_of name running enabled restarts line a b c d four e f g h = four_text (escaped name) (running_text running) (enabled_text enabled) (decimal restarts) four e f g h

service-lacks : (row : List ℕ × ServiceRow) → IsServiceRow row → Lacks 10 (service_text row)
unfolding service_text
service-lacks row is =
    then-lacks (escaped row.0) (running_text row.1.running then enabled_text row.1.enabled then decimal row.1.restarts) (escaped-lacks_newline row.0)
    (then-lacks (running_text row.1.running) (enabled_text row.1.enabled then decimal row.1.restarts) (running-lacks 10 refl refl row.1.running)
    (then-lacks (enabled_text row.1.enabled) (decimal row.1.restarts) (enabled-lacks 10 refl refl row.1.enabled)
    (decimal-lacks 10 row.1.restarts refl (restarts_small row.1.restarts is.1))))

same_service : (row other : List ℕ × ServiceRow) → row.0 ≡ other.0 → row.1.running ≡ other.1.running → row.1.enabled ≡ other.1.enabled → row.1.restarts ≡ other.1.restarts → row ≡ other
same_service row other e f g h =
    ap (λ x. (x, record { running = row.1.running; enabled = row.1.enabled; restarts = row.1.restarts })) e
    ∙ ap (λ x. (other.0, record { running = x; enabled = row.1.enabled; restarts = row.1.restarts })) f
    ∙ ap (λ x. (other.0, record { running = other.1.running; enabled = x; restarts = row.1.restarts })) g
    ∙ ap (λ x. (other.0, record { running = other.1.running; enabled = other.1.enabled; restarts = x })) h

pub service_tells : (row other : List ℕ × ServiceRow) → IsServiceRow row → IsServiceRow other → service_text row ≡ service_text other → row ≡ other
service_tells row other is is' e =
    let same = same_fields (service_fields row (service_text other) e) (service_fields other (service_text other) refl) in
    same_service row other (fields_tell_texts row.0 other.0 same.first) (running_tells row.1.running other.1.running same.second) (enabled_tells row.1.enabled other.1.enabled same.third)
    (decimal_injective row.1.restarts other.1.restarts (restarts_small row.1.restarts is.1) (restarts_small other.1.restarts is'.1) same.fourth)

pub services_tell : TellsRows service_text (Rises IsServiceRow)
services_tell = record {
  lines = λ last row is. service-lacks row is.0;
  rows = λ last row other is is' e. service_tells row other is.0 is'.0 e;
}

-- Permissions.

pub perms_fields : (row : List ℕ × Perms) (line : List ℕ) → perms_text row ≡ line → IsFourFields line (escaped row.0) (mode_text row.1.mode) (escaped row.1.owner) (escaped row.1.group)
unfolding perms_text
perms_fields row line e = record {
  whole = e;
  lacks_first = escaped-lacks_space row.0;
  lacks_second = mode-lacks 32 row.1.mode (octal-lacks 32 (omega arith));
  lacks_third = escaped-lacks_space row.1.owner;
}

pub perms_of : (path : List ℕ) (mode : ℕ) (owner group line a b c d : List ℕ) → IsFourFields line a b c d → escaped path ≡ a → mode_text mode ≡ b → escaped owner ≡ c → escaped group ≡ d → perms_text (path, record { mode = mode; owner = owner; group = group }) ≡ line
unfolding perms_text
perms_of path mode owner group line a b c d four e f g h = four_text (escaped path) (mode_text mode) (escaped owner) (escaped group) four e f g h

perms-lacks : (row : List ℕ × Perms) → Lacks 10 (perms_text row)
unfolding perms_text
perms-lacks row =
    then-lacks (escaped row.0) (mode_text row.1.mode then escaped row.1.owner then escaped row.1.group) (escaped-lacks_newline row.0)
    (then-lacks (mode_text row.1.mode) (escaped row.1.owner then escaped row.1.group) (mode-lacks 10 row.1.mode (octal-lacks 10 (omega arith)))
    (then-lacks (escaped row.1.owner) (escaped row.1.group) (escaped-lacks_newline row.1.owner) (escaped-lacks_newline row.1.group)))

same_perms : (row other : List ℕ × Perms) → row.0 ≡ other.0 → row.1.mode ≡ other.1.mode → row.1.owner ≡ other.1.owner → row.1.group ≡ other.1.group → row ≡ other
same_perms row other e f g h =
    ap (λ x. (x, record { mode = row.1.mode; owner = row.1.owner; group = row.1.group })) e
    ∙ ap (λ x. (other.0, record { mode = x; owner = row.1.owner; group = row.1.group })) f
    ∙ ap (λ x. (other.0, record { mode = other.1.mode; owner = x; group = row.1.group })) g
    ∙ ap (λ x. (other.0, record { mode = other.1.mode; owner = other.1.owner; group = x })) h

pub perms_tells : (row other : List ℕ × Perms) → IsPermsRow row → IsPermsRow other → perms_text row ≡ perms_text other → row ≡ other
perms_tells row other is is' e =
    let same = same_fields (perms_fields row (perms_text other) e) (perms_fields other (perms_text other) refl) in
    same_perms row other (fields_tell_texts row.0 other.0 same.first) (mode_tells row.1.mode other.1.mode is.1.0 is'.1.0 same.second)
    (fields_tell_texts row.1.owner other.1.owner same.third) (fields_tell_texts row.1.group other.1.group same.fourth)

pub perms_tell : TellsRows perms_text (Rises IsPermsRow)
perms_tell = record {
  lines = λ last row is. perms-lacks row;
  rows = λ last row other is is' e. perms_tells row other is.0 is'.0 e;
}

-- Locks.

pub lock_space : (row : List ℕ × ℕ) (line : List ℕ) → lock_text row ≡ line → Lacks 32 line → ⊥
unfolding lock_text
lock_space row line same lacks = no_cut 32 line row.0 (decimal row.1) lacks (sym same)

pub lock_cut : (row : List ℕ × ℕ) (line key moment : List ℕ) → IsLockRow row → lock_text row ≡ line → IsCut 32 line key moment → (row.0 ≡ key) × (decimal row.1 ≡ moment)
unfolding lock_text
lock_cut row line key moment is e cut = one_cut 32 row.0 (decimal row.1) key moment (key-lacks 32 row.0 refl is.0) cut.first (e ∙ cut.whole)

pub lock_of : (key : List ℕ) (moment : ℕ) (line front rest : List ℕ) → key ≡ front → decimal moment ≡ rest → IsCut 32 line front rest → lock_text (key, moment) ≡ line
unfolding lock_text
lock_of key moment line front rest e f cut = rw (e, f) (sym cut.whole)

lock-lacks : (row : List ℕ × ℕ) → IsLockRow row → Lacks 10 (lock_text row)
unfolding lock_text
lock-lacks row is = then-lacks row.0 (decimal row.1) (key-lacks 10 row.0 refl is.0) (decimal-lacks 10 row.1 refl is.1)

pub lock_tells : (row other : List ℕ × ℕ) → IsLockRow row → IsLockRow other → lock_text row ≡ lock_text other → row ≡ other
unfolding lock_text
lock_tells row other is is' e =
    let same = lock_cut row (lock_text other) other.0 (decimal other.1) is e (record { whole = refl; first = key-lacks 32 other.0 refl is'.0 }) in
    let moments = decimal_injective row.1 other.1 is.1 is'.1 same.1 in
    ap (λ x. (x, row.1)) same.0 ∙ ap (λ x. (other.0, x)) moments

pub locks_tell : TellsRows lock_text (Rises IsLockRow)
locks_tell = record {
  lines = λ last row is. lock-lacks row is.0;
  rows = λ last row other is is' e. lock_tells row other is.0 is'.0 e;
}

-- Locks behind a length of the journal.

pub behind_space : (row : ℕ × (List ℕ × ℕ)) (line : List ℕ) → behind_text row ≡ line → Lacks 32 line → ⊥
unfolding behind_text
behind_space row line same lacks = no_cut 32 line (decimal row.0) (lock_text row.1) lacks (sym same)

pub behind_cut : (row : ℕ × (List ℕ × ℕ)) (line length rest : List ℕ) → IsBehindRow row → behind_text row ≡ line → IsCut 32 line length rest → (decimal row.0 ≡ length) × (lock_text row.1 ≡ rest)
unfolding behind_text
behind_cut row line length rest is e cut = one_cut 32 (decimal row.0) (lock_text row.1) length rest (decimal-lacks 32 row.0 refl is.0) cut.first (e ∙ cut.whole)

pub behind_of : (length : ℕ) (row : List ℕ × ℕ) (line front rest : List ℕ) → decimal length ≡ front → lock_text row ≡ rest → IsCut 32 line front rest → behind_text (length, row) ≡ line
unfolding behind_text
behind_of length row line front rest e f cut = rw (e, f) (sym cut.whole)

-- Places.

-- a key that is told not to be above the one before it
pub not_above : (result : Bool) (last key last' key' : List ℕ) → result ≡ false → (text_cmp last' key' ≡ Less → IsTrue result) → last' ≡ last → key' ≡ key → text_cmp last key ≡ Less → ⊥
not_above result last key last' key' not above e f less =
    let less' : text_cmp last' key' ≡ Less = rw (e, f) less in
    both_ways result not (above less')
