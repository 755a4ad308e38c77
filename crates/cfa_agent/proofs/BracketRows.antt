-- Worked rows of bracketed logs: one that is, and some that aren't.
use Rattle.std.proofs.Common.{◌≡◌, ℕ, false, List, [], ◌∷◌, replicate, Some, None, codes, ◌==◌, refl, sym, ap, ◌∙◌, arith}
use Rattle.std.specs.FinMap as finite
use Rattle.std.proofs.lemmas.Bool.{false≢true, eq-eqb}
use Rattle.cfa_base.specs.declared.places.PromiseId.{PromiseId}
use Rattle.cfa_outside.specs.declared.worlds.Node.TheVariants as nodes
use Rattle.cfa_outside.specs.declared.worlds.Perms.{Perms}
use Rattle.cfa_outside.specs.declared.worlds.World.{World}
use Rattle.cfa_outside.specs.declared.sites.Change.TheVariants.{PutFile, PutDir}
use Rattle.cfa_outside.specs.declared.sites.Entry.{Entry}
use Rattle.cfa_outside.specs.declared.sites.Entry.TheVariants.{Did}
use Rattle.cfa_outside.specs.Sites.{after_change}
use Rattle.cfa_journal.specs.declared.positions.Position.TheVariants.{Between, Within}
use Rattle.cfa_journal.specs.declared.positions.Version.TheVariants.{Two}
use Rattle.cfa_journal.specs.declared.records.Digest.TheVariants.{Nothing, Sha}
use Rattle.cfa_journal.specs.declared.records.Record.{Record}
use Rattle.cfa_journal.specs.declared.records.Record.TheVariants.{Run, Run2, Open, File, Repaired, Failed, Fail}
use Rattle.cfa_journal.specs.Records.{IsFilled, record_text}
use Rattle.cfa_locks.specs.Locks.{digest_of}
use Rattle.cfa_locks.specs.lemmas.HexKeys.{is_key-sha256}
use Rattle.cfa_agent.specs.Actuations.{appended, content_digest}
use Rattle.cfa_agent.specs.Bracketed.{first_point, line_of, behind_record, MayBeWritten, MayBeMade, IsBracketedFrom, IsBracketed}
use Rattle.cfa_agent.specs.Standing.{at}

abbrev motd : List ℕ
motd = codes "/etc/motd"

abbrev id : PromiseId
id = record { bundle = codes "main"; number = 1; line = 4 }

abbrev key : List ℕ
key = replicate 64 48

abbrev opened : ℕ → Entry
opened n = appended (Open n id key)

-- ---- a log that is

-- a file is made where none stands
a_repair : (w : World) (path : List ℕ) → IsFilled path → finite.get w.nodes path ≡ None → IsBracketed w (
    appended (Run2 7)
    ∷ opened 1
    ∷ appended (File 1 path Nothing (Sha (digest_of [])))
    ∷ Did (PutFile path [])
    ∷ appended (Repaired 1 1) ∷ [])
unfolding after_change
a_repair w path filled none = (
  Run2 7,
  refl,
  ((omega arith, refl), refl),
  (
    Open 1 id key,
    refl,
    ((((omega arith, omega arith), ((refl, ((omega arith, omega arith), (omega arith, omega arith))), refl)), refl), tt),
    (
      File 1 path Nothing (Sha (digest_of [])),
      refl,
      ((((omega arith, omega arith), (filled, (tt, is_key-sha256 []))), refl), ap content_digest (sym none)),
      (
        (refl, (refl, refl)),
        (
          Repaired 1 1,
          refl,
          ((((omega arith, omega arith), (omega arith, omega arith)), refl), refl),
          tt,
        ),
      ),
    ),
  ),
)

-- ---- logs that aren't

-- by their first bytes, records of other words are others
abbrev first_byte : List ℕ → ℕ
first_byte [] = 0
first_byte (b ∷ bs) = b

apart : (a b : ℕ) → a ≡ b → (a == b) ≡ false → ⊥
apart a b same other = false≢true (sym other ∙ eq-eqb a b same)

-- the first record is the `run`
first_is_run : (w : World) (log : List Entry) (r : Record) → MayBeWritten (first_point w) r → IsBracketedFrom (behind_record (first_point w) r) log → (m : ℕ) × IsBracketedFrom (behind_record (first_point w) (Run2 m)) log
first_is_run w log (Run m) may rest = absurd may.1
first_is_run w log (Run2 m) may rest = (m, rest)
first_is_run w log (Open n i k) may rest = absurd (false≢true may.0.1)
first_is_run w log (File n path before after) may rest = absurd (false≢true may.0.1)
first_is_run w log (Repaired n c) may rest = absurd (false≢true may.0.1)
first_is_run w log (Failed n c) may rest = absurd (false≢true may.0.1)
first_is_run w log (Fail n i k c) may rest = absurd (false≢true may.0.1)

-- a change before its `open`
early_change : (w : World) → IsBracketed w (appended (Run2 7) ∷ Did (PutDir motd) ∷ []) → ⊥
early_change w is =
    let run = first_is_run w (Did (PutDir motd) ∷ []) is.0 is.2 is.3 in
    false≢true run.1.0.0

-- a wrong count: two for one
wrong_count : (w : World) → MayBeWritten (at (Within Two 1) None 1 w) (Repaired 1 2) → ⊥
wrong_count w may = absurd (cc)

-- BEFORE of the new content, where another file stands
wrong_before : (w : World) (perms : Perms) → finite.get w.nodes motd ≡ Some (nodes.File (codes "x") perms) → MayBeWritten (at (Within Two 1) None 0 w) (File 1 motd Nothing (Sha (digest_of []))) → ⊥
wrong_before w perms stands may = let e : Nothing ≡ content_digest (Some (nodes.File (codes "x") perms)) = may.1 ∙ ap content_digest stands in absurd (cc)

-- a `file` record behind its write
late_record : (w : World) → MayBeMade (at (Within Two 1) (Some (Open 1 id key)) 0 w) (PutFile motd []) → ⊥
late_record w may = may.1

-- two open repairs
two_open : (w : World) (r : Record) → MayBeWritten (at (Within Two 1) (Some (Open 1 id key)) 0 w) r → line_of (Open 2 id key) ≡ line_of r → ⊥
unfolding record_text
two_open w (Run m) may e = may.1
two_open w (Run2 m) may e = apart 111 114 (ap first_byte e) refl
two_open w (Open n i k) may e = false≢true may.0.1
two_open w (File n path before after) may e = apart 111 102 (ap first_byte e) refl
two_open w (Repaired n c) may e = apart 111 100 (ap first_byte e) refl
two_open w (Failed n c) may e = apart 111 100 (ap first_byte e) refl
two_open w (Fail n i k c) may e = false≢true may.0.1

-- `done` without its `open`
done_unopened : (w : World) (r : Record) → MayBeWritten (at (Between Two) None 0 w) r → line_of (Repaired 1 1) ≡ line_of r → ⊥
unfolding record_text
done_unopened w (Run m) may e = may.1
done_unopened w (Run2 m) may e = apart 100 114 (ap first_byte e) refl
done_unopened w (Open n i k) may e = apart 100 111 (ap first_byte e) refl
done_unopened w (File n path before after) may e = false≢true may.0.1
done_unopened w (Repaired n c) may e = false≢true may.0.1
done_unopened w (Failed n c) may e = false≢true may.0.1
done_unopened w (Fail n i k c) may e = apart 100 102 (ap first_byte e) refl
