-- Worked rows of files that are put: what stands before each.
use Rattle.std.proofs.Common.{◌≡◌, ℕ, false, List, [], ◌∷◌, ◌++◌, Some, None, codes, refl, ap}
use Rattle.std.specs.Fmt.{digits}
use Rattle.std.specs.FinMap as finite
use Rattle.cfa_base.specs.Escapes.{escaped, escape_of}
use Rattle.cfa_outside.specs.declared.worlds.Node.TheVariants.{File, Dir}
use Rattle.cfa_outside.specs.declared.worlds.Perms.{Perms}
use Rattle.cfa_outside.specs.declared.worlds.World.{World}
use Rattle.cfa_outside.specs.declared.sites.Call.TheVariants as calls
use Rattle.cfa_outside.specs.declared.sites.Change.TheVariants.{Append, PutFile}
use Rattle.cfa_outside.specs.declared.sites.Entry.{Entry}
use Rattle.cfa_outside.specs.declared.sites.Entry.TheVariants.{Did, Refused}
use Rattle.cfa_journal.specs.declared.records.Digest.TheVariants.{Nothing, Sha}
use Rattle.cfa_journal.specs.declared.records.Record.TheVariants as records
use Rattle.cfa_journal.specs.Records.{record_text}
use Rattle.cfa_locks.specs.Locks.{digest_of, key_of as lock_key}
use Rattle.cfa_resolve.specs.declared.instances.Instance.{Instance}
use Rattle.cfa_agent.specs.Actuations.{appended, content_digest, changed, done_by, entries_of}

abbrev written : List ℕ → Entry
written line = Did (Append (line ++ 10 ∷ []))

abbrev motd : List ℕ
motd = codes "/etc/motd"

-- a file is made, where none stands
a_made_file : (w : World) → finite.get w.nodes motd ≡ None → changed 1 w (PutFile motd [] ∷ []) ≡
    written (codes "file 1 /etc/motd - " ++ digest_of []) ∷ Did (PutFile motd []) ∷ []
unfolding record_text escaped escape_of digits
a_made_file w none = ap (λ node. appended (records.File 1 motd (content_digest node) (Sha (digest_of []))) ∷ Did (PutFile motd []) ∷ []) none

-- the digest of a file that stands there is told before it gets another content
an_emptied_file : (w : World) (perms : Perms) → finite.get w.nodes motd ≡ Some (File (codes "x") perms) → changed 1 w (PutFile motd [] ∷ []) ≡
    written (codes "file 1 /etc/motd " ++ (digest_of (codes "x") ++ (codes " " ++ digest_of []))) ∷ Did (PutFile motd []) ∷ []
unfolding record_text escaped escape_of digits
an_emptied_file w perms stands = ap (λ node. appended (records.File 1 motd (content_digest node) (Sha (digest_of []))) ∷ Did (PutFile motd []) ∷ []) stands

-- a directory there has none
in_a_directory : (perms : Perms) → content_digest (Some (Dir perms)) ≡ Nothing
in_a_directory perms = refl

-- the first change of a whole repair
a_repair : (w : World) (i : Instance) → finite.get w.nodes motd ≡ None →
    entries_of 7 1 i w (done_by (record { changes = PutFile motd [] ∷ []; failure = None }) None) false ≡
    written (codes "run 7 2")
    ∷ appended (records.Open 1 i.source (lock_key i.text))
    ∷ written (codes "file 1 /etc/motd - " ++ digest_of [])
    ∷ Did (PutFile motd [])
    ∷ written (codes "done 1 repaired 1") ∷ []
unfolding entries_of record_text escaped escape_of digits
a_repair w i none = ap (λ node. written (codes "run 7 2") ∷ appended (records.Open 1 i.source (lock_key i.text)) ∷ appended (records.File 1 motd (content_digest node) (Sha (digest_of []))) ∷ Did (PutFile motd []) ∷ written (codes "done 1 repaired 1") ∷ []) none

-- and where it is refused: it was begun, so its record stands before the call
a_failed_change : (w : World) (i : Instance) → finite.get w.nodes motd ≡ None →
    entries_of 7 1 i w (done_by (record { changes = PutFile motd [] ∷ []; failure = None }) (Some (record { instance = 1; changes = 0; call = calls.Change }))) false ≡
    written (codes "run 7 2")
    ∷ appended (records.Open 1 i.source (lock_key i.text))
    ∷ written (codes "file 1 /etc/motd - " ++ digest_of [])
    ∷ Refused calls.Change
    ∷ written (codes "done 1 failed F11") ∷ []
unfolding entries_of record_text escaped escape_of digits
a_failed_change w i none = ap (λ node. written (codes "run 7 2") ∷ appended (records.Open 1 i.source (lock_key i.text)) ∷ appended (records.File 1 motd (content_digest node) (Sha (digest_of []))) ∷ Refused calls.Change ∷ written (codes "done 1 failed F11") ∷ []) none

-- the look for its digest is refused before any record of the change
a_failed_digest : (w : World) (i : Instance) →
    entries_of 7 1 i w (done_by (record { changes = PutFile motd [] ∷ []; failure = None }) (Some (record { instance = 1; changes = 0; call = calls.Look }))) false ≡
    Refused calls.Look
    ∷ written (codes "run 7 2")
    ∷ appended (records.Fail 1 i.source (lock_key i.text) 11) ∷ []
unfolding entries_of record_text escaped escape_of digits
a_failed_digest w i = refl
