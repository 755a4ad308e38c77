-- Worked rows of marks: those that a log gives.
use Rattle.std.proofs.Common.{◌≡◌, ℕ, List, [], ◌∷◌, ◌++◌, codes, refl}
use Rattle.cfa_outside.specs.declared.sites.Call.TheVariants as calls
use Rattle.cfa_outside.specs.declared.sites.Change.TheVariants.{PutFile, PutDir, PutLock, Append}
use Rattle.cfa_outside.specs.declared.sites.Entry.{Entry}
use Rattle.cfa_outside.specs.declared.sites.Entry.TheVariants.{Did, Refused}
use Rattle.cfa_agent.specs.Marks.{closed_in, is_file_record, marks_of}

abbrev written : List ℕ → Entry
written line = Did (Append (line ++ 10 ∷ []))

-- the second change of the twelfth was refused, behind one that was repaired and its lock
a_failed_second :
    marks_of (written (codes "run 7 2") ∷ written (codes "open 11 main:1@4 KEY") ∷ Did (PutDir (codes "/a")) ∷ written (codes "done 11 repaired 1") ∷ Did (PutLock (codes "KEY") 7)
    ∷ written (codes "open 12 main:2@5 KEY") ∷ written (codes "file 12 /b - NEW") ∷ Did (PutFile (codes "/b") []) ∷ written (codes "file 12 /c * NEW") ∷ Refused calls.Change ∷ written (codes "done 12 failed F11") ∷ []) ≡
    record { instance = 12; changes = 1; call = calls.Change } ∷ []
unfolding closed_in is_file_record
a_failed_second = refl

-- a record that was refused stops a run and has no mark
a_failed_record : marks_of (written (codes "run 7 2") ∷ Refused calls.Change ∷ []) ≡ []
unfolding closed_in is_file_record
a_failed_record = refl

-- so has a look for the digest of the second file, behind the first
a_failed_look :
    marks_of (written (codes "run 7 2") ∷ written (codes "open 1 main:1@4 KEY") ∷ written (codes "file 1 /a - NEW") ∷ Did (PutFile (codes "/a") []) ∷ Refused calls.Look ∷ written (codes "done 1 failed F11") ∷ []) ≡
    record { instance = 1; changes = 1; call = calls.Look } ∷ []
unfolding closed_in is_file_record
a_failed_look = refl
