-- Audits that are known.
use Rattle.std.proofs.Common.{◌≡◌, ℕ, List, [], ◌∷◌, codes, replicate, refl}
use Rattle.cfa_base.specs.declared.places.PromiseId.{PromiseId}
use Rattle.cfa_journal.specs.declared.records.Digest.TheVariants.{Nothing, Sha}
use Rattle.cfa_journal.specs.declared.records.Record.TheVariants.{Run, Run2, Open, File, Repaired, Failed, Fail}
use Rattle.cfa_journal.specs.declared.audits.AuditedRun.{AuditedRun}
use Rattle.cfa_journal.specs.Audits.{runs_of}

abbrev of_main : ℕ → ℕ → PromiseId
of_main number line = record { bundle = codes "main"; number = number; line = line }

abbrev key : List ℕ
key = replicate 64 48

abbrev tells : (moment repaired failed opened : ℕ) → AuditedRun
tells moment repaired failed opened = record { moment = moment; repaired = repaired; failed = failed; opened = opened }

pub of_nothing : runs_of [] ≡ []
of_nothing = refl

-- one repair was finished, and the agent was stopped in the next
pub stopped_in_a_repair : runs_of (Run 5 ∷ Open 1 (of_main 1 4) key ∷ Repaired 1 1 ∷ Open 2 (of_main 2 5) key ∷ []) ≡ tells 5 1 0 1 ∷ []
stopped_in_a_repair = refl

-- the agent was stopped in its first repair, and then repaired all
pub stopped_and_rerun : runs_of (Run 7 ∷ Open 1 (of_main 2 6) key ∷ Run 8 ∷ Open 1 (of_main 2 6) key ∷ Repaired 1 1 ∷ Open 2 (of_main 3 11) key ∷ Repaired 2 1 ∷ []) ≡ tells 7 0 0 1 ∷ tells 8 2 0 0 ∷ []
stopped_and_rerun = refl

-- two promises failed, one of them behind a change; a run in which nothing was to be done has its record alone
pub failures : runs_of (Run 5 ∷ Fail 1 (of_main 1 4) key 5 ∷ Open 2 (of_main 2 5) key ∷ Failed 2 11 ∷ Run 6 ∷ []) ≡ tells 5 0 2 0 ∷ tells 6 0 0 0 ∷ []
failures = refl

-- a run of each version; in the second one repair wrote two files and was finished, and the agent was stopped in the next
pub both_versions : runs_of (Run 5 ∷ Open 1 (of_main 1 4) key ∷ Repaired 1 1 ∷ Run2 6 ∷ Open 1 (of_main 1 4) key ∷ File 1 (codes "/a") Nothing (Sha key) ∷ File 1 (codes "/b") Nothing (Sha key) ∷ Repaired 1 2 ∷ Open 2 (of_main 2 5) key ∷ File 2 (codes "/c") (Sha key) Nothing ∷ []) ≡ tells 5 1 0 0 ∷ tells 6 1 0 1 ∷ []
both_versions = refl
