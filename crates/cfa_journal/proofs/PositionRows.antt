-- Records whose lines and places are known.
use Rattle.std.proofs.Common.{◌≡◌, ℕ, true, false, List, [], ◌∷◌, ◌++◌, codes, replicate, refl}
use Rattle.std.specs.Fmt.{decimal}
use Rattle.cfa_base.specs.declared.places.PromiseId.{PromiseId}
use Rattle.cfa_base.specs.Escapes.{escaped, escape_of}
use Rattle.cfa_base.specs.Keys.{is_key}
use Rattle.cfa_journal.specs.declared.records.Digest.TheVariants.{Nothing, Over, Sha}
use Rattle.cfa_journal.specs.declared.records.Record.TheVariants.{Run, Run2, Open, File, Repaired, Failed, Fail}
use Rattle.cfa_journal.specs.declared.positions.Position.TheVariants.{Start}
use Rattle.cfa_journal.specs.Records.{record_text}
use Rattle.cfa_journal.specs.Positions.{is_in_place, behind_all}

abbrev of_main : ℕ → ℕ → PromiseId
of_main number line = record { bundle = codes "main"; number = number; line = line }

abbrev key : List ℕ
key = replicate 64 48

-- the digest of no bytes, by SHA-256
abbrev of_nothing : List ℕ
of_nothing = codes "e3b0c44298fc1c149afbf4c8996fb92427ae41e4649b934ca495991b7852b855"

-- ---- lines

pub run_line : record_text (Run 1704103200) ≡ codes "run " ++ decimal 1704103200
unfolding record_text
run_line = refl

pub run_2_line : record_text (Run2 1704103200) ≡ codes "run " ++ decimal 1704103200 ++ codes " 2"
unfolding record_text
run_2_line = refl

pub file_line : record_text (File 1 (codes "/etc/motd") Nothing (Sha of_nothing)) ≡ codes "file " ++ decimal 1 ++ codes " /etc/motd - e3b0c44298fc1c149afbf4c8996fb92427ae41e4649b934ca495991b7852b855"
unfolding record_text escaped escape_of
file_line = refl

pub escaped_file_line : record_text (File 2 (codes "/a b") Over Nothing) ≡ codes "file " ++ decimal 2 ++ codes " /a%20b * -"
unfolding record_text escaped escape_of
escaped_file_line = refl

-- ---- digests: 63 digits, and upper case

pub sixty_three : is_key (replicate 63 48) ≡ false
sixty_three = refl

pub upper_case : is_key (65 ∷ replicate 63 48) ≡ false
upper_case = refl

-- ---- places

-- a `file` stands behind its `open`, and behind a `file` of the same instance
pub behind_open : is_in_place (behind_all Start (Run2 5 ∷ Open 1 (of_main 1 4) key ∷ [])) (File 1 (codes "/a") Nothing Over) ≡ true
behind_open = refl

pub behind_file : is_in_place (behind_all Start (Run2 5 ∷ Open 1 (of_main 1 4) key ∷ File 1 (codes "/a") Nothing Over ∷ [])) (File 1 (codes "/b") Nothing Over) ≡ true
behind_file = refl

pub done_behind_file : is_in_place (behind_all Start (Run2 5 ∷ Open 1 (of_main 1 4) key ∷ File 1 (codes "/a") Nothing Over ∷ [])) (Repaired 1 1) ≡ true
done_behind_file = refl

-- not in a run of version 1, also where one of version 2 was before
pub version_1 : is_in_place (behind_all Start (Run2 5 ∷ Run 6 ∷ Open 1 (of_main 1 4) key ∷ [])) (File 1 (codes "/a") Nothing Over) ≡ false
version_1 = refl

-- not with another number, nor in another instance
pub other_number : is_in_place (behind_all Start (Run2 5 ∷ Open 1 (of_main 1 4) key ∷ [])) (File 2 (codes "/a") Nothing Over) ≡ false
other_number = refl

pub other_open : is_in_place (behind_all Start (Run2 5 ∷ Open 1 (of_main 1 4) key ∷ Repaired 1 1 ∷ Open 2 (of_main 2 5) key ∷ [])) (File 1 (codes "/a") Nothing Over) ≡ false
other_open = refl

-- not behind a `run`, nor behind the end of its instance
pub behind_run : is_in_place (behind_all Start (Run2 5 ∷ [])) (File 1 (codes "/a") Nothing Over) ≡ false
behind_run = refl

pub behind_done : is_in_place (behind_all Start (Run2 5 ∷ Open 1 (of_main 1 4) key ∷ Repaired 1 1 ∷ [])) (File 1 (codes "/a") Nothing Over) ≡ false
behind_done = refl

-- behind a `file` stands no `done` of another instance, no `open` and no `fail`, but a `run`
pub other_done : is_in_place (behind_all Start (Run2 5 ∷ Open 1 (of_main 1 4) key ∷ File 1 (codes "/a") Nothing Over ∷ [])) (Failed 2 5) ≡ false
other_done = refl

pub open_behind_file : is_in_place (behind_all Start (Run2 5 ∷ Open 1 (of_main 1 4) key ∷ File 1 (codes "/a") Nothing Over ∷ [])) (Open 2 (of_main 2 5) key) ≡ false
open_behind_file = refl

pub fail_behind_file : is_in_place (behind_all Start (Run2 5 ∷ Open 1 (of_main 1 4) key ∷ File 1 (codes "/a") Nothing Over ∷ [])) (Fail 2 (of_main 2 5) key 5) ≡ false
fail_behind_file = refl

pub run_behind_file : is_in_place (behind_all Start (Run2 5 ∷ Open 1 (of_main 1 4) key ∷ File 1 (codes "/a") Nothing Over ∷ [])) (Run 6) ≡ true
run_behind_file = refl

-- a journal begins with a `run` of either version
pub first_run : is_in_place Start (Run 5) ≡ true
first_run = refl

pub first_run_2 : is_in_place Start (Run2 5) ≡ true
first_run_2 = refl

pub first_open : is_in_place Start (Open 1 (of_main 1 4) key) ≡ false
first_open = refl
