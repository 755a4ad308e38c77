-- A file is read to one tree or refused with one line, and so are several files.
use Rattle.std.proofs.Common.{◌≡◌, ℕ, ◌+◌, List, [], ◌∷◌, ◌++◌, length, Some, refl, subst, arith}
use Rattle.cfa_base.specs.lemmas.Options.{one_some}
use Rattle.cfa_tree.specs.Tree.{PolicyTree}
use Rattle.cfa_sources.specs.Sources as sources
use Rattle.cfa_sources.specs.Sources.{Texts, source_of, ReadsSource, RefusesSource, ReadsFile, RefusesFile, ReadsFiles}
use Rattle.cfa_sources.specs.Laws.{SourceTreeIsOne, SourceLineIsOne, SourceNeverBoth, FileTreeIsOne, FileLineIsOne, FileNeverBoth}

-- a name has one source
one_source : (texts : Texts) (name source other : List ℕ) → source_of texts name ≡ Some source → source_of texts name ≡ Some other → source ≡ other
one_source texts name source other e f = one_some e f

pub file_tree : SourceTreeIsOne → FileTreeIsOne
file_tree law = λ texts file name tree other r q.
    law file q.source tree other (subst (λ (s : List ℕ). ReadsSource file s tree) (one_source texts name r.source q.source r.found q.found) r.reads) q.reads

pub file_line : SourceLineIsOne → FileLineIsOne
file_line law = λ texts file name line other r q.
    law file name q.source line other (subst (λ (s : List ℕ). RefusesSource file name s line) (one_source texts name r.source q.source r.found q.found) r.refuses) q.refuses

pub file_never_both : SourceNeverBoth → FileNeverBoth
file_never_both law = λ texts file name line tree r q.
    law file name q.source line tree (subst (λ (s : List ℕ). ReadsSource file s tree) (one_source texts name r.source q.source r.found q.found) r.reads) q.refuses

-- ---- several files

pub record OneAnswer : Type 0 where
  pub tree : FileTreeIsOne
  pub line : FileLineIsOne
  pub never_both : FileNeverBoth

pub one_tree : OneAnswer → {texts : Texts} {file : ℕ} {name : List ℕ} {tree other : PolicyTree} → ReadsFile texts file name tree → ReadsFile texts file name other → tree ≡ other
one_tree laws {texts} {file} {name} {tree} {other} r q = laws.tree texts file name tree other r q

pub read_or_refused : OneAnswer → {texts : Texts} {file : ℕ} {name line : List ℕ} {tree : PolicyTree} → ReadsFile texts file name tree → RefusesFile texts file name line → ⊥
read_or_refused laws {texts} {file} {name} {line} {tree} r q = laws.never_both texts file name line tree r q

-- files are read to one list of trees
pub one_list : OneAnswer → {texts : Texts} {file : ℕ} {names : List (List ℕ)} {trees others : List PolicyTree} → ReadsFiles texts file names trees → ReadsFiles texts file names others → trees ≡ others
one_list laws sources.no_file sources.no_file = refl
one_list laws (sources.a_file r more) (sources.a_file q rest) =
    let first = one_tree laws r q in
    let others = one_list laws more rest in
    cc

-- each of several files that are read is read
pub one_of_files : {texts : Texts} (file : ℕ) (before : List (List ℕ)) (name : List ℕ) (after : List (List ℕ)) {trees : List PolicyTree} (number : ℕ) → number ≡ length before + file → ReadsFiles texts file (before ++ name ∷ after) trees → (tree : PolicyTree) × ReadsFile texts number name tree
one_of_files {texts} file [] name after number is (sources.a_file {tree = t} r more) = (t, subst (λ (k : ℕ). ReadsFile texts k name t) (omega arith) r)
one_of_files file (b ∷ before) name after number is (sources.a_file r more) = one_of_files (file + 1) before name after number (omega arith) more

-- the file of a number and name is refused, and another name and number are the same
same_refused : (texts : Texts) (file other : ℕ) (name also line : List ℕ) → file ≡ other → name ≡ also → RefusesFile texts file name line → RefusesFile texts other also line
same_refused texts file other name also line e f r =
    subst (λ (k : ℕ). RefusesFile texts k also line) e (subst (λ (n : List ℕ). RefusesFile texts file n line) f r)

-- the first file that is refused behind files that are read is one
pub one_next : OneAnswer → (texts : Texts) (start : ℕ) (before before' : List (List ℕ)) (name name' : List ℕ) (after after' : List (List ℕ)) {trees trees' : List PolicyTree} (file file' : ℕ) (line line' : List ℕ)
    → before ++ name ∷ after ≡ before' ++ name' ∷ after' → file ≡ length before + start → file' ≡ length before' + start
    → ReadsFiles texts start before trees → ReadsFiles texts start before' trees' → RefusesFile texts file name line → RefusesFile texts file' name' line' → line ≡ line'
one_next laws texts start [] [] name name' after after' file file' line line' same is is' read read' r r' =
    let names : name' ≡ name = cc in
    laws.line texts file name line line' r (same_refused texts file' file name' name line' (omega arith) names r')
one_next laws texts start [] (b ∷ before') name name' after after' file file' line line' same is is' read (sources.a_file q more) r r' =
    let names : name ≡ b = cc in
    absurd (read_or_refused laws q (same_refused texts file start name b line (omega arith) names r))
one_next laws texts start (b ∷ before) [] name name' after after' file file' line line' same is is' (sources.a_file q more) read' r r' =
    let names : name' ≡ b = cc in
    absurd (read_or_refused laws q (same_refused texts file' start name' b line' (omega arith) names r'))
one_next laws texts start (b ∷ before) (b' ∷ before') name name' after after' file file' line line' same is is' (sources.a_file q more) (sources.a_file q' more') r r' =
    let rest : before ++ name ∷ after ≡ before' ++ name' ∷ after' = cc in
    one_next laws texts (start + 1) before before' name name' after after' file file' line line' rest (omega arith) (omega arith) more more' r r'
