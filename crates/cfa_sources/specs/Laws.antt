-- A source, a file and a policy have one answer: each is read to one tree or refused with one line, and never both.
use Rattle.std.specs.Prelude.{◌≡◌, ℕ, List}
use Rattle.cfa_tree.specs.Tree.{PolicyTree}
use Rattle.cfa_sources.specs.Sources.{Texts, ReadsSource, RefusesSource, ReadsFile, RefusesFile}
use Rattle.cfa_sources.specs.Checks.{Refuses, IsValidAs}

-- ---- a source

abbrev pub SourceTreeIsOne : Type 0
SourceTreeIsOne = (file : ℕ) (source : List ℕ) (tree other : PolicyTree) →
    ReadsSource file source tree → ReadsSource file source other → tree ≡ other

abbrev pub SourceLineIsOne : Type 0
SourceLineIsOne = (file : ℕ) (name source line other : List ℕ) →
    RefusesSource file name source line → RefusesSource file name source other → line ≡ other

abbrev pub SourceNeverBoth : Type 0
SourceNeverBoth = (file : ℕ) (name source line : List ℕ) (tree : PolicyTree) →
    ReadsSource file source tree → RefusesSource file name source line → ⊥

-- ---- a file

abbrev pub FileTreeIsOne : Type 0
FileTreeIsOne = (texts : Texts) (file : ℕ) (name : List ℕ) (tree other : PolicyTree) →
    ReadsFile texts file name tree → ReadsFile texts file name other → tree ≡ other

abbrev pub FileLineIsOne : Type 0
FileLineIsOne = (texts : Texts) (file : ℕ) (name line other : List ℕ) →
    RefusesFile texts file name line → RefusesFile texts file name other → line ≡ other

abbrev pub FileNeverBoth : Type 0
FileNeverBoth = (texts : Texts) (file : ℕ) (name line : List ℕ) (tree : PolicyTree) →
    ReadsFile texts file name tree → RefusesFile texts file name line → ⊥

-- ---- a policy

abbrev pub PolicyTreeIsOne : Type 0
PolicyTreeIsOne = (texts : Texts) (policy : List ℕ) (tree other : PolicyTree) →
    IsValidAs texts policy tree → IsValidAs texts policy other → tree ≡ other

abbrev pub PolicyLineIsOne : Type 0
PolicyLineIsOne = (texts : Texts) (policy line other : List ℕ) →
    Refuses texts policy line → Refuses texts policy other → line ≡ other

abbrev pub PolicyNeverBoth : Type 0
PolicyNeverBoth = (texts : Texts) (policy line : List ℕ) (tree : PolicyTree) →
    IsValidAs texts policy tree → Refuses texts policy line → ⊥
