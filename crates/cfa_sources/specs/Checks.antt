-- Which policies are valid, by the texts of their files. A policy is refused with the line of the first file that is refused;
-- where all files are read, with the line of the first refusal of the whole policy, which is the main file with the inputs
-- behind it; else it is valid.
use Rattle.std.specs.Prelude.{ℕ, ◌≡◌, List, ◌∷◌, get_or}
use Rattle.cfa_tree.specs.Tree.{PolicyTree}
use Rattle.cfa_values.specs.declared.refusals.Refusal.{Refusal}
use Rattle.cfa_schema.specs.Sourced.{joined}
use Rattle.cfa_served.specs.Control.{inputs_of}
use Rattle.cfa_schema.specs.Valid.{Valid, FirstRefusal, IsRefusedForSize}
use Rattle.cfa_sources.specs.Headings.{heading_of}
use Rattle.cfa_sources.specs.Lines.{line_at}
use Rattle.cfa_sources.specs.Sources.{Texts, IsNext, RefusesFile, ReadsPolicy}

-- the name of the file of a number: the main file's is that of the policy
abbrev pub file_name : (policy : List ℕ) → (inputs : List (List ℕ)) → ℕ → List ℕ
file_name policy inputs file = get_or (policy ∷ inputs) file policy

-- the line of a refusal, under the name of the file that it stands in
abbrev pub schema_line : (policy : List ℕ) → (inputs : List (List ℕ)) → Refusal → List ℕ
schema_line policy inputs refusal =
    let heading = heading_of refusal.code in
    line_at (file_name policy inputs refusal.place.file) refusal.place heading.code heading.word

-- the tree of all files is refused with the line of its first refusal
pub record RefusesTree (policy : List ℕ) (inputs : List (List ℕ)) (tree : PolicyTree)
    (line : List ℕ) : Type 0 where
  pub refusal : Refusal
  pub first : FirstRefusal tree refusal
  pub line_is : line ≡ schema_line policy inputs refusal

-- a policy is refused with this line
pub data Refuses (texts : Texts) (policy : List ℕ) : (line : List ℕ) → Type 0 where
  of_file : {file : ℕ} {name line : List ℕ} →
      IsNext texts policy file name → RefusesFile texts file name line → Refuses texts policy line
  of_tree : {main : PolicyTree} {inputs : List PolicyTree} {line : List ℕ} →
      ReadsPolicy texts policy main inputs →
      RefusesTree policy (inputs_of main) (joined (main ∷ inputs)) line → Refuses texts policy line

-- a policy is valid, and the tree of all its files is this one
pub record IsValidAs (texts : Texts) (policy : List ℕ) (tree : PolicyTree) : Type 0 where
  pub main : PolicyTree
  pub inputs : List PolicyTree
  pub reads : ReadsPolicy texts policy main inputs
  pub whole : tree ≡ joined (main ∷ inputs)
  pub valid : Valid tree

-- a policy is valid
pub record IsValid (texts : Texts) (policy : List ℕ) : Type 0 where
  pub tree : PolicyTree
  pub valid_as : IsValidAs texts policy tree

-- a policy is refused
pub record IsInvalid (texts : Texts) (policy : List ℕ) : Type 0 where
  pub line : List ℕ
  pub refuses : Refuses texts policy line

-- all files of a policy are read, and this text of its patterns is refused for its size
pub record RefusesSize (texts : Texts) (policy text : List ℕ) : Type 0 where
  pub main : PolicyTree
  pub inputs : List PolicyTree
  pub reads : ReadsPolicy texts policy main inputs
  pub cause : IsRefusedForSize (joined (main ∷ inputs)) text
