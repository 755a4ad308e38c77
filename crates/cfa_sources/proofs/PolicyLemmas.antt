-- A policy is valid with one tree or refused with one line, and never both.
use Rattle.std.proofs.Common.{◌≡◌, ℕ, List, ◌∷◌, sym, ap, subst, ◌∙◌}
use Rattle.cfa_tree.specs.Tree.{PolicyTree}
use Rattle.cfa_schema.specs.Sourced.{joined}
use Rattle.cfa_served.specs.Control.{inputs_of}
use Rattle.cfa_schema.specs.Valid.{Valid}
use Rattle.cfa_schema.specs.Laws as schema
use Rattle.cfa_sources.specs.Sources.{Texts, ReadsFile, RefusesFile, ReadsFiles, ReadsPolicy, IsNext, main_file, an_input}
use Rattle.cfa_sources.specs.Checks.{RefusesTree, Refuses, of_file, of_tree, IsValidAs, schema_line}
use Rattle.cfa_sources.specs.Laws.{PolicyTreeIsOne, PolicyLineIsOne, PolicyNeverBoth}
use Rattle.cfa_sources.proofs.FileLemmas.{OneAnswer, one_tree, read_or_refused, one_list, one_of_files, one_next}

-- a policy is read to one list of trees
record Same (main main' : PolicyTree) (inputs inputs' : List PolicyTree) : Type 0 where
  main_is : main ≡ main'
  inputs_are : inputs ≡ inputs'

same_files : OneAnswer → {texts : Texts} {policy : List ℕ} {main main' : PolicyTree} {inputs inputs' : List PolicyTree} → ReadsPolicy texts policy main inputs → ReadsPolicy texts policy main' inputs' → Same main main' inputs inputs'
same_files laws {texts} {policy} {main} {main'} {inputs} {inputs'} r q =
    let same : main ≡ main' = one_tree laws r.main_read q.main_read in
    record {
      main_is = same;
      inputs_are = one_list laws r.inputs_read (subst (λ (m : PolicyTree). ReadsFiles texts 1 (inputs_of m) inputs') (sym same) q.inputs_read);
    }

same_joined : (main main' : PolicyTree) (inputs inputs' : List PolicyTree) → Same main main' inputs inputs' → joined (main ∷ inputs) ≡ joined (main' ∷ inputs')
same_joined main main' inputs inputs' s =
    ap (λ (m : PolicyTree). joined (m ∷ inputs)) s.main_is ∙ ap (λ (more : List PolicyTree). joined (main' ∷ more)) s.inputs_are

-- where all files are read, the file that is next is
next_is_read : OneAnswer → {texts : Texts} {policy : List ℕ} {main : PolicyTree} {inputs : List PolicyTree} {file : ℕ} {name : List ℕ} → ReadsPolicy texts policy main inputs → IsNext texts policy file name → (tree : PolicyTree) × ReadsFile texts file name tree
next_is_read laws {main = m} reads main_file = (m, reads.main_read)
next_is_read laws {texts} {policy} {main = m} {inputs = more} reads (an_input {main} {file} {name} read next) =
    let same : main ≡ m = one_tree laws read reads.main_read in
    one_of_files 1 next.before name next.after file next.number (subst (λ (names : List (List ℕ)). ReadsFiles texts 1 names more) (sym (ap inputs_of same) ∙ next.stands) reads.inputs_read)

all_read : OneAnswer → {texts : Texts} {policy : List ℕ} {main : PolicyTree} {inputs : List PolicyTree} {file : ℕ} {name line : List ℕ} → ReadsPolicy texts policy main inputs → IsNext texts policy file name → RefusesFile texts file name line → ⊥
all_read laws reads next refused = read_or_refused laws (next_is_read laws reads next).1 refused

next_line : OneAnswer → {texts : Texts} {policy : List ℕ} {file file' : ℕ} {name name' : List ℕ} (line line' : List ℕ) → IsNext texts policy file name → IsNext texts policy file' name' → RefusesFile texts file name line → RefusesFile texts file' name' line' → line ≡ line'
next_line laws {texts} {policy} line line' main_file main_file r r' = laws.line texts 0 policy line line' r r'
next_line laws line line' main_file (an_input read' next') r r' = absurd (read_or_refused laws read' r)
next_line laws line line' (an_input read next) main_file r r' = absurd (read_or_refused laws read r')
next_line laws {texts} {policy} line line' (an_input {main} {file} {name} read next) (an_input {main = m} {file = k} {name = n} read' next') r r' =
    let same : main ≡ m = one_tree laws read read' in
    one_next laws texts 1 next.before next'.before name n next.after next'.after file k line line' (sym next.stands ∙ (ap inputs_of same ∙ next'.stands)) next.number next'.number next.read next'.read r r'

tree_line : OneAnswer → schema.RefusalIsOne → {texts : Texts} {policy : List ℕ} {main main' : PolicyTree} {inputs inputs' : List PolicyTree} (line line' : List ℕ) → ReadsPolicy texts policy main inputs → ReadsPolicy texts policy main' inputs'
    → RefusesTree policy (inputs_of main) (joined (main ∷ inputs)) line → RefusesTree policy (inputs_of main') (joined (main' ∷ inputs')) line' → line ≡ line'
tree_line laws one {texts} {policy} {main} {main'} {inputs} {inputs'} line line' reads reads' q q' =
    let same = same_files laws reads reads' in
    let at_main : RefusesTree policy (inputs_of main) (joined (main ∷ inputs')) line' = subst (λ (m : PolicyTree). RefusesTree policy (inputs_of m) (joined (m ∷ inputs')) line') (sym same.main_is) q' in
    let here : RefusesTree policy (inputs_of main) (joined (main ∷ inputs)) line' = subst (λ (more : List PolicyTree). RefusesTree policy (inputs_of main) (joined (main ∷ more)) line') (sym same.inputs_are) at_main in
    q.line_is ∙ (ap (schema_line policy (inputs_of main)) (one (joined (main ∷ inputs)) q.refusal here.refusal q.first here.first) ∙ sym here.line_is)

policy_line_by : OneAnswer → schema.RefusalIsOne → (texts : Texts) (policy line other : List ℕ) → Refuses texts policy line → Refuses texts policy other → line ≡ other
policy_line_by laws one texts policy line other (of_file next r) (of_file next' r') = next_line laws line other next next' r r'
policy_line_by laws one texts policy line other (of_file next r) (of_tree reads q) = absurd (all_read laws reads next r)
policy_line_by laws one texts policy line other (of_tree reads q) (of_file next r) = absurd (all_read laws reads next r)
policy_line_by laws one texts policy line other (of_tree reads q) (of_tree reads' q') = tree_line laws one line other reads reads' q q'

valid_or_refused : OneAnswer → schema.NeverBoth → (texts : Texts) (policy line : List ℕ) (tree : PolicyTree) → IsValidAs texts policy tree → Refuses texts policy line → ⊥
valid_or_refused laws never texts policy line tree v (of_file next r) = all_read laws v.reads next r
valid_or_refused laws never texts policy line tree v (of_tree {main} {inputs} reads q) =
    let whole : tree ≡ joined (main ∷ inputs) = v.whole ∙ same_joined v.main main v.inputs inputs (same_files laws v.reads reads) in
    never (joined (main ∷ inputs)) q.refusal (subst Valid whole v.valid) q.first

-- ---- the laws of a policy

pub policy_tree : OneAnswer → PolicyTreeIsOne
policy_tree laws = λ texts policy tree other v w.
    v.whole ∙ (same_joined v.main w.main v.inputs w.inputs (same_files laws v.reads w.reads) ∙ sym w.whole)

pub policy_line : OneAnswer → schema.RefusalIsOne → PolicyLineIsOne
policy_line laws one = λ texts policy line other r q. policy_line_by laws one texts policy line other r q

pub policy_never_both : OneAnswer → schema.NeverBoth → PolicyNeverBoth
policy_never_both laws never = λ texts policy line tree v r. valid_or_refused laws never texts policy line tree v r
