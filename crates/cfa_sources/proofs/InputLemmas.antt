-- The inputs of a policy, read one after another.
use Rattle.std.proofs.Common.{map, length-append, ◌≡◌, ℕ, ◌+◌, ◌<◌, ◌≤◌, List, [], ◌∷◌, ◌++◌, length, get_or, take, drop, Ok, Err, Option, Some, None, refl, sym, ap, subst, ◌∙◌, arith, IfSome, suc, add-one, drop-cons}
use Rattle.std.proofs.lemmas.List.{length-take-le, take-append-drop, take_all, map-append}
use Rattle.std.proofs.lemmas.Grind.{take_at_read}
use Rattle.std.specs.declared.alloc.Global.{Global}
use Rattle.std.specs.declared.vec.Vec.{Vec}
use Rattle.cfa_base.specs.Shown.{Shown}
use Rattle.cfa_outside.specs.Inputs.{Library}
use Rattle.cfa_tree.specs.Tree.{PolicyTree}
use Rattle.cfa_tree.specs.declared.blocks.Policy.{Policy}
use Rattle.cfa_tree.specs.Plain.{plain_policy}
use Rattle.cfa_output.specs.declared.ends.Object.TheVariants.{Inputs, Site, Sink}
use Rattle.cfa_output.specs.declared.ends.Stop.TheVariants.{Outside, Memory, Visits, Pattern}
use Rattle.cfa_output.specs.declared.ends.Failure.{Failure}
use Rattle.cfa_output.specs.declared.ends.Failure.TheVariants.{Refused, Stopped}
use Rattle.cfa_schema.specs.Sourced.{IsRead, AreRead, no_file, a_file}
use Rattle.cfa_sources.specs.Sources as sources
use Rattle.cfa_sources.specs.Sources.{Texts, ReadsFile, RefusesFile, ReadsFiles, InputIsNext}
use Rattle.cfa_sources.specs.Readings.{TreeRead}
use Rattle.cfa_sources.specs.Steps.{AreOfInputs, PartsRead, InputsRead}
use Rattle.cfa_sources.proofs.TextLemmas.{left}

pub both_some : {A : Type 0} (o : Option A) (P Q R : A → Type 0) → ((x : A) → P x → Q x → R x) → IfSome o P → IfSome o Q → IfSome o R
both_some None P Q R f p q = tt
both_some (Some x) P Q R f p q = f x p q

-- one file more is read
one_more_file : {texts : Texts} {file : ℕ} {names : List (List ℕ)} {trees : List PolicyTree} (number : ℕ) {name : List ℕ} {tree : PolicyTree} → number ≡ length names + file → ReadsFiles texts file names trees → ReadsFile texts number name tree → ReadsFiles texts file (names ++ name ∷ []) (trees ++ tree ∷ [])
one_more_file {texts} {file} number {name} {tree} is sources.no_file r = sources.a_file (subst (λ (k : ℕ). ReadsFile texts k name tree) (omega arith) r) sources.no_file
one_more_file number is (sources.a_file q more) r = sources.a_file q (one_more_file number (omega arith) more r)

one_more_tree : {file : ℕ} {trees : List PolicyTree} (number : ℕ) {tree : PolicyTree} → number ≡ length trees + file → AreRead file trees → IsRead number tree → AreRead file (trees ++ tree ∷ [])
one_more_tree {file} number {tree} is no_file r = a_file (subst (λ (k : ℕ). IsRead k tree) (omega arith) r) no_file
one_more_tree number is (a_file q more) r = a_file q (one_more_tree number (omega arith) more r)

length_taken : (names : List (List ℕ)) (i : ℕ) → i ≤ length names → length (take i names) ≡ i
length_taken names i le = length-take-le i names le

taken_more : (names : List (List ℕ)) (i : ℕ) (name : List ℕ) → i < length names → name ≡ get_or names i name → take (i + 1) names ≡ take i names ++ name ∷ []
taken_more names i name lt is = (take_at_read names i name lt).1 ∙ ap (λ n. take i names ++ n ∷ []) (sym is)

parted : (names : List (List ℕ)) (i : ℕ) (name : List ℕ) → i < length names → name ≡ get_or names i name → names ≡ take i names ++ name ∷ drop (i + 1) names
parted names i name lt is =
    let rest : drop i names ≡ name ∷ drop (i + 1) names = rw add-one (drop-cons names i name lt ∙ ap (λ n. n ∷ drop (suc i) names) (sym is)) in
    sym (take-append-drop i names) ∙ ap (λ ns. take i names ++ ns) rest

-- ---- the trees so far

-- no input is read at first
pub parts_first : (told : Option Library) (main : Policy) (names : List (List ℕ)) (parts : List Policy) → parts ≡ main ∷ [] → IsRead 0 (plain_policy main) → PartsRead told (plain_policy main) (take 0 names) (map plain_policy parts)
parts_first told main names parts is read =
    subst (λ (ps : List Policy). PartsRead told (plain_policy main) (take 0 names) (map plain_policy ps)) (sym is) (record {
      count = refl;
      are_read = a_file read no_file;
      of_inputs = each_some told;
    })
  where
    each_some : (o : Option Library) → IfSome o (λ lib. AreOfInputs lib.texts (plain_policy main) (take 0 names) (plain_policy main ∷ []))
    each_some None = tt
    each_some (Some lib) = record { inputs = []; trees_are = refl; read = sources.no_file }

-- one input more is read
more_inputs : (texts : Texts) (main : PolicyTree) (names : List (List ℕ)) (i : ℕ) (name : List ℕ) (trees : List PolicyTree) (tree : PolicyTree) → i < length names → name ≡ get_or names i name
    → AreOfInputs texts main (take i names) trees → ReadsFile texts (i + 1) name tree → AreOfInputs texts main (take (i + 1) names) (trees ++ tree ∷ [])
more_inputs texts main names i name trees tree lt at r q = record {
  inputs = r.inputs ++ tree ∷ [];
  trees_are = ap (λ ts. ts ++ tree ∷ []) r.trees_are;
  read = subst (λ (ns : List (List ℕ)). ReadsFiles texts 1 ns (r.inputs ++ tree ∷ [])) (sym (taken_more names i name lt at))
      (one_more_file (i + 1) (ap (λ k. k + 1) (sym (length_taken names i (omega arith)))) r.read q);
}

more_trees : (told : Option Library) (main : PolicyTree) (names : List (List ℕ)) (i : ℕ) (name : List ℕ) (trees : List PolicyTree) (tree : PolicyTree) → i < length names → name ≡ get_or names i name
    → PartsRead told main (take i names) trees → IsRead (i + 1) tree → IfSome told (λ lib. ReadsFile lib.texts (i + 1) name tree) → PartsRead told main (take (i + 1) names) (trees ++ tree ∷ [])
more_trees told main names i name trees tree lt at before here read = record {
  count = omega (arith, length-append trees (tree ∷ []), before.count, length_taken names i (omega arith), length_taken names (i + 1) (omega arith));
  are_read = one_more_tree (i + 1) (omega (arith, before.count, length_taken names i (omega arith))) before.are_read here;
  of_inputs = both_some told _ _ _ (λ (lib : Library) (r : AreOfInputs lib.texts main (take i names) trees) (q : ReadsFile lib.texts (i + 1) name tree). more_inputs lib.texts main names i name trees tree lt at r q) before.of_inputs read;
}

pub parts_more : (start told after : Shown Library) (main : PolicyTree) (names : List (List ℕ)) (i : ℕ) (name : List ℕ) (parts more : List Policy) (tree : Policy) → i < length names → name ≡ get_or names i name → told ≡ start → more ≡ parts ++ tree ∷ []
    → PartsRead start.told main (take i names) (map plain_policy parts) → TreeRead (i + 1) name told after (Ok tree) → PartsRead start.told main (take (i + 1) names) (map plain_policy more)
parts_more start told after main names i name parts more tree lt at same is before here =
    let there : TreeRead (i + 1) name start after (Ok tree) = subst (λ (s : Shown Library). TreeRead (i + 1) name s after (Ok tree)) same here in
    let mapped : map plain_policy more ≡ map plain_policy parts ++ plain_policy tree ∷ [] = ap (map plain_policy) is ∙ map-append plain_policy parts (tree ∷ []) in
    subst (λ (ts : List PolicyTree). PartsRead start.told main (take (i + 1) names) ts) (sym mapped)
    (more_trees start.told main names i name (map plain_policy parts) (plain_policy tree) lt at before there.is_read there.tree)

-- all are read
pub inputs_read : (start after : Shown Library) (main : PolicyTree) (names : List (List ℕ)) (i : ℕ) (parts : Vec Policy Global) → length names ≤ i → after ≡ start
    → PartsRead start.told main (take i names) (map plain_policy parts.items) → InputsRead main names start after (Ok parts)
inputs_read start after main names i parts le same read = record {
  parts = subst (λ (ns : List (List ℕ)). PartsRead start.told main ns (map plain_policy parts.items)) (take_all i names le) read;
  refused = tt;
  inputs_are = same;
  no_pattern = refl;
}

-- ---- failures

-- the next input, after those that are read
next_input : (texts : Texts) (main : PolicyTree) (names : List (List ℕ)) (i : ℕ) (name : List ℕ) (trees : List PolicyTree) → i < length names → name ≡ get_or names i name → AreOfInputs texts main (take i names) trees → InputIsNext texts names (i + 1) name
next_input texts main names i name trees lt at r = record {
  before = take i names;
  after = drop (i + 1) names;
  trees = r.inputs;
  stands = parted names i name lt at;
  read = r.read;
  number = ap (λ k. k + 1) (sym (length_taken names i (omega arith)));
}

-- memory ended
pub inputs_left : (start after : Shown Library) (main : PolicyTree) (names : List (List ℕ)) → after ≡ start → InputsRead main names start after (Err (Stopped Memory))
inputs_left start after main names same = record { parts = tt; refused = tt; inputs_are = left start after same; no_pattern = refl }

failed_at : (start after : Shown Library) (main : PolicyTree) (names : List (List ℕ)) (i : ℕ) (name : List ℕ) (trees : List PolicyTree) (failure : Failure) → i < length names → name ≡ get_or names i name
    → PartsRead start.told main (take i names) trees → TreeRead (i + 1) name start after (Err failure) → InputsRead main names start after (Err failure)
failed_at start after main names i name trees (Refused line) lt at before here = record {
  parts = tt;
  refused = both_some start.told _ _ _ (λ (lib : Library) (r : AreOfInputs lib.texts main (take i names) trees) (q : RefusesFile lib.texts (i + 1) name line).
      record { file = i + 1; name = name; next = next_input lib.texts main names i name trees lt at r; refuses = q }) before.of_inputs here.refused;
  inputs_are = here.inputs_are;
  no_pattern = refl;
}
failed_at start after main names i name trees (Stopped (Outside Inputs)) lt at before here = record {
  parts = tt;
  refused = tt;
  inputs_are = record {
    name = here.inputs_are.name;
    next = both_some start.told _ _ _ (λ (lib : Library) (r : AreOfInputs lib.texts main (take i names) trees) (e : here.inputs_are.name ≡ name).
        (i + 1, subst (InputIsNext lib.texts names (i + 1)) (sym e) (next_input lib.texts main names i name trees lt at r))) before.of_inputs here.inputs_are.next;
    failed = here.inputs_are.failed;
  };
  no_pattern = refl;
}
failed_at start after main names i name trees (Stopped (Outside Site)) lt at before here = absurd here.inputs_are
failed_at start after main names i name trees (Stopped (Outside Sink)) lt at before here = absurd here.inputs_are
failed_at start after main names i name trees (Stopped Memory) lt at before here = record { parts = tt; refused = tt; inputs_are = here.inputs_are; no_pattern = refl }
failed_at start after main names i name trees (Stopped Visits) lt at before here = absurd here.inputs_are
failed_at start after main names i name trees (Stopped (Pattern text)) lt at before here = record { parts = tt; refused = tt; inputs_are = here.inputs_are; no_pattern = here.no_pattern }

-- the reading of an input failed, or it is refused
pub input_failed : (start told after : Shown Library) (main : PolicyTree) (names : List (List ℕ)) (i : ℕ) (name : List ℕ) (trees : List PolicyTree) (failure : Failure) → i < length names → name ≡ get_or names i name → told ≡ start
    → PartsRead start.told main (take i names) trees → TreeRead (i + 1) name told after (Err failure) → InputsRead main names start after (Err failure)
input_failed start told after main names i name trees failure lt at same before here =
    failed_at start after main names i name trees failure lt at before (subst (λ (s : Shown Library). TreeRead (i + 1) name s after (Err failure)) same here)
