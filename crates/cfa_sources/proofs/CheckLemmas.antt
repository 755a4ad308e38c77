-- A policy, by what is read of its files and what the schema answers.
use Rattle.std.proofs.Common.{◌≡◌, ℕ, ◌≤◌, List, [], ◌∷◌, ◌++◌, length, map, take, Result, Ok, Err, Option, Some, None, refl, sym, ap, subst, ◌∙◌, arith, IfSome}
use Rattle.std.specs.List.{flat_map}
use Rattle.std.proofs.lemmas.List.{length-take}
use Rattle.std.specs.declared.alloc.Global.{Global}
use Rattle.std.specs.declared.vec.Vec.{Vec}
use Rattle.std.proofs.lemmas.Option.{IfSome_then}
use Rattle.cfa_base.specs.declared.limits.TheConstants.{MOST_INPUTS}
use Rattle.cfa_base.specs.Shown.{Shown}
use Rattle.cfa_outside.specs.Inputs.{Library}
use Rattle.cfa_tree.specs.Tree.{PolicyTree}
use Rattle.cfa_tree.specs.declared.blocks.Policy.{Policy}
use Rattle.cfa_tree.specs.Plain.{plain_policy}
use Rattle.cfa_output.specs.declared.ends.Object.TheVariants.{Inputs, Site, Sink}
use Rattle.cfa_output.specs.declared.ends.Stop.TheVariants.{Outside, Memory, Visits, Pattern}
use Rattle.cfa_output.specs.declared.ends.Failure.{Failure}
use Rattle.cfa_output.specs.declared.ends.Failure.TheVariants.{Refused, Stopped}
use Rattle.cfa_schema.specs.declared.checked.Checked.{Checked}
use Rattle.cfa_schema.specs.Sourced.{IsSourced, joined}
use Rattle.cfa_served.specs.Control.{inputs_of}
use Rattle.cfa_schema.specs.Valid.{Valid, IsRefusedForSize}
use Rattle.cfa_schema.specs.Seen.{tree_of}
use Rattle.cfa_sources.specs.Sources.{Texts, ReadsFile, RefusesFile, ReadsFiles, ReadsPolicy, InputIsNext, IsNext, main_file, an_input}
use Rattle.cfa_sources.specs.Checks.{RefusesTree, of_file, of_tree}
use Rattle.cfa_sources.specs.Readings.{TreeRead, PolicyRead}
use Rattle.cfa_sources.specs.Steps.{AreOfInputs, RefusesInput, IsNextInput, PartsRead, InputsRead, TreeChecked}
use Rattle.cfa_sources.proofs.TextLemmas.{left}
use Rattle.cfa_sources.proofs.InputLemmas.{both_some}

joined_flat : (parts : List Policy) → joined (map plain_policy parts) ≡ flat_map plain_policy parts
joined_flat [] = refl
joined_flat (p ∷ more) = ap (λ rest. plain_policy p ++ rest) (joined_flat more)

-- what is joined of trees that are read is sourced
pub is_sourced : (told : Option Library) (main : PolicyTree) (names : List (List ℕ)) (parts : List Policy) (whole : PolicyTree) → length names ≤ MOST_INPUTS → PartsRead told main names (map plain_policy parts) → whole ≡ flat_map plain_policy parts → IsSourced whole
is_sourced told main names parts whole few read is = record {
  parts = map plain_policy parts;
  count = omega (arith, read.count, few);
  read = read.are_read;
  whole = is ∙ sym (joined_flat parts);
}

taken_few : (names : List (List ℕ)) → length (take MOST_INPUTS names) ≤ MOST_INPUTS
taken_few names = omega (arith, length-take MOST_INPUTS names)

pub few_inputs : (main : PolicyTree) (names : List (List ℕ)) → names ≡ inputs_of main → length names ≤ MOST_INPUTS
unfolding inputs_of
few_inputs main names is = rw is (taken_few _)

-- ---- the main file

some_or_none : (text : List ℕ) → Some text ≡ None → ⊥
some_or_none text e = cc

-- the reading of the main file failed, or it is refused
pub main_failed : (policy : List ℕ) (start after : Shown Library) (pats : Shown (List (List ℕ))) (failure : Failure) → TreeRead 0 policy start after (Err failure) → PolicyRead policy start after pats pats (Err failure)
main_failed policy start after pats (Refused line) here = record {
  valid = tt;
  checked = tt;
  refused = IfSome_then start.told here.refused (λ (lib : Library) (r : RefusesFile lib.texts 0 policy line). of_file main_file r);
  inputs_are = here.inputs_are;
  patterns_are = refl;
}
main_failed policy start after pats (Stopped (Outside Inputs)) here = record {
  valid = tt;
  checked = tt;
  refused = tt;
  inputs_are = record {
    name = here.inputs_are.name;
    next = IfSome_then start.told here.inputs_are.next (λ (lib : Library) (e : here.inputs_are.name ≡ policy). (0, subst (λ (n : List ℕ). IsNext lib.texts policy 0 n) (sym e) main_file));
    failed = here.inputs_are.failed;
  };
  patterns_are = refl;
}
main_failed policy start after pats (Stopped (Outside Site)) here = absurd here.inputs_are
main_failed policy start after pats (Stopped (Outside Sink)) here = absurd here.inputs_are
main_failed policy start after pats (Stopped Memory) here = record { valid = tt; checked = tt; refused = tt; inputs_are = here.inputs_are; patterns_are = refl }
main_failed policy start after pats (Stopped Visits) here = absurd here.inputs_are
main_failed policy start after pats (Stopped (Pattern text)) here = absurd (some_or_none text here.no_pattern)

-- memory ended
pub policy_left : (policy : List ℕ) (start after : Shown Library) (pats : Shown (List (List ℕ))) → after ≡ start → PolicyRead policy start after pats pats (Err (Stopped Memory))
policy_left policy start after pats same = record { valid = tt; checked = tt; refused = tt; inputs_are = left start after same; patterns_are = refl }

-- ---- the inputs

failed_behind : (policy : List ℕ) (start after : Shown Library) (pats : Shown (List (List ℕ))) (main : PolicyTree) (names : List (List ℕ)) (failure : Failure) → names ≡ inputs_of main
    → IfSome start.told (λ lib. ReadsFile lib.texts 0 policy main) → InputsRead main names start after (Err failure) → PolicyRead policy start after pats pats (Err failure)
failed_behind policy start after pats main names (Refused line) same read here = record {
  valid = tt;
  checked = tt;
  refused = both_some start.told _ _ _ (λ (lib : Library) (r : ReadsFile lib.texts 0 policy main) (q : RefusesInput lib.texts names line).
      of_file (an_input r (subst (λ (ns : List (List ℕ)). InputIsNext lib.texts ns q.file q.name) same q.next)) q.refuses) read here.refused;
  inputs_are = here.inputs_are;
  patterns_are = refl;
}
failed_behind policy start after pats main names (Stopped (Outside Inputs)) same read here = record {
  valid = tt;
  checked = tt;
  refused = tt;
  inputs_are = record {
    name = here.inputs_are.name;
    next = both_some start.told _ _ _ (λ (lib : Library) (r : ReadsFile lib.texts 0 policy main) (q : IsNextInput names lib.texts here.inputs_are.name).
        (q.0, an_input r (subst (λ (ns : List (List ℕ)). InputIsNext lib.texts ns q.0 here.inputs_are.name) same q.1))) read here.inputs_are.next;
    failed = here.inputs_are.failed;
  };
  patterns_are = refl;
}
failed_behind policy start after pats main names (Stopped (Outside Site)) same read here = absurd here.inputs_are
failed_behind policy start after pats main names (Stopped (Outside Sink)) same read here = absurd here.inputs_are
failed_behind policy start after pats main names (Stopped Memory) same read here = record { valid = tt; checked = tt; refused = tt; inputs_are = here.inputs_are; patterns_are = refl }
failed_behind policy start after pats main names (Stopped Visits) same read here = absurd here.inputs_are
failed_behind policy start after pats main names (Stopped (Pattern text)) same read here = absurd (some_or_none text here.no_pattern)

-- what was read of the main file, at the start
main_read : (policy : List ℕ) (start told : Shown Library) (main : Policy) → TreeRead 0 policy start told (Ok main) → IfSome start.told (λ lib. ReadsFile lib.texts 0 policy (plain_policy main))
main_read policy start told main read = read.tree

-- the reading of an input failed, or it is refused
pub later_failed : (policy : List ℕ) (start told after : Shown Library) (pats : Shown (List (List ℕ))) (main : Policy) (names : List (List ℕ)) (failure : Failure) → names ≡ inputs_of (plain_policy main)
    → TreeRead 0 policy start told (Ok main) → InputsRead (plain_policy main) names told after (Err failure) → PolicyRead policy start after pats pats (Err failure)
later_failed policy start told after pats main names failure same read here =
    failed_behind policy start after pats (plain_policy main) names failure same read.tree
    (subst (λ (s : Shown Library). InputsRead (plain_policy main) names s after (Err failure)) read.inputs_are here)

-- the inputs are untouched by readings that succeed
pub untouched : (policy : List ℕ) (start told after : Shown Library) (main : Policy) (names : List (List ℕ)) (parts : Vec Policy Global) → TreeRead 0 policy start told (Ok main) → InputsRead (plain_policy main) names told after (Ok parts) → after ≡ start
untouched policy start told after main names parts read here = here.inputs_are ∙ read.inputs_are

-- ---- the whole policy

policy_reads : (texts : Texts) (policy : List ℕ) (main : PolicyTree) (names : List (List ℕ)) (trees : List PolicyTree) → names ≡ inputs_of main → ReadsFile texts 0 policy main → (r : AreOfInputs texts main names trees) → ReadsPolicy texts policy main r.inputs
policy_reads texts policy main names trees same read r = record { main_read = read; inputs_read = subst (λ (ns : List (List ℕ)). ReadsFiles texts 1 ns r.inputs) same r.read }

checked_at : (policy : List ℕ) (start : Shown Library) (pats pats' : Shown (List (List ℕ))) (main : PolicyTree) (names seen : List (List ℕ)) (trees : List PolicyTree) (result : Result Checked Failure) → names ≡ inputs_of main → seen ≡ inputs_of main
    → IfSome start.told (λ lib. ReadsFile lib.texts 0 policy main) → IfSome start.told (λ lib. AreOfInputs lib.texts main names trees)
    → TreeChecked policy seen (joined trees) pats pats' result → PolicyRead policy start start pats pats' result
checked_at policy start pats pats' main names seen trees (Ok checked) same also read all here =
    let valid : Valid (tree_of checked) = subst Valid (sym here.tree_is) here.valid in
    record {
      valid = valid;
      checked = both_some start.told _ _ _ (λ (lib : Library) (r : ReadsFile lib.texts 0 policy main) (q : AreOfInputs lib.texts main names trees).
          record { main = main; inputs = q.inputs; reads = policy_reads lib.texts policy main names trees same r q; whole = here.tree_is ∙ ap joined q.trees_are; valid = valid }) read all;
      refused = tt;
      inputs_are = refl;
      patterns_are = here.patterns_are;
    }
checked_at policy start pats pats' main names seen trees (Err (Refused line)) same also read all here = record {
  valid = tt;
  checked = tt;
  refused = both_some start.told _ _ _ (λ (lib : Library) (r : ReadsFile lib.texts 0 policy main) (q : AreOfInputs lib.texts main names trees).
      of_tree (policy_reads lib.texts policy main names trees same r q)
      (subst (λ (ts : List PolicyTree). RefusesTree policy (inputs_of main) (joined ts) line) q.trees_are
      (subst (λ (ns : List (List ℕ)). RefusesTree policy ns (joined trees) line) also here.refused))) read all;
  inputs_are = refl;
  patterns_are = here.patterns_are;
}
checked_at policy start pats pats' main names seen trees (Err (Stopped (Outside object))) same also read all here = absurd here.no_object
checked_at policy start pats pats' main names seen trees (Err (Stopped Memory)) same also read all here = record { valid = tt; checked = tt; refused = tt; inputs_are = left start start refl; patterns_are = here.patterns_are }
checked_at policy start pats pats' main names seen trees (Err (Stopped Visits)) same also read all here = absurd here.no_object
checked_at policy start pats pats' main names seen trees (Err (Stopped (Pattern text))) same also read all here = record {
  valid = tt;
  checked = tt;
  refused = tt;
  inputs_are = refl;
  patterns_are = (
    both_some start.told _ _ _ (λ (lib : Library) (r : ReadsFile lib.texts 0 policy main) (q : AreOfInputs lib.texts main names trees).
        record { main = main; inputs = q.inputs; reads = policy_reads lib.texts policy main names trees same r q; cause = subst (λ (ts : List PolicyTree). IsRefusedForSize (joined ts) text) q.trees_are here.patterns_are.0 }) read all,
    here.patterns_are.1,
  );
}

pub policy_checked : (policy : List ℕ) (start told after : Shown Library) (pats pats' : Shown (List (List ℕ))) (main tree : Policy) (names seen : List (List ℕ)) (parts : Vec Policy Global) (result : Result Checked Failure)
    → names ≡ inputs_of (plain_policy main) → seen ≡ inputs_of (plain_policy main) → plain_policy tree ≡ flat_map plain_policy parts.items
    → TreeRead 0 policy start told (Ok main) → InputsRead (plain_policy main) names told after (Ok parts)
    → TreeChecked policy seen (plain_policy tree) pats pats' result → PolicyRead policy start after pats pats' result
policy_checked policy start told after pats pats' main tree names seen parts result same also whole read more here =
    let at_start : InputsRead (plain_policy main) names start after (Ok parts) = subst (λ (s : Shown Library). InputsRead (plain_policy main) names s after (Ok parts)) read.inputs_are more in
    let checked : TreeChecked policy seen (joined (map plain_policy parts.items)) pats pats' result =
    subst (λ (t : PolicyTree). TreeChecked policy seen t pats pats' result) (whole ∙ sym (joined_flat parts.items)) here in
    subst (λ (s : Shown Library). PolicyRead policy start s pats pats' result) (sym at_start.inputs_are)
    (checked_at policy start pats pats' (plain_policy main) names seen (map plain_policy parts.items) result same also read.tree at_start.parts.of_inputs checked)
