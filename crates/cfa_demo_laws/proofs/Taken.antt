-- A demo is taken under its name as the policy of its tree alone.
use Rattle.std.proofs.Common.{◌≡◌, refl, sym, ap, subst, ℕ, ◌+◌, ◌≤◌, List, [], Some, append-nil, arith}
use Rattle.std.proofs.lemmas.List.{take_all}
use Rattle.cfa_base.specs.declared.limits.TheConstants.{MOST_SOURCE_BYTES}
use Rattle.cfa_demo.specs.Policies.{demo_text}
use Rattle.cfa_served.specs.Control.{inputs_of}
use Rattle.cfa_sources.specs.Sources.{source_of, ReadsFile, ReadsFiles, no_file}
use Rattle.cfa_demo_laws.specs.Trees.{demo_tree}
use Rattle.cfa_demo_laws.specs.Laws.{demo_name, demo_texts, DemoIsValidAs}
use Rattle.cfa_demo_laws.proofs.Texts.{demo_reads}
use Rattle.cfa_demo_laws.proofs.Sizes.{demo_is_text}
use Rattle.cfa_demo_laws.proofs.Validity.{demo_is_valid}

demo_source : (n : ℕ) → n ≤ 10000 → source_of (demo_texts n) demo_name ≡ Some (demo_text n)
demo_source n within =
    let short = (demo_is_text n within).fits in
    ap Some (take_all (MOST_SOURCE_BYTES + 1) (demo_text n) (omega arith))

main_is_read : (n : ℕ) → n ≤ 10000 → ReadsFile (demo_texts n) 0 demo_name (demo_tree n)
main_is_read n within =
    let r = demo_reads n within in
    record {
      source = demo_text n;
      found = demo_source n within;
      reads = record { tokens = r.0; is_text = demo_is_text n within; lexes = r.1; reads = r.2 };
    }

no_inputs : (n : ℕ) → inputs_of (demo_tree n) ≡ []
unfolding inputs_of demo_tree
no_inputs n = refl

inputs_are_read : (n : ℕ) → ReadsFiles (demo_texts n) 1 (inputs_of (demo_tree n)) []
inputs_are_read n = subst (λ (names : List (List ℕ)). ReadsFiles (demo_texts n) 1 names []) (sym (no_inputs n)) no_file

pub demo_is_valid_as : DemoIsValidAs
demo_is_valid_as n within = record {
  main = demo_tree n;
  inputs = [];
  reads = record { main_read = main_is_read n within; inputs_read = inputs_are_read n };
  whole = sym (append-nil (demo_tree n));
  valid = demo_is_valid n within;
}
