-- How deep calls go. A call goes through its bundle with one level less for the calls inside it, and a run begins with as many
-- levels as the policy has blocks. Here a run stands over calls of any kind, and what calls do behind their last level may be
-- anything.
use Rattle.std.specs.Prelude.{ℕ, zero, suc, List, [], Option, Some}
use Rattle.cfa_kinds.specs.declared.kinds.BundleType.{BundleType}
use Rattle.cfa_kinds.specs.declared.kinds.BundleType.TheVariants as bundles
use Rattle.cfa_served.specs.Control.{sequence_of}
use Rattle.cfa_served.specs.Served.{bundle_of, common_bundles_of}
use Rattle.cfa_states.specs.History.{History, everywhere}
use Rattle.cfa_states.specs.Numbered.{numbered_in, name_of, common_types}
use Rattle.cfa_states.specs.Passes.{Calls, Course, goes, then_on, each, types_from, activation, called_by, type_of_block}
use Rattle.cfa_states.specs.Tellers.{Teller, inner_path}
use Rattle.cfa_states.specs.Views.{Setting}
use Rattle.cfa_statuses.specs.declared.levels.Status.TheVariants.{Yes}
use Rattle.cfa_tree.specs.Tree.{BlockTree}

module _ (s : Setting) (t : Teller) where
  -- calls inside calls, so deep, and others behind the last level
  unfoldable pub calls_before : (others : Calls) → ℕ → Calls
  calls_before others zero = others
  calls_before others (suc n) = λ instance status h. called_by s t (calls_before others n) (inner_path instance) instance.work status h

  -- ---- a run whose calls are these

  abbrev pub common_with : Calls → BlockTree → History → Course
  common_with calls block =
      types_from s t calls everywhere (record { path = name_of block; bundle = name_of block }) Yes (numbered_in block) common_types

  unfoldable pub rounds_with : Calls → ℕ → History → Course
  rounds_with calls zero h = goes h
  rounds_with calls (suc n) h = then_on (each (common_with calls) (common_bundles_of s.policy) h) (rounds_with calls n)

  abbrev pub by_type_with : Calls → (name : List ℕ) → Option BundleType → Option BlockTree → History → Course
  by_type_with calls name (Some bundles.Agent) found h = activation s t calls name Yes [] found h
  by_type_with calls name type found h = goes h

  abbrev pub named_with : Calls → (name : List ℕ) → History → Course
  named_with calls name =
      by_type_with calls name (type_of_block s t (bundle_of s.policy name)) (bundle_of s.policy name)

  unfoldable pub run_with : Calls → Course
  run_with calls = then_on (rounds_with calls 3 []) (each (named_with calls) (sequence_of s.policy))
