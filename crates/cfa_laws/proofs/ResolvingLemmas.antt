-- A promise resolves to the same instances in a run and in the open walk, where nothing is unsettled in its edit bundle.
use Rattle.std.proofs.Common.{◌≡◌, ℕ, List, [], ◌∷◌, Option, Some, None, refl, ap, ap₂, ◌∙◌}
use Rattle.std.specs.Prelude.{option_map}
use Rattle.std.specs.List.{cons_option}
use Rattle.cfa_base.specs.lemmas.Lists.{none_left, none_right}
use Rattle.cfa_tree.specs.Tree.{ValueTree}
use Rattle.cfa_statuses.specs.declared.levels.Status.{Status}
use Rattle.cfa_vars.specs.Expansion.{Chosen}
use Rattle.cfa_defines.specs.declared.combining.Combined.{Combined}
use Rattle.cfa_defines.specs.declared.combining.Combined.TheVariants.{Lacks as lacks, TooMany as too_many, TooLong as too_long, Found as found}
use Rattle.cfa_defines.specs.OwnTexts.{combined, own_reads}
use Rattle.cfa_resolve.specs.Instances.{Reached, made_instance, handed_instance}
use Rattle.cfa_resolve.specs.Resolution.{caller_of, edit_call, walked_for, scripted_in, unsettled_in, made, instance_in, made_for, instances_for, inner_unsettled, resolved_as, resolution}
use Rattle.cfa_scripts.specs.declared.scripting.Scripted.{Scripted}
use Rattle.cfa_scripts.specs.EditScripts.{walked}
use Rattle.cfa_laws.specs.Statuses.{AllWithin, under, InstancesAreSame}
use Rattle.cfa_laws.proofs.EditLemmas.{scripts_same}

module _ (r : Reached) (f g : List ℕ → Status) (within : AllWithin f g) where
  -- what is made doesn't read the classes
  made_by_any : (choice : Chosen) (scripted : Option Scripted) → made (under r f) choice scripted ≡ made (under r g) choice scripted
  unfolding made made_instance handed_instance
  made_by_any choice scripted = refl

  script_same : (choice : Chosen) (value : Option ValueTree) → unsettled_in (option_map (λ v. walked (caller_of (under r g) choice) v) value) ≡ [] →
      scripted_in (option_map (λ v. walked (caller_of (under r f) choice) v) value) ≡ scripted_in (option_map (λ v. walked (caller_of (under r g) choice) v) value)
  script_same choice None e = refl
  script_same choice (Some value) e = ap Some (scripts_same r.policy r.scopes choice f g within value e)

  one_same : (choice : Chosen) → unsettled_in (walked_for (under r g) choice) ≡ [] → made_for (under r f) choice ≡ made_for (under r g) choice
  one_same choice e =
      made_by_any choice (scripted_in (walked_for (under r f) choice)) ∙ ap (made (under r g) choice) (script_same choice (edit_call r) e)

  all_same : (choices : List Chosen) → inner_unsettled (under r g) choices ≡ [] → instances_for (under r f) choices ≡ instances_for (under r g) choices
  all_same [] e = refl
  all_same (choice ∷ choices) e =
      ap₂ (λ m is. cons_option (instance_in m) is) (one_same choice (none_left (unsettled_in (walked_for (under r g) choice)) (inner_unsettled (under r g) choices) e))
      (all_same choices (none_right (unsettled_in (walked_for (under r g) choice)) (inner_unsettled (under r g) choices) e))

  resolved_same : (c : Combined) → (resolved_as (under r g) c).unsettled ≡ [] → (resolved_as (under r f) c).instances ≡ (resolved_as (under r g) c).instances
  resolved_same (lacks name) e = refl
  resolved_same too_many e = refl
  resolved_same (too_long combinations) e = refl
  resolved_same (found choices) e = all_same choices e

  instances_same : (resolution (under r g)).unsettled ≡ [] → (resolution (under r f)).instances ≡ (resolution (under r g)).instances
  unfolding resolution
  instances_same e = resolved_same (combined r.scopes (own_reads r.type r.promise)) e

pub are_same : InstancesAreSame
are_same r run walk within e = instances_same r run walk within e
