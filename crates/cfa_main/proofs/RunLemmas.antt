-- What is known when a policy was read to be judged or run.
use Rattle.std.proofs.Common.{◌≡◌, ℕ, List, ◌++◌, Option, Ok, Err, IfSome, ap, arith}
use Rattle.cfa_base.specs.lemmas.Options.{some_weaker}
use Rattle.cfa_base.specs.Shown.{Shown, Untouched, IsLeft}
use Rattle.cfa_words.specs.declared.words.Options.{Options}
use Rattle.cfa_outside.specs.Inputs.{Library}
use Rattle.cfa_output.specs.declared.ends.Stop.TheVariants.{Memory}
use Rattle.cfa_output.specs.declared.ends.Failure.{Failure}
use Rattle.cfa_output.specs.declared.ends.Failure.TheVariants.{Stopped}
use Rattle.cfa_schema.specs.declared.checked.Checked.{Checked}
use Rattle.cfa_classes.specs.Calendar.{hard_classes}
use Rattle.cfa_sources.specs.Checks.{IsValidAs}
use Rattle.cfa_sources.specs.Readings.{PolicyRead}
use Rattle.cfa_states.specs.Views.{Setting}
use Rattle.cfa_main.specs.declared.work.PolicyInContext.{PolicyInContext}
use Rattle.cfa_main.specs.declared.work.PolicyRun.{PolicyRun}
use Rattle.cfa_main.specs.Calls.{TakesPolicy, TakesRun}
use Rattle.cfa_main.specs.Stages.{setting_in, PolicyPrepared, RunPrepared}

-- ---- a valid policy

takes_policy : (told : Option Library) (moment : ℕ) (policy : List ℕ) (handed_in : List (List ℕ)) (setting : Setting) →
    IfSome told (λ lib. IsValidAs lib.texts policy setting.policy) → setting.classes ≡ hard_classes moment ++ handed_in →
    IfSome told (λ lib. TakesPolicy lib.texts moment policy handed_in setting)
takes_policy told moment policy handed_in setting is classes_are = some_weaker told _ _ (λ lib _ v. record { valid_as = v; classes_are = classes_are }) is

takes_run : (told : Option Library) (moment : ℕ) (policy : List ℕ) (options : Options) (order : PolicyRun) →
    IfSome told (λ lib. TakesPolicy lib.texts moment policy options.classes (setting_in order.policy)) → order.locks ≡ options.locks → order.strict ≡ options.strict →
    IfSome told (λ lib. TakesRun lib.texts moment policy options (setting_in order.policy) order.locks order.strict)
takes_run told moment policy options order takes locks_are strict_is =
    some_weaker told _ _ (λ lib _ t. record { takes_policy = t; locks_are = locks_are; strict_is = strict_is }) takes

-- what is untouched is left as it was
pub left : {T : Type 0} (before after : Shown T) → Untouched before after → IsLeft before after
left {T} before after un = record {
  told = ap (λ (s : Shown T). s.told) un;
  later = omega (arith, ap (λ (s : Shown T). s.faults) un);
}

-- ---- a policy with its classes

module _ (policy : List ℕ) (handed_in : List (List ℕ)) (moment : ℕ) (inputs inputs' : Shown Library) (pats pats' : Shown (List (List ℕ))) where
  -- what keeps it from being read keeps it from being judged
  pub policy_not_read : (failure : Failure) → PolicyRead policy inputs inputs' pats pats' (Err failure) → PolicyPrepared policy handed_in moment inputs inputs' pats pats' (Err failure)
  policy_not_read failure p = record {
    takes = tt;
    refused = p.refused;
    inputs_are = p.inputs_are;
    patterns_are = p.patterns_are;
  }

  pub policy_without_memory : (checked : Checked) → PolicyRead policy inputs inputs' pats pats' (Ok checked) → PolicyPrepared policy handed_in moment inputs inputs' pats pats' (Err (Stopped Memory))
  policy_without_memory checked p = record {
    takes = tt;
    refused = tt;
    inputs_are = left inputs inputs' p.inputs_are;
    patterns_are = p.patterns_are;
  }

  pub policy_read : (taken : PolicyInContext) → PolicyRead policy inputs inputs' pats pats' (Ok taken.checked) →
      taken.context.classes ≡ hard_classes moment ++ handed_in →
      PolicyPrepared policy handed_in moment inputs inputs' pats pats' (Ok taken)
  policy_read taken p classes_are = record {
    takes = takes_policy inputs.told moment policy handed_in (setting_in taken) p.checked classes_are;
    refused = tt;
    inputs_are = p.inputs_are;
    patterns_are = p.patterns_are;
  }

-- ---- a run

module _ (policy : List ℕ) (options : Options) (moment : ℕ) (inputs inputs' : Shown Library) (pats pats' : Shown (List (List ℕ))) where
  pub run_not_read : (failure : Failure) → PolicyPrepared policy options.classes moment inputs inputs' pats pats' (Err failure) → RunPrepared policy options moment inputs inputs' pats pats' (Err failure)
  run_not_read failure p = record {
    order = tt;
    strict_is = tt;
    refused = p.refused;
    inputs_are = p.inputs_are;
    patterns_are = p.patterns_are;
  }

  pub run_read : (order : PolicyRun) → PolicyPrepared policy options.classes moment inputs inputs' pats pats' (Ok order.policy) →
      order.locks ≡ options.locks → order.strict ≡ options.strict → RunPrepared policy options moment inputs inputs' pats pats' (Ok order)
  run_read order p locks_are strict_is = record {
    order = takes_run inputs.told moment policy options order p.takes locks_are strict_is;
    strict_is = strict_is;
    refused = tt;
    inputs_are = p.inputs_are;
    patterns_are = p.patterns_are;
  }
