-- The path of a called bundle begins with nothing in it, and no shared scope has it.
use Rattle.std.proofs.Common.{◌≡◌, ◌∙◌, ℕ, false, List, ◌∷◌, refl, ap}
use Rattle.cfa_base.specs.Index.{is_listed}
use Rattle.cfa_base.specs.lemmas.EqualTexts.{same_text}
use Rattle.cfa_outcomes.specs.declared.outcomes.Outcome.TheVariants.{Kept}
use Rattle.cfa_resolve.specs.declared.instances.Instance.{Instance}
use Rattle.cfa_tree.specs.Tree.{PolicyTree}
use Rattle.cfa_vars.specs.declared.scoping.Datum.{Datum}
use Rattle.cfa_states.specs.History.{History, Begun}
use Rattle.cfa_states.specs.Levels.{HasPlainNames}
use Rattle.cfa_states.specs.Tellers.{worst_in, inner_path}
use Rattle.cfa_states.specs.Views.{Setting, shared_names}
use Rattle.cfa_states.specs.lemmas.Spared.{inner_has_newline}

pub begun_kept : (path : List ℕ) (given : List Datum) (h : History) → worst_in (Begun path given ∷ h) path ≡ Kept
begun_kept path given h = rw (same_text path, worst_in) refl

pub unshared : (policy : PolicyTree) (s : Setting) (instance : Instance) → HasPlainNames policy → s.policy ≡ policy → is_listed (shared_names s.policy) (inner_path instance) ≡ false
unshared policy s instance plain same =
    ap (λ (p : PolicyTree). is_listed (shared_names p) (inner_path instance)) same ∙ plain (inner_path instance) (inner_has_newline instance)
