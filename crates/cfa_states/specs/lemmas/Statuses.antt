-- Statuses that are tested for being the same.
use Rattle.std.proofs.Common.{◌≡◌, ◌∙◌, Bool, true, false, refl, ap, sym, rules}
use Rattle.std.specs.Prelude.{not}
use Rattle.std.proofs.lemmas.Bool.{false≢true}
use denote.Enum.Bare.{sameb, same_true}
use Rattle.cfa_statuses.specs.contracts.levels.Status.{the_type as the_statuses}
use Rattle.cfa_statuses.specs.declared.levels.Status.{Status}
use Rattle.cfa_statuses.specs.declared.levels.Status.TheVariants.{No, Maybe, Yes}

status_agrees : (status : Status) → sameb the_statuses status status ≡ true
status_agrees No = refl
status_agrees Maybe = refl
status_agrees Yes = refl

pub statuses_agree : (status other : Status) → true ≡ sameb the_statuses status other → status ≡ other
statuses_agree status other e = same_true the_statuses (search rules) _ _ (sym e)

pub statuses_differ : (status other : Status) → false ≡ sameb the_statuses status other → status ≡ other → ⊥
statuses_differ status other e same = false≢true (e ∙ ap (λ x. sameb the_statuses status x) (sym same) ∙ status_agrees status)

pub flipped : (b : Bool) → false ≡ not b → true ≡ b
flipped true e = refl
flipped false e = cc

pub flipped_true : (b : Bool) → true ≡ not b → false ≡ b
flipped_true true e = cc
flipped_true false e = refl
