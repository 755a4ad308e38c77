-- What changes nothing that is read of a class, a variable or a promise, and what does.
use Rattle.std.proofs.Common.{◌≡◌, ◌↔◌, ◌∙◌, ℕ, List, [], Bool, true, false, not, Option, Some, None, IfSome, IsTrue, is_some, refl, sym, ap, subst}
use Rattle.std.proofs.lemmas.Bool.{false≢true}
use Rattle.std.proofs.lemmas.Option.{none-some, same_Some}
use Rattle.std.proofs.lemmas.Slice.Eq.{bytes_eq-Decides}
use Rattle.std.specs.Option.{option_or}
use Rattle.std.specs.Str.{bytes_eq}
use Rattle.cfa_base.specs.declared.places.PromiseId.{PromiseId}
use Rattle.cfa_statuses.specs.declared.levels.Status.{Status}
use Rattle.cfa_statuses.specs.Status.{greater}
use Rattle.cfa_outcomes.specs.Environments.{EnvironmentMaps, status_of, source_of}
use Rattle.cfa_vars.specs.declared.scoping.Datum.{Datum}
use Rattle.cfa_vars.specs.declared.scoping.Datum.TheVariants.{Text as a_text, List as a_list}
use Rattle.cfa_states.specs.declared.activations.Activation.{Activation}
use Rattle.cfa_states.specs.declared.remembering.Found.{Found}
use Rattle.cfa_states.specs.declared.states.State.{State}
use Rattle.cfa_states.specs.Kept.{IsRaised, IsNow}

-- ---- classes

nothing : (source : Option PromiseId) → is_some source ≡ false → source ≡ None
nothing None e = refl
nothing (Some id) e = absurd (false≢true (sym e))

turned : (b : Bool) → not b ≡ false → b ≡ true
turned true e = refl
turned false e = sym e

-- where no source is known, none is kept but by a raise without one
pub no_source : (known source : Option PromiseId) (r : Bool) → known ≡ None → is_some source ≡ not r → IsTrue r ↔ (option_or known source ≡ known)
no_source known source r none tells =
    let given : option_or known source ≡ source = ap (λ (k : Option PromiseId). option_or k source) none in (
      λ yes. given ∙ nothing source (tells ∙ ap not yes) ∙ sym none,
      λ same. turned r (sym tells ∙ ap is_some (sym given ∙ same ∙ none)),
    )

module _ (e : EnvironmentMaps) (class : List ℕ) (to : Status) (source : Option PromiseId) (before greatest : Status) where
  pub raise_changes : before ≡ status_of e class → greatest ≡ greater before to → (greatest ≡ before → ⊥) → IsTrue false ↔ IsRaised e class to source
  raise_changes is great differs = (
    λ yes. absurd (false≢true yes),
    λ raised. absurd (differs (great ∙ ap (λ (s : Status). greater s to) is ∙ raised.status ∙ sym is)),
  )

  pub raise_stays : (known : Option PromiseId) (r : Bool) → before ≡ status_of e class → greatest ≡ greater before to → greatest ≡ before → known ≡ source_of e class
      → IsTrue r ↔ (option_or known source ≡ known) → IsTrue r ↔ IsRaised e class to source
  raise_stays known r is great stays there tells =
      let given : option_or known source ≡ option_or (source_of e class) source = ap (λ (k : Option PromiseId). option_or k source) there in (
        λ yes. record {
          status = ap (λ (s : Status). greater s to) (sym is) ∙ sym great ∙ stays ∙ is;
          source_of = sym given ∙ tells.0 yes ∙ there;
        },
        λ raised. tells.1 (given ∙ raised.source_of ∙ sym there),
      )

-- ---- variables

abbrev is_list : Datum → Bool
is_list (a_text text) = false
is_list (a_list items) = true

abbrev text_in : Datum → List ℕ
text_in (a_text text) = text
text_in (a_list items) = []

abbrev items_in : Datum → List (List ℕ)
items_in (a_text text) = []
items_in (a_list items) = items

pub texts_alike : (d e : Datum) (text held : List ℕ) (r : Bool) → d ≡ a_text text → e ≡ a_text held → r ≡ bytes_eq text held → IsTrue r ↔ (d ≡ e)
texts_alike d e text held r is other tells = (
  λ yes. is ∙ ap (λ (t : List ℕ). a_text t) ((bytes_eq-Decides text held).0 (sym tells ∙ yes)) ∙ sym other,
  λ same. tells ∙ (bytes_eq-Decides text held).1 (ap text_in (sym is ∙ same ∙ other)),
)

pub lists_alike : (d e : Datum) (items held : List (List ℕ)) (r : Bool) → d ≡ a_list items → e ≡ a_list held → IsTrue r ↔ (items ≡ held) → IsTrue r ↔ (d ≡ e)
lists_alike d e items held r is other tells = (
  λ yes. is ∙ ap (λ (xs : List (List ℕ)). a_list xs) (tells.0 yes) ∙ sym other,
  λ same. tells.1 (ap items_in (sym is ∙ same ∙ other)),
)

pub text_no_list : (d e : Datum) (text : List ℕ) (held : List (List ℕ)) → d ≡ a_text text → e ≡ a_list held → IsTrue false ↔ (d ≡ e)
text_no_list d e text held is other = (λ yes. absurd (false≢true yes), λ same. ap is_list (sym is ∙ same ∙ other))

pub list_no_text : (d e : Datum) (items : List (List ℕ)) (held : List ℕ) → d ≡ a_list items → e ≡ a_text held → IsTrue false ↔ (d ≡ e)
list_no_text d e items held is other = (λ yes. absurd (false≢true yes), λ same. sym (ap is_list (sym is ∙ same ∙ other)))

pub never_set : (thing : Option Datum) (datum : Datum) → None ≡ thing → IsTrue false ↔ (thing ≡ Some datum)
never_set thing datum none = (λ yes. absurd (false≢true yes), λ some. absurd (none-some datum (none ∙ some)))

pub set_before : (thing : Option Datum) (held datum : Datum) (r : Bool) → Some held ≡ thing → IsTrue r ↔ (held ≡ datum) → IsTrue r ↔ (thing ≡ Some datum)
set_before thing held datum r some tells = (λ yes. sym some ∙ ap Some (tells.0 yes), λ is. tells.1 (same_Some held datum (some ∙ is)))

-- ---- promises

pub found_before : (kept : Option Found) (found : Found) (st : State) (a : Activation) (r : Bool) → kept ≡ Some found → IsTrue r ↔ IsNow found.moment st a → r ≡ false
    → IfSome kept (λ f. IsNow f.moment st a → None ≡ Some f.resolved)
found_before kept found st a r is tells other =
    subst (λ (k : Option Found). IfSome k (λ f. IsNow f.moment st a → None ≡ Some f.resolved)) (sym is)
    (λ now. absurd (false≢true (sym other ∙ tells.1 now)))
