-- The classes that are raised for an outcome, one after the other, and those that are found in an index.
use Rattle.std.proofs.Common.{◌≡◌, ℕ, List, [], ◌∷◌, ◌++◌, Some, refl, Bool, ◌||◌, Option, is_some, sym, ap, ◌∙◌, ◌+◌, ◌<◌, true, false, length, take, get_or, subst}
use Rattle.cfa_statuses.specs.declared.levels.Status.{Status}
use Rattle.cfa_outcomes.specs.declared.outcomes.Outcome.{Outcome}
use Rattle.cfa_resolve.specs.declared.instances.Instance.{Instance}
use Rattle.cfa_states.specs.History.{History, everywhere, Raised}
use Rattle.cfa_states.specs.Passes.{raise_each, raised_to, in_every_list, classes_for}
use Rattle.std.specs.List.{list_any}
use Rattle.std.specs.Str.{bytes_eq}
use Rattle.cfa_base.specs.Index.{place_of, is_listed}
use Rattle.cfa_base.specs.lemmas.EqualTexts.{texts_turned}
use Rattle.cfa_values.specs.Lookups.{has_position}
use Rattle.std.proofs.lemmas.List.{take_more}
use Rattle.std.proofs.lemmas.List.Folds.{list_any_at}
use Rattle.std.proofs.lemmas.Slice.Eq.{bytes_eq-Decides}
use Rattle.cfa_base.specs.declared.places.PromiseId.{PromiseId}
use Rattle.cfa_outcomes.specs.declared.outcomes.Outcome.TheVariants.{Kept, Repaired}
use Rattle.cfa_states.specs.declared.states.State.{State}
use Rattle.cfa_states.specs.Kept.{Keeps}
use Rattle.cfa_states.specs.Views.{Setting}

pub raise_each-last : (instance : Instance) (outcomes : List Outcome) (status : Status) (classes : List (List ℕ)) (class : List ℕ) (h : History) →
    raise_each instance outcomes status (classes ++ class ∷ []) h
    ≡ Raised everywhere class (raised_to status (in_every_list instance outcomes class)) (Some instance.source) ∷ raise_each instance outcomes status classes h
raise_each-last instance outcomes status [] class h = refl
raise_each-last instance outcomes status (c ∷ classes) class h =
    raise_each-last instance outcomes status classes class (Raised everywhere c (raised_to status (in_every_list instance outcomes c)) (Some instance.source) ∷ h)

turned : (classes : List (List ℕ)) (class : List ℕ) → list_any (λ other. bytes_eq class other) classes ≡ is_listed classes class
turned [] class = refl
turned (x ∷ xs) class =
    ap (λ (b : Bool). b || list_any (λ other. bytes_eq class other) xs) (texts_turned class x)
    ∙ ap (λ (b : Bool). bytes_eq x class || b) (turned xs class)

pub class_among : (classes : List (List ℕ)) (class : List ℕ) → is_some (place_of classes class) ≡ is_listed classes class
class_among classes class = has_position (λ other. bytes_eq class other) classes ∙ turned classes class

module _ (classes list : List (List ℕ)) (class text : List ℕ) (found : Option ℕ) (are : list ≡ classes) (same : text ≡ class) (is : found ≡ place_of list text) where
  -- whether a class is found is whether it is in the list
  pub found_is : (b : Bool) → is_some found ≡ b → is_listed classes class ≡ b
  found_is b tested =
      sym (class_among classes class)
      ∙ (sym (ap (λ (x : List (List ℕ)). is_some (place_of x class)) are)
      ∙ (sym (ap (λ (x : List ℕ). is_some (place_of list x)) same) ∙ (sym (ap is_some is) ∙ tested)))

-- ---- the classes of an outcome

-- a class of a list is in it
among : (classes : List (List ℕ)) (i : ℕ) (d : List ℕ) → i < length classes → is_listed classes (get_or classes i d) ≡ true
among classes i d within =
    list_any_at (λ other. bytes_eq other (get_or classes i d)) classes i d within ((bytes_eq-Decides (get_or classes i d) (get_or classes i d)).1 refl)

in_every : (instance : Instance) (outcome : Outcome) (class : List ℕ) → is_listed (classes_for instance outcome) class ≡ true → in_every_list instance (outcome ∷ []) class ≡ true
in_every instance outcome class is = rw (is, in_every_list) refl

-- one more class of the outcome's list is raised
pub outcome_one_more : (s : Setting) (st' : State) (instance : Instance) (outcome : Outcome) (status : Status) (classes : List (List ℕ)) (i : ℕ) (class copy : List ℕ) (source : PromiseId) (h : History) →
    classes ≡ classes_for instance outcome → i < length classes → class ≡ get_or classes i class → copy ≡ class → source ≡ instance.source →
    Keeps s st' (Raised everywhere copy status (Some source) ∷ raise_each instance (outcome ∷ []) status (take i classes) h) →
    Keeps s st' (raise_each instance (outcome ∷ []) status (take (i + 1) classes) h)
outcome_one_more s st' instance outcome status classes i class copy source h are within here copies sources keeps =
    let is : is_listed (classes_for instance outcome) class ≡ true =
    ap (λ (x : List (List ℕ)). is_listed x class) (sym are) ∙ (ap (is_listed classes) here ∙ among classes i class within) in
    let before : History = raise_each instance (outcome ∷ []) status (take i classes) h in
    subst (λ (k : History). Keeps s st' k)
    (ap (λ (x : List ℕ). Raised everywhere x status (Some source) ∷ before) copies
    ∙ (ap (λ (x : PromiseId). Raised everywhere class status (Some x) ∷ before) sources
    ∙ (ap (λ (b : Bool). Raised everywhere class (raised_to status b) (Some instance.source) ∷ before) (sym (in_every instance outcome class is))
    ∙ (sym (raise_each-last instance (outcome ∷ []) status (take i classes) class h)
    ∙ ap (λ (x : List (List ℕ)). raise_each instance (outcome ∷ []) status x h)
    (ap (λ (x : List ℕ). take i classes ++ x ∷ []) here ∙ sym (take_more classes i class within)))))) keeps

-- one more class of an instance that may be kept or repaired is raised
pub both_one_more : (s : Setting) (st' : State) (instance : Instance) (outcomes : List Outcome) (status to : Status) (classes : List (List ℕ)) (i : ℕ) (class copy : List ℕ) (source : PromiseId) (h : History) →
    i < length classes → class ≡ get_or classes i class → copy ≡ class → source ≡ instance.source → to ≡ raised_to status (in_every_list instance outcomes class) →
    Keeps s st' (Raised everywhere copy to (Some source) ∷ raise_each instance outcomes status (take i classes) h) →
    Keeps s st' (raise_each instance outcomes status (take (i + 1) classes) h)
both_one_more s st' instance outcomes status to classes i class copy source h within here copies sources is keeps =
    let before : History = raise_each instance outcomes status (take i classes) h in
    subst (λ (k : History). Keeps s st' k)
    (ap (λ (x : List ℕ). Raised everywhere x to (Some source) ∷ before) copies
    ∙ (ap (λ (x : PromiseId). Raised everywhere class to (Some x) ∷ before) sources
    ∙ (ap (λ (x : Status). Raised everywhere class x (Some instance.source) ∷ before) is
    ∙ (sym (raise_each-last instance outcomes status (take i classes) class h)
    ∙ ap (λ (x : List (List ℕ)). raise_each instance outcomes status x h)
    (ap (λ (x : List ℕ). take i classes ++ x ∷ []) here ∙ sym (take_more classes i class within)))))) keeps

-- whether the lists of an instance that may be kept or repaired have a class
module _ (i : Instance) (class : List ℕ) where
  pub not_in_kept : is_listed i.kept class ≡ false → in_every_list i (Kept ∷ (Repaired ∷ [])) class ≡ false
  not_in_kept lacks = rw (lacks, in_every_list) refl

  pub by_repaired : (b : Bool) → is_listed i.kept class ≡ true → is_listed i.repaired class ≡ b → in_every_list i (Kept ∷ (Repaired ∷ [])) class ≡ b
  by_repaired true has is = rw (has, in_every_list) (rw (is, in_every_list) refl)
  by_repaired false has is = rw (has, in_every_list) (rw (is, in_every_list) refl)
