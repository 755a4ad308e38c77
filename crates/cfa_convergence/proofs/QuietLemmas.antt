-- What a walk does alone, in a call that the run doesn't make.
use Rattle.std.proofs.Common.{◌≡◌, ℕ, ◌<◌, ◌≤◌, Bool, true, false, List, [], ◌∷◌, Option, Some, refl, sym, ap, subst, ◌∙◌, arith}
use Rattle.std.specs.Prelude.{◌&&◌}
use Rattle.std.specs.Str.{bytes_eq}
use Rattle.cfa_base.specs.declared.places.PromiseId.{PromiseId}
use Rattle.cfa_statuses.specs.declared.levels.Status.{Status}
use Rattle.cfa_statuses.specs.declared.levels.Status.TheVariants.{No, Maybe}
use Rattle.cfa_statuses.specs.Status.{greater}
use Rattle.cfa_outcomes.specs.declared.outcomes.Outcome.{Outcome}
use Rattle.cfa_outcomes.specs.declared.outcomes.Outcome.TheVariants.{Kept, Repaired}
use Rattle.cfa_resolve.specs.declared.instances.Instance.{Instance}
use Rattle.cfa_vars.specs.declared.scoping.Datum.{Datum}
use Rattle.cfa_vars.specs.Named.{put}
use Rattle.cfa_states.specs.History.{History, Where, everywhere, within, Begun, Set, Raised, Reached, Listed, Told, scope_in, globally, locally, mark_in}
use Rattle.cfa_states.specs.Numbered.{Numbered}
use Rattle.cfa_states.specs.Tellers.{inner_path}
use Rattle.cfa_states.specs.Views.{Setting, Home, reached_in_history}
use Rattle.cfa_laws.specs.Keys.{IsPlainId, IsResolved, InstancesAreKeyed}
use Rattle.cfa_convergence.specs.Told.{Telling}
use Rattle.cfa_convergence.proofs.AlwaysLemmas.{Kept_along, steps_along}
use Rattle.cfa_convergence.proofs.DepthLemmas.{depth, depth_inner, deeper_apart}
use Rattle.cfa_convergence.proofs.LevelLemmas.{Steps}
use Rattle.cfa_convergence.proofs.OrderLemmas.{Ahead, ahead_same, ahead_then, ahead_listed}
use Rattle.cfa_convergence.proofs.WithinLemmas.{Lifts, stays, lift_then, lift_maybe, maybe_visit}

-- in the open walk each instance may be kept or repaired
abbrev pub either_way : Telling
either_way = λ h instance. Kept ∷ Repaired ∷ []

module _ (Open : List ℕ → Type 0) where
  -- nothing in the open scopes changes, and no class or mark rises above Maybe
  pub record Quiet (h k : History) : Type 0 where
    pub globals : (c : List ℕ) → Lifts (globally h c) (globally k c)
    pub locals : (p : List ℕ) → Open p → (c : List ℕ) → locally k p c ≡ locally h p c
    pub scopes : (p : List ℕ) → Open p → scope_in k p ≡ scope_in h p
    pub marks : (p x : List ℕ) → Lifts (mark_in h p x) (mark_in k p x)
    pub order : Ahead h k

  pub quiet_same : (h : History) → Quiet h h
  quiet_same h = record { globals = λ c. stays; locals = λ p o c. refl; scopes = λ p o. refl; marks = λ p x. stays; order = ahead_same h }

  pub quiet_then : (a b c : History) → Quiet a b → Quiet b c → Quiet a c
  quiet_then a b c r q = record {
    globals = λ x. lift_then (r.globals x) (q.globals x);
    locals = λ p o x. q.locals p o x ∙ r.locals p o x;
    scopes = λ p o. q.scopes p o ∙ r.scopes p o;
    marks = λ p x. lift_then (r.marks p x) (q.marks p x);
    order = ahead_then a b c r.order q.order;
  }

  lift_if : (b : Bool) (s : Status) → Lifts s (elim b [ true ↦ greater Maybe s | false ↦ s ])
  lift_if true s = lift_maybe s
  lift_if false s = stays

  quiet_told : (i : Instance) (os : List Outcome) (h : History) → Quiet h (Told i os ∷ h)
  quiet_told i os h = record { globals = λ c. stays; locals = λ p o c. refl; scopes = λ p o. refl; marks = λ p x. stays; order = ahead_same h }

  quiet_reached : (home : Home) (p : Numbered) (guard : Status) (is : Bool) (visits : ℕ) (h : History) → Quiet h (Reached home p guard is visits ∷ h)
  quiet_reached home p guard is visits h =
      record { globals = λ c. stays; locals = λ p o c. refl; scopes = λ p o. refl; marks = λ p x. stays; order = ahead_same h }

  quiet_global : (class : List ℕ) (status : Status) (source : PromiseId) (h : History) → status ≡ Maybe → Quiet h (Raised everywhere class status (Some source) ∷ h)
  quiet_global class status source h is = record {
    globals = λ x. subst (λ v. Lifts (globally h x) (globally (Raised everywhere class v (Some source) ∷ h) x)) (sym is) (lift_if (bytes_eq class x) (globally h x));
    locals = λ p o x. refl;
    scopes = λ p o. refl;
    marks = λ p x. stays;
    order = ahead_same h;
  }

  quiet_listed : (i : Instance) (status : Status) (h : History) → status ≡ Maybe → Quiet h (Listed i status ∷ h)
  quiet_listed i status h is = record {
    globals = λ c. stays;
    locals = λ p o c. refl;
    scopes = λ p o. refl;
    marks = λ p x. subst (λ v. Lifts (mark_in h p x) (mark_in (Listed i v ∷ h) p x)) (sym is) (lift_named p x);
    order = ahead_listed i status h;
  }
    where
      lift_named : (p x : List ℕ) → Lifts (mark_in h p x) (mark_in (Listed i Maybe ∷ h) p x)
      lift_named p x = lift_if (bytes_eq i.path p && bytes_eq i.text x) (mark_in h p x)

  -- in scopes that are deeper than the open ones
  module _ (bound : ℕ) (deepest : (p : List ℕ) → Open p → depth p ≤ bound) where
    abbrev pub IsDeep : List ℕ → Type 0
    IsDeep q = bound < depth q

    abbrev pub IsDeepPlace : Where → Type 0
    IsDeepPlace everywhere = ⊥
    IsDeepPlace (within q) = IsDeep q

    other : (q p : List ℕ) → IsDeep q → Open p → bytes_eq q p ≡ false
    other q p deep o = let least = deepest p o in deeper_apart p q (omega arith)

    quiet_begun : (q : List ℕ) (given : List Datum) (h : History) → IsDeep q → Quiet h (Begun q given ∷ h)
    quiet_begun q given h deep = record {
      globals = λ c. stays;
      locals = λ p o c. ap (λ b. elim b [ true ↦ No | false ↦ locally h p c ]) (other q p deep o);
      scopes = λ p o. ap (λ b. elim b [ true ↦ [] | false ↦ scope_in h p ]) (other q p deep o);
      marks = λ p x. stays;
      order = ahead_same h;
    }

    quiet_set : (q name : List ℕ) (datum : Datum) (h : History) → IsDeep q → Quiet h (Set q name datum ∷ h)
    quiet_set q name datum h deep = record {
      globals = λ c. stays;
      locals = λ p o c. refl;
      scopes = λ p o. ap (λ b. elim b [ true ↦ put (scope_in h p) name datum | false ↦ scope_in h p ]) (other q p deep o);
      marks = λ p x. stays;
      order = ahead_same h;
    }

    quiet_raised : (place : Where) (class : List ℕ) (status : Status) (source : Option PromiseId) (h : History) → IsDeepPlace place → Quiet h (Raised place class status source ∷ h)
    quiet_raised everywhere class status source h deep = absurd deep
    quiet_raised (within q) class status source h deep = record {
      globals = λ c. stays;
      locals = λ p o c. ap (λ b. elim (b && bytes_eq class c) [ true ↦ greater status (locally h p c) | false ↦ locally h p c ]) (other q p deep o);
      scopes = λ p o. refl;
      marks = λ p x. stays;
      order = ahead_same h;
    }

    module _ (s : Setting) (keyed : InstancesAreKeyed) (Fine : Home → Numbered → Type 0) (plain : (home : Home) (p : Numbered) → Fine home p → IsPlainId p.id) where
      inner_deep : (path : List ℕ) (i : Instance) → IsResolved path i → IsDeep path → IsDeep (inner_path i)
      inner_deep path i fit deep =
          let same : depth i.path ≡ depth path = ap depth fit.path in
          let less = depth_inner i in
          omega arith

      pub steps_quiet : Steps s either_way either_way (Kept_along Quiet quiet_same quiet_then) IsDeep IsDeepPlace (λ status. status ≡ Maybe) IsResolved Fine
      steps_quiet =
          steps_along Quiet quiet_same quiet_then s either_way IsDeep IsDeepPlace (λ status. status ≡ Maybe) IsResolved Fine
          (λ path deep. deep) inner_deep maybe_visit
          (λ home p type h fine. keyed (reached_in_history s h home type p) (plain home p fine))
          refl quiet_begun quiet_set quiet_raised quiet_global (λ home p guard is visits h fine. quiet_reached home p guard is visits h) (λ path i status h fit is. quiet_listed i status h is)
          (λ path i status h fit has. quiet_told i (Kept ∷ Repaired ∷ []) (Listed i status ∷ h)) (λ path i h fit is. quiet_told i (Kept ∷ []) h) (λ path i h fit is. quiet_told i (Kept ∷ Repaired ∷ []) h)
