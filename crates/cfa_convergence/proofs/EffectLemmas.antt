-- What the telling of an instance does to classes.
use Rattle.std.proofs.Common.{◌≡◌, ℕ, Bool, true, false, List, [], ◌∷◌, Some, refl, ap, ◌∙◌}
use Rattle.std.specs.Prelude.{◌||◌}
use Rattle.std.specs.Str.{bytes_eq}
use Rattle.cfa_base.specs.lemmas.EqualTexts.{is_text}
use Rattle.cfa_statuses.specs.declared.levels.Status.{Status}
use Rattle.cfa_statuses.specs.declared.levels.Status.TheVariants.{No, Maybe, Yes}
use Rattle.cfa_statuses.specs.Status.{greater}
use Rattle.cfa_outcomes.specs.declared.outcomes.Outcome.{Outcome}
use Rattle.cfa_resolve.specs.declared.instances.Instance.{Instance}
use Rattle.cfa_base.specs.Index.{is_listed}
use Rattle.cfa_states.specs.History.{History, everywhere, Raised, scope_in, globally, locally, mark_in}
use Rattle.cfa_states.specs.Passes.{raise_each, raised_to, in_every_list}
use Rattle.cfa_laws.specs.Statuses.{Within, no_maybe, yes_maybe, yes_yes}
use Rattle.cfa_laws.specs.lemmas.Within.{within_greater}

abbrev pub raised_if : Bool → Status → Status → Status
raised_if true s g = greater s g
raised_if false s g = g

greater_again : (s g : Status) → greater s (greater s g) ≡ greater s g
greater_again No g = refl
greater_again Maybe No = refl
greater_again Maybe Maybe = refl
greater_again Maybe Yes = refl
greater_again Yes g = refl

module _ (i : Instance) (os : List Outcome) (s : Status) where
  abbrev at_class : List ℕ → Status
  at_class c = raised_to s (in_every_list i os c)

  pub each_global : (cs : List (List ℕ)) (h : History) (x : List ℕ) → globally (raise_each i os s cs h) x ≡ raised_if (is_listed cs x) (at_class x) (globally h x)
  each_global [] h x = refl
  each_global (c ∷ cs) h x = each_global cs (Raised everywhere c (at_class c) (Some i.source) ∷ h) x ∙ go (bytes_eq c x) refl (is_listed cs x)
    where
      go : (b : Bool) → bytes_eq c x ≡ b → (r : Bool) →
          raised_if r (at_class x) (elim b [ true ↦ greater (at_class c) (globally h x) | false ↦ globally h x ]) ≡ raised_if (b || r) (at_class x) (globally h x)
      go true e true = ap (λ y. greater (at_class x) (greater (at_class y) (globally h x))) (is_text c x e) ∙ greater_again (at_class x) (globally h x)
      go true e false = ap (λ y. greater (at_class y) (globally h x)) (is_text c x e)
      go false e r = refl

  pub each_local : (cs : List (List ℕ)) (h : History) (p x : List ℕ) → locally (raise_each i os s cs h) p x ≡ locally h p x
  each_local [] h p x = refl
  each_local (c ∷ cs) h p x = each_local cs (Raised everywhere c (at_class c) (Some i.source) ∷ h) p x

  pub each_scope : (cs : List (List ℕ)) (h : History) (p : List ℕ) → scope_in (raise_each i os s cs h) p ≡ scope_in h p
  each_scope [] h p = refl
  each_scope (c ∷ cs) h p = each_scope cs (Raised everywhere c (at_class c) (Some i.source) ∷ h) p

  pub each_mark : (cs : List (List ℕ)) (h : History) (p x : List ℕ) → mark_in (raise_each i os s cs h) p x ≡ mark_in h p x
  each_mark [] h p x = refl
  each_mark (c ∷ cs) h p x = each_mark cs (Raised everywhere c (at_class c) (Some i.source) ∷ h) p x

-- a run's instance that was kept or repaired, and a walk's that may be either
abbrev pub ToldWithin : Bool → Bool → Bool → Status → Status → Status → Type 0
ToldWithin k r o s g w =
    Within (raised_if o (raised_to Yes (elim o [ true ↦ true | false ↦ false ])) g)
    (raised_if r (raised_to s (elim k [ true ↦ elim r [ true ↦ true | false ↦ false ] | false ↦ false ]))
    (raised_if k (raised_to s (elim k [ true ↦ elim r [ true ↦ true | false ↦ false ] | false ↦ false ])) w))

one_maybe : {g w : Status} → Within g w → Within Yes (greater Maybe w)
one_maybe {g} {w} q = within_greater {r = Yes} {w = Maybe} {s = g} {v = w} yes_maybe q

none_maybe : {g w : Status} → Within g w → Within g (greater Maybe w)
none_maybe {g} {w} q = within_greater {r = No} {w = Maybe} {s = g} {v = w} no_maybe q

both_maybe : {g w : Status} → Within g w → Within Yes (greater Maybe (greater Maybe w))
both_maybe {g} {w} q = one_maybe {g = g} {w = greater Maybe w} (none_maybe q)

-- o is the list that the run raises: k that of kept, r that of repaired
pub within_kept : (k r : Bool) {s g w : Status} → Within Yes s → Within g w → ToldWithin k r k s g w
within_kept true true yes_maybe q = both_maybe q
within_kept true true yes_yes q = yes_yes
within_kept true false v q = one_maybe q
within_kept false true v q = none_maybe q
within_kept false false v q = q

pub within_repaired : (k r : Bool) {s g w : Status} → Within Yes s → Within g w → ToldWithin k r r s g w
within_repaired true true yes_maybe q = both_maybe q
within_repaired true true yes_yes q = yes_yes
within_repaired true false v q = none_maybe q
within_repaired false true v q = one_maybe q
within_repaired false false v q = q

-- a report is kept in both
pub within_report : (k : Bool) {s g w : Status} → Within Yes s → Within g w →
    Within (raised_if k (raised_to Yes (elim k [ true ↦ true | false ↦ false ])) g) (raised_if k (raised_to s (elim k [ true ↦ true | false ↦ false ])) w)
within_report true v q = within_greater v q
within_report false v q = q
