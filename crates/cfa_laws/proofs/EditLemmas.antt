-- An edit bundle that nothing is unsettled in makes the same script in a run and in the open walk.
use Rattle.std.proofs.Common.{◌≡◌, ℕ, ◌+◌, Bool, true, false, List, [], ◌∷◌, ◌++◌, map, Option, Some, None, refl, sym, ap, ap₂, subst, ◌∙◌}
use Rattle.std.specs.Prelude.{cond}
use Rattle.std.specs.Str.{bytes_eq}
use Rattle.cfa_base.specs.lemmas.Lists.{none_left, none_right}
use Rattle.cfa_base.specs.lemmas.EqualTexts.{is_text}
use Rattle.cfa_tree.specs.Tree.{ValueTree, BlockTree, PolicyTree}
use Rattle.cfa_kinds.specs.declared.kinds.PromiseType.{PromiseType}
use Rattle.cfa_kinds.specs.declared.kinds.PromiseType.TheVariants as promises
use Rattle.cfa_statuses.specs.declared.levels.Status.{Status}
use Rattle.cfa_statuses.specs.declared.levels.Status.TheVariants.{No, Maybe, Yes}
use Rattle.cfa_statuses.specs.Status.{lesser, greater}
use Rattle.cfa_statuses.specs.Raised.{none_raised, status_in, raised}
use Rattle.cfa_statuses.specs.lemmas.Raised.{status_in-none_raised, status_in-raised}
use Rattle.cfa_served.specs.Served.{bundle_of}
use Rattle.cfa_vars.specs.Scopes.{Table, InScope}
use Rattle.cfa_vars.specs.Expansion.{Chosen}
use Rattle.cfa_bodies.specs.Bodies.{name_given}
use Rattle.cfa_defines.specs.FirstMaybe.{first_maybe_of_guard}
use Rattle.cfa_defines.specs.VarsPromises.{setting_choices, data_set}
use Rattle.cfa_defines.specs.ClassPromises.{Raise, raises_of}
use Rattle.cfa_scripts.specs.EditBundles.{Around, with_each, with_origin, raised_after, guard_under, statuses_at, unsettled_for, unsettled_by, vars_kept, handed_raise, classes_kept, edits_kept, kept_by, guarded, reach, walked_from}
use Rattle.cfa_scripts.specs.EditPromises.{edits_of}
use Rattle.cfa_scripts.specs.EditScripts.{Caller, walk_from_first, walked_by, walked, in_order, concluded}
use Rattle.cfa_scripts.specs.Numbered.{Numbered, numbered_in, name_of}
use Rattle.cfa_laws.specs.Statuses.{Within, no_no, no_maybe, yes_maybe, yes_yes, AllWithin, RaisesAlike}
use Rattle.cfa_laws.proofs.WalkTypes.{Inside, Walk}
use Rattle.cfa_laws.specs.lemmas.Within.{within_lesser, within_greater}
use Rattle.cfa_laws.proofs.GuardLemmas.{guard_first, guard_within}
use Rattle.cfa_laws.proofs.RaiseLemmas.{raises_alike}

-- ---- raises

-- the statuses in a run and in the walk
abbrev RaisedWithin : Inside → Inside → Type 0
RaisedWithin i j = (c : List ℕ) → Within (status_in i.raised c) (status_in j.raised c)

within_cond : (b : Bool) {r w s v : Status} → Within r w → Within s v → Within (cond b r s) (cond b w v)
within_cond true p q = p
within_cond false p q = q

-- a raise to Maybe at most in the walk alone
within_raise : (b : Bool) (s : Status) {r w : Status} → Within r w → Within r (cond b (greater w (lesser Maybe s)) w)
within_raise false s q = q
within_raise true No no_no = no_no
within_raise true No no_maybe = no_maybe
within_raise true No yes_maybe = yes_maybe
within_raise true No yes_yes = yes_yes
within_raise true Maybe no_no = no_maybe
within_raise true Maybe no_maybe = no_maybe
within_raise true Maybe yes_maybe = yes_maybe
within_raise true Maybe yes_yes = yes_yes
within_raise true Yes no_no = no_maybe
within_raise true Yes no_maybe = no_maybe
within_raise true Yes yes_maybe = yes_maybe
within_raise true Yes yes_yes = yes_yes

one_raised : (i j : Inside) → RaisedWithin i j → (cls other : List ℕ) → cls ≡ other → (r w : Status) → Within r w →
    (c : List ℕ) → Within (status_in (raised i.raised cls r) c) (status_in (raised j.raised other w) c)
one_raised i j within cls other same r w v c =
    subst (λ s. Within s (status_in (raised j.raised other w) c)) (sym (status_in-raised i.raised cls r c))
    (subst (λ s. Within (cond (bytes_eq cls c) (greater (status_in i.raised cls) r) (status_in i.raised c)) s) (sym (status_in-raised j.raised other w c))
    (subst (λ n. Within (cond (bytes_eq cls c) (greater (status_in i.raised cls) r) (status_in i.raised c)) (cond (bytes_eq n c) (greater (status_in j.raised n) w) (status_in j.raised c))) same
    (within_cond (bytes_eq cls c) (within_greater (within cls) v) (within c))))

alone_raised : (i j : Inside) → RaisedWithin i j → (cls : List ℕ) (s : Status) (c : List ℕ) → Within (status_in i.raised c) (status_in (raised j.raised cls (lesser Maybe s)) c)
alone_raised i j within cls s c =
    subst (λ t. Within (status_in i.raised c) t) (sym (status_in-raised j.raised cls (lesser Maybe s) c)) (go (bytes_eq cls c) refl)
  where
    go : (b : Bool) → bytes_eq cls c ≡ b → Within (status_in i.raised c) (cond b (greater (status_in j.raised cls) (lesser Maybe s)) (status_in j.raised c))
    go true e = subst (λ n. Within (status_in i.raised c) (greater (status_in j.raised n) (lesser Maybe s))) (sym (is_text cls c e)) (within_raise true s (within c))
    go false e = within c

module _ (around : Around) (before : Inside) (guard : Status) (in_guard : Option (List ℕ)) where
  own_after : (rs : List Raise) (i : Inside) → (raised_after i (map (handed_raise around before guard in_guard) rs)).own ≡ i.own
  own_after [] i = refl
  own_after (r ∷ rs) i =
      let one = handed_raise around before guard in_guard r in
      own_after rs (record i { raised = raised i.raised one.class one.to; origins = with_origin i.origins one.class one.origin })

raised_both : (a b : Around) (before before' : Inside) (ig ig' : Option (List ℕ)) (gr gw : Status) → Within gr gw → (rs ws : List Raise) → RaisesAlike rs ws → (i j : Inside) → RaisedWithin i j →
    RaisedWithin (raised_after i (map (handed_raise a before gr ig) rs)) (raised_after j (map (handed_raise b before' gw ig') ws))
raised_both a b before before' ig ig' gr gw v [] [] alike i j within = within
raised_both a b before before' ig ig' gr gw v [] (w ∷ ws) alike i j within = absurd alike
raised_both a b before before' ig ig' gr gw v (r ∷ rs) [] alike i j within = absurd alike
raised_both a b before before' ig ig' gr gw v (r ∷ rs) (w ∷ ws) alike i j within =
    let x = handed_raise a before gr ig r in
    let y = handed_raise b before' gw ig' w in
    raised_both a b before before' ig ig' gr gw v rs ws alike.2
    (record i { raised = raised i.raised x.class x.to; origins = with_origin i.origins x.class x.origin })
    (record j { raised = raised j.raised y.class y.to; origins = with_origin j.origins y.class y.origin })
    (one_raised i j within r.0 w.0 alike.0 (lesser gr r.1.0) (lesser gw w.1.0) (within_lesser v alike.1))

raised_alone : (b : Around) (before : Inside) (ig : Option (List ℕ)) (ws : List Raise) (i j : Inside) → RaisedWithin i j →
    RaisedWithin i (raised_after j (map (handed_raise b before Maybe ig) ws))
raised_alone b before ig [] i j within = within
raised_alone b before ig (w ∷ ws) i j within =
    let y = handed_raise b before Maybe ig w in
    raised_alone b before ig ws i (record j { raised = raised j.raised y.class y.to; origins = with_origin j.origins y.class y.origin })
    (alone_raised i j within w.0 w.1.0)

-- ---- walks

record WalksAlike (run walk : Walk) : Type 0 where
  own : run.inside.own ≡ walk.inside.own
  raised : RaisedWithin run.inside walk.inside
  edits : run.edits ≡ walk.edits

module _ (policy : PolicyTree) (bundle : List ℕ) (shared : List (List ℕ × Table)) where
  abbrev around : (List ℕ → Status) → Around
  around status = record { policy = policy; bundle = bundle; shared = shared; statuses = status }

  -- nothing unsettled is forgotten
  module _ (g : List ℕ → Status) where
    kept_before : (w : Walk) (p : Numbered) (guard : Status) (type : PromiseType) → (kept_by (around g) w p guard type).unsettled ≡ [] → w.unsettled ≡ []
    kept_before w p guard promises.Vars e = none_left w.unsettled (unsettled_by (around g) w.inside p guard) e
    kept_before w p guard promises.Classes e = e
    kept_before w p guard type e = none_left w.unsettled (unsettled_by (around g) w.inside p guard) e

    guarded_before : (w : Walk) (p : Numbered) (guard : Status) → (guarded (around g) w p guard).unsettled ≡ [] → w.unsettled ≡ []
    guarded_before w p No e = e
    guarded_before w p Maybe e = kept_before w p Maybe p.type e
    guarded_before w p Yes e = kept_before w p Yes p.type e

    reach_before : (w : Walk) (p : Numbered) → (reach (around g) w p).unsettled ≡ [] → w.unsettled ≡ []
    unfolding reach
    reach_before w p e = guarded_before w p (guard_under (statuses_at (around g) w.inside) p.promise.guard) e

    walked_before : (w : Walk) (ps : List Numbered) → (walked_from (around g) w ps).unsettled ≡ [] → w.unsettled ≡ []
    walked_before w [] e = e
    walked_before w (p ∷ ps) e = reach_before w p (walked_before (reach (around g) w p) ps e)

    -- a guard that may hold or not is unsettled
    is_unsettled : (w : Walk) (p : Numbered) → guard_under (statuses_at (around g) w.inside) p.promise.guard ≡ Maybe → w.unsettled ++ unsettled_by (around g) w.inside p Maybe ≡ [] → ⊥
    is_unsettled w p is e =
        let first = guard_first (statuses_at (around g) w.inside) p.promise.guard is in
        let none : unsettled_for (around g) w.inside p.id (Some first.0) ≡ [] =
        ap (unsettled_for (around g) w.inside p.id) (sym first.1) ∙ none_right w.unsettled (unsettled_by (around g) w.inside p Maybe) e in
        cc

  module _ (f g : List ℕ → Status) (within : AllWithin f g) where
    statuses_within : (r w : Walk) → WalksAlike r w → (c : List ℕ) → Within (statuses_at (around f) r.inside c) (statuses_at (around g) w.inside c)
    statuses_within r w alike c = within_greater (within c) (alike.raised c)

    abbrev scope : Table → InScope
    scope own = record { own = own; own_name = bundle; shared = shared }

    vars_alike : (r w : Walk) (p : Numbered) (gr gw : Status) → WalksAlike r w →
        WalksAlike (vars_kept (around f) r p gr (setting_choices (scope r.inside.own) promises.Vars p.promise)) (vars_kept (around g) w p gw (setting_choices (scope w.inside.own) promises.Vars p.promise))
    vars_alike r w p gr gw alike = record {
      own = ap (λ o. with_each o p.promise.promiser (data_set (scope o) p.promise (setting_choices (scope o) promises.Vars p.promise))) alike.own;
      raised = alike.raised;
      edits = alike.edits;
    }

    edits_alike : (r w : Walk) (p : Numbered) (gr gw : Status) → WalksAlike r w → WalksAlike (edits_kept (around f) r p gr) (edits_kept (around g) w p gw)
    edits_alike r w p gr gw alike = record {
      own = alike.own;
      raised = alike.raised;
      edits = ap₂ (λ es o. es ++ edits_of policy (scope o) p.type p.promise) alike.edits alike.own;
    }

    raises_of_both : (r w : Walk) (p : Numbered) → WalksAlike r w →
        RaisesAlike (raises_of (statuses_at (around f) r.inside) (scope r.inside.own) p.promise (setting_choices (scope r.inside.own) promises.Classes p.promise))
        (raises_of (statuses_at (around g) w.inside) (scope w.inside.own) p.promise (setting_choices (scope w.inside.own) promises.Classes p.promise))
    raises_of_both r w p alike =
        subst (λ o. RaisesAlike (raises_of (statuses_at (around f) r.inside) (scope r.inside.own) p.promise (setting_choices (scope r.inside.own) promises.Classes p.promise))
        (raises_of (statuses_at (around g) w.inside) (scope o) p.promise (setting_choices (scope o) promises.Classes p.promise))) alike.own
        (raises_alike (statuses_at (around f) r.inside) (statuses_at (around g) w.inside) (statuses_within r w alike) (scope r.inside.own) p.promise (setting_choices (scope r.inside.own) promises.Classes p.promise))

    classes_alike : (r w : Walk) (p : Numbered) (gr gw : Status) → Within gr gw → WalksAlike r w →
        WalksAlike (classes_kept (around f) r p gr (setting_choices (scope r.inside.own) promises.Classes p.promise)) (classes_kept (around g) w p gw (setting_choices (scope w.inside.own) promises.Classes p.promise))
    classes_alike r w p gr gw v alike =
        let ir = first_maybe_of_guard p.promise.guard (statuses_at (around f) r.inside) in
        let iw = first_maybe_of_guard p.promise.guard (statuses_at (around g) w.inside) in
        let rs = raises_of (statuses_at (around f) r.inside) (scope r.inside.own) p.promise (setting_choices (scope r.inside.own) promises.Classes p.promise) in
        let ws = raises_of (statuses_at (around g) w.inside) (scope w.inside.own) p.promise (setting_choices (scope w.inside.own) promises.Classes p.promise) in
        record {
          own = own_after (around f) r.inside gr ir rs r.inside ∙ alike.own ∙ sym (own_after (around g) w.inside gw iw ws w.inside);
          raised = raised_both (around f) (around g) r.inside w.inside ir iw gr gw v rs ws (raises_of_both r w p alike) r.inside w.inside alike.raised;
          edits = alike.edits;
        }

    classes_alone : (r w : Walk) (p : Numbered) (visits : ℕ) → WalksAlike r w →
        WalksAlike (record r { visits = visits }) (classes_kept (around g) w p Maybe (setting_choices (scope w.inside.own) promises.Classes p.promise))
    classes_alone r w p visits alike =
        let iw = first_maybe_of_guard p.promise.guard (statuses_at (around g) w.inside) in
        let ws = raises_of (statuses_at (around g) w.inside) (scope w.inside.own) p.promise (setting_choices (scope w.inside.own) promises.Classes p.promise) in
        record {
          own = alike.own ∙ sym (own_after (around g) w.inside Maybe iw ws w.inside);
          raised = raised_alone (around g) w.inside iw ws r.inside w.inside alike.raised;
          edits = alike.edits;
        }

    kept_both : (r w : Walk) (p : Numbered) (type : PromiseType) → WalksAlike r w → WalksAlike (kept_by (around f) r p Yes type) (kept_by (around g) w p Yes type)
    kept_both r w p promises.Vars alike = vars_alike r w p Yes Yes alike
    kept_both r w p promises.Classes alike = classes_alike r w p Yes Yes yes_yes alike
    kept_both r w p type alike = edits_alike r w p Yes Yes alike

    -- the walk's guard may hold or not
    kept_maybe : (r w : Walk) (p : Numbered) (type : PromiseType) → guard_under (statuses_at (around g) w.inside) p.promise.guard ≡ Maybe → WalksAlike r w → (kept_by (around g) w p Maybe type).unsettled ≡ [] →
        WalksAlike (kept_by (around f) r p Yes type) (kept_by (around g) w p Maybe type)
    kept_maybe r w p promises.Vars is alike e = absurd (is_unsettled g w p is e)
    kept_maybe r w p promises.Classes is alike e = classes_alike r w p Yes Maybe yes_maybe alike
    kept_maybe r w p type is alike e = absurd (is_unsettled g w p is e)

    kept_alone : (r w : Walk) (p : Numbered) (type : PromiseType) → guard_under (statuses_at (around g) w.inside) p.promise.guard ≡ Maybe → WalksAlike r w → (kept_by (around g) w p Maybe type).unsettled ≡ [] →
        WalksAlike (record r { visits = r.visits + 1 }) (kept_by (around g) w p Maybe type)
    kept_alone r w p promises.Vars is alike e = absurd (is_unsettled g w p is e)
    kept_alone r w p promises.Classes is alike e = classes_alone r w p (r.visits + 1) alike
    kept_alone r w p type is alike e = absurd (is_unsettled g w p is e)

    guarded_both : (r w : Walk) (p : Numbered) (gr gw : Status) → Within gr gw → guard_under (statuses_at (around g) w.inside) p.promise.guard ≡ gw → WalksAlike r w →
        (guarded (around g) w p gw).unsettled ≡ [] → WalksAlike (guarded (around f) r p gr) (guarded (around g) w p gw)
    guarded_both r w p No No v is alike e = record { own = alike.own; raised = alike.raised; edits = alike.edits }
    guarded_both r w p No Maybe v is alike e = kept_alone r w p p.type is alike e
    guarded_both r w p Yes Maybe v is alike e = kept_maybe r w p p.type is alike e
    guarded_both r w p Yes Yes v is alike e = kept_both r w p p.type alike
    guarded_both r w p No Yes v is alike e = elim v [ ]
    guarded_both r w p Yes No v is alike e = elim v [ ]
    guarded_both r w p Maybe gw v is alike e = elim v [ ]

    reach_both : (r w : Walk) (p : Numbered) → WalksAlike r w → (reach (around g) w p).unsettled ≡ [] → WalksAlike (reach (around f) r p) (reach (around g) w p)
    unfolding reach
    reach_both r w p alike e =
        guarded_both r w p (guard_under (statuses_at (around f) r.inside) p.promise.guard) (guard_under (statuses_at (around g) w.inside) p.promise.guard)
        (guard_within (statuses_at (around f) r.inside) (statuses_at (around g) w.inside) (statuses_within r w alike) p.promise.guard) refl alike e

    walked_both : (ps : List Numbered) (r w : Walk) → WalksAlike r w → (walked_from (around g) w ps).unsettled ≡ [] → WalksAlike (walked_from (around f) r ps) (walked_from (around g) w ps)
    walked_both [] r w alike e = alike
    walked_both (p ∷ ps) r w alike e =
        walked_both ps (reach (around f) r p) (reach (around g) w p) (reach_both r w p alike (walked_before g (reach (around g) w p) ps e)) e

-- ---- the script of a caller

module _ (policy : PolicyTree) (scopes : InScope) (choice : Chosen) (f g : List ℕ → Status) (within : AllWithin f g) where
  abbrev pub caller : (List ℕ → Status) → Caller
  caller status = record { policy = policy; scopes = scopes; statuses = status; choice = choice }

  -- a fresh walk has no class of its own
  first_within : (value : ValueTree) (block : BlockTree) → WalksAlike (walk_from_first (caller f) value block) (walk_from_first (caller g) value block)
  first_within value block = record { own = refl; raised = λ c. none_within c; edits = refl }
    where
      none_within : (c : List ℕ) → Within (status_in none_raised c) (status_in none_raised c)
      none_within c = subst (λ s. Within s s) (sym (status_in-none_raised c)) no_no

  by_block : (value : ValueTree) (found : Option BlockTree) → (walked_by (caller g) value found).unsettled ≡ [] → (walked_by (caller f) value found).scripted ≡ (walked_by (caller g) value found).scripted
  by_block value None e = refl
  by_block value (Some block) e =
      ap concluded (walked_both policy (name_of block) scopes.shared f g within (in_order (numbered_in block)) (walk_from_first (caller f) value block) (walk_from_first (caller g) value block)
      (first_within value block) e).edits

  pub scripts_same : (value : ValueTree) → (walked (caller g) value).unsettled ≡ [] → (walked (caller f) value).scripted ≡ (walked (caller g) value).scripted
  unfolding walked
  scripts_same value e = by_block value (bundle_of policy (name_given value)) e
