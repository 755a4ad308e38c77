-- What is unsettled in an edit bundle goes back to a global class that may be set or not.
use Rattle.std.proofs.Common.{◌≡◌, ℕ, Bool, true, false, List, [], ◌∷◌, map, Option, Some, None, is_some, unwrap_or, refl, sym, ap, subst, ◌∙◌, inl, inr, cond}
use Rattle.std.specs.List.{AllByRecursion as Each}
use Rattle.std.specs.Prelude.{option_map}
use Rattle.std.specs.FinMap as finite
use Rattle.std.specs.Str.{bytes_eq}
use Rattle.cfa_base.specs.TextMaps.{TextMap, text_cmp}
use Rattle.cfa_base.specs.lemmas.TextMaps.{get-put}
use Rattle.cfa_base.specs.lemmas.Lists.{each_append}
use Rattle.cfa_base.specs.lemmas.EqualTexts.{same_text, is_text}
use Rattle.cfa_tree.specs.Tree.{ValueTree, BlockTree}
use Rattle.cfa_kinds.specs.declared.kinds.PromiseType.{PromiseType}
use Rattle.cfa_kinds.specs.declared.kinds.PromiseType.TheVariants as promises
use Rattle.cfa_statuses.specs.declared.levels.Status.{Status}
use Rattle.cfa_statuses.specs.declared.levels.Status.TheVariants.{No, Maybe, Yes}
use Rattle.cfa_statuses.specs.Status.{lesser, greater}
use Rattle.cfa_statuses.specs.Raised.{status_in, raised}
use Rattle.cfa_statuses.specs.lemmas.Raised.{status_in-none_raised, status_in-raised}
use Rattle.cfa_served.specs.Served.{bundle_of}
use Rattle.cfa_vars.specs.Scopes.{Table}
use Rattle.cfa_vars.specs.Expansion.{Chosen}
use Rattle.cfa_bodies.specs.Bodies.{name_given}
use Rattle.cfa_defines.specs.FirstMaybe.{first_maybe_of_guard}
use Rattle.cfa_defines.specs.VarsPromises.{setting_choices}
use Rattle.cfa_defines.specs.ClassPromises.{Raise, raises_of}
use Rattle.cfa_defines.specs.declared.combining.Combined.{Combined}
use Rattle.cfa_defines.specs.declared.combining.Combined.TheVariants.{Lacks as lacks, TooMany as too_many, TooLong as too_long, Found as found}
use Rattle.cfa_defines.specs.OwnTexts.{combined, own_reads}
use Rattle.cfa_scripts.specs.EditBundles.{Around, walk_at_first, with_origin, raised_after, guard_under, scopes_at, statuses_at, origin_by, origin_of, unsettled_for, unsettled_by, handed, handed_raise, kept_by, guarded, reach, walked_from}
use Rattle.cfa_scripts.specs.EditScripts.{Caller, around_of, walk_from_first, walked_by, walked, in_order}
use Rattle.cfa_scripts.specs.Numbered.{Numbered, numbered_in}
use Rattle.cfa_resolve.specs.Instances.{Reached}
use Rattle.cfa_resolve.specs.Resolution.{caller_of, edit_call, walked_for, unsettled_in, inner_unsettled, resolved_as, resolution}
use Rattle.cfa_laws.specs.Sources.{IsFirst, RaiseHasFirst, IsMaybe, UnsettledAreMaybe}
use Rattle.cfa_laws.proofs.WalkTypes.{HandedRaise, Inside, Walk}
use Rattle.cfa_laws.specs.lemmas.MaybeClasses.{lesser_maybe, greater_maybe, guard_is}
use Rattle.cfa_laws.proofs.FirstLemmas.{raises_first}
use Rattle.cfa_laws.proofs.GuardLemmas.{guard_first}

module _ (around : Around) where
  abbrev g : List ℕ → Status
  g = around.statuses

  -- each origin that is kept is such, and each class that was raised to Maybe has one
  record HasOrigins (i : Inside) : Type 0 where
    are : (c o : List ℕ) → finite.get i.origins c ≡ Some o → g o ≡ Maybe
    there : (c : List ℕ) → status_in i.raised c ≡ Maybe → is_some (finite.get i.origins c) ≡ true

  some_of : (o : Option (List ℕ)) → is_some o ≡ true → (x : List ℕ) × (o ≡ Some x)
  some_of None e = absurd (cc)
  some_of (Some x) e = (x, refl)

  origin_maybe : (i : Inside) → HasOrigins i → (c : List ℕ) → statuses_at around i c ≡ Maybe → g (origin_of around i c) ≡ Maybe
  origin_maybe i ok c e = go (g c) refl e
    where
      go : (s : Status) → g c ≡ s → greater s (status_in i.raised c) ≡ Maybe → g (origin_by around i c s) ≡ Maybe
      go No is e' =
          let kept = some_of (finite.get i.origins c) (ok.there c e') in
          ap (λ o. g (unwrap_or o c)) kept.1 ∙ ok.are c kept.0 kept.1
      go Maybe is e' = is
      go Yes is e' = absurd (cc)

  -- ---- raises

  abbrev IsHanded : HandedRaise → Type 0
  IsHanded r = ((o : List ℕ) → r.origin ≡ Some o → g o ≡ Maybe) × (r.to ≡ Maybe → is_some r.origin ≡ true)

  origin_are : (origins : TextMap (List ℕ)) (cls : List ℕ) (origin : Option (List ℕ)) → ((c o : List ℕ) → finite.get origins c ≡ Some o → g o ≡ Maybe) → ((o : List ℕ) → origin ≡ Some o → g o ≡ Maybe) →
      (c o : List ℕ) → finite.get (with_origin origins cls origin) c ≡ Some o → g o ≡ Maybe
  origin_are origins cls None are new c o e = are c o e
  origin_are origins cls (Some x) are new c o e = go (finite.contains_key origins cls) e
    where
      go : (b : Bool) → finite.get (cond b origins (finite.insert origins cls x)) c ≡ Some o → g o ≡ Maybe
      go true e' = are c o e'
      go false e' = by_name (bytes_eq cls c) (sym (get-put origins cls x c) ∙ e')
        where
          by_name : (b : Bool) → cond b (Some x) (finite.get origins c) ≡ Some o → g o ≡ Maybe
          by_name true f = let one : Some x ≡ Some o = f in let same : x ≡ o = cc in ap g (sym same) ∙ new x refl
          by_name false f = are c o f

  kept_there : (origins : TextMap (List ℕ)) (cls : List ℕ) (origin : Option (List ℕ)) (c : List ℕ) → is_some (finite.get origins c) ≡ true → is_some (finite.get (with_origin origins cls origin) c) ≡ true
  kept_there origins cls None c e = e
  kept_there origins cls (Some x) c e = go (finite.contains_key origins cls)
    where
      go : (b : Bool) → is_some (finite.get (cond b origins (finite.insert origins cls x)) c) ≡ true
      go true = e
      go false = ap is_some (get-put origins cls x c) ∙ by_name (bytes_eq cls c)
        where
          by_name : (b : Bool) → is_some (cond b (Some x) (finite.get origins c)) ≡ true
          by_name true = refl
          by_name false = e

  new_there : (origins : TextMap (List ℕ)) (cls : List ℕ) (origin : Option (List ℕ)) → is_some origin ≡ true → is_some (finite.get (with_origin origins cls origin) cls) ≡ true
  new_there origins cls None e = absurd (cc)
  new_there origins cls (Some x) e = go (finite.contains_key origins cls) refl
    where
      go : (b : Bool) → finite.contains_key origins cls ≡ b → is_some (finite.get (cond b origins (finite.insert origins cls x)) cls) ≡ true
      go true is = is
      go false is = ap is_some (get-put origins cls x cls) ∙ by_name (bytes_eq cls cls) (same_text cls)
        where
          by_name : (b : Bool) → b ≡ true → is_some (cond b (Some x) (finite.get origins cls)) ≡ true
          by_name true e' = refl
          by_name false e' = absurd (cc)

  one_raised : (i : Inside) (r : HandedRaise) → HasOrigins i → IsHanded r → HasOrigins (record i { raised = raised i.raised r.class r.to; origins = with_origin i.origins r.class r.origin })
  one_raised i r ok handed = record {
    are = origin_are i.origins r.class r.origin ok.are handed.0;
    there = λ c e. go c (bytes_eq r.class c) refl (sym (status_in-raised i.raised r.class r.to c) ∙ e);
  }
    where
      go : (c : List ℕ) (b : Bool) → bytes_eq r.class c ≡ b → cond b (greater (status_in i.raised r.class) r.to) (status_in i.raised c) ≡ Maybe → is_some (finite.get (with_origin i.origins r.class r.origin) c) ≡ true
      go c true same e =
          subst (λ x. is_some (finite.get (with_origin i.origins r.class r.origin) x) ≡ true) (is_text r.class c same)
          (elim (greater_maybe (status_in i.raised r.class) r.to e) [
            | inl m ↦ kept_there i.origins r.class r.origin r.class (ok.there r.class m)
            | inr m ↦ new_there i.origins r.class r.origin (handed.1 m)
          ])
      go c false same e = kept_there i.origins r.class r.origin c (ok.there c e)

  all_raised : (rs : List HandedRaise) (i : Inside) → HasOrigins i → Each IsHanded rs → HasOrigins (raised_after i rs)
  all_raised [] i ok all = ok
  all_raised (r ∷ rs) i ok all =
      all_raised rs (record i { raised = raised i.raised r.class r.to; origins = with_origin i.origins r.class r.origin }) (one_raised i r ok all.0) all.1

  -- what a class is handed
  module _ (before : Inside) (ok : HasOrigins before) where
    abbrev status : List ℕ → Status
    status = statuses_at around before

    abbrev IsGood : Option (List ℕ) → Type 0
    IsGood h = ((o : List ℕ) → h ≡ Some o → g o ≡ Maybe) × (Maybe ≡ Maybe → is_some h ≡ true)

    handed_is : (in_guard first : Option (List ℕ)) (guard s : Status) → ((c : List ℕ) → in_guard ≡ Some c → status c ≡ Maybe) → (guard ≡ Maybe → IsFirst status in_guard) → (s ≡ Maybe → IsFirst status first) → (t : Status) → lesser guard s ≡ t →
        ((o : List ℕ) → handed around before in_guard first t ≡ Some o → g o ≡ Maybe) × (t ≡ Maybe → is_some (handed around before in_guard first t) ≡ true)
    handed_is in_guard first guard s of p q No e = ((λ o f. absurd (cc)), (λ f. absurd (cc)))
    handed_is in_guard first guard s of p q Yes e = ((λ o f. absurd (cc)), (λ f. absurd (cc)))
    handed_is in_guard first guard s of p q Maybe e = elim (lesser_maybe guard s e) [ inl m ↦ by_guard in_guard of (p m) | inr m ↦ by_first in_guard of first (q m) ]
      where
        good : (c : List ℕ) → status c ≡ Maybe → IsGood (Some (origin_of around before c))
        good c is = ((λ o f. let same : origin_of around before c ≡ o = cc in ap g (sym same) ∙ origin_maybe before ok c is), (λ f. refl))

        by_guard : (ig : Option (List ℕ)) → ((c : List ℕ) → ig ≡ Some c → status c ≡ Maybe) → IsFirst status ig → IsGood (handed around before ig first Maybe)
        by_guard None of' is = let none : None ≡ Some is.0 = is.1 in absurd (cc)
        by_guard (Some c) of' is = good c (of' c refl)

        by_first : (ig : Option (List ℕ)) → ((c : List ℕ) → ig ≡ Some c → status c ≡ Maybe) → (f : Option (List ℕ)) → IsFirst status f → IsGood (handed around before ig f Maybe)
        by_first (Some c) of' f is = good c (of' c refl)
        by_first None of' None is = let none : None ≡ Some is.0 = is.1 in absurd (cc)
        by_first None of' (Some c) is =
            let one : Some c ≡ Some is.0 = is.1 in
            let same : c ≡ is.0 = cc in
            good c (ap status same ∙ is.2)

    raises_handed : (guard : Status) (in_guard : Option (List ℕ)) → ((c : List ℕ) → in_guard ≡ Some c → status c ≡ Maybe) → (guard ≡ Maybe → IsFirst status in_guard) →
        (rs : List Raise) → Each (RaiseHasFirst status) rs → Each IsHanded (map (handed_raise around before guard in_guard) rs)
    raises_handed guard in_guard of p [] firsts = tt
    raises_handed guard in_guard of p (r ∷ rs) firsts = (handed_is in_guard r.1.1 guard r.1.0 of p firsts.0 (lesser guard r.1.0) refl, raises_handed guard in_guard of p rs firsts.1)

  -- ---- walks

  record IsTraced (w : Walk) : Type 0 where
    origins : HasOrigins w.inside
    unsettled : Each (IsMaybe g) w.unsettled

  module _ (w : Walk) (ok : IsTraced w) (p : Numbered) where
    abbrev here : List ℕ → Status
    here = statuses_at around w.inside

    first_of : (c : List ℕ) → first_maybe_of_guard p.promise.guard here ≡ Some c → here c ≡ Maybe
    first_of c e = guard_is here p.promise.guard c e

    by_guard : (guard : Status) → guard_under here p.promise.guard ≡ guard → Each (IsMaybe g) (unsettled_by around w.inside p guard)
    by_guard No is = tt
    by_guard Yes is = tt
    by_guard Maybe is = go (first_maybe_of_guard p.promise.guard here) first_of
      where
        go : (first : Option (List ℕ)) → ((c : List ℕ) → first ≡ Some c → here c ≡ Maybe) → Each (IsMaybe g) (unsettled_for around w.inside p.id first)
        go None of = tt
        go (Some c) of = (origin_maybe w.inside ok.origins c (of c refl), tt)

    same_origins : (i : Inside) → i.raised ≡ w.inside.raised → i.origins ≡ w.inside.origins → HasOrigins i
    same_origins i raised origins = record {
      are = λ c o e. ok.origins.are c o (ap (λ m. finite.get m c) (sym origins) ∙ e);
      there = λ c e. ap (λ m. is_some (finite.get m c)) origins ∙ ok.origins.there c (ap (λ m. status_in m c) (sym raised) ∙ e);
    }

    kept_traced : (guard : Status) → guard_under here p.promise.guard ≡ guard → (type : PromiseType) → IsTraced (kept_by around w p guard type)
    kept_traced guard is promises.Vars = record {
      origins = same_origins (kept_by around w p guard promises.Vars).inside refl refl;
      unsettled = each_append (IsMaybe g) w.unsettled (unsettled_by around w.inside p guard) ok.unsettled (by_guard guard is);
    }
    kept_traced guard is promises.Classes =
        let rs = raises_of here (scopes_at around w.inside) p.promise (setting_choices (scopes_at around w.inside) promises.Classes p.promise) in
        record {
          origins = all_raised (map (handed_raise around w.inside guard (first_maybe_of_guard p.promise.guard here)) rs) w.inside ok.origins
              (raises_handed w.inside ok.origins guard (first_maybe_of_guard p.promise.guard here) first_of (λ e. guard_first here p.promise.guard (is ∙ e)) rs
              (raises_first here (scopes_at around w.inside) p.promise (setting_choices (scopes_at around w.inside) promises.Classes p.promise)));
          unsettled = ok.unsettled;
        }
    kept_traced guard is type = record {
      origins = ok.origins;
      unsettled = each_append (IsMaybe g) w.unsettled (unsettled_by around w.inside p guard) ok.unsettled (by_guard guard is);
    }

    guarded_traced : (guard : Status) → guard_under here p.promise.guard ≡ guard → IsTraced (guarded around w p guard)
    guarded_traced No is = record { origins = ok.origins; unsettled = ok.unsettled }
    guarded_traced Maybe is = kept_traced Maybe is p.type
    guarded_traced Yes is = kept_traced Yes is p.type

    reach_traced : IsTraced (reach around w p)
    unfolding reach
    reach_traced = guarded_traced (guard_under here p.promise.guard) refl

  walk_traced : (ps : List Numbered) (w : Walk) → IsTraced w → IsTraced (walked_from around w ps)
  walk_traced [] w ok = ok
  walk_traced (p ∷ ps) w ok = walk_traced ps (reach around w p) (reach_traced w ok p)

  first_traced : (own : Table) → IsTraced (walk_at_first own)
  first_traced own = record {
    origins = record {
      are = λ c o e. let none : None ≡ Some o = sym (finite.get-empty text_cmp c) ∙ e in absurd (cc);
      there = λ c e. let none : No ≡ Maybe = sym (status_in-none_raised c) ∙ e in absurd (cc);
    };
    unsettled = tt;
  }

-- what is unsettled in the edit bundle of a caller, and of a promise
caller_traced : (caller : Caller) (value : ValueTree) → Each (IsMaybe caller.statuses) (walked caller value).unsettled
unfolding walked
caller_traced caller value = go (bundle_of caller.policy (name_given value))
  where
    go : (found : Option BlockTree) → Each (IsMaybe caller.statuses) (walked_by caller value found).unsettled
    go None = tt
    go (Some block) =
        (walk_traced (around_of caller block) (in_order (numbered_in block)) (walk_from_first caller value block) (first_traced (around_of caller block) (walk_from_first caller value block).inside.own)).unsettled

module _ (r : Reached) where
  for_call : (choice : Chosen) (value : Option ValueTree) → Each (IsMaybe r.statuses) (unsettled_in (option_map (λ v. walked (caller_of r choice) v) value))
  for_call choice None = tt
  for_call choice (Some value) = caller_traced (caller_of r choice) value

  all_traced : (choices : List Chosen) → Each (IsMaybe r.statuses) (inner_unsettled r choices)
  all_traced [] = tt
  all_traced (choice ∷ choices) =
      each_append (IsMaybe r.statuses) (unsettled_in (walked_for r choice)) (inner_unsettled r choices) (for_call choice (edit_call r)) (all_traced choices)

  combined_traced : (c : Combined) → Each (IsMaybe r.statuses) (resolved_as r c).unsettled
  combined_traced (lacks name) = tt
  combined_traced too_many = tt
  combined_traced (too_long combinations) = tt
  combined_traced (found choices) = all_traced choices

  resolution_traced : Each (IsMaybe r.statuses) (resolution r).unsettled
  unfolding resolution
  resolution_traced = combined_traced (combined r.scopes (own_reads r.type r.promise))

pub are_maybe : UnsettledAreMaybe
are_maybe r = resolution_traced r
