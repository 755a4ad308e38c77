-- In the open walk each first visit that may come or not, and each promise that is unsettled, has a class and a promise to blame: what each event
-- does.
use Rattle.std.proofs.Common.{◌≡◌, ℕ, Bool, true, false, List, [], ◌∷◌, ◌++◌, Option, refl, sym, ap, subst, ◌∙◌}
use Rattle.std.specs.Prelude.{◌&&◌}
use Rattle.std.specs.List.{AllByRecursion as Each}
use Rattle.std.specs.Str.{bytes_eq}
use Rattle.std.proofs.lemmas.Bool.{false≢true, and_from}
use Rattle.cfa_base.specs.declared.places.PromiseId.{PromiseId}
use Rattle.cfa_base.specs.lemmas.EqualTexts.{same_text, is_text}
use Rattle.cfa_statuses.specs.declared.levels.Status.{Status}
use Rattle.cfa_statuses.specs.declared.levels.Status.TheVariants.{No, Maybe, Yes}
use Rattle.cfa_statuses.specs.Status.{greater}
use Rattle.cfa_statuses.specs.lemmas.Orders.{greater_No}
use Rattle.cfa_outcomes.specs.declared.outcomes.Outcome.{Outcome}
use Rattle.cfa_resolve.specs.declared.instances.Instance.{Instance}
use Rattle.cfa_resolve.specs.declared.instances.Work.{Work}
use Rattle.cfa_resolve.specs.declared.instances.Work.TheVariants.{Acts, Call, Report}
use Rattle.cfa_scripts.specs.declared.blaming.Unsettled.{Unsettled}
use Rattle.cfa_vars.specs.declared.scoping.Datum.{Datum}
use Rattle.cfa_states.specs.declared.waits.Wait.{Wait}
use Rattle.cfa_states.specs.History.{History, Where, Begun, Set, Raised, Reached, Listed, Told, mark_in, global_source}
use Rattle.cfa_states.specs.Numbered.{Numbered}
use Rattle.cfa_states.specs.Tellers.{inner_path}
use Rattle.cfa_states.specs.Views.{Setting, Home}
use Rattle.cfa_states.specs.Waits.{is_unvisited, is_first, is_call, wait_of_guard, waits_in, wait_of_call}
use Rattle.cfa_states.specs.Walks.{blame_edit, unsettled_edits}
use Rattle.cfa_laws.specs.Keys.{IsKeyed, IsLine}
use Rattle.cfa_convergence.specs.Conflicts.{is_same}
use Rattle.cfa_convergence.specs.Keys.{AreAlike, KeysTellWorks}
use Rattle.cfa_convergence.proofs.LevelLemmas.{IsCall}
use Rattle.cfa_convergence.proofs.NameLemmas.{names_of}
use Rattle.cfa_base.specs.Lacking.{Lacks}
use Rattle.cfa_rows.specs.lemmas.Cuts.{no_cut}
use Rattle.cfa_convergence.proofs.SourceLemmas.{IsGiven, AreSourced, raise_sourced, begin_sourced}

-- ---- paths of calls

-- the parts before and behind the last such byte
last_cut : (c : ℕ) (xs ys a b : List ℕ) → Lacks c a → Lacks c b → xs ++ c ∷ a ≡ ys ++ c ∷ b → (xs ≡ ys) × (a ≡ b)
last_cut c [] [] a b p q e = (refl, cc)
last_cut c [] (y ∷ ys) a b p q e = let tails : a ≡ ys ++ c ∷ b = cc in absurd (no_cut c a ys b p tails)
last_cut c (x ∷ xs) [] a b p q e = let tails : xs ++ c ∷ a ≡ b = cc in absurd (no_cut c b xs a q (sym tails))
last_cut c (x ∷ xs) (y ∷ ys) a b p q e =
    let heads : x ≡ y = cc in
    let tails : xs ++ c ∷ a ≡ ys ++ c ∷ b = cc in
    let more = last_cut c xs ys a b p q tails in
    let same : xs ≡ ys = more.0 in
    (cc, more.1)

-- the path of a call tells the call
pub call_tells : (i j : Instance) → IsLine i → IsLine j → inner_path i ≡ inner_path j → is_same j i ≡ true
call_tells i j line line' e =
    let parts = last_cut 10 i.path j.path i.text j.text line line' e in
    and_from (bytes_eq i.path j.path) (bytes_eq i.text j.text) (subst (λ x. bytes_eq i.path x ≡ true) parts.0 (same_text i.path)) (subst (λ x. bytes_eq i.text x ≡ true) parts.1 (same_text i.text))

marked_same : (h : History) (i j : Instance) → is_same j i ≡ true → mark_in h i.path i.text ≡ mark_in h j.path j.text
marked_same h i j e = let names = names_of j i e in ap (λ p. mark_in h p i.text) names.0 ∙ ap (λ t. mark_in h j.path t) names.1

inner_same : (i j : Instance) → is_same j i ≡ true → bytes_eq (inner_path i) (inner_path j) ≡ true
inner_same i j e =
    let names = names_of j i e in
    subst (λ x. bytes_eq (inner_path i) x ≡ true) (ap (λ p. p ++ 10 ∷ i.text) names.0 ∙ ap (λ t. j.path ++ 10 ∷ t) names.1) (same_text (inner_path i))

-- ---- calls

calls : (w : Work) → IsCall w → is_call w ≡ true
calls (Acts acts) is = absurd is
calls (Call name given) is = refl
calls (Report content) is = absurd is

call_alike : (w v : Work) → AreAlike w v → IsCall v → IsCall w
call_alike (Acts acts) (Acts others) e is = is
call_alike (Acts acts) (Call name given) e is = e
call_alike (Acts acts) (Report content) e is = is
call_alike (Call name given) v e is = tt
call_alike (Report content) (Acts others) e is = is
call_alike (Report content) (Call name given) e is = e
call_alike (Report content) (Report other) e is = is

-- ---- marks

none_left : (a b : Status) → greater a b ≡ No → a ≡ No
none_left No b e = refl
none_left Maybe No e = absurd (cc)
none_left Maybe Maybe e = absurd (cc)
none_left Maybe Yes e = absurd (cc)
none_left Yes b e = absurd (cc)

none_right : (a b : Status) → greater a b ≡ No → b ≡ No
none_right No b e = e
none_right Maybe No e = refl
none_right Maybe Maybe e = absurd (cc)
none_right Maybe Yes e = absurd (cc)
none_right Yes b e = absurd (cc)

-- a visit that comes leaves a mark
pub greater_real : (a b : Status) → (a ≡ No → ⊥) → greater a b ≡ No → ⊥
greater_real a b real e = real (none_left a b e)

marked_more : (b : Bool) (status m : Status) → (m ≡ No → ⊥) → ◌≡◌ {A = Status} (elim b [ true ↦ greater status m | false ↦ m ]) No → ⊥
marked_more true status m real e = real (none_right status m e)
marked_more false status m real e = real e

pub not_unvisited : (m : Status) → (m ≡ No → ⊥) → is_unvisited m ≡ false
not_unvisited No real = absurd (real refl)
not_unvisited Maybe real = refl
not_unvisited Yes real = refl

unvisited_none : (m : Status) → is_unvisited m ≡ true → m ≡ No
unvisited_none No e = refl
unvisited_none Maybe e = absurd (cc)
unvisited_none Yes e = absurd (cc)

never_maybe : (a : Status) → greater a Yes ≡ Maybe → ⊥
never_maybe No e = cc
never_maybe Maybe e = cc
never_maybe Yes e = cc

both_false : (a b : Bool) → (a && (b && false)) ≡ false
both_false true true = refl
both_false true false = refl
both_false false b = refl

module _ (s : Setting) where
  -- ---- what is to blame

  abbrev pub EditsAreBlamed : History → Home → Numbered → Status → Type 0
  EditsAreBlamed h home p No = Unit {0}
  EditsAreBlamed h home p Maybe = Each (λ (u : Unsettled). IsGiven (blame_edit (global_source h) u)) (unsettled_edits s h home p)
  EditsAreBlamed h home p Yes = Each (λ (u : Unsettled). IsGiven (blame_edit (global_source h) u)) (unsettled_edits s h home p)

  abbrev pub AreBlamed : History → Type 0
  AreBlamed [] = Unit {0}
  AreBlamed (Reached home p guard sets visits ∷ h) = (guard ≡ Maybe → sets ≡ true → IsGiven (wait_of_guard s h home.path p.promise.guard)) × EditsAreBlamed h home p guard × AreBlamed h
  AreBlamed (Listed i status ∷ h) = (status ≡ No → ⊥) × (status ≡ Maybe → is_first h i ≡ true → IsGiven (waits_in s h i.path)) × AreBlamed h
  AreBlamed (Begun path given ∷ h) = AreBlamed h
  AreBlamed (Set path name datum ∷ h) = AreBlamed h
  AreBlamed (Raised place cls status source ∷ h) = AreBlamed h
  AreBlamed (Told i outcomes ∷ h) = AreBlamed h

  pub record HasBlame (h : History) : Type 0 where
    pub sourced : AreSourced h
    pub called : (i : Instance) → IsKeyed i → IsLine i → IsCall i.work → mark_in h i.path i.text ≡ Maybe → IsGiven (wait_of_call s h (inner_path i))
    pub blamed : AreBlamed h

  -- the activation of a path waits for its call, which was visited
  pub record IsWaiting (h : History) (path : List ℕ) : Type 0 where
    pub call : Instance
    pub line : IsLine call
    pub inner : inner_path call ≡ path
    pub visited : mark_in h call.path call.text ≡ No → ⊥
    pub waits : IsGiven (wait_of_call s h path)

  pub waits_listed : (i : Instance) (status : Status) (h : History) (path : List ℕ) → IsLine i → IsWaiting h path → IsWaiting (Listed i status ∷ h) path
  waits_listed i status h path line w = record {
    call = w.call;
    line = w.line;
    inner = w.inner;
    visited = marked_more (is_same w.call i) status (mark_in h w.call.path w.call.text) w.visited;
    waits = subst (λ b. IsGiven (elim b [ true ↦ waits_in s h i.path | false ↦ wait_of_call s h path ])) (sym (not_here (bytes_eq (inner_path i) path) refl)) w.waits;
  }
    where
      not_here : (b : Bool) → bytes_eq (inner_path i) path ≡ b → (is_first h i && (is_call i.work && b)) ≡ false
      not_here false e = both_false (is_first h i) (is_call i.work)
      not_here true e =
          let same = call_tells i w.call line w.line (is_text (inner_path i) path e ∙ sym w.inner) in
          ap (λ b. b && (is_call i.work && true)) (not_unvisited (mark_in h i.path i.text) (λ none. w.visited (sym (marked_same h i w.call same) ∙ none)))

  abbrev waits_either : History → (i j : Instance) → Bool → Option Wait
  waits_either h i j b = elim b [ true ↦ waits_in s h i.path | false ↦ wait_of_call s h (inner_path j) ]

  -- an instance is visited, and what its visit waits for can be told
  pub has_listed : KeysTellWorks → (i : Instance) (status : Status) (h : History) → IsKeyed i → IsLine i → (status ≡ No → ⊥) →
      (status ≡ Maybe → mark_in h i.path i.text ≡ No → IsGiven (waits_in s h i.path)) → HasBlame h → HasBlame (Listed i status ∷ h)
  has_listed tell i status h key line real ready ok = record {
    sourced = record { globals = ok.sourced.globals; locals = ok.sourced.locals };
    called = λ j key' line' is m. called_by j key' line' is (is_same j i) refl m;
    blamed = (real, (λ maybe first. ready maybe (unvisited_none (mark_in h i.path i.text) first)), ok.blamed);
  }
    where
      called_by : (j : Instance) → IsKeyed j → IsLine j → IsCall j.work → (b : Bool) → is_same j i ≡ b →
          ◌≡◌ {A = Status} (elim b [ true ↦ greater status (mark_in h j.path j.text) | false ↦ mark_in h j.path j.text ]) Maybe →
          IsGiven (waits_either h i j (is_first h i && (is_call i.work && bytes_eq (inner_path i) (inner_path j))))
      called_by j key' line' is true e m = go (mark_in h i.path i.text) refl
        where
          same : mark_in h i.path i.text ≡ mark_in h j.path j.text
          same = marked_same h i j e

          to : (is_call i.work && bytes_eq (inner_path i) (inner_path j)) ≡ true
          to =
              and_from (is_call i.work) (bytes_eq (inner_path i) (inner_path j))
              (calls i.work (call_alike i.work j.work (tell i j key key' (names_of j i e).1) is)) (inner_same i j e)

          go : (x : Status) → mark_in h i.path i.text ≡ x → IsGiven (waits_either h i j (is_unvisited x && (is_call i.work && bytes_eq (inner_path i) (inner_path j))))
          go No f =
              let maybe : status ≡ Maybe = sym (greater_No status) ∙ subst (λ x. greater status x ≡ Maybe) (sym same ∙ f) m in
              subst (λ b. IsGiven (waits_either h i j b)) (sym to) (ready maybe f)
          go Maybe f = ok.called j key' line' is (sym same ∙ f)
          go Yes f = absurd (never_maybe status (subst (λ x. greater status x ≡ Maybe) (sym same ∙ f) m))
      called_by j key' line' is false e m =
          subst (λ b. IsGiven (waits_either h i j (is_first h i && (is_call i.work && b)))) (sym (other (bytes_eq (inner_path i) (inner_path j)) refl))
          (subst (λ b. IsGiven (waits_either h i j b)) (sym (both_false (is_first h i) (is_call i.work))) (ok.called j key' line' is m))
        where
          other : (b : Bool) → bytes_eq (inner_path i) (inner_path j) ≡ b → bytes_eq (inner_path i) (inner_path j) ≡ false
          other true f = absurd (false≢true (sym e ∙ call_tells i j line line' (is_text (inner_path i) (inner_path j) f)))
          other false f = f

  -- ---- other events

  pub has_told : (i : Instance) (os : List Outcome) (h : History) → HasBlame h → HasBlame (Told i os ∷ h)
  has_told i os h ok = record { sourced = record { globals = ok.sourced.globals; locals = ok.sourced.locals }; called = ok.called; blamed = ok.blamed }

  pub has_set : (path name : List ℕ) (datum : Datum) (h : History) → HasBlame h → HasBlame (Set path name datum ∷ h)
  has_set path name datum h ok = record { sourced = record { globals = ok.sourced.globals; locals = ok.sourced.locals }; called = ok.called; blamed = ok.blamed }

  pub has_begun : (path : List ℕ) (given : List Datum) (h : History) → HasBlame h → HasBlame (Begun path given ∷ h)
  has_begun path given h ok = record { sourced = begin_sourced path given h ok.sourced; called = ok.called; blamed = ok.blamed }

  pub has_raised : (place : Where) (cls : List ℕ) (status : Status) (source : Option PromiseId) (h : History) → (status ≡ Maybe → IsGiven source) → HasBlame h → HasBlame (Raised place cls status source ∷ h)
  has_raised place cls status source h given ok =
      record { sourced = raise_sourced place cls status source h given ok.sourced; called = ok.called; blamed = ok.blamed }

  pub has_reached : (home : Home) (p : Numbered) (guard : Status) (sets : Bool) (visits : ℕ) (h : History) →
      (guard ≡ Maybe → sets ≡ true → IsGiven (wait_of_guard s h home.path p.promise.guard)) → EditsAreBlamed h home p guard → HasBlame h → HasBlame (Reached home p guard sets visits ∷ h)
  has_reached home p guard sets visits h own edits ok = record {
    sourced = record { globals = ok.sourced.globals; locals = ok.sourced.locals };
    called = ok.called;
    blamed = (own, edits, ok.blamed);
  }
