-- The visits that a walk lists, by the places of their instances.
use Rattle.std.proofs.Common.{◌≡◌, ℕ, Bool, true, false, not, List, [], ◌∷◌, ◌++◌, map, Some, None, refl, ap, sym, subst, ◌∙◌, inl, inr, cond, eq-eqb}
use Rattle.std.specs.Prelude.{◌==◌}
use Rattle.std.specs.List.{list_any, position_or_len}
use Rattle.std.specs.Str.{bytes_eq}
use Rattle.std.proofs.lemmas.Bool.{false≢true, false_from_ne_true, and_from, eqb-true}
use Rattle.std.proofs.lemmas.List.{map-append}
use Rattle.cfa_base.specs.lemmas.EqualTexts.{same_text}
use Rattle.cfa_statuses.specs.declared.levels.Status.{Status}
use Rattle.cfa_statuses.specs.declared.levels.Status.TheVariants.{No, Maybe}
use Rattle.cfa_statuses.specs.Status.{greater}
use Rattle.cfa_conflict.specs.Conflicts.{first_visit, has_visit, is_visited_after}
use Rattle.cfa_conflict.specs.lemmas.Anywhere.{in_left}
use Rattle.cfa_resolve.specs.declared.instances.Instance.{Instance}
use Rattle.cfa_states.specs.declared.walks.Visit.{Visit}
use Rattle.cfa_states.specs.History.{History, Begun, Set, Raised, Reached, Listed, Told, is_named, mark_in}
use Rattle.cfa_states.specs.Views.{Setting}
use Rattle.cfa_states.specs.Waits.{is_unvisited, is_first, waits_in}
use Rattle.cfa_states.specs.Walks.{with_first, listed_instances, blame_for, blame_by, listing_by, listings, visit_of}
use Rattle.cfa_convergence.specs.Conflicts.{was_listed, was_visited, is_same, IsAfter, first_status}
use Rattle.cfa_convergence.proofs.BlameLemmas.{greater_real, not_unvisited, AreBlamed}
use Rattle.cfa_convergence.proofs.KnownLemmas.{AreKnown, just_visited}
use Rattle.cfa_convergence.proofs.NameLemmas.{names_of}
use Rattle.cfa_convergence.proofs.PlaceLemmas.{position_found, any_last, any_other, one_place}
use Rattle.cfa_convergence.proofs.SourceLemmas.{IsGiven, mapped_given}

pub same_visits : (h : History) (i j : Instance) → is_same i j ≡ true → was_visited h i ≡ was_visited h j
same_visits h i j e = let names = names_of i j e in ap (λ p. was_listed h p i.text) (sym names.0) ∙ ap (λ t. was_listed h j.path t) (sym names.1)

same_named : (i j : Instance) → j.path ≡ i.path → j.text ≡ i.text → is_same i j ≡ true
same_named i j path text =
    and_from (bytes_eq j.path i.path) (bytes_eq j.text i.text) (subst (λ p. bytes_eq j.path p ≡ true) path (same_text j.path)) (subst (λ x. bytes_eq j.text x ≡ true) text (same_text j.text))

apart_back : (i j : Instance) → is_same i j ≡ false → is_same j i ≡ false
apart_back i j apart =
    false_from_ne_true (is_same j i) (λ e.
    let names = names_of j i e in
    false≢true (sym apart ∙ same_named i j (sym names.0) (sym names.1)))

-- a visit is the first where there was none
pub first_unvisited : (h : History) → AreKnown h → (i : Instance) → is_first h i ≡ not (was_visited h i)
first_unvisited [] known i = refl
first_unvisited (Listed j status ∷ h) known i = go (is_same i j) (first_unvisited h known.2 i)
  where
    go : (b : Bool) → is_first h i ≡ not (was_visited h i) →
        is_unvisited (elim b [ true ↦ greater status (mark_in h i.path i.text) | false ↦ mark_in h i.path i.text ]) ≡ not (elim b [ true ↦ true | false ↦ was_visited h i ])
    go true before = not_unvisited (greater status (mark_in h i.path i.text)) (greater_real status (mark_in h i.path i.text) known.1)
    go false before = before
first_unvisited (Told j outcomes ∷ h) known i = first_unvisited h known.2 i
first_unvisited (Begun path given ∷ h) known i = first_unvisited h known i
first_unvisited (Set path name datum ∷ h) known i = first_unvisited h known i
first_unvisited (Raised place' cls status source ∷ h) known i = first_unvisited h known i
first_unvisited (Reached home promise guard sets visits ∷ h) known i = first_unvisited h known i

pub listed_any : (h : History) → AreKnown h → (i : Instance) → list_any (is_same i) (listed_instances h) ≡ was_visited h i
listed_any [] known i = refl
listed_any (Listed j status ∷ h) known i =
    ap (λ b. list_any (is_same i) (with_first b j (listed_instances h))) (first_unvisited h known.2 j) ∙ go (was_visited h j) refl (is_same i j) refl (listed_any h known.2 i)
  where
    go : (b : Bool) → was_visited h j ≡ b → (c : Bool) → is_same i j ≡ c → list_any (is_same i) (listed_instances h) ≡ was_visited h i →
        ◌≡◌ {A = Bool} (list_any (is_same i) (with_first (not b) j (listed_instances h))) (elim c [ true ↦ true | false ↦ was_visited h i ])
    go true e true f before = before ∙ same_visits h i j f ∙ e
    go true e false f before = before
    go false e true f before = any_last (is_same i) (listed_instances h) j f
    go false e false f before = any_other (is_same i) (listed_instances h) j f ∙ before
listed_any (Told j outcomes ∷ h) known i = listed_any h known.2 i
listed_any (Begun path given ∷ h) known i = listed_any h known i
listed_any (Set path name datum ∷ h) known i = listed_any h known i
listed_any (Raised place' cls status source ∷ h) known i = listed_any h known i
listed_any (Reached home promise guard sets visits ∷ h) known i = listed_any h known i

-- ---- places in a list of instances

module _ (s : Setting) (is : List Instance) where
  abbrev pub place : Instance → ℕ
  place i = position_or_len (is_same i) is

  abbrev IsThere : Instance → Type 0
  IsThere i = list_any (is_same i) is ≡ true

  -- the visits, by the places of their instances
  abbrev pub visits_of : History → List Visit
  visits_of h = map (visit_of is) (listings s h)

  abbrev last_of : History → Instance → Status → Visit
  last_of h j status = visit_of is (listing_by j status (is_first h j) (waits_in s h j.path))

  -- those of a list to which one more is visited
  more_visits : (h : History) (j : Instance) (status : Status) → visits_of (Listed j status ∷ h) ≡ visits_of h ++ last_of h j status ∷ []
  more_visits h j status = map-append (visit_of is) (listings s h) (listing_by j status (is_first h j) (waits_in s h j.path) ∷ [])

  place_same : (i j : Instance) → is_same i j ≡ true → place i ≡ place j
  place_same i j e =
      let names = names_of i j e in
      ap (λ p. position_or_len (is_named p i.text) is) (sym names.0) ∙ ap (λ t. position_or_len (is_named j.path t) is) (sym names.1)

  pub place_apart : (i j : Instance) → is_same i j ≡ false → IsThere i → IsThere j → (place i == place j) ≡ false
  place_apart i j apart there there' = go (place i == place j) refl
    where
      go : (b : Bool) → (place i == place j) ≡ b → b ≡ false
      go false e = refl
      go true e =
          let found = one_place (is_same i) (is_same j) is there there' (eqb-true (place i) (place j) e) in
          let mine = names_of i found.0 found.1 in
          let theirs = names_of j found.0 found.2 in
          let path : j.path ≡ i.path = sym theirs.0 ∙ mine.0 in
          let text : j.text ≡ i.text = sym theirs.1 ∙ mine.1 in
          absurd (false≢true (sym apart ∙ same_named i j path text))

  number_of : (h : History) (j : Instance) (status : Status) → IsThere j → (last_of h j status).instance ≡ place j
  number_of h j status there = position_found (is_same j) is there

  -- all that were visited stand in it
  abbrev pub AreThere : History → Type 0
  AreThere h = (i : Instance) → was_visited h i ≡ true → IsThere i

  later_visited : (b c : Bool) → c ≡ true → ◌≡◌ {A = Bool} (elim b [ true ↦ true | false ↦ c ]) true
  later_visited true c e = refl
  later_visited false c e = e

  there_before : (h : History) (j : Instance) (status : Status) → AreThere (Listed j status ∷ h) → AreThere h
  there_before h j status are i e = are i (later_visited (is_same i j) (was_visited h i) e)

  -- ---- first visits

  none_last : (visits : List Visit) (last : Visit) (n : ℕ) → first_visit visits n ≡ None → (last.instance == n) ≡ false → first_visit (visits ++ last ∷ []) n ≡ None
  none_last [] last n none e = ap (λ b. cond b (Some last) None) e
  none_last (visit ∷ visits) last n none e = go (visit.instance == n) (λ f. none_last visits last n f e) none
    where
      go : (b : Bool) → (first_visit visits n ≡ None → first_visit (visits ++ last ∷ []) n ≡ None) → cond b (Some visit) (first_visit visits n) ≡ None →
          cond b (Some visit) (first_visit (visits ++ last ∷ []) n) ≡ None
      go true before f = absurd (cc)
      go false before f = before f

  first_last : (visits : List Visit) (last : Visit) (n : ℕ) → first_visit visits n ≡ None → (last.instance == n) ≡ true → first_visit (visits ++ last ∷ []) n ≡ Some last
  first_last [] last n none e = ap (λ b. cond b (Some last) None) e
  first_last (visit ∷ visits) last n none e = go (visit.instance == n) (λ f. first_last visits last n f e) none
    where
      go : (b : Bool) → (first_visit visits n ≡ None → first_visit (visits ++ last ∷ []) n ≡ Some last) → cond b (Some visit) (first_visit visits n) ≡ None →
          cond b (Some visit) (first_visit (visits ++ last ∷ []) n) ≡ Some last
      go true before f = absurd (cc)
      go false before f = before f

  first_stays : (visits : List Visit) (last : Visit) (n : ℕ) (found : Visit) → first_visit visits n ≡ Some found → first_visit (visits ++ last ∷ []) n ≡ Some found
  first_stays [] last n found e = absurd (cc)
  first_stays (visit ∷ visits) last n found e = go (visit.instance == n) (first_stays visits last n found) e
    where
      go : (b : Bool) → (first_visit visits n ≡ Some found → first_visit (visits ++ last ∷ []) n ≡ Some found) → cond b (Some visit) (first_visit visits n) ≡ Some found →
          cond b (Some visit) (first_visit (visits ++ last ∷ []) n) ≡ Some found
      go true before f = f
      go false before f = before f

  -- an instance that wasn't visited has none
  none_visited : (h : History) → AreThere h → (i : Instance) → IsThere i → was_visited h i ≡ false → first_visit (visits_of h) (place i) ≡ None
  none_visited [] are i there e = refl
  none_visited (Listed j status ∷ h) are i there e = go (is_same i j) refl (none_visited h (there_before h j status are) i there) e
    where
      go : (c : Bool) → is_same i j ≡ c → (was_visited h i ≡ false → first_visit (visits_of h) (place i) ≡ None) → ◌≡◌ {A = Bool} (elim c [ true ↦ true | false ↦ was_visited h i ]) false →
          first_visit (visits_of (Listed j status ∷ h)) (place i) ≡ None
      go true it before f = absurd (false≢true (sym f))
      go false it before f =
          let last : Visit = last_of h j status in
          let at : IsThere j = are j (just_visited j status h) in
          let other : (last.instance == place i) ≡ false = ap (λ n. n == place i) (number_of h j status at) ∙ place_apart j i (apart_back i j it) at there in
          subst (λ vs. first_visit vs (place i) ≡ None) (sym (more_visits h j status)) (none_last (visits_of h) last (place i) (before f) other)
  none_visited (Begun path given ∷ h) are i there e = none_visited h are i there e
  none_visited (Set path name datum ∷ h) are i there e = none_visited h are i there e
  none_visited (Raised place' cls status source ∷ h) are i there e = none_visited h are i there e
  none_visited (Reached home promise guard sets visits ∷ h) are i there e = none_visited h are i there e
  none_visited (Told j outcomes ∷ h) are i there e = none_visited h are i there e

  pub record HasFirst (h : History) (i : Instance) : Type 0 where
    pub visit : Visit
    pub found : first_visit (visits_of h) (place i) ≡ Some visit
    pub status : first_status h i ≡ visit.status
    pub some : visit.status ≡ No → ⊥
    pub blamed : visit.status ≡ Maybe → IsGiven visit.blame

  pub first_visited : (h : History) → AreBlamed s h → AreKnown h → AreThere h → (i : Instance) → was_visited h i ≡ true → HasFirst h i
  first_visited [] blamed known are i e = absurd (cc)
  first_visited (Listed j status ∷ h) blamed known are i e = go (was_visited h i) refl (is_same i j) refl (first_visited h blamed.2 known.2 (there_before h j status are) i) e
    where
      here : Visit
      here = last_of h j status

      go : (b : Bool) → was_visited h i ≡ b → (c : Bool) → is_same i j ≡ c → (was_visited h i ≡ true → HasFirst h i) → ◌≡◌ {A = Bool} (elim c [ true ↦ true | false ↦ was_visited h i ]) true → HasFirst (Listed j status ∷ h) i
      go true is' c it before f =
          let old = before is' in
          record {
            visit = old.visit;
            found = subst (λ vs. first_visit vs (place i) ≡ Some old.visit) (sym (more_visits h j status)) (first_stays (visits_of h) here (place i) old.visit old.found);
            status = ap (λ b. elim b [ true ↦ first_status h i | false ↦ elim (is_same i j) [ true ↦ status | false ↦ No ] ]) is' ∙ old.status;
            some = old.some;
            blamed = old.blamed;
          }
      go false is' true it before f =
          let number : here.instance ≡ place i = number_of h j status (are j (just_visited j status h)) ∙ sym (place_same i j it) in
          let first : is_first h j ≡ true = first_unvisited h known.2 j ∙ ap not (sym (same_visits h i j it) ∙ is') in
          record {
            visit = here;
            found =
                subst (λ vs. first_visit vs (place i) ≡ Some here) (sym (more_visits h j status))
                (first_last (visits_of h) here (place i) (none_visited h (there_before h j status are) i (are i e) is') (eq-eqb here.instance (place i) number));
            status = ap (λ b. elim b [ true ↦ first_status h i | false ↦ elim (is_same i j) [ true ↦ status | false ↦ No ] ]) is' ∙ ap (λ c. elim c [ true ↦ status | false ↦ No ]) it;
            some = blamed.0;
            blamed = λ maybe.
                subst (λ x. IsGiven (blame_by x (is_first h j) j.source (waits_in s h j.path))) (sym maybe)
                (subst (λ b. IsGiven (blame_by Maybe b j.source (waits_in s h j.path))) (sym first) (mapped_given (blame_for j.source) (waits_in s h j.path) (blamed.1 maybe first)));
          }
      go false is' false it before f = absurd (false≢true (sym is' ∙ f))
  first_visited (Begun path given ∷ h) blamed known are i e = let old = first_visited h blamed known are i e in record { visit = old.visit; found = old.found; status = old.status; some = old.some; blamed = old.blamed }
  first_visited (Set path name datum ∷ h) blamed known are i e = let old = first_visited h blamed known are i e in record { visit = old.visit; found = old.found; status = old.status; some = old.some; blamed = old.blamed }
  first_visited (Raised place' cls status source ∷ h) blamed known are i e =
      let old = first_visited h blamed known are i e in record { visit = old.visit; found = old.found; status = old.status; some = old.some; blamed = old.blamed }
  first_visited (Reached home promise guard sets visits ∷ h) blamed known are i e =
      let old = first_visited h blamed.2 known are i e in record { visit = old.visit; found = old.found; status = old.status; some = old.some; blamed = old.blamed }
  first_visited (Told j outcomes ∷ h) blamed known are i e = let old = first_visited h blamed known.2 are i e in record { visit = old.visit; found = old.found; status = old.status; some = old.some; blamed = old.blamed }

  -- ---- visits after others

  pub after_both : (h : History) (later earlier : Instance) → IsAfter h later earlier → (was_visited h later ≡ true) × (was_visited h earlier ≡ true)
  after_both [] later earlier e = absurd e
  after_both (Listed j status ∷ h) later earlier (inl now) =
      (ap (λ b. elim b [ true ↦ true | false ↦ was_visited h later ]) now.0, later_visited (is_same earlier j) (was_visited h earlier) now.1)
  after_both (Listed j status ∷ h) later earlier (inr old) =
      let both = after_both h later earlier old in
      (later_visited (is_same later j) (was_visited h later) both.0, later_visited (is_same earlier j) (was_visited h earlier) both.1)
  after_both (Begun path given ∷ h) later earlier e = after_both h later earlier e
  after_both (Set path name datum ∷ h) later earlier e = after_both h later earlier e
  after_both (Raised place' cls status source ∷ h) later earlier e = after_both h later earlier e
  after_both (Reached home promise guard sets visits ∷ h) later earlier e = after_both h later earlier e
  after_both (Told j outcomes ∷ h) later earlier e = after_both h later earlier e

  after_last : (visits : List Visit) (last : Visit) (n m : ℕ) (found : Visit) → first_visit visits n ≡ Some found → (last.instance == m) ≡ true → is_visited_after (visits ++ last ∷ []) n m ≡ true
  after_last [] last n m found e f = absurd (cc)
  after_last (visit ∷ visits) last n m found e f = go (visit.instance == n) (λ g. after_last visits last n m found g f) e
    where
      go : (b : Bool) → (first_visit visits n ≡ Some found → is_visited_after (visits ++ last ∷ []) n m ≡ true) → cond b (Some visit) (first_visit visits n) ≡ Some found →
          cond b (has_visit (visits ++ last ∷ []) m) (is_visited_after (visits ++ last ∷ []) n m) ≡ true
      go true before g = any_last (λ v. v.instance == m) visits last f
      go false before g = before g

  after_stays : (visits : List Visit) (last : Visit) (n m : ℕ) → is_visited_after visits n m ≡ true → is_visited_after (visits ++ last ∷ []) n m ≡ true
  after_stays [] last n m e = absurd (cc)
  after_stays (visit ∷ visits) last n m e = go (visit.instance == n) (after_stays visits last n m) e
    where
      go : (b : Bool) → (is_visited_after visits n m ≡ true → is_visited_after (visits ++ last ∷ []) n m ≡ true) → cond b (has_visit visits m) (is_visited_after visits n m) ≡ true →
          cond b (has_visit (visits ++ last ∷ []) m) (is_visited_after (visits ++ last ∷ []) n m) ≡ true
      go true before g = in_left (λ v. v.instance == m) visits (last ∷ []) g
      go false before g = before g

  pub after_visited : (h : History) → AreBlamed s h → AreKnown h → AreThere h → (later earlier : Instance) → IsAfter h later earlier → is_visited_after (visits_of h) (place earlier) (place later) ≡ true
  after_visited [] blamed known are later earlier e = absurd e
  after_visited (Listed j status ∷ h) blamed known are later earlier (inl now) =
      let here : Visit = last_of h j status in
      let first = first_visited h blamed.2 known.2 (there_before h j status are) earlier now.1 in
      let number : here.instance ≡ place later = number_of h j status (are j (just_visited j status h)) ∙ sym (place_same later j now.0) in
      subst (λ vs. is_visited_after vs (place earlier) (place later) ≡ true) (sym (more_visits h j status))
      (after_last (visits_of h) here (place earlier) (place later) first.visit first.found (eq-eqb here.instance (place later) number))
  after_visited (Listed j status ∷ h) blamed known are later earlier (inr old) =
      subst (λ vs. is_visited_after vs (place earlier) (place later) ≡ true) (sym (more_visits h j status))
      (after_stays (visits_of h) (last_of h j status) (place earlier) (place later) (after_visited h blamed.2 known.2 (there_before h j status are) later earlier old))
  after_visited (Begun path given ∷ h) blamed known are later earlier e = after_visited h blamed known are later earlier e
  after_visited (Set path name datum ∷ h) blamed known are later earlier e = after_visited h blamed known are later earlier e
  after_visited (Raised place' cls status source ∷ h) blamed known are later earlier e = after_visited h blamed known are later earlier e
  after_visited (Reached home promise guard sets visits ∷ h) blamed known are later earlier e = after_visited h blamed.2 known are later earlier e
  after_visited (Told j outcomes ∷ h) blamed known are later earlier e = after_visited h blamed known.2 are later earlier e
