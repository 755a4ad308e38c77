-- A run without failures lies within the open walk: what each step does, in both or in the walk alone.
use Rattle.std.proofs.Common.{◌≡◌, ℕ, Bool, true, false, List, [], ◌∷◌, Option, sym, ap, subst, ◌∙◌}
use Rattle.std.specs.Prelude.{◌&&◌}
use Rattle.std.specs.Str.{bytes_eq}
use Rattle.cfa_base.specs.declared.places.PromiseId.{PromiseId}
use Rattle.cfa_statuses.specs.declared.levels.Status.{Status}
use Rattle.cfa_statuses.specs.declared.levels.Status.TheVariants.{Maybe, Yes}
use Rattle.cfa_statuses.specs.Status.{greater, lesser}
use Rattle.cfa_defines.specs.ClassPromises.{Raise}
use Rattle.cfa_outcomes.specs.declared.outcomes.Outcome.{Outcome}
use Rattle.cfa_outcomes.specs.declared.outcomes.Outcome.TheVariants.{Kept, Repaired}
use Rattle.cfa_resolve.specs.declared.instances.Instance.{Instance}
use Rattle.cfa_tree.specs.Tree.{NamedTree}
use Rattle.cfa_vars.specs.declared.scoping.Datum.{Datum}
use Rattle.cfa_vars.specs.Named.{put}
use Rattle.cfa_base.specs.Index.{is_listed}
use Rattle.cfa_states.specs.History.{History, Where, everywhere, within, Set, Raised, Reached, Listed, Told, scope_in, globally, locally, mark_in}
use Rattle.cfa_states.specs.Numbered.{Numbered}
use Rattle.cfa_states.specs.Passes.{Course, goes, too_large, then_on, told, classes_for, in_every_list, raised_to, raise_each, set_each, handed, raise_event, raise_all, bind}
use Rattle.cfa_states.specs.Views.{Setting, Home}
use Rattle.cfa_convergence.specs.Conflicts.{HasActs}
use Rattle.cfa_convergence.specs.Contained.{kept_or_repaired, IsSettled}
use Rattle.cfa_laws.specs.Keys.{IsKeyed}
use Rattle.cfa_convergence.specs.Keys.{KeysTellWorks}
use Rattle.cfa_laws.specs.Statuses.{RaisesAlike, Within}
use Rattle.cfa_convergence.proofs.AlwaysLemmas.{Always}
use Rattle.cfa_convergence.proofs.EffectLemmas.{raised_if, each_global, each_local, each_scope, each_mark, within_kept, within_repaired, within_report}
use Rattle.cfa_convergence.proofs.OrderLemmas.{Placed, placed_ahead, placed_ended, placed_visited, placed_acted, placed_raised, ahead_same, ahead_raised}
use Rattle.cfa_convergence.proofs.QuietLemmas.{Quiet}
use Rattle.cfa_laws.specs.lemmas.Within.{within_lesser}
use Rattle.cfa_convergence.proofs.WithinLemmas.{within_if, within_up, within_lift}

-- a fact of the histories to which both go
abbrev pub Both : Course → Course → (History → History → Type 0) → Type 0
Both (goes a) (goes b) P = P a b
Both (goes a) (too_large b) P = Unit {0}
Both (too_large a) (goes b) P = Unit {0}
Both (too_large a) (too_large b) P = Unit {0}

pub both_large : (c : Course) (h : History) (P : History → History → Type 0) → Both c (too_large h) P
both_large (goes a) h P = tt
both_large (too_large a) h P = tt

pub large_both : (h : History) (d : Course) (P : History → History → Type 0) → Both (too_large h) d P
large_both h (goes b) P = tt
large_both h (too_large b) P = tt

-- only the walk moves
pub both_right : (a : History) (d : Course) (P : History → History → Type 0) → Always d (P a) → Both (goes a) d P
both_right a (goes b) P p = p
both_right a (too_large b) P p = tt

pub both_more : (c d : Course) (P R : History → History → Type 0) → ((a b : History) → P a b → R a b) → Both c d P → Both c d R
both_more (goes a) (goes b) P R f p = f a b p
both_more (goes a) (too_large b) P R f p = tt
both_more (too_large a) (goes b) P R f p = tt
both_more (too_large a) (too_large b) P R f p = tt

-- the invariant, over the scopes that both are inside
pub record Contained (Open : List ℕ → Type 0) (run walk : History) : Type 0 where
  pub globals : (c : List ℕ) → Within (globally run c) (globally walk c)
  pub locals : (p : List ℕ) → Open p → (c : List ℕ) → Within (locally run p c) (locally walk p c)
  pub scopes : (p : List ℕ) → Open p → scope_in run p ≡ scope_in walk p
  pub marks : (p x : List ℕ) → Within (mark_in run p x) (mark_in walk p x)
  pub placed : Placed run walk

-- what was settled in the end was so before
abbrev pub Settles : Setting → History → History → Type 0
Settles s h k = IsSettled s k → IsSettled s h

module _ (s : Setting) (Open : List ℕ → Type 0) where
  -- contained, unless the walk is unsettled
  abbrev pub If_settled : History → History → Type 0
  If_settled a b = IsSettled s b → Contained Open a b

  pub settled_first : (x y : Course) (a b : History) → Always y (Settles s b) → (Contained Open a b → Both x y If_settled) → If_settled a b → Both x y If_settled
  settled_first (goes x) (goes y) a b later next before = λ st. next (before (later st)) st
  settled_first (goes x) (too_large y) a b later next before = tt
  settled_first (too_large x) (goes y) a b later next before = tt
  settled_first (too_large x) (too_large y) a b later next before = tt

  pub then_both : (c d : Course) (f g : History → Course) → Both c d If_settled → ((b : History) → Always (g b) (Settles s b)) →
      ((a b : History) → Contained Open a b → Both (f a) (g b) If_settled) → Both (then_on c f) (then_on d g) If_settled
  then_both (goes a) (goes b) f g p later next = settled_first (f a) (g b) a b (later b) (next a b) p
  then_both (goes a) (too_large b) f g p later next = both_large (f a) b If_settled
  then_both (too_large a) (goes b) f g p later next = large_both a (g b) If_settled
  then_both (too_large a) (too_large b) f g p later next = tt

  -- what holds where nothing of the walk so far is unsettled
  pub if_settled : (x y : Course) (b : History) → Always y (Settles s b) → (IsSettled s b → Both x y If_settled) → Both x y If_settled
  if_settled (goes x) (goes y) b later next = λ st. next (later st) st
  if_settled (goes x) (too_large y) b later next = tt
  if_settled (too_large x) (goes y) b later next = tt
  if_settled (too_large x) (too_large y) b later next = tt

module _ (Open : List ℕ → Type 0) where
  -- ---- one event in both

  pub both_set : (p name : List ℕ) (datum : Datum) (a b : History) → Contained Open a b → Contained Open (Set p name datum ∷ a) (Set p name datum ∷ b)
  both_set p name datum a b c = record {
    globals = c.globals;
    locals = c.locals;
    scopes = λ q o. ap (λ t. elim (bytes_eq p q) [ true ↦ put t name datum | false ↦ t ]) (c.scopes q o);
    marks = c.marks;
    placed = c.placed;
  }

  pub both_sets : (p name : List ℕ) (held : List Datum) (a b : History) → Contained Open a b → Contained Open (set_each p name held a) (set_each p name held b)
  both_sets p name [] a b c = c
  both_sets p name (datum ∷ more) a b c = both_sets p name more (Set p name datum ∷ a) (Set p name datum ∷ b) (both_set p name datum a b c)

  pub both_bound : (p : List ℕ) (params : List NamedTree) (given : List Datum) (a b : History) → Contained Open a b → Contained Open (bind p params given a) (bind p params given b)
  both_bound p [] given a b c = c
  both_bound p (param ∷ params) [] a b c = c
  both_bound p (param ∷ params) (datum ∷ given) a b c = both_bound p params given (Set p param.name datum ∷ a) (Set p param.name datum ∷ b) (both_set p param.name datum a b c)

  pub both_raised : (place : Where) (class other : List ℕ) → class ≡ other → (r s : Status) (o o' : Option PromiseId) (a b : History) → Within r s → Contained Open a b →
      Contained Open (Raised place class r o ∷ a) (Raised place other s o' ∷ b)
  both_raised everywhere class other same r s o o' a b v c = record {
    globals = λ x. subst (λ n. Within (elim (bytes_eq class x) [ true ↦ greater r (globally a x) | false ↦ globally a x ]) (elim (bytes_eq n x) [ true ↦ greater s (globally b x) | false ↦ globally b x ])) same
        (within_if (bytes_eq class x) v (c.globals x));
    locals = c.locals;
    scopes = c.scopes;
    marks = c.marks;
    placed = c.placed;
  }
  both_raised (within p) class other same r s o o' a b v c = record {
    globals = c.globals;
    locals = λ q e x. subst (λ n. Within (elim (bytes_eq p q && bytes_eq class x) [ true ↦ greater r (locally a q x) | false ↦ locally a q x ])
        (elim (bytes_eq p q && bytes_eq n x) [ true ↦ greater s (locally b q x) | false ↦ locally b q x ])) same
        (within_if (bytes_eq p q && bytes_eq class x) v (c.locals q e x));
    scopes = c.scopes;
    marks = c.marks;
    placed = c.placed;
  }

  -- the classes of a promise in both
  pub both_raise_all : (place : Where) (path : List ℕ) (before before' : History) (ig ig' : Option (List ℕ)) (gr gw : Status) → Within gr gw → (rs ws : List Raise) → RaisesAlike rs ws →
      (a b : History) → Contained Open a b → Contained Open (raise_all before place path gr ig rs a) (raise_all before' place path gw ig' ws b)
  both_raise_all place path before before' ig ig' gr gw v [] [] alike a b c = c
  both_raise_all place path before before' ig ig' gr gw v [] (w ∷ ws) alike a b c = absurd alike
  both_raise_all place path before before' ig ig' gr gw v (r ∷ rs) [] alike a b c = absurd alike
  both_raise_all place path before before' ig ig' gr gw v (r ∷ rs) (w ∷ ws) alike a b c =
      both_raise_all place path before before' ig ig' gr gw v rs ws alike.2 (raise_event before place path gr ig r a) (raise_event before' place path gw ig' w b)
      (both_raised place r.0 w.0 alike.0 (lesser gr r.1.0) (lesser gw w.1.0) (handed before path ig r.1.1 (lesser gr r.1.0)) (handed before' path ig' w.1.1 (lesser gw w.1.0)) a b (within_lesser v alike.1) c)

  -- the walk alone raises to Maybe at most
  alone_raised : (place : Where) (class : List ℕ) (s : Status) (o : Option PromiseId) (a b : History) → Contained Open a b → Contained Open a (Raised place class (lesser Maybe s) o ∷ b)
  alone_raised everywhere class s o a b c = record { globals = λ x. within_up (bytes_eq class x) s (c.globals x); locals = c.locals; scopes = c.scopes; marks = c.marks; placed = c.placed }
  alone_raised (within p) class s o a b c =
      record { globals = c.globals; locals = λ q e x. within_up (bytes_eq p q && bytes_eq class x) s (c.locals q e x); scopes = c.scopes; marks = c.marks; placed = c.placed }

  pub alone_raise_all : (place : Where) (path : List ℕ) (before : History) (ig : Option (List ℕ)) (ws : List Raise) (a b : History) → Contained Open a b →
      Contained Open a (raise_all before place path Maybe ig ws b)
  alone_raise_all place path before ig [] a b c = c
  alone_raise_all place path before ig (w ∷ ws) a b c =
      alone_raise_all place path before ig ws a (raise_event before place path Maybe ig w b) (alone_raised place w.0 w.1.0 (handed before path ig w.1.1 (lesser Maybe w.1.0)) a b c)

  pub both_reached : (home home' : Home) (p p' : Numbered) (g g' : Status) (is is' : Bool) (n n' : ℕ) (a b : History) → Contained Open a b →
      Contained Open (Reached home p g is n ∷ a) (Reached home' p' g' is' n' ∷ b)
  both_reached home home' p p' g g' is is' n n' a b c = record { globals = c.globals; locals = c.locals; scopes = c.scopes; marks = c.marks; placed = c.placed }

  -- a call or a report is visited
  pub both_visited : KeysTellWorks → (i : Instance) (r s : Status) (a b : History) → IsKeyed i → (HasActs i.work → ⊥) → Within r s → Contained Open a b → Contained Open (Listed i r ∷ a) (Listed i s ∷ b)
  both_visited tell i r s a b key none v c = record {
    globals = c.globals;
    locals = c.locals;
    scopes = c.scopes;
    marks = λ p x. within_if (bytes_eq i.path p && bytes_eq i.text x) v (c.marks p x);
    placed = placed_visited tell i r s a b key none c.placed;
  }

  -- the walk alone
  pub walk_alone : (a b k : History) → Contained Open a b → Quiet Open b k → Contained Open a k
  walk_alone a b k c q = record {
    globals = λ x. within_lift (c.globals x) (q.globals x);
    locals = λ p o x. subst (λ s. Within (locally a p x) s) (sym (q.locals p o x)) (c.locals p o x);
    scopes = λ p o. c.scopes p o ∙ sym (q.scopes p o);
    marks = λ p x. within_lift (c.marks p x) (q.marks p x);
    placed = placed_ahead a b k c.placed q.order;
  }

  -- ---- an instance is told in both

  abbrev either : List Outcome
  either = Kept ∷ Repaired ∷ []

  -- by what was told, and what stood before
  told_in_both : (i : Instance) (o : Outcome) (s : Status) (a b : History) →
      ((x : List ℕ) → Within (raised_if (is_listed (classes_for i o) x) (raised_to Yes (in_every_list i (o ∷ []) x)) (globally a x))
      (raised_if (is_listed i.repaired x) (raised_to s (in_every_list i either x)) (raised_if (is_listed i.kept x) (raised_to s (in_every_list i either x)) (globally b x)))) →
      ((p : List ℕ) → Open p → (x : List ℕ) → Within (locally a p x) (locally b p x)) →
      ((p : List ℕ) → Open p → scope_in a p ≡ scope_in b p) →
      ((p x : List ℕ) → Within (mark_in a p x) (mark_in b p x)) →
      Placed (Told i (o ∷ []) ∷ a) (Told i either ∷ b) → Contained Open (told i (o ∷ []) Yes a) (told i either s b)
  unfolding told
  told_in_both i o s a b globals locals scopes marks placed =
      let a0 : History = Told i (o ∷ []) ∷ a in
      let a1 : History = raise_each i (o ∷ []) Yes (classes_for i o) a0 in
      let b0 : History = Told i either ∷ b in
      let b1 : History = raise_each i either s i.kept b0 in
      let b2 : History = raise_each i either s i.repaired b1 in
      record {
        globals = λ x.
            subst (λ r. Within r (globally b2 x)) (sym (each_global i (o ∷ []) Yes (classes_for i o) a0 x))
            (subst (λ r. Within (raised_if (is_listed (classes_for i o) x) (raised_to Yes (in_every_list i (o ∷ []) x)) (globally a x)) r)
            (sym (each_global i either s i.repaired b1 x ∙ ap (raised_if (is_listed i.repaired x) (raised_to s (in_every_list i either x))) (each_global i either s i.kept b0 x)))
            (globals x));
        locals = λ p q x.
            subst (λ r. Within r (locally b2 p x)) (sym (each_local i (o ∷ []) Yes (classes_for i o) a0 p x))
            (subst (λ r. Within (locally a p x) r) (sym (each_local i either s i.repaired b1 p x ∙ each_local i either s i.kept b0 p x)) (locals p q x));
        scopes = λ p q. each_scope i (o ∷ []) Yes (classes_for i o) a0 p ∙ (scopes p q ∙ sym (each_scope i either s i.repaired b1 p ∙ each_scope i either s i.kept b0 p));
        marks = λ p x.
            subst (λ r. Within r (mark_in b2 p x)) (sym (each_mark i (o ∷ []) Yes (classes_for i o) a0 p x))
            (subst (λ r. Within (mark_in a p x) r) (sym (each_mark i either s i.repaired b1 p x ∙ each_mark i either s i.kept b0 p x)) (marks p x));
        placed =
            placed_raised i (o ∷ []) Yes (classes_for i o) a0 b2
            (placed_ahead a0 b0 b2 placed (ahead_raised i either s i.repaired b0 b1 (ahead_raised i either s i.kept b0 b0 (ahead_same b0))));
      }

  told_both : (i : Instance) (repaired : Bool) (s : Status) (a b : History) → Within Yes s →
      ((x : List ℕ) → Within (globally a x) (globally b x)) →
      ((p : List ℕ) → Open p → (x : List ℕ) → Within (locally a p x) (locally b p x)) →
      ((p : List ℕ) → Open p → scope_in a p ≡ scope_in b p) →
      ((p x : List ℕ) → Within (mark_in a p x) (mark_in b p x)) →
      Placed (Told i (kept_or_repaired repaired ∷ []) ∷ a) (Told i either ∷ b) → Contained Open (told i (kept_or_repaired repaired ∷ []) Yes a) (told i either s b)
  told_both i true s a b v globals locals scopes marks placed =
      told_in_both i Repaired s a b (λ x. within_repaired (is_listed i.kept x) (is_listed i.repaired x) v (globals x)) locals scopes marks placed
  told_both i false s a b v globals locals scopes marks placed =
      told_in_both i Kept s a b (λ x. within_kept (is_listed i.kept x) (is_listed i.repaired x) v (globals x)) locals scopes marks placed

  -- a call ends
  pub ended_both : (i : Instance) (repaired : Bool) (s : Status) (a b : History) → (HasActs i.work → ⊥) → Within Yes s → Contained Open a b →
      Contained Open (told i (kept_or_repaired repaired ∷ []) Yes a) (told i either s b)
  ended_both i repaired s a b none v c =
      told_both i repaired s a b v c.globals c.locals c.scopes c.marks (placed_ended i (kept_or_repaired repaired) either a b none c.placed)

  -- an instance with acts is visited and told
  pub acted_both : (i : Instance) (repaired : Bool) (s : Status) (a b : History) → HasActs i.work → Within Yes s → Contained Open a b →
      Contained Open (told i (kept_or_repaired repaired ∷ []) Yes (Listed i Yes ∷ a)) (told i either s (Listed i s ∷ b))
  acted_both i repaired s a b has v c =
      told_both i repaired s (Listed i Yes ∷ a) (Listed i s ∷ b) v c.globals c.locals c.scopes (λ p x. within_if (bytes_eq i.path p && bytes_eq i.text x) v (c.marks p x))
      (placed_acted i (kept_or_repaired repaired) either Yes s a b has c.placed)

  -- a report is kept in both
  pub reported_both : (i : Instance) (s : Status) (a b : History) → (HasActs i.work → ⊥) → Within Yes s → Contained Open a b → Contained Open (told i (Kept ∷ []) Yes a) (told i (Kept ∷ []) s b)
  unfolding told
  reported_both i s a b none v c =
      let os : List Outcome = Kept ∷ [] in
      let a0 : History = Told i os ∷ a in
      let b0 : History = Told i os ∷ b in
      let b1 : History = raise_each i os s i.kept b0 in
      record {
        globals = λ x.
            subst (λ r. Within r (globally b1 x)) (sym (each_global i os Yes i.kept a0 x))
            (subst (λ r. Within (raised_if (is_listed i.kept x) (raised_to Yes (in_every_list i os x)) (globally a x)) r) (sym (each_global i os s i.kept b0 x))
            (within_report (is_listed i.kept x) v (c.globals x)));
        locals = λ p q x.
            subst (λ r. Within r (locally b1 p x)) (sym (each_local i os Yes i.kept a0 p x))
            (subst (λ r. Within (locally a p x) r) (sym (each_local i os s i.kept b0 p x)) (c.locals p q x));
        scopes = λ p q. each_scope i os Yes i.kept a0 p ∙ (c.scopes p q ∙ sym (each_scope i os s i.kept b0 p));
        marks = λ p x.
            subst (λ r. Within r (mark_in b1 p x)) (sym (each_mark i os Yes i.kept a0 p x))
            (subst (λ r. Within (mark_in a p x) r) (sym (each_mark i os s i.kept b0 p x)) (c.marks p x));
        placed = placed_raised i os Yes i.kept a0 b1 (placed_ahead a0 b0 b1 (placed_ended i Kept os a b none c.placed) (ahead_raised i os s i.kept b0 b0 (ahead_same b0)));
      }
