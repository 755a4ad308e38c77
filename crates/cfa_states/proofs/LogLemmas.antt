-- What is kept of a walk, one after the other.
use Rattle.std.proofs.Common.{◌≡◌, ℕ, ◌+◌, ◌<◌, List, [], ◌∷◌, ◌++◌, length, take, get_or, Option, Some, None, refl, sym, ap, ◌∙◌, append_assoc}
use Rattle.std.specs.Prelude.{option_map}
use Rattle.std.specs.List.{filter_map, cons_option}
use Rattle.std.proofs.lemmas.List.{take_more}
use Rattle.std.proofs.lemmas.List.Elements.{filter_map-append}
use Rattle.cfa_outcomes.specs.Environments.{source_of}
use Rattle.cfa_scripts.specs.declared.blaming.Unsettled.{Unsettled}
use Rattle.cfa_states.specs.declared.states.State.{State}
use Rattle.cfa_states.specs.declared.waits.Wait.{Wait}
use Rattle.cfa_states.specs.declared.walks.Blame.{Blame}
use Rattle.cfa_states.specs.Logs.{Rows, logged_blames}
use Rattle.cfa_states.specs.Waits.{wait_on}
use Rattle.cfa_states.specs.Walks.{blame_for, blame_edit}
use Rattle.cfa_states.proofs.WaitLemmas.{logged_none}

-- ---- promises of an edit bundle

logged_then : (xs ys : List Blame) (log : Option Rows) → logged_blames ys (logged_blames xs log) ≡ logged_blames (xs ++ ys) log
logged_then xs ys None = refl
logged_then xs ys (Some rows) = ap (λ (x : List Blame). Some (rows.0, rows.1, x)) (append_assoc rows.2 xs ys)

-- one more was looked at
blamed_more : (f : Unsettled → Option Blame) (us : List Unsettled) (i : ℕ) (u : Unsettled) (log : Option Rows) → i < length us → u ≡ get_or us i u →
    logged_blames (cons_option (f u) []) (logged_blames (filter_map f (take i us)) log) ≡ logged_blames (filter_map f (take (i + 1) us)) log
blamed_more f us i u log within here =
    logged_then (filter_map f (take i us)) (cons_option (f u) []) log
    ∙ ap (λ (x : List Blame). logged_blames x log)
    (sym (filter_map-append f (take i us) (u ∷ []))
    ∙ ap (filter_map f) (ap (λ (x : Unsettled). take i us ++ x ∷ []) here ∙ sym (take_more us i u within)))

module _ (st st' : State) (us : List Unsettled) (i : ℕ) (u : Unsettled) (within : i < length us) (here : u ≡ get_or us i u)
    (so_far : st' ≡ record st { log = logged_blames (filter_map (blame_edit (source_of st.environment)) (take i us)) st.log })
    (found : Option Wait) (found_is : found ≡ wait_on u.class (source_of st'.environment u.origin)) where
  pub edits_more : (st'' : State) (blames : List Blame) → blames ≡ cons_option (option_map (blame_for u.promise) found) [] → st'' ≡ record st' { log = logged_blames blames st'.log } →
      st'' ≡ record st { log = logged_blames (filter_map (blame_edit (source_of st.environment)) (take (i + 1) us)) st.log }
  edits_more st'' blames are is =
      let f = blame_edit (source_of st.environment) in
      let before : Option Rows = logged_blames (filter_map f (take i us)) st.log in
      let blamed : blames ≡ cons_option (f u) [] =
      are
      ∙ (ap (λ (w : Option Wait). cons_option (option_map (blame_for u.promise) w) []) found_is
      ∙ ap (λ (x : State). cons_option (option_map (blame_for u.promise) (wait_on u.class (source_of x.environment u.origin))) []) so_far) in
      is
      ∙ (ap (λ (x : State). record x { log = logged_blames blames x.log }) so_far
      ∙ (ap (λ (x : List Blame). record st { log = logged_blames x before }) blamed
      ∙ ap (λ (x : Option Rows). record st { log = x }) (blamed_more f us i u st.log within here)))

  pub none_more : (st'' : State) → found ≡ None → st'' ≡ st' →
      st'' ≡ record st { log = logged_blames (filter_map (blame_edit (source_of st.environment)) (take (i + 1) us)) st.log }
  none_more st'' none is =
      edits_more st'' [] (ap (λ (w : Option Wait). cons_option (option_map (blame_for u.promise) w) []) (sym none))
      (is ∙ ap (λ (x : Option Rows). record st' { log = x }) (sym (logged_none st'.log)))
