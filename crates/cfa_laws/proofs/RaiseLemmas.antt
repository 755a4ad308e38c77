-- What a classes promise raises in a run and in the open walk: the same classes, to statuses that lie together.
use Rattle.std.proofs.Common.{◌≡◌, ℕ, Bool, true, false, List, [], ◌∷◌, ◌++◌, map, Option, Some, None, refl, sym, ap, ap₂, subst, ◌∙◌}
use Rattle.std.specs.Prelude.{◌||◌, codes}
use Rattle.std.specs.List.{list_any, filter_map, cons_option}
use Rattle.cfa_tree.specs.ClassTexts.{expression_of}
use Rattle.cfa_tree.specs.Tree.{ExprTree, ValueTree, text, word, reference, list_reference, list, call, ValueTrees, no_value, more_values, PromiseTree}
use Rattle.cfa_statuses.specs.declared.levels.Status.{Status}
use Rattle.cfa_statuses.specs.declared.levels.Status.TheVariants.{No, Yes}
use Rattle.cfa_statuses.specs.Status.{lesser, greater, value_of as status_of}
use Rattle.cfa_values.specs.Attributes.{value_of}
use Rattle.cfa_vars.specs.declared.expanding.Expanded.{Expanded}
use Rattle.cfa_vars.specs.declared.expanding.Expanded.TheVariants.{Done, Unresolved as unset, TooLong as past}
use Rattle.cfa_vars.specs.Scopes.{InScope, look}
use Rattle.cfa_vars.specs.Expansion.{Chosen, expanded}
use Rattle.cfa_functions.specs.declared.answering.Answer.{Answer}
use Rattle.cfa_functions.specs.declared.answering.Answer.TheVariants.{Text, Class, Unresolved, TooLong}
use Rattle.cfa_functions.specs.declared.reading.ValueText.{ValueText}
use Rattle.cfa_functions.specs.declared.reading.ValueText.TheVariants.{Text as whole_text, Unresolved as text_unresolved, TooLong as text_too_long}
use Rattle.cfa_functions.specs.Calls.{text_given, answer_of, referred_list}
use Rattle.cfa_defines.specs.FirstMaybe.{first_maybe}
use Rattle.cfa_defines.specs.OwnTexts.{held_list}
use Rattle.cfa_defines.specs.Items.{items_or_none, items_written}
use Rattle.cfa_defines.specs.ClassPromises.{said_of, text_said, given_said, answer_said, value_said, items_by, items_said, list_by, list_said, joined, all_said, one_said, opposite, expressed_by, expressed, named_said, raised_in, Raise, stops_all, raise_of, raises_from, raises_of}
use Rattle.cfa_laws.specs.Statuses.{Within, no_no, yes_yes, RaisesAlike, RaisesLieTogether}
use Rattle.cfa_laws.proofs.SaidLemmas.{Said, Told, tells, tells_nothing, halts, said, opposite_told, joined_told, told_stops, told_raise, opposite_said, joined_said, stops_said, raise_said, expression_said}
use Rattle.cfa_laws.specs.lemmas.Within.{within_swapped, within_lesser, within_greater, value_within}

-- both tell a status, or both tell none for the same cause
data ToldAlike : Told → Told → Type 0 where
  statuses : {r w : Status} {first other : Option (List ℕ)} → Within r w → ToldAlike (tells r first) (tells w other)
  nothing_told : ToldAlike tells_nothing tells_nothing
  both_halt : ToldAlike halts halts

record SaidAlike (a b : Said) : Type 0 where
  run : Told
  walk : Told
  in_run : a ≡ said run
  in_walk : b ≡ said walk
  alike : ToldAlike run walk

as_told : (t u : Told) → ToldAlike t u → SaidAlike (said t) (said u)
as_told t u p = record { run = t; walk = u; in_run = refl; in_walk = refl; alike = p }

abbrev AllAlike : List Said → List Said → Type 0
AllAlike [] [] = Unit {0}
AllAlike [] (w ∷ ws) = ⊥
AllAlike (r ∷ rs) [] = ⊥
AllAlike (r ∷ rs) (w ∷ ws) = SaidAlike r w × AllAlike rs ws

append_alike : (rs ws ps qs : List Said) → AllAlike rs ws → AllAlike ps qs → AllAlike (rs ++ ps) (ws ++ qs)
append_alike [] [] ps qs a b = b
append_alike [] (w ∷ ws) ps qs a b = absurd a
append_alike (r ∷ rs) [] ps qs a b = absurd a
append_alike (r ∷ rs) (w ∷ ws) ps qs a b = (a.0, append_alike rs ws ps qs a.1 b)

joined_both : {a b c d : Told} (op : Status → Status → Status) → ((r w s v : Status) → Within r w → Within s v → Within (op r s) (op w v)) →
    ToldAlike a b → ToldAlike c d → ToldAlike (joined_told op a c) (joined_told op b d)
joined_both op f (statuses {r = r} {w = w} p) (statuses {r = s} {w = v} q) = statuses (f r w s v p q)
joined_both op f (statuses p) nothing_told = nothing_told
joined_both op f (statuses p) both_halt = both_halt
joined_both op f nothing_told (statuses q) = nothing_told
joined_both op f nothing_told nothing_told = nothing_told
joined_both op f nothing_told both_halt = both_halt
joined_both op f both_halt q = both_halt

joined_alike : (op : Status → Status → Status) → ((r w s v : Status) → Within r w → Within s v → Within (op r s) (op w v)) → (a b c d : Said) → SaidAlike a b → SaidAlike c d → SaidAlike (joined op a c) (joined op b d)
joined_alike op f a b c d p q = record {
  run = joined_told op p.run q.run;
  walk = joined_told op p.walk q.walk;
  in_run = ap₂ (joined op) p.in_run q.in_run ∙ joined_said op p.run q.run;
  in_walk = ap₂ (joined op) p.in_walk q.in_walk ∙ joined_said op p.walk q.walk;
  alike = joined_both op f p.alike q.alike;
}

all_alike : (rs ws : List Said) → AllAlike rs ws → SaidAlike (all_said rs) (all_said ws)
all_alike [] [] a = as_told (tells Yes None) (tells Yes None) (statuses yes_yes)
all_alike [] (w ∷ ws) a = absurd a
all_alike (r ∷ rs) [] a = absurd a
all_alike (r ∷ rs) (w ∷ ws) a = joined_alike lesser (λ k l m n p q. within_lesser p q) r w (all_said rs) (all_said ws) a.0 (all_alike rs ws a.1)

one_alike : (rs ws : List Said) → AllAlike rs ws → SaidAlike (one_said rs) (one_said ws)
one_alike [] [] a = as_told (tells No None) (tells No None) (statuses no_no)
one_alike [] (w ∷ ws) a = absurd a
one_alike (r ∷ rs) [] a = absurd a
one_alike (r ∷ rs) (w ∷ ws) a = joined_alike greater (λ k l m n p q. within_greater p q) r w (one_said rs) (one_said ws) a.0 (one_alike rs ws a.1)

opposite_both : {t u : Told} → ToldAlike t u → ToldAlike (opposite_told t) (opposite_told u)
opposite_both (statuses p) = statuses (within_swapped p)
opposite_both nothing_told = nothing_told
opposite_both both_halt = both_halt

opposite_alike : (a b : Said) → SaidAlike a b → SaidAlike (opposite a) (opposite b)
opposite_alike a b p = record {
  run = opposite_told p.run;
  walk = opposite_told p.walk;
  in_run = ap opposite p.in_run ∙ opposite_said p.run;
  in_walk = ap opposite p.in_walk ∙ opposite_said p.walk;
  alike = opposite_both p.alike;
}

-- both stop their promise, or none does
both_stop : {t u : Told} → ToldAlike t u → told_stops t ≡ told_stops u
both_stop (statuses p) = refl
both_stop nothing_told = refl
both_stop both_halt = refl

raised_alike : {t u : Told} (n m : List ℕ) → n ≡ m → ToldAlike t u → (rs ws : List Raise) → RaisesAlike rs ws →
    RaisesAlike (cons_option (told_raise n t) rs) (cons_option (told_raise m u) ws)
raised_alike n m same (statuses p) rs ws more = (same, p, more)
raised_alike n m same nothing_told rs ws more = more
raised_alike n m same both_halt rs ws more = more

-- ---- raises

module _ (f g : List ℕ → Status) (within : (c : List ℕ) → Within (f c) (g c)) where
  expression_alike : (e : Option ExprTree) → SaidAlike (said_of f e) (said_of g e)
  expression_alike None = as_told tells_nothing tells_nothing nothing_told
  expression_alike (Some e) = record {
    run = tells (status_of e f) (first_maybe e f);
    walk = tells (status_of e g) (first_maybe e g);
    in_run = expression_said f e;
    in_walk = expression_said g e;
    alike = statuses (value_within f g within e);
  }

  both_stopping : SaidAlike (said halts) (said halts)
  both_stopping = as_told halts halts both_halt

  text_alike : (content : List ℕ) → SaidAlike (text_said f content) (text_said g content)
  text_alike content = expression_alike (expression_of content)

  texts_alike : (contents : List (List ℕ)) → AllAlike (map (text_said f) contents) (map (text_said g) contents)
  texts_alike [] = tt
  texts_alike (content ∷ contents) = (text_alike content, texts_alike contents)

  given_alike : (given : ValueText) → SaidAlike (given_said f given) (given_said g given)
  given_alike (whole_text content) = text_alike content
  given_alike (text_unresolved name) = both_stopping
  given_alike text_too_long = both_stopping

  yes_alike : (b : Bool) → SaidAlike (answer_said (Class b)) (answer_said (Class b))
  yes_alike true = as_told (tells Yes None) (tells Yes None) (statuses yes_yes)
  yes_alike false = as_told (tells No None) (tells No None) (statuses no_no)

  answer_alike : (answer : Answer) → SaidAlike (answer_said answer) (answer_said answer)
  answer_alike (Text content) = both_stopping
  answer_alike (Class holds) = yes_alike holds
  answer_alike Unresolved = both_stopping
  answer_alike TooLong = both_stopping

  module _ (scopes : InScope) (choice : Chosen) where
    value_alike : (value : ValueTree) → SaidAlike (value_said f scopes choice value) (value_said g scopes choice value)
    value_alike (call name arguments place) = answer_alike (answer_of scopes choice name arguments)
    value_alike (text content place) = given_alike (text_given scopes choice (text content place))
    value_alike (word name place) = given_alike (text_given scopes choice (word name place))
    value_alike (reference name place) = given_alike (text_given scopes choice (reference name place))
    value_alike (list_reference name place) = both_stopping
    value_alike (list items place) = both_stopping

    by_alike : (name : Option (List ℕ)) (a b : Said) → SaidAlike a b → AllAlike (items_by f scopes choice name a) (items_by g scopes choice name b)
    by_alike None a b p = (p, tt)
    by_alike (Some name) a b p = texts_alike (items_or_none (held_list (look scopes name)))

    items_alike : (values : ValueTrees) → AllAlike (items_said f scopes choice values) (items_said g scopes choice values)
    items_alike no_value = tt
    items_alike (more_values value rest) =
        append_alike (items_by f scopes choice (referred_list value) (value_said f scopes choice value)) (items_by g scopes choice (referred_list value) (value_said g scopes choice value))
        (items_said f scopes choice rest) (items_said g scopes choice rest)
        (by_alike (referred_list value) (value_said f scopes choice value) (value_said g scopes choice value) (value_alike value)) (items_alike rest)

    list_by_alike : (name : Option (List ℕ)) (as' bs : List Said) → AllAlike as' bs → AllAlike (list_by f scopes choice name as') (list_by g scopes choice name bs)
    list_by_alike None as' bs p = p
    list_by_alike (Some name) as' bs p = texts_alike (items_or_none (held_list (look scopes name)))

    list_alike : (value : ValueTree) → AllAlike (list_said f scopes choice value) (list_said g scopes choice value)
    list_alike value =
        list_by_alike (referred_list value) (items_said f scopes choice (items_written value)) (items_said g scopes choice (items_written value)) (items_alike (items_written value))

  module _ (scopes : InScope) (promise : PromiseTree) where
    by_attribute : (choice : Chosen) (expression negation conjunction disjunction : Option ValueTree) →
        SaidAlike (expressed_by f scopes promise choice expression negation conjunction disjunction) (expressed_by g scopes promise choice expression negation conjunction disjunction)
    by_attribute choice (Some value) negation conjunction disjunction = value_alike scopes choice value
    by_attribute choice None (Some value) conjunction disjunction =
        opposite_alike (value_said f scopes choice value) (value_said g scopes choice value) (value_alike scopes choice value)
    by_attribute choice None None (Some value) disjunction = all_alike (list_said f scopes choice value) (list_said g scopes choice value) (list_alike scopes choice value)
    by_attribute choice None None None (Some value) = one_alike (list_said f scopes choice value) (list_said g scopes choice value) (list_alike scopes choice value)
    by_attribute choice None None None None = both_stopping

    -- what is raised in one combination
    abbrev InAlike : Option (List ℕ × Said) → Option (List ℕ × Said) → Type 0
    InAlike None None = Unit {0}
    InAlike None (Some w) = ⊥
    InAlike (Some r) None = ⊥
    InAlike (Some r) (Some w) = (r.0 ≡ w.0) × SaidAlike r.1 w.1

    named_alike : (name : Expanded) (a b : Said) → SaidAlike a b → InAlike (named_said f scopes promise name a) (named_said g scopes promise name b)
    named_alike (Done name) a b p = (refl, p)
    named_alike (unset name) a b p = tt
    named_alike past a b p = tt

    in_alike : (choice : Chosen) → InAlike (raised_in f scopes promise choice) (raised_in g scopes promise choice)
    in_alike choice =
        named_alike (expanded scopes choice promise.promiser) (expressed f scopes promise choice) (expressed g scopes promise choice)
        (by_attribute choice (value_of (codes "expression") promise.attributes) (value_of (codes "not") promise.attributes)
        (value_of (codes "and") promise.attributes) (value_of (codes "or") promise.attributes))

    said_stops : (a b : Said) (n m : List ℕ) → SaidAlike a b → stops_all (Some (n, a)) ≡ stops_all (Some (m, b))
    said_stops a b n m p =
        ap (λ s. stops_all (Some (n, s))) p.in_run ∙ stops_said n p.run ∙ both_stop p.alike
        ∙ sym (ap (λ s. stops_all (Some (m, s))) p.in_walk ∙ stops_said m p.walk)

    stops_alike : (a b : Option (List ℕ × Said)) → InAlike a b → stops_all a ≡ stops_all b
    stops_alike None None p = refl
    stops_alike None (Some w) p = absurd p
    stops_alike (Some r) None p = absurd p
    stops_alike (Some r) (Some w) p = said_stops r.1 w.1 r.0 w.0 p.1

    any_alike : (choices : List Chosen) →
        list_any (λ choice. stops_all (raised_in f scopes promise choice)) choices ≡ list_any (λ choice. stops_all (raised_in g scopes promise choice)) choices
    any_alike [] = refl
    any_alike (choice ∷ choices) =
        ap₂ (λ a b. a || b) (stops_alike (raised_in f scopes promise choice) (raised_in g scopes promise choice) (in_alike choice)) (any_alike choices)

    cons_said : (a b : Said) (n m : List ℕ) → n ≡ m → SaidAlike a b → (rs ws : List Raise) → RaisesAlike rs ws →
        RaisesAlike (cons_option (raise_of (Some (n, a))) rs) (cons_option (raise_of (Some (m, b))) ws)
    cons_said a b n m same p rs ws more =
        subst (λ x. RaisesAlike (cons_option x rs) (cons_option (raise_of (Some (m, b))) ws)) (sym (ap (λ s. raise_of (Some (n, s))) p.in_run ∙ raise_said n p.run))
        (subst (λ y. RaisesAlike (cons_option (told_raise n p.run) rs) (cons_option y ws)) (sym (ap (λ s. raise_of (Some (m, s))) p.in_walk ∙ raise_said m p.walk))
        (raised_alike n m same p.alike rs ws more))

    cons_alike : (a b : Option (List ℕ × Said)) → InAlike a b → (rs ws : List Raise) → RaisesAlike rs ws →
        RaisesAlike (cons_option (raise_of a) rs) (cons_option (raise_of b) ws)
    cons_alike None None p rs ws more = more
    cons_alike None (Some w) p rs ws more = absurd p
    cons_alike (Some r) None p rs ws more = absurd p
    cons_alike (Some r) (Some w) p rs ws more = cons_said r.1 w.1 r.0 w.0 p.0 p.1 rs ws more

    made_alike : (choices : List Chosen) →
        RaisesAlike (filter_map (λ choice. raise_of (raised_in f scopes promise choice)) choices) (filter_map (λ choice. raise_of (raised_in g scopes promise choice)) choices)
    made_alike [] = tt
    made_alike (choice ∷ choices) =
        cons_alike (raised_in f scopes promise choice) (raised_in g scopes promise choice) (in_alike choice)
        (filter_map (λ choice. raise_of (raised_in f scopes promise choice)) choices) (filter_map (λ choice. raise_of (raised_in g scopes promise choice)) choices) (made_alike choices)

    from_alike : (choices : List Chosen) → RaisesAlike (raises_from f scopes promise choices) (raises_from g scopes promise choices)
    from_alike choices =
        subst (λ b. RaisesAlike (raises_from f scopes promise choices) (elim b [ true ↦ [] | false ↦ filter_map (λ choice. raise_of (raised_in g scopes promise choice)) choices ])) (any_alike choices)
        (go (list_any (λ choice. stops_all (raised_in f scopes promise choice)) choices))
      where
        go : (b : Bool) → RaisesAlike (elim b [ true ↦ [] | false ↦ filter_map (λ choice. raise_of (raised_in f scopes promise choice)) choices ])
            (elim b [ true ↦ [] | false ↦ filter_map (λ choice. raise_of (raised_in g scopes promise choice)) choices ])
        go true = tt
        go false = made_alike choices

    -- what the promise raises
    pub raises_alike : (choices : Option (List Chosen)) → RaisesAlike (raises_of f scopes promise choices) (raises_of g scopes promise choices)
    unfolding raises_of
    raises_alike None = tt
    raises_alike (Some choices) = from_alike choices

pub raises_together : RaisesLieTogether
raises_together run walk within scopes promise choices = raises_alike run walk within scopes promise choices
