-- A class that is raised to Maybe waits for a class that may be set or not.
use Rattle.std.proofs.Common.{◌≡◌, ℕ, Bool, true, false, List, [], ◌∷◌, map, Option, Some, None, refl, sym, ap, ap₂, subst, ◌∙◌, ◌⊎◌, inl, inr}
use Rattle.std.specs.Prelude.{codes}
use Rattle.std.specs.List.{AllByRecursion as Each, list_any, filter_map, cons_option}
use Rattle.std.specs.Option.{option_or}
use Rattle.cfa_base.specs.lemmas.Lists.{each_append}
use Rattle.cfa_tree.specs.ClassTexts.{expression_of}
use Rattle.cfa_tree.specs.Tree.{ExprTree, class, ValueTree, text, word, reference, list_reference, list, call, ValueTrees, no_value, more_values, PromiseTree}
use Rattle.cfa_statuses.specs.declared.levels.Status.{Status}
use Rattle.cfa_statuses.specs.declared.levels.Status.TheVariants.{No, Maybe, Yes}
use Rattle.cfa_statuses.specs.Status.{lesser, greater, value_of as status_of}
use Rattle.cfa_values.specs.Attributes.{value_of}
use Rattle.cfa_vars.specs.declared.expanding.Expanded.{Expanded}
use Rattle.cfa_vars.specs.declared.expanding.Expanded.TheVariants.{Done, Unresolved as unset, TooLong as past}
use Rattle.cfa_vars.specs.Scopes.{InScope, look}
use Rattle.cfa_vars.specs.Expansion.{Chosen, expanded}
use Rattle.cfa_functions.specs.declared.answering.Answer.{Answer}
use Rattle.cfa_functions.specs.declared.answering.Answer.TheVariants.{Text, Class, Unresolved, TooLong}
use Rattle.cfa_functions.specs.declared.reading.ValueText.{ValueText}
use Rattle.cfa_functions.specs.declared.reading.ValueText.TheVariants.{Text as whole_text, Unresolved as text_unresolved, TooLong as text_too_long}
use Rattle.cfa_functions.specs.Calls.{text_given, answer_of, referred_list}
use Rattle.cfa_defines.specs.OwnTexts.{held_list}
use Rattle.cfa_defines.specs.FirstMaybe.{first_maybe}
use Rattle.cfa_defines.specs.Items.{items_or_none, items_written}
use Rattle.cfa_defines.specs.ClassPromises.{said_of, text_said, given_said, answer_said, value_said, items_by, items_said, list_by, list_said, joined, all_said, one_said, opposite, expressed_by, expressed, named_said, raised_in, Raise, stops_all, raise_of, raises_from, raises_of}
use Rattle.cfa_laws.specs.Sources.{IsFirst, RaiseHasFirst, RaisesHaveFirst}
use Rattle.cfa_laws.specs.lemmas.MaybeClasses.{first_or, first_left, swapped_maybe, lesser_maybe, greater_maybe, first_is, maybe_first}
use Rattle.cfa_laws.proofs.SaidLemmas.{Said, Told, tells, tells_nothing, halts, said, opposite_told, joined_told, told_raise, opposite_said, joined_said, raise_said, expression_said}

-- ---- what is said of an expression that may hold or not

module _ (status : List ℕ → Status) where
  abbrev IsFirstOf : Status → Option (List ℕ) → Type 0
  IsFirstOf s first = ((c : List ℕ) → first ≡ Some c → status c ≡ Maybe) × (s ≡ Maybe → IsFirst status first)

  abbrev ToldHasFirst : Told → Type 0
  ToldHasFirst (tells s first) = IsFirstOf s first
  ToldHasFirst tells_nothing = Unit {0}
  ToldHasFirst halts = Unit {0}

  record SaidHasFirst (a : Said) : Type 0 where
    told : Told
    is : a ≡ said told
    first : ToldHasFirst told

  as_told : (t : Told) → ToldHasFirst t → SaidHasFirst (said t)
  as_told t p = record { told = t; is = refl; first = p }

  stopping : SaidHasFirst (said halts)
  stopping = as_told halts tt

  abbrev AllHaveFirst : List Said → Type 0
  AllHaveFirst = Each SaidHasFirst

  or_of : (a b : Option (List ℕ)) → ((c : List ℕ) → a ≡ Some c → status c ≡ Maybe) → ((c : List ℕ) → b ≡ Some c → status c ≡ Maybe) → (c : List ℕ) → option_or a b ≡ Some c → status c ≡ Maybe
  or_of None b p q c e = q c e
  or_of (Some x) b p q c e = p c e

  joined_both : (op : Status → Status → Status) → ((a b : Status) → op a b ≡ Maybe → (a ≡ Maybe) ⊎ (b ≡ Maybe)) → (t u : Told) → ToldHasFirst t → ToldHasFirst u → ToldHasFirst (joined_told op t u)
  joined_both op of (tells s first) (tells t next) p q = (
    or_of first next p.0 q.0,
    λ e. elim (of s t e) [ inl m ↦ first_left status first next (p.1 m) | inr m ↦ first_or status first next p.0 (q.1 m) ],
  )
  joined_both op of (tells s first) tells_nothing p q = tt
  joined_both op of (tells s first) halts p q = tt
  joined_both op of tells_nothing (tells t next) p q = tt
  joined_both op of tells_nothing tells_nothing p q = tt
  joined_both op of tells_nothing halts p q = tt
  joined_both op of halts u p q = tt

  joined_first : (op : Status → Status → Status) → ((a b : Status) → op a b ≡ Maybe → (a ≡ Maybe) ⊎ (b ≡ Maybe)) → (a b : Said) → SaidHasFirst a → SaidHasFirst b → SaidHasFirst (joined op a b)
  joined_first op of a b p q = record {
    told = joined_told op p.told q.told;
    is = ap₂ (joined op) p.is q.is ∙ joined_said op p.told q.told;
    first = joined_both op of p.told q.told p.first q.first;
  }

  none_first : IsFirstOf Yes None
  none_first = ((λ c e. absurd (cc)), (λ e. absurd (cc)))

  no_first : IsFirstOf No None
  no_first = ((λ c e. absurd (cc)), (λ e. absurd (cc)))

  all_first : (all : List Said) → AllHaveFirst all → SaidHasFirst (all_said all)
  all_first [] p = as_told (tells Yes None) none_first
  all_first (a ∷ all) p = joined_first lesser lesser_maybe a (all_said all) p.0 (all_first all p.1)

  one_first : (all : List Said) → AllHaveFirst all → SaidHasFirst (one_said all)
  one_first [] p = as_told (tells No None) no_first
  one_first (a ∷ all) p = joined_first greater greater_maybe a (one_said all) p.0 (one_first all p.1)

  opposite_one : (t : Told) → ToldHasFirst t → ToldHasFirst (opposite_told t)
  opposite_one (tells s first) p = (p.0, λ e. p.1 (swapped_maybe s e))
  opposite_one tells_nothing p = tt
  opposite_one halts p = tt

  opposite_first : (a : Said) → SaidHasFirst a → SaidHasFirst (opposite a)
  opposite_first a p = record {
    told = opposite_told p.told;
    is = ap opposite p.is ∙ opposite_said p.told;
    first = opposite_one p.told p.first;
  }

  expression_first : (e : Option ExprTree) → SaidHasFirst (said_of status e)
  expression_first None = as_told tells_nothing tt
  expression_first (Some e) = record {
    told = tells (status_of e status) (first_maybe e status);
    is = expression_said status e;
    first = (first_is status e, maybe_first status e);
  }

  text_first : (content : List ℕ) → SaidHasFirst (text_said status content)
  text_first content = expression_first (expression_of content)

  texts_first : (contents : List (List ℕ)) → AllHaveFirst (map (text_said status) contents)
  texts_first [] = tt
  texts_first (content ∷ contents) = (text_first content, texts_first contents)

  given_first : (given : ValueText) → SaidHasFirst (given_said status given)
  given_first (whole_text content) = text_first content
  given_first (text_unresolved name) = stopping
  given_first text_too_long = stopping

  yes_first : (b : Bool) → SaidHasFirst (answer_said (Class b))
  yes_first true = as_told (tells Yes None) none_first
  yes_first false = as_told (tells No None) no_first

  answer_first : (answer : Answer) → SaidHasFirst (answer_said answer)
  answer_first (Text content) = stopping
  answer_first (Class holds) = yes_first holds
  answer_first Unresolved = stopping
  answer_first TooLong = stopping

  module _ (scopes : InScope) (choice : Chosen) where
    value_first : (value : ValueTree) → SaidHasFirst (value_said status scopes choice value)
    value_first (call name arguments place) = answer_first (answer_of scopes choice name arguments)
    value_first (text content place) = given_first (text_given scopes choice (text content place))
    value_first (word name place) = given_first (text_given scopes choice (word name place))
    value_first (reference name place) = given_first (text_given scopes choice (reference name place))
    value_first (list_reference name place) = stopping
    value_first (list items place) = stopping

    by_first : (name : Option (List ℕ)) (a : Said) → SaidHasFirst a → AllHaveFirst (items_by status scopes choice name a)
    by_first None a p = (p, tt)
    by_first (Some name) a p = texts_first (items_or_none (held_list (look scopes name)))

    items_first : (values : ValueTrees) → AllHaveFirst (items_said status scopes choice values)
    items_first no_value = tt
    items_first (more_values value rest) =
        each_append SaidHasFirst (items_by status scopes choice (referred_list value) (value_said status scopes choice value)) (items_said status scopes choice rest)
        (by_first (referred_list value) (value_said status scopes choice value) (value_first value)) (items_first rest)

    list_by_first : (name : Option (List ℕ)) (items : List Said) → AllHaveFirst items → AllHaveFirst (list_by status scopes choice name items)
    list_by_first None items p = p
    list_by_first (Some name) items p = texts_first (items_or_none (held_list (look scopes name)))

    list_first : (value : ValueTree) → AllHaveFirst (list_said status scopes choice value)
    list_first value = list_by_first (referred_list value) (items_said status scopes choice (items_written value)) (items_first (items_written value))

  module _ (scopes : InScope) (promise : PromiseTree) where
    by_attribute : (choice : Chosen) (expression negation conjunction disjunction : Option ValueTree) → SaidHasFirst (expressed_by status scopes promise choice expression negation conjunction disjunction)
    by_attribute choice (Some value) negation conjunction disjunction = value_first scopes choice value
    by_attribute choice None (Some value) conjunction disjunction = opposite_first (value_said status scopes choice value) (value_first scopes choice value)
    by_attribute choice None None (Some value) disjunction = all_first (list_said status scopes choice value) (list_first scopes choice value)
    by_attribute choice None None None (Some value) = one_first (list_said status scopes choice value) (list_first scopes choice value)
    by_attribute choice None None None None = stopping

    abbrev InHasFirst : Option (List ℕ × Said) → Type 0
    InHasFirst None = Unit {0}
    InHasFirst (Some r) = SaidHasFirst r.1

    named_first : (name : Expanded) (a : Said) → SaidHasFirst a → InHasFirst (named_said status scopes promise name a)
    named_first (Done name) a p = p
    named_first (unset name) a p = tt
    named_first past a p = tt

    in_first : (choice : Chosen) → InHasFirst (raised_in status scopes promise choice)
    in_first choice =
        named_first (expanded scopes choice promise.promiser) (expressed status scopes promise choice)
        (by_attribute choice (value_of (codes "expression") promise.attributes) (value_of (codes "not") promise.attributes)
        (value_of (codes "and") promise.attributes) (value_of (codes "or") promise.attributes))

    cons_told : (name : List ℕ) (t : Told) → ToldHasFirst t → (rs : List Raise) → Each (RaiseHasFirst status) rs → Each (RaiseHasFirst status) (cons_option (told_raise name t) rs)
    cons_told name (tells s first) p rs rest = (p.1, rest)
    cons_told name tells_nothing p rs rest = rest
    cons_told name halts p rs rest = rest

    cons_said_first : (name : List ℕ) (a : Said) → SaidHasFirst a → (rs : List Raise) → Each (RaiseHasFirst status) rs → Each (RaiseHasFirst status) (cons_option (raise_of (Some (name, a))) rs)
    cons_said_first name a p rs rest =
        subst (λ x. Each (RaiseHasFirst status) (cons_option x rs)) (sym (ap (λ s. raise_of (Some (name, s))) p.is ∙ raise_said name p.told))
        (cons_told name p.told p.first rs rest)

    cons_first : (a : Option (List ℕ × Said)) → InHasFirst a → (rs : List Raise) → Each (RaiseHasFirst status) rs → Each (RaiseHasFirst status) (cons_option (raise_of a) rs)
    cons_first None p rs rest = rest
    cons_first (Some a) p rs rest = cons_said_first a.0 a.1 p rs rest

    made_first : (choices : List Chosen) → Each (RaiseHasFirst status) (filter_map (λ choice. raise_of (raised_in status scopes promise choice)) choices)
    made_first [] = tt
    made_first (choice ∷ choices) =
        cons_first (raised_in status scopes promise choice) (in_first choice) (filter_map (λ choice. raise_of (raised_in status scopes promise choice)) choices) (made_first choices)

    from_first : (choices : List Chosen) → Each (RaiseHasFirst status) (raises_from status scopes promise choices)
    from_first choices = go (list_any (λ choice. stops_all (raised_in status scopes promise choice)) choices)
      where
        go : (b : Bool) → Each (RaiseHasFirst status) (elim b [ true ↦ [] | false ↦ filter_map (λ choice. raise_of (raised_in status scopes promise choice)) choices ])
        go true = tt
        go false = made_first choices

    pub raises_first : (choices : Option (List Chosen)) → Each (RaiseHasFirst status) (raises_of status scopes promise choices)
    unfolding raises_of
    raises_first None = tt
    raises_first (Some choices) = from_first choices

pub have_first : RaisesHaveFirst
have_first status scopes promise choices = raises_first status scopes promise choices
