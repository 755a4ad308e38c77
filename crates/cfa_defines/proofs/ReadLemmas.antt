-- What values read, by what stands between their brackets; and what texts alone give.
use Rattle.std.proofs.Common.{◌≡◌, ◌∙◌, ℕ, Bool, true, false, ◌||◌, List, [], ◌∷◌, ◌++◌, ap, sym, refl, map, Option, Some, None, is_none, if◌then◌else◌}
use Rattle.std.specs.List.{filter_map, flat_map, list_any}
use Rattle.std.specs.Option.{option_or}
use Rattle.std.proofs.lemmas.List.Folds.{find-append}
use Rattle.std.specs.declared.alloc.Global.{Global}
use Rattle.std.specs.declared.vec.Vec.{Vec}
use Rattle.cfa_base.specs.declared.places.Place.{Place}
use Rattle.cfa_base.specs.lemmas.Truths.{or_true}
use Rattle.cfa_tree.specs.declared.values.Value.{Value, List as Listed, Call as Called}
use Rattle.cfa_tree.specs.Plain.{plain_value}
use Rattle.cfa_tree.specs.Tree.{value_trees}
use Rattle.cfa_tree.specs.lemmas.Rows.{plain_value-List, plain_value-Call}
use Rattle.cfa_vars.specs.declared.choosing.Choices.TheVariants.{Found, Unresolved, TooMany}
use Rattle.cfa_vars.specs.References.{names_in}
use Rattle.cfa_vars.specs.Scopes.{InScope, look}
use Rattle.cfa_vars.specs.Expansion.{Chosen, expanded}
use Rattle.cfa_vars.specs.Choices.{first_unset, lists_among, all_choices, are_too_many, told_of, choices_of}
use Rattle.cfa_defines.specs.declared.reads.Read.{Read}
use Rattle.cfa_defines.specs.declared.reads.Read.TheVariants.{Text as a_text, List as a_list}
use Rattle.cfa_defines.specs.declared.combining.Combined.TheVariants.{Lacks as lacks, TooMany as too_many}
use Rattle.cfa_defines.specs.OwnTexts.{reads_in, reads_among, arguments_of, scalar_names, lacking_in, first_lacking, is_long_list, has_too_many, choices_among, is_past_limit, has_too_long, found_or_too_long, combined_by, combined}
use Rattle.cfa_defines.specs.OfTheCode.{text_read, has_text_too_long}
use Rattle.cfa_defines.specs.VarsPromises.{choices_unless}

pub reads_of_list : (v : Value) (items : Vec Value Global) (place : Place) → v ≡ Listed items place → reads_in (plain_value v) ≡ reads_among (value_trees (map plain_value items.items))
reads_of_list v items place is = ap (λ x. reads_in (plain_value x)) is ∙ ap reads_in (plain_value-List items place)

pub reads_of_call : (v : Value) (name : List ℕ) (values : Vec Value Global) (place : Place) → v ≡ Called name values place → reads_in (plain_value v) ≡ reads_among (value_trees (map plain_value values.items))
reads_of_call v name values place is = ap (λ x. reads_in (plain_value x)) is ∙ ap reads_in (plain_value-Call name values place)

pub arguments_of_call : (v : Value) (name : List ℕ) (values : Vec Value Global) (place : Place) → v ≡ Called name values place → arguments_of (plain_value v) ≡ value_trees (map plain_value values.items)
arguments_of_call v name values place is = ap (λ x. arguments_of (plain_value x)) is ∙ ap arguments_of (plain_value-Call name values place)

-- ---- what texts alone give

names_of_texts : (reads : List Read) → flat_map names_in (filter_map text_read reads) ≡ flat_map scalar_names reads
names_of_texts [] = refl
names_of_texts (a_text content ∷ reads) = ap (λ names. names_in content ++ names) (names_of_texts reads)
names_of_texts (a_list name ∷ reads) = names_of_texts reads

or_none : {X : Type 0} (o p : Option X) → option_or o p ≡ None → (o ≡ None) × (p ≡ None)
or_none None p h = (refl, h)
or_none (Some x) p h = cc

or_none_of : {X : Type 0} (o p : Option X) → o ≡ None → p ≡ None → option_or o p ≡ None
or_none_of None p h k = k
or_none_of (Some x) p h k = cc

module _ (scopes : InScope) where
  unset_behind : (r : Read) (reads : List Read) → option_or (lacking_in scopes r) (first_lacking scopes reads) ≡ None → (first_lacking scopes reads ≡ None → first_unset scopes (flat_map scalar_names reads) ≡ None) → first_unset scopes (scalar_names r ++ flat_map scalar_names reads) ≡ None
  unset_behind (a_text content) reads h rest =
      let both = or_none (first_unset scopes (names_in content)) (first_lacking scopes reads) h in
      find-append (λ name. is_none (look scopes name)) (names_in content) (flat_map scalar_names reads)
      ∙ or_none_of (first_unset scopes (names_in content)) (first_unset scopes (flat_map scalar_names reads)) both.0 (rest both.1)
  unset_behind (a_list name) reads h rest = rest (or_none (lacking_in scopes (a_list name)) (first_lacking scopes reads) h).1

  none_unset : (reads : List Read) → first_lacking scopes reads ≡ None → first_unset scopes (flat_map scalar_names reads) ≡ None
  none_unset [] h = refl
  none_unset (r ∷ reads) h = unset_behind r reads h (none_unset reads)

  long_texts : (choice : Chosen) (reads : List Read) → has_text_too_long scopes (filter_map text_read reads) choice ≡ has_too_long scopes reads choice
  long_texts choice [] = refl
  long_texts choice (a_text content ∷ reads) = ap (λ t. is_past_limit (expanded scopes choice content) || t) (long_texts choice reads)
  long_texts choice (a_list name ∷ reads) = long_texts choice reads

  once_long : (reads : List Read) (choices : List Chosen) → list_any (has_text_too_long scopes (filter_map text_read reads)) choices ≡ list_any (has_too_long scopes reads) choices
  once_long reads [] = refl
  once_long reads (choice ∷ choices) = λ i. long_texts choice reads i || once_long reads choices i

  -- ---- what reading comes to

  pub reads_lack : (reads : List Read) (name : List ℕ) → first_lacking scopes reads ≡ Some name → lacks name ≡ combined scopes reads
  unfolding combined
  reads_lack reads name e = sym (ap (λ o. combined_by scopes reads o (has_too_many scopes reads)) e)

  combined_so : (reads : List Read) (many : Bool) → first_lacking scopes reads ≡ None → has_too_many scopes reads ≡ many → combined scopes reads ≡ combined_by scopes reads None many
  unfolding combined
  combined_so reads many e h = ap (λ o. combined_by scopes reads o (has_too_many scopes reads)) e ∙ ap (combined_by scopes reads None) h

  pub long_list_is_too_many : (reads : List Read) → first_lacking scopes reads ≡ None → list_any (is_long_list scopes) reads ≡ true → too_many ≡ combined scopes reads
  long_list_is_too_many reads e h =
      let lists = lists_among scopes (flat_map scalar_names reads) in
      sym (combined_so reads true e (ap (λ b. are_too_many lists || b) h ∙ or_true (are_too_many lists)))

  -- what the texts alone give, where all is found
  choices_so : (reads : List Read) (texts : List (List ℕ)) → first_lacking scopes reads ≡ None → texts ≡ filter_map text_read reads → choices_of scopes texts ≡ told_of None (lists_among scopes (flat_map scalar_names reads))
  unfolding choices_of
  choices_so reads texts e is =
      let names = ap (flat_map names_in) is ∙ names_of_texts reads in
      ap (λ ns. told_of (first_unset scopes ns) (lists_among scopes ns)) names
      ∙ ap (λ o. told_of o (lists_among scopes (flat_map scalar_names reads))) (none_unset reads e)

  told_many : (b : Bool) (choices : List Chosen) → (if b then TooMany else Found choices) ≡ TooMany → b ≡ true
  told_many true choices h = refl
  told_many false choices h = cc

  told_found : (b : Bool) (choices given : List Chosen) → (if b then TooMany else Found choices) ≡ Found given → (b ≡ false) × (given ≡ choices)
  told_found true choices given h = cc
  told_found false choices given h = (refl, cc)

  told_never : (b : Bool) (choices : List Chosen) (name : List ℕ) → (if b then TooMany else Found choices) ≡ Unresolved name → ⊥
  told_never true choices name h = cc
  told_never false choices name h = cc

  or_false_so : (a b : Bool) → b ≡ false → (a || b) ≡ a
  or_false_so true b h = refl
  or_false_so false b h = h

  unless_so : (reads : List Read) (many : Bool) (choices : List Chosen) → first_lacking scopes reads ≡ None → has_too_many scopes reads ≡ many → choices_unless (first_lacking scopes reads) (has_too_many scopes reads) choices ≡ choices_unless None many choices
  unless_so reads many choices e h = ap (λ o. choices_unless o (has_too_many scopes reads) choices) e ∙ ap (λ b. choices_unless None b choices) h

  pub none_where_lacking : (reads : List Read) (name : List ℕ) → first_lacking scopes reads ≡ Some name → None ≡ choices_unless (first_lacking scopes reads) (has_too_many scopes reads) (choices_among scopes reads)
  none_where_lacking reads name e = sym (ap (λ o. choices_unless o (has_too_many scopes reads) (choices_among scopes reads)) e)

  pub none_where_long : (reads : List Read) → first_lacking scopes reads ≡ None → list_any (is_long_list scopes) reads ≡ true → None ≡ choices_unless (first_lacking scopes reads) (has_too_many scopes reads) (choices_among scopes reads)
  none_where_long reads e h =
      let lists = lists_among scopes (flat_map scalar_names reads) in
      sym (unless_so reads true (choices_among scopes reads) e (ap (λ b. are_too_many lists || b) h ∙ or_true (are_too_many lists)))

  module _ (reads : List Read) (texts : List (List ℕ)) (none : first_lacking scopes reads ≡ None) (is : texts ≡ filter_map text_read reads) where
    pub never_unresolved : (name : List ℕ) → Unresolved name ≡ choices_of scopes texts → ⊥
    never_unresolved name h =
        let lists = lists_among scopes (flat_map scalar_names reads) in
        told_never (are_too_many lists) (all_choices lists) name (sym (choices_so reads texts none is) ∙ sym h)

    pub texts_are_too_many : list_any (is_long_list scopes) reads ≡ false → TooMany ≡ choices_of scopes texts → too_many ≡ combined scopes reads
    texts_are_too_many short h =
        let lists = lists_among scopes (flat_map scalar_names reads) in
        let many = told_many (are_too_many lists) (all_choices lists) (sym (choices_so reads texts none is) ∙ sym h) in
        sym (combined_so reads true none (or_false_so (are_too_many lists) (list_any (is_long_list scopes) reads) short ∙ many))

    pub texts_are_found : (choices : List Chosen) → list_any (is_long_list scopes) reads ≡ false → Found choices ≡ choices_of scopes texts → found_or_too_long (list_any (has_text_too_long scopes texts) choices) choices ≡ combined scopes reads
    texts_are_found choices short h =
        let lists = lists_among scopes (flat_map scalar_names reads) in
        let here = told_found (are_too_many lists) (all_choices lists) choices (sym (choices_so reads texts none is) ∙ sym h) in
        ap (λ ts. found_or_too_long (list_any (has_text_too_long scopes ts) choices) choices) is
        ∙ ap (λ b. found_or_too_long b choices) (once_long reads choices)
        ∙ ap (λ cs. found_or_too_long (list_any (has_too_long scopes reads) cs) cs) here.1
        ∙ sym (combined_so reads false none (or_false_so (are_too_many lists) (list_any (is_long_list scopes) reads) short ∙ here.0))

    pub none_where_many : list_any (is_long_list scopes) reads ≡ false → TooMany ≡ choices_of scopes texts → None ≡ choices_unless (first_lacking scopes reads) (has_too_many scopes reads) (choices_among scopes reads)
    none_where_many short h =
        let lists = lists_among scopes (flat_map scalar_names reads) in
        let many = told_many (are_too_many lists) (all_choices lists) (sym (choices_so reads texts none is) ∙ sym h) in
        sym (unless_so reads true (choices_among scopes reads) none (or_false_so (are_too_many lists) (list_any (is_long_list scopes) reads) short ∙ many))

    pub all_found : (choices : List Chosen) → list_any (is_long_list scopes) reads ≡ false → Found choices ≡ choices_of scopes texts → Some choices ≡ choices_unless (first_lacking scopes reads) (has_too_many scopes reads) (choices_among scopes reads)
    all_found choices short h =
        let lists = lists_among scopes (flat_map scalar_names reads) in
        let here = told_found (are_too_many lists) (all_choices lists) choices (sym (choices_so reads texts none is) ∙ sym h) in
        ap Some here.1
        ∙ sym (unless_so reads false (choices_among scopes reads) none (or_false_so (are_too_many lists) (list_any (is_long_list scopes) reads) short ∙ here.0))
