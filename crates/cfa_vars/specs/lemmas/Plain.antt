-- A text that expands where no item of a list is chosen refers to texts alone: to nothing unset, and to no list.
use Rattle.std.proofs.Common.{◌≡◌, ℕ, Bool, true, false, cond, List, [], ◌∷◌, find, is_none, Option, Some, None, refl, sym}
use Rattle.std.specs.List.{cons_option}
use Rattle.std.proofs.lemmas.Bool.{false≢true}
use Rattle.std.proofs.lemmas.Option.{none-some}
use Rattle.cfa_vars.specs.declared.scoping.Datum.{Datum}
use Rattle.cfa_vars.specs.declared.scoping.Datum.TheVariants.{Text as text_of, List as list_of}
use Rattle.cfa_vars.specs.References.{names_in}
use Rattle.cfa_vars.specs.Scopes.{InScope, look, key_of}
use Rattle.cfa_vars.specs.Expansion.{scalar, scalar_of, filled, first_unresolved, told_of, is_done, expanded}
use Rattle.cfa_vars.specs.Choices.{Lists, list_under, lists_named, first_unset}

none_told : (found : Option (List ℕ)) (whole : List ℕ) → is_done (told_of found whole) ≡ true → found ≡ None
none_told None whole h = refl
none_told (Some name) whole h = absurd (false≢true h)

none_unresolved : (scopes : InScope) (text : List ℕ) → is_done (expanded scopes [] text) ≡ true → first_unresolved scopes [] text ≡ None
unfolding expanded
none_unresolved scopes text h = none_told (first_unresolved scopes [] text) (filled scopes [] text) h

set_here : (o : Option Datum) (key name : List ℕ) (rest others : Option (List ℕ)) → cond (is_none (scalar_of [] key o)) (Some name) rest ≡ None → (rest ≡ None → others ≡ None) → cond (is_none o) (Some name) others ≡ None
set_here None key name rest others h f = absurd (none-some name (sym h))
set_here (Some (text_of text)) key name rest others h f = f h
set_here (Some (list_of items)) key name rest others h f = absurd (none-some name (sym h))

no_list_here : (o : Option Datum) (key name : List ℕ) (rest : Option (List ℕ)) (others : Lists) → cond (is_none (scalar_of [] key o)) (Some name) rest ≡ None → (rest ≡ None → others ≡ []) → cons_option (list_under key o) others ≡ []
no_list_here None key name rest others h f = absurd (none-some name (sym h))
no_list_here (Some (text_of text)) key name rest others h f = f h
no_list_here (Some (list_of items)) key name rest others h f = absurd (none-some name (sym h))

all_set : (scopes : InScope) (names : List (List ℕ)) → find (λ name. is_none (scalar scopes [] name)) names ≡ None → first_unset scopes names ≡ None
unfolding scalar
all_set scopes [] h = refl
all_set scopes (name ∷ names) h = set_here (look scopes name) (key_of scopes name) name (find (λ m. is_none (scalar scopes [] m)) names) (first_unset scopes names) h (all_set scopes names)

no_list : (scopes : InScope) (names : List (List ℕ)) → find (λ name. is_none (scalar scopes [] name)) names ≡ None → lists_named scopes names ≡ []
unfolding scalar
no_list scopes [] h = refl
no_list scopes (name ∷ names) h = no_list_here (look scopes name) (key_of scopes name) name (find (λ m. is_none (scalar scopes [] m)) names) (lists_named scopes names) h (no_list scopes names)

pub plain_is_set : (scopes : InScope) (text : List ℕ) → is_done (expanded scopes [] text) ≡ true → first_unset scopes (names_in text) ≡ None
plain_is_set scopes text h = all_set scopes (names_in text) (none_unresolved scopes text h)

pub plain_has_no_list : (scopes : InScope) (text : List ℕ) → is_done (expanded scopes [] text) ≡ true → lists_named scopes (names_in text) ≡ []
plain_has_no_list scopes text h = no_list scopes (names_in text) (none_unresolved scopes text h)
