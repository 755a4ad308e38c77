-- What values give as arguments, one after another.
use Rattle.std.proofs.Common.{◌≡◌, ◌<◌, ◌≤◌, ◌+◌, ℕ, List, [], ◌∷◌, ◌++◌, length, drop, get_or, map, ap, sym, ◌∙◌}
use Rattle.std.proofs.lemmas.List.{drop_more, drop_all, append_assoc, append-nil}
use Rattle.std.specs.declared.alloc.Global.{Global}
use Rattle.std.specs.declared.vec.Vec.{Vec}
use Rattle.cfa_base.specs.declared.places.Place.{Place}
use Rattle.cfa_tree.specs.declared.values.Value.{Value, List as Listed, Call as Called}
use Rattle.cfa_tree.specs.Plain.{plain_value}
use Rattle.cfa_tree.specs.Tree.{value_trees}
use Rattle.cfa_tree.specs.lemmas.Rows.{plain_value-List, plain_value-Call}
use Rattle.cfa_vars.specs.Scopes.{InScope}
use Rattle.cfa_vars.specs.Expansion.{Chosen}
use Rattle.cfa_kinds.specs.declared.functions.Function.{Function}
use Rattle.cfa_functions.specs.Functions.{Argument}
use Rattle.cfa_kinds.specs.Functions.{function_named, takes_list}
use Rattle.cfa_functions.specs.Calls.{argument_at, nested, text_argument, text_given, arguments_given, items_given, list_given}

module _ (scopes : InScope) (choice : Chosen) where
  -- what the values from a place on give
  abbrev pub given_from : Function → List Value → ℕ → List Argument
  given_from f values i = arguments_given scopes choice f i (value_trees (map plain_value (drop i values)))

  pub given_more : (f : Function) (values : List Value) (i : ℕ) (v : Value) (so_far : List Argument) (a : Argument) → i < length values → v ≡ get_or values i v → a ≡ argument_at scopes (takes_list f i) (plain_value v) (text_argument (text_given scopes choice (plain_value v))) → so_far ++ given_from f values i ≡ (so_far ++ a ∷ []) ++ given_from f values (i + 1)
  given_more f values i v so_far a h is e =
      ap (λ vs. so_far ++ arguments_given scopes choice f i (value_trees (map plain_value vs))) (drop_more values i v h)
      ∙ ap (λ x. so_far ++ arguments_given scopes choice f i (value_trees (map plain_value (x ∷ drop (i + 1) values)))) (sym is)
      ∙ ap (λ x. so_far ++ x ∷ given_from f values (i + 1)) (sym e)
      ∙ sym (append_assoc so_far (a ∷ []) (given_from f values (i + 1)))

  pub given_all : (f : Function) (values : List Value) (i : ℕ) (so_far : List Argument) → length values ≤ i → so_far ≡ so_far ++ given_from f values i
  given_all f values i so_far h =
      sym (ap (λ vs. so_far ++ arguments_given scopes choice f i (value_trees (map plain_value vs))) (drop_all i values h) ∙ append-nil so_far)

  -- what a nested call gives, by the values in its parentheses
  pub call_given : (v : Value) (name : List ℕ) (values : Vec Value Global) (place : Place) → v ≡ Called name values place → text_given scopes choice (plain_value v) ≡ nested (function_named name) (λ f. arguments_given scopes choice f 0 (value_trees (map plain_value values.items)))
  call_given v name values place is =
      ap (λ x. text_given scopes choice (plain_value x)) is ∙ ap (λ t. text_given scopes choice t) (plain_value-Call name values place)

  -- what a list gives, by the values between its brackets
  pub list_by_items : (v : Value) (items : Vec Value Global) (place : Place) → v ≡ Listed items place → list_given scopes choice (plain_value v) ≡ items_given scopes choice (value_trees (map plain_value items.items))
  unfolding list_given
  list_by_items v items place is =
      ap (λ x. list_given scopes choice (plain_value x)) is ∙ ap (λ t. list_given scopes choice t) (plain_value-List items place)
