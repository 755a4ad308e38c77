-- The values of a list, and of a call's arguments.
use Rattle.std.proofs.Common.{◌≡◌, ◌<◌, ◌+◌, ℕ, Bool, true, false, Some, List, [], ◌∷◌, ◌++◌, length, drop, get_or, map, Option, refl, ap, sym, ◌∙◌, add-one}
use Rattle.std.specs.Prelude.{not, if◌then◌else◌}
use mathlib.Core.Bool.{beq}
use Rattle.std.specs.List.{flat_map}
use Rattle.std.proofs.lemmas.List.{length-map, drop_more}
use Rattle.cfa_base.specs.declared.places.Place.{Place}
use Rattle.cfa_tree.specs.declared.values.Value.{Value}
use Rattle.cfa_tree.specs.Plain.{plain_value}
use Rattle.cfa_tree.specs.Tree.{ValueTree, value_trees, values_in}
use Rattle.cfa_tree.specs.lemmas.Rows.{values_in_trees}
use Rattle.cfa_kinds.specs.declared.functions.Function.{Function}
use Rattle.cfa_values.specs.declared.refusals.Refusal.{Refusal}
use Rattle.cfa_kinds.specs.Functions.{function_named, answers_class, takes_count, takes_list}
use Rattle.cfa_values.specs.Values.{Setting, value_count, called, call_refusals, argument_refusals, arguments_refusals}
use Rattle.cfa_values.specs.Refusals.{noted, only_if}
use Rattle.cfa_values.specs.Noted.{noted_both, then_noted}
use Rattle.cfa_values.specs.declared.refusals.Code.TheVariants.{WrongValue, ArgumentCount}

pub count_is : (vs : List ValueTree) → value_count (value_trees vs) ≡ length vs
count_is [] = refl
count_is (v ∷ vs) = ap (λ n. n + 1) (count_is vs) ∙ add-one (length vs)

pub counted : (xs : List Value) → value_count (value_trees (map plain_value xs)) ≡ length xs
counted xs = count_is (map plain_value xs) ∙ length-map xs plain_value

-- what is noted of the items of a list
pub listed : (old new : Option Refusal) (rule : ValueTree → List Refusal) (xs : List Value) → new ≡ noted old (flat_map rule (map plain_value xs)) →
    new ≡ noted old (flat_map rule (values_in (value_trees (map plain_value xs))))
listed old new rule xs e = e ∙ ap (λ vs. noted old (flat_map rule vs)) (sym (values_in_trees (map plain_value xs)))

-- what is noted of a call by the number of its arguments, and then of these
pub named_call : (old mid new : Option Refusal) (by_count : ℕ → List Refusal) (rule : ValueTree → List Refusal) (xs : List Value) →
    mid ≡ noted old (by_count (length xs)) → new ≡ noted mid (flat_map rule (map plain_value xs)) →
    new ≡ noted old (by_count (value_count (value_trees (map plain_value xs))) ++ flat_map rule (values_in (value_trees (map plain_value xs))))
named_call old mid new by_count rule xs m n =
    then_noted old mid new (by_count (value_count (value_trees (map plain_value xs)))) (flat_map rule (values_in (value_trees (map plain_value xs))))
    (m ∙ ap (λ count. noted old (by_count count)) (sym (counted xs)))
    (listed mid new rule xs n)

module _ (s : Setting) (f : Function) where
  -- what the arguments from a place on are refused for
  abbrev pub refused_from : List Value → ℕ → List Refusal
  refused_from xs i = arguments_refusals s f i (value_trees (map plain_value (drop i xs)))

  pub argument_noted : (xs : List Value) (i : ℕ) (x : Value) (first next : Option Refusal) → i < length xs → x ≡ get_or xs i x →
      next ≡ noted first (argument_refusals s (takes_list f i) (plain_value x)) → noted next (refused_from xs (i + 1)) ≡ noted first (refused_from xs i)
  argument_noted xs i x first next h is e =
      ap (λ o. noted o (refused_from xs (i + 1))) e
      ∙ sym (noted_both first (argument_refusals s (takes_list f i) (plain_value x)) (refused_from xs (i + 1)))
      ∙ ap (λ y. noted first (arguments_refusals s f i (value_trees (map plain_value (y ∷ drop (i + 1) xs))))) is
      ∙ ap (λ ys. noted first (arguments_refusals s f i (value_trees (map plain_value ys)))) (sym (drop_more xs i x h))

same_bool : (a b : Bool) → not (beq a b) ≡ false → a ≡ b
same_bool true true e = refl
same_bool true false e = cc
same_bool false true e = cc
same_bool false false e = refl

called_takes : (wants_class : Bool) (place : Place) (f : Function) (count : ℕ) (arguments : Function → List Refusal) → answers_class f ≡ wants_class →
    called wants_class place (Some f) count arguments ≡ (if takes_count f count then arguments f else only_if true ArgumentCount place)
called_takes true place f count arguments e = ap (λ b. if b then (if takes_count f count then arguments f else only_if true ArgumentCount place) else only_if true WrongValue place) e
called_takes false place f count arguments e = ap (λ b. if b then only_if true WrongValue place else (if takes_count f count then arguments f else only_if true ArgumentCount place)) e

-- a call of a known function of the wanted kind is refused by the number of its arguments, or by these
pub call_known : (s : Setting) (wants_class : Bool) (name : List ℕ) (arguments : List Value) (place : Place) (found : Option Function) (f : Function) (answers takes : Bool) →
    found ≡ function_named name → found ≡ Some f → answers ≡ answers_class f → not (beq answers wants_class) ≡ false → takes_count f (length arguments) ≡ takes →
    call_refusals s wants_class name (value_trees (map plain_value arguments)) place
    ≡ (if takes then arguments_refusals s f 0 (value_trees (map plain_value arguments)) else only_if true ArgumentCount place)
call_known s wants_class name arguments place found f answers takes n is a w t =
    let given = value_trees (map plain_value arguments) in
    ap (λ o. called wants_class place o (value_count given) (λ g. arguments_refusals s g 0 given)) (sym n ∙ is)
    ∙ called_takes wants_class place f (value_count given) (λ g. arguments_refusals s g 0 given) (sym a ∙ same_bool answers wants_class w)
    ∙ ap (λ b. if b then arguments_refusals s f 0 given else only_if true ArgumentCount place) (ap (takes_count f) (counted arguments) ∙ t)

-- what is noted of the items of a list as a whole
pub listed_whole : (old new : Option Refusal) (whole : List ValueTree → List Refusal) (xs : List Value) → new ≡ noted old (whole (map plain_value xs)) →
    new ≡ noted old (whole (values_in (value_trees (map plain_value xs))))
listed_whole old new whole xs e = e ∙ ap (λ vs. noted old (whole vs)) (sym (values_in_trees (map plain_value xs)))

-- the same, where their number was noted before
pub counted_whole : (old mid new : Option Refusal) (by_count : ℕ → List Refusal) (whole : List ValueTree → List Refusal) (xs : List Value) →
    mid ≡ noted old (by_count (length xs)) → new ≡ noted mid (whole (map plain_value xs)) →
    new ≡ noted old (by_count (value_count (value_trees (map plain_value xs))) ++ whole (values_in (value_trees (map plain_value xs))))
counted_whole old mid new by_count whole xs m n =
    then_noted old mid new (by_count (value_count (value_trees (map plain_value xs)))) (whole (values_in (value_trees (map plain_value xs))))
    (m ∙ ap (λ count. noted old (by_count count)) (sym (counted xs)))
    (listed_whole mid new whole xs n)
