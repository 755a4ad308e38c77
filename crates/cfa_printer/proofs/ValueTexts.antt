-- The text of a list, of a call and of attributes, from the texts of what they hold.
use Rattle.std.proofs.Common.{◌≡◌, ◌==◌, refl, sym, ◌∙◌, ap, ℕ, true, false, List, [], ◌∷◌, ◌++◌, map, length}
use Rattle.std.specs.Prelude.{codes}
use Rattle.std.specs.declared.alloc.Global.{Global}
use Rattle.std.specs.declared.vec.Vec.{Vec}
use Rattle.std.proofs.lemmas.Bool.{false≢true, eqb-true}
use Rattle.std.proofs.lemmas.List.{append-nil, append_assoc, nil_from_length}
use Rattle.cfa_base.specs.Joined.{joined}
use Rattle.cfa_base.specs.declared.places.Place.{Place}
use Rattle.cfa_tree.specs.declared.attributes.Attribute.{Attribute}
use Rattle.cfa_tree.specs.declared.values.Value.{Value, List as Listed, Call as Called}
use Rattle.cfa_tree.specs.Plain.{plain_value, plain_attribute}
use Rattle.cfa_tree.specs.Tree.{value_trees}
use Rattle.cfa_tree.specs.lemmas.Rows.{plain_value-List, plain_value-Call}
use Rattle.cfa_printer.specs.Printing.{in_parentheses, listed, printed_value, printed_values, printed_attribute, printed_attributes}
use Rattle.cfa_printer.proofs.Loops.{regrouped, map-map}

item_texts : (vs : List Value) → printed_values (value_trees (map plain_value vs)) ≡ map (λ v. printed_value (plain_value v)) vs
item_texts [] = refl
item_texts (v ∷ vs) = ap (λ xs. printed_value (plain_value v) ∷ xs) (item_texts vs)

pub list_is : (v : Value) (items : Vec Value Global) (place : Place) (slice : List Value) → v ≡ Listed items place → slice ≡ items.items →
    printed_value (plain_value v) ≡ listed (map (λ x. printed_value (plain_value x)) slice)
list_is v items place slice is same =
    ap printed_value (ap plain_value is ∙ plain_value-List items place)
    ∙ ap listed (item_texts items.items ∙ ap (map (λ x. printed_value (plain_value x))) (sym same))

pub no_items : (items : List Value) → (length items == 0) ≡ true → listed (map (λ x. printed_value (plain_value x)) items) ≡ codes "{ }"
no_items items none = ap (λ xs. listed (map (λ x. printed_value (plain_value x)) xs)) (nil_from_length items (eqb-true (length items) 0 none))

pub some_items : (slice : List Value) → (length slice == 0) ≡ false →
    listed (map (λ x. printed_value (plain_value x)) slice) ≡ codes "{ " ++ (joined (codes ", ") (map (λ x. printed_value (plain_value x)) slice) ++ codes " }")
some_items [] some = absurd (false≢true (sym some))
some_items (x ∷ xs) some = refl

pub call_is : (v : Value) (function : List ℕ) (arguments : Vec Value Global) (place : Place) (slice : List Value) → v ≡ Called function arguments place → slice ≡ arguments.items →
    printed_value (plain_value v) ≡ function ++ in_parentheses (joined (codes ", ") (map (λ x. printed_value (plain_value x)) slice))
call_is v function arguments place slice is same =
    ap printed_value (ap plain_value is ∙ plain_value-Call function arguments place)
    ∙ ap (λ xs. function ++ in_parentheses (joined (codes ", ") xs)) (item_texts arguments.items ∙ ap (map (λ x. printed_value (plain_value x))) (sym same))

pub call_text : (function inner old named first mid out : List ℕ) → named ≡ old ++ function → first ≡ named ++ codes "(" → mid ≡ first ++ inner → out ≡ mid ++ codes ")" →
    out ≡ old ++ (function ++ in_parentheses inner)
call_text function inner old named first mid out zero one two three =
    regrouped named (codes "(") inner (codes ")") _ out mid first refl one two three
    ∙ (ap (λ x. x ++ in_parentheses inner) zero ∙ append_assoc old function (in_parentheses inner))

-- Attributes.

pub no_attribute_text : (all : List Attribute) (old : List ℕ) → (length all == 0) ≡ true → old ≡ old ++ printed_attributes (map plain_attribute all)
no_attribute_text all old none =
    sym (ap (λ xs. old ++ printed_attributes (map plain_attribute xs)) (nil_from_length all (eqb-true (length all) 0 none)) ∙ append-nil old)

some_attributes : (all : List Attribute) → (length all == 0) ≡ false → printed_attributes (map plain_attribute all) ≡ codes " " ++ joined (codes ", ") (map (λ a. printed_attribute (plain_attribute a)) all)
some_attributes [] some = absurd (false≢true (sym some))
some_attributes (a ∷ all) some = ap (λ xs. codes " " ++ joined (codes ", ") (printed_attribute (plain_attribute a) ∷ xs)) (map-map printed_attribute plain_attribute all)

pub attributes_text : (all : List Attribute) (old first out : List ℕ) → (length all == 0) ≡ false →
    first ≡ old ++ codes " " → out ≡ first ++ joined (codes ", ") (map (λ a. printed_attribute (plain_attribute a)) all) → out ≡ old ++ printed_attributes (map plain_attribute all)
attributes_text all old first out some one two =
    two ∙ (ap (λ x. x ++ joined (codes ", ") (map (λ a. printed_attribute (plain_attribute a)) all)) one
    ∙ (append_assoc old (codes " ") _ ∙ ap (λ x. old ++ x) (sym (some_attributes all some))))
