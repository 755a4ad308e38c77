-- What is noted of a promise.
use Rattle.std.proofs.Common.{◌≡◌, ℕ, ◌+◌, Bool, false, cond, List, [], ◌∷◌, ◌++◌, length, map, Option, ap, sym, ◌∙◌}
use Rattle.std.specs.Prelude.{◌==◌, not, count_by}
use Rattle.std.proofs.lemmas.List.Folds.{fold-map}
use denote.Ref.{Bor}
use Rattle.cfa_tree.specs.Tree.{ValueTree, AttributeTree, PromiseTree}
use Rattle.cfa_kinds.specs.declared.kinds.PromiseType.{PromiseType}
use Rattle.cfa_values.specs.declared.refusals.Refusal.{Refusal}
use Rattle.cfa_kinds.specs.Kinds.{promise_attribute, choices}
use Rattle.cfa_values.specs.Refusals.{noted, only_if}
use Rattle.cfa_values.specs.Attributes.{has_attribute, attributes_refusals}
use Rattle.cfa_schema.specs.Valid.{lacks_choice, is_wrong_promiser, promisee_refusals, promise_refusals}
use Rattle.cfa_values.specs.Values.{Setting, text_scope}
use Rattle.cfa_values.specs.Noted.{then_noted}
use Rattle.cfa_values.specs.declared.refusals.Code.TheVariants.{WrongValue}

count_by-seen : {X Y : Type 0} (seen : X → Y) (p : Y → Bool) (xs : List X) → count_by (λ x. p (seen x)) xs ≡ count_by p (map seen xs)
count_by-seen seen p xs = sym (fold-map (λ m y. m + cond (p y) 1 0) seen 0 xs)

-- where one attribute of some names is asked for, it is lacking unless just one of them is there
pub choice_counted : (names : List (Bor (List ℕ))) (attributes : List AttributeTree) (count : ℕ) → (length names == 0) ≡ false →
    count ≡ count_by (λ name. has_attribute attributes name.now) names → not (count == 1) ≡ lacks_choice (map (λ name. name.now) names) attributes
choice_counted [] attributes count e k = cc
choice_counted (name ∷ names) attributes count e k = ap (λ n. not (n == 1)) (k ∙ count_by-seen (λ n. n.now) (has_attribute attributes) (name ∷ names))

-- what is noted of each of its parts in turn is noted of a promise
pub promise_noted : (s : Setting) (type : PromiseType) (p : PromiseTree) (promiser : List ℕ) (promisee : Option ValueTree) (attributes : List AttributeTree)
    (wrong lacks : Bool) (first second third fourth fifth last : Option Refusal) →
    promiser ≡ p.promiser → promisee ≡ p.promisee → attributes ≡ p.attributes →
    wrong ≡ is_wrong_promiser type promiser → lacks ≡ lacks_choice (choices type) attributes →
    second ≡ noted first (only_if wrong WrongValue p.place) → third ≡ noted second (text_scope s promiser p.place) →
    fourth ≡ noted third (only_if lacks WrongValue p.place) → fifth ≡ noted fourth (promisee_refusals s promisee) →
    last ≡ noted fifth (attributes_refusals s (promise_attribute type) attributes) → last ≡ noted first (promise_refusals s type p)
promise_noted s type p promiser promisee attributes wrong lacks first second third fourth fifth last a b c w l e f g h i =
    let wrongs = only_if (is_wrong_promiser type p.promiser) WrongValue p.place in
    let scope = text_scope s p.promiser p.place in
    let lacking = only_if (lacks_choice (choices type) p.attributes) WrongValue p.place in
    let promisees = promisee_refusals s p.promisee in
    let rest = attributes_refusals s (promise_attribute type) p.attributes in
    then_noted first second last wrongs (scope ++ (lacking ++ (promisees ++ rest))) (e ∙ ap (λ t. noted first (only_if t WrongValue p.place)) (w ∙ ap (is_wrong_promiser type) a))
    (then_noted second third last scope (lacking ++ (promisees ++ rest)) (f ∙ ap (λ t. noted second (text_scope s t p.place)) a)
    (then_noted third fourth last lacking (promisees ++ rest) (g ∙ ap (λ t. noted third (only_if t WrongValue p.place)) (l ∙ ap (lacks_choice (choices type)) c))
    (then_noted fourth fifth last promisees rest (h ∙ ap (λ v. noted fourth (promisee_refusals s v)) b)
    (i ∙ ap (λ xs. noted fifth (attributes_refusals s (promise_attribute type) xs)) c))))
