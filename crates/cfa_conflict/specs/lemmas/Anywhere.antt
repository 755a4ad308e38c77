-- An item of a part of a list that passes a test is one of the list.
use Rattle.std.proofs.Common.{◌≡◌, Bool, true, List, ◌++◌, ◌∙◌}
use Rattle.std.proofs.lemmas.Bool.{or_left, or_right}
use Rattle.std.proofs.lemmas.List.Folds.{list_any-append}
use Rattle.std.specs.List.{list_any}

pub in_left : {X : Type 0} (test : X → Bool) (xs ys : List X) → list_any test xs ≡ true → list_any test (xs ++ ys) ≡ true
in_left test xs ys h = list_any-append test xs ys ∙ or_left (list_any test xs) (list_any test ys) h

pub in_right : {X : Type 0} (test : X → Bool) (xs ys : List X) → list_any test ys ≡ true → list_any test (xs ++ ys) ≡ true
in_right test xs ys h = list_any-append test xs ys ∙ or_right (list_any test xs) (list_any test ys) h
