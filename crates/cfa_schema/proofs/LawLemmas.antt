-- The first refusal of a policy is one.
use Rattle.std.proofs.Common.{◌≡◌, ◌∙◌, false, List, [], ◌∷◌, ◌++◌, All, refl, ap, sym, subst}
use Rattle.std.proofs.lemmas.Bool.{false≢true}
use Rattle.std.proofs.lemmas.List.Elements.{All-head, All-tail}
use Rattle.cfa_base.specs.Patterns.{is_pattern}
use Rattle.cfa_values.specs.Refusals.{refusal}
use Rattle.cfa_schema.specs.Valid.{KnownPattern, IsPattern, IsFirstBad, of_table, no_sequence, bad_pattern}
use Rattle.cfa_schema.specs.Laws.{RefusalIsOne, NeverBoth}
use Rattle.cfa_schema.proofs.LeastLemmas.{tie_is}
use Rattle.cfa_values.specs.declared.refusals.Code.TheVariants.{BadPattern}

bad_is : (p q : KnownPattern) → IsPattern p → is_pattern q.how q.text ≡ false → q ≡ p → ⊥
bad_is p q good bad is = false≢true (sym bad ∙ ap (λ (x : KnownPattern). is_pattern x.how x.text) is ∙ good)

-- the first that is none, behind those that are, is one
same_bad : (before others after rest : List KnownPattern) (p q : KnownPattern) → before ++ p ∷ after ≡ others ++ q ∷ rest → All IsPattern before → All IsPattern others →
    is_pattern p.how p.text ≡ false → is_pattern q.how q.text ≡ false → p ≡ q
same_bad [] [] after rest p q e good well bad wrong = cc
same_bad [] (o ∷ others) after rest p q e good well bad wrong = let is : p ≡ o = cc in absurd (bad_is o p (All-head IsPattern o others well) bad is)
same_bad (b ∷ before) [] after rest p q e good well bad wrong = let is : q ≡ b = cc in absurd (bad_is b q (All-head IsPattern b before good) wrong is)
same_bad (b ∷ before) (o ∷ others) after rest p q e good well bad wrong =
    let tails : before ++ p ∷ after ≡ others ++ q ∷ rest = cc in
    same_bad before others after rest p q tails (All-tail IsPattern b before good) (All-tail IsPattern o others well) bad wrong

-- each of all is good, also behind some others
middle_good : (before after : List KnownPattern) (p : KnownPattern) → All IsPattern (before ++ p ∷ after) → IsPattern p
middle_good [] after p good = All-head IsPattern p after good
middle_good (b ∷ before) after p good = middle_good before after p (All-tail IsPattern b (before ++ p ∷ after) good)

first_bad : (patterns : List KnownPattern) (p q : KnownPattern) → IsFirstBad patterns p → IsFirstBad patterns q → p ≡ q
first_bad patterns p q one two = same_bad one.before two.before one.after two.after p q (sym one.stands ∙ two.stands) one.good two.good one.bad two.bad

pub refusal_is_one : RefusalIsOne
refusal_is_one policy r s (of_table a one) (of_table b two) = tie_is a b (two.first a one.applies) (one.first b two.applies)
refusal_is_one policy r s (of_table a one) (no_sequence none has) = absurd (none a one.applies)
refusal_is_one policy r s (of_table a one) (bad_pattern p none has first) = absurd (none a one.applies)
refusal_is_one policy r s (no_sequence none has) (of_table b two) = absurd (none b two.applies)
refusal_is_one policy r s (no_sequence none has) (no_sequence nil hasn) = refl
refusal_is_one policy r s (no_sequence none has) (bad_pattern p nil hasn first) = absurd (false≢true (sym has ∙ hasn))
refusal_is_one policy r s (bad_pattern p none has first) (of_table b two) = absurd (none b two.applies)
refusal_is_one policy r s (bad_pattern p none has first) (no_sequence nil hasn) = absurd (false≢true (sym hasn ∙ has))
refusal_is_one policy r s (bad_pattern p none has first) (bad_pattern q nil hasn second) = ap (λ (x : KnownPattern). refusal BadPattern x.place) (first_bad _ p q first second)

pub never_both : NeverBoth
never_both policy r valid (of_table a one) = valid.none_applies a one.applies
never_both policy r valid (no_sequence none has) = false≢true (sym has ∙ valid.sequence)
never_both policy r valid (bad_pattern p none has first) =
    bad_is p p (middle_good first.before first.after p (subst (All IsPattern) first.stands valid.patterns)) first.bad refl
