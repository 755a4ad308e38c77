-- What is ahead of a machine.
use Rattle.std.proofs.Common.{◌≡◌, ◌∙◌, ℕ, zero, suc, ◌<◌, ◌≤◌, true, false, List, [], ◌∷◌, drop, length, refl, ap, sym, subst, arith}
use Rattle.cfa_tree.specs.Tree.{BlockTree}
use Rattle.std.proofs.lemmas.Bool.Decides.{nat_tests}
use Rattle.std.specs.Prelude.{map, nat_lt}
use Rattle.std.specs.Vec.{vec_len}
use Rattle.cfa_frames.specs.Moves.{nothing, ahead_need}
use Rattle.cfa_visits.specs.Bundles.{seen_bundle}
use Rattle.cfa_machine.specs.Needs.{need_ahead, need_if}
use Rattle.cfa_machine.specs.Stacks.{seen_ahead, seen_bundles}
use Rattle.cfa_machine.specs.declared.machines.Machine.{Machine}

pub commons_ahead : (commons : List BlockTree) (n : ℕ) (rounds : ℕ) (sequence : List (List ℕ)) → n < length commons → ahead_need (drop n commons) rounds sequence ≡ nothing
commons_ahead [] n rounds sequence inside = absurd (none inside)
  where
    none : n < 0 → ⊥
    none h = omega (arith, h)
commons_ahead (block ∷ commons) zero rounds sequence inside = refl
commons_ahead (block ∷ commons) (suc n) rounds sequence inside = commons_ahead commons n rounds sequence (omega (arith, inside))

pub rounds_ahead : (commons : List BlockTree) (rounds : ℕ) (sequence : List (List ℕ)) → 0 < rounds → ahead_need commons rounds sequence ≡ nothing
rounds_ahead (block ∷ commons) rounds sequence some = refl
rounds_ahead [] zero sequence some = absurd (none some)
  where
    none : 0 < 0 → ⊥
    none h = omega (arith, h)
rounds_ahead [] (suc n) sequence some = refl

pub none_ahead : {X : Type 0} (xs : List X) (n : ℕ) → length xs ≤ n → drop n xs ≡ []
none_ahead [] zero past = refl
none_ahead [] (suc n) past = refl
none_ahead (x ∷ xs) zero past = absurd (none past)
  where
    none : suc (length xs) ≤ 0 → ⊥
    none h = omega (arith, h)
none_ahead (x ∷ xs) (suc n) past = none_ahead xs n (omega (arith, past))

names_need : (names : List (List ℕ)) (n : ℕ) → ahead_need [] 0 (drop n names) ≡ need_if (nat_lt n (length names))
names_need [] zero = refl
names_need [] (suc n) = ap need_if (sym (never n))
  where
    never : (n : ℕ) → nat_lt (suc n) 0 ≡ false
    never n = grind (arith, nat_tests)
names_need (name ∷ names) zero = ap need_if (sym (always (length names)))
  where
    always : (n : ℕ) → nat_lt 0 (suc n) ≡ true
    always n = grind (arith, nat_tests)
names_need (name ∷ names) (suc n) = names_need names n ∙ ap need_if (sym (both n (length names)))
  where
    both : (n m : ℕ) → nat_lt (suc n) (suc m) ≡ nat_lt n m
    both n m = grind (arith, nat_tests)

map_length : {X Y : Type 0} (f : X → Y) (xs : List X) → length (map f xs) ≡ length xs
map_length f [] = refl
map_length f (x ∷ xs) = ap suc (map_length f xs)

bundles_length : (m : Machine) → length (seen_bundles m.commons.items) ≡ vec_len m.commons
bundles_length m = map_length (λ b. seen_bundle b.now) m.commons.items ∙ sym m.commons.ok.0

-- a common bundle of the round is left
pub more_commons : (m : Machine) → m.round < vec_len m.commons → need_ahead (seen_ahead m) ≡ nothing
more_commons m inside =
    commons_ahead (seen_bundles m.commons.items) m.round m.rounds (drop m.at m.names) (subst (λ (n : ℕ). m.round < n) (sym (bundles_length m)) inside)

-- only bundles of the sequence may be
pub last_names : (m : Machine) → vec_len m.commons ≤ m.round → m.rounds ≤ 0 → need_ahead (seen_ahead m) ≡ need_if (nat_lt m.at (length m.names))
last_names m past none =
    let commons : drop m.round (seen_bundles m.commons.items) ≡ [] =
    none_ahead (seen_bundles m.commons.items) m.round (subst (λ (n : ℕ). n ≤ m.round) (sym (bundles_length m)) past) in
    let rounds : m.rounds ≡ 0 = omega (arith, none) in
    ap (λ (bundles : List BlockTree). ahead_need bundles m.rounds (drop m.at m.names)) commons
    ∙ (ap (λ (n : ℕ). ahead_need [] n (drop m.at m.names)) rounds ∙ names_need m.names m.at)
