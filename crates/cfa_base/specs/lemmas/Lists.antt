-- Lists of several parts: each part of an empty list is empty, what holds of the items of a list holds of those of its parts, where the first item that passes a test stands, and the first of several values that may be there.
use Rattle.std.proofs.Common.{◌≡◌, ◌∙◌, ℕ, ◌+◌, Bool, true, false, cond, List, [], ◌∷◌, ◌++◌, length, All, Option, Some, None, refl, ap, sym, arith}
use Rattle.std.specs.Option.{option_or}
use Rattle.std.specs.List.{AllByRecursion as Each, Contains, flat_map, position, position_from}
use Rattle.std.proofs.lemmas.Iterator.Adapters.{position_from-zero}
use Rattle.std.proofs.lemmas.List.Elements.{All-cons, All-contains, All-contains_itself, All-from_recursion, All-head, All-nil, All-weaker, Contains-append_left, Contains-append_right}

-- ---- items of a list

pub first_here : {X : Type 0} (x : X) (xs : List X) → Contains (x ∷ xs) x
first_here x xs = All-head (Contains (x ∷ xs)) x xs (All-contains_itself (x ∷ xs))

pub behind_one : {X : Type 0} (x : X) (xs : List X) (y : X) → Contains xs y → Contains (x ∷ xs) y
behind_one x xs y has = Contains-append_right (x ∷ []) xs y has

-- ---- parts of an empty list

pub none_left : {X : Type 0} (xs ys : List X) → xs ++ ys ≡ [] → xs ≡ []
none_left [] ys e = refl
none_left (x ∷ xs) ys e = absurd (cc)

pub none_right : {X : Type 0} (xs ys : List X) → xs ++ ys ≡ [] → ys ≡ []
none_right [] ys e = e
none_right (x ∷ xs) ys e = absurd (cc)

pub none_flat : {X Y : Type 0} (f : X → List Y) (xs : List X) → flat_map f xs ≡ [] → Each (λ (x : X). f x ≡ []) xs
none_flat f [] e = tt
none_flat f (x ∷ xs) e = (none_left (f x) (flat_map f xs) e, none_flat f xs (none_right (f x) (flat_map f xs) e))

pub one_empty : {X Y : Type 0} (f : X → List Y) (xs : List X) (x : X) → flat_map f xs ≡ [] → Contains xs x → f x ≡ []
one_empty f xs x e has = All-contains (λ y. f y ≡ []) xs x (All-from_recursion (λ y. f y ≡ []) xs (none_flat f xs e)) has

pub none_in : {X : Type 0} → (xs : List X) → ((x : X) → Contains xs x → ⊥) → xs ≡ []
none_in [] h = refl
none_in (x ∷ xs) h = absurd (h x (first_here x xs))

-- ---- what holds of each item

pub each_append : {X : Type 0} (P : X → Type 0) (xs ys : List X) → Each P xs → Each P ys → Each P (xs ++ ys)
each_append P [] ys p q = q
each_append P (x ∷ xs) ys p q = (p.0, each_append P xs ys p.1 q)

pub each_flat : {X Y : Type 0} (P : Y → Type 0) (f : X → List Y) → ((x : X) → Each P (f x)) → (xs : List X) → Each P (flat_map f xs)
each_flat P f each [] = tt
each_flat P f each (x ∷ xs) = each_append P (f x) (flat_map f xs) (each x) (each_flat P f each xs)

pub each_weaker : {X : Type 0} (P Q : X → Type 0) → ((x : X) → P x → Q x) → (xs : List X) → Each P xs → Each Q xs
each_weaker P Q f [] all = tt
each_weaker P Q f (x ∷ xs) all = (f x all.0, each_weaker P Q f xs all.1)

pub all_left : {X : Type 0} (P : X → Type 0) (xs ys : List X) → All P (xs ++ ys) → All P xs
all_left P xs ys all = All-weaker (Contains xs) P (λ x on. All-contains P (xs ++ ys) x all (Contains-append_left xs ys x on)) xs (All-contains_itself xs)

pub all_right : {X : Type 0} (P : X → Type 0) (xs ys : List X) → All P (xs ++ ys) → All P ys
all_right P xs ys all = All-weaker (Contains ys) P (λ x on. All-contains P (xs ++ ys) x all (Contains-append_right xs ys x on)) ys (All-contains_itself ys)

-- what holds of all items that some make holds of those that each makes
pub all_flat : {X Y : Type 0} (P : Y → Type 0) (f : X → List Y) (xs : List X) → All P (flat_map f xs) → All (λ (x : X). All P (f x)) xs
all_flat P f [] all = All-nil (λ x. All P (f x))
all_flat P f (x ∷ xs) all =
    All-cons (λ y. All P (f y)) x xs (all_left P (f x) (flat_map f xs) all) (all_flat P f xs (all_right P (f x) (flat_map f xs) all))

-- ---- the first item that passes

place_from_push : {X : Type 0} (p : X → Bool) → (xs : List X) (y : X) (i j : ℕ) → j ≡ i + length xs
    → position_from p i (xs ++ y ∷ []) ≡ option_or (position_from p i xs) (cond (p y) (Some j) None)
place_from_push p [] y i j e = ap (λ k. cond (p y) (Some k) None) (omega arith)
place_from_push p (x ∷ xs) y i j e =
    let more = place_from_push p xs y (i + 1) j (omega arith) in
    elim (p x) as (λ b. cond b (Some i) (position_from p (i + 1) (xs ++ y ∷ [])) ≡ option_or (cond b (Some i) (position_from p (i + 1) xs)) (cond (p y) (Some j) None))
    [ true ↦ refl | false ↦ more ]

-- where a place is looked for once the list has one more at its end
pub place_push : {X : Type 0} (p : X → Bool) (xs : List X) (y : X) (n : ℕ) → n ≡ length xs
    → position p (xs ++ y ∷ []) ≡ option_or (position p xs) (cond (p y) (Some n) None)
place_push p xs y n e =
    position_from-zero p (xs ++ y ∷ []) ∙ place_from_push p xs y 0 n (omega arith)
    ∙ ap (λ o. option_or o (cond (p y) (Some n) None)) (sym (position_from-zero p xs))

-- ---- values that may be there

pub option_or-none : {A : Type 0} → (o : Option A) → option_or o None ≡ o
option_or-none None = refl
option_or-none (Some x) = refl

pub option_or-assoc : {A : Type 0} → (o p q : Option A) → option_or (option_or o p) q ≡ option_or o (option_or p q)
option_or-assoc None p q = refl
option_or-assoc (Some x) p q = refl
