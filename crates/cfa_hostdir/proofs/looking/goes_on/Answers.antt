use Rattle.std.proofs.Common.{◌≡◌, ℕ, zero, suc, ◌<◌, ◌≤◌, List, [], ◌∷◌, ◌++◌, length, get_or, take, Bool, true, false, ◌&&◌, eqb, refl, sym, ap, ◌∙◌, arith, length-append}
use Rattle.std.proofs.lemmas.Bool.{false≢true, eqb-true, eq-eqb}
use Rattle.std.proofs.lemmas.List.{take_more, length-take-le}
use Rattle.std.proofs.lemmas.Slice.Eq.{bytes_eq-Decides}
use Rattle.std.specs.Str.{bytes_eq}
use Rattle.cfa_outside.specs.Worlds.{is_below}
use Rattle.cfa_hostdir.proofs.looking.goes_on.Goals as goal

alike : (a b : ℕ) → eqb a b ≡ eqb b a
alike a b = elim (eqb a b) as (λ t. eqb a b ≡ t → t ≡ eqb b a) [
  | true ↦ λ e. sym (eq-eqb b a (sym (eqb-true a b e)))
  | false ↦ λ e. elim (eqb b a) as (λ t. eqb b a ≡ t → false ≡ t) [
    | true ↦ λ f. absurd (false≢true (sym e ∙ eq-eqb a b (sym (eqb-true b a f))))
    | false ↦ λ _. refl
  ] refl
] refl

and_true : (a : Bool) → (a && true) ≡ a
and_true true = refl
and_true false = refl

and_and : (a b c : Bool) → (a && (b && c)) ≡ ((a && b) && c)
and_and true b c = refl
and_and false b c = refl

ends : (path front : List ℕ) (b : ℕ) → length path ≡ length front → bytes_eq (path ++ 47 ∷ []) (front ++ b ∷ []) ≡ (bytes_eq front path && eqb b 47)
ends [] [] b same = and_true (eqb 47 b) ∙ alike 47 b
ends [] (y ∷ front) b same = absurd (omega arith)
ends (x ∷ path) [] b same = absurd (omega arith)
ends (x ∷ path) (y ∷ front) b same =
    ap (λ t. t && bytes_eq (path ++ 47 ∷ []) (front ++ b ∷ [])) (alike x y)
    ∙ ap (λ t. eqb y x && t) (ends path front b (omega arith))
    ∙ and_and (eqb y x) (bytes_eq front path) (eqb b 47)

tested : (path other : List ℕ) → length path < length other → is_below path other ≡ (bytes_eq (take (length path) other) path && eqb (get_or other (length path) 0) 47)
unfolding is_below
tested path other lt =
    ap (λ (n : ℕ). bytes_eq (path ++ 47 ∷ []) (take n other)) (length-append path (47 ∷ []))
    ∙ ap (bytes_eq (path ++ 47 ∷ [])) (take_more other (length path) 0 lt)
    ∙ ends path (take (length path) other) (get_or other (length path) 0) (sym (length-take-le (length path) other (omega arith)))

short : (path other : List ℕ) → length other ≤ length path → is_below path other ≡ false
unfolding is_below
short path other le =
    elim (bytes_eq (path ++ 47 ∷ []) (take (length (path ++ 47 ∷ [])) other)) as (λ t. bytes_eq (path ++ 47 ∷ []) (take (length (path ++ 47 ∷ [])) other) ≡ t → t ≡ false) [
      | true ↦ λ is.
          let same : length (path ++ 47 ∷ []) ≡ length (take (length (path ++ 47 ∷ [])) other) = ap length ((bytes_eq-Decides (path ++ 47 ∷ []) (take (length (path ++ 47 ∷ [])) other)).0 is) in
          let whole = length-append path (47 ∷ []) in
          absurd (omega (arith, same, whole, taken (length (path ++ 47 ∷ [])) other))
      | false ↦ λ _. refl
    ] refl where
      taken : (n : ℕ) (xs : List ℕ) → length (take n xs) ≤ length xs
      taken zero xs = omega arith
      taken (suc n) [] = omega arith
      taken (suc n) (x ∷ xs) = let rest = taken n xs in omega (arith, rest)

pub returns-then-other-path : goal.returns-then-other-path
returns-then-other-path c = sym (short c.args.path.now c.args.other.now c.if-other-path.true)

pub returns-then-eq : goal.returns-then-eq
returns-then-eq c =
    ap (λ t. t && eqb (get_or c.args.other.now (length c.args.path.now) 0) 47) (sym (sym c.eq.ensures ∙ c.if-eq.true))
    ∙ sym (tested c.args.path.now c.args.other.now c.if-other-path.false)

pub returns-else-eq : goal.returns-else-eq
returns-else-eq c =
    c.if-eq.false
    ∙ ap (λ t. t && eqb (get_or c.args.other.now (length c.args.path.now) 0) 47) (sym (sym c.eq.ensures ∙ c.if-eq.false))
    ∙ sym (tested c.args.path.now c.args.other.now c.if-other-path.false)
