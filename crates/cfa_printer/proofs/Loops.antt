-- What a loop that prints adds: so far, with what is left, the whole.
use Rattle.std.proofs.Common.{◌≡◌, ◌==◌, refl, sym, ◌∙◌, ap, ℕ, zero, suc, ◌+◌, ◌<◌, ◌≤◌, List, [], ◌∷◌, ◌++◌, length, get_or, drop, map, add-one, drop-cons, Bool, true, false, arith}
use Rattle.std.specs.Prelude.{if◌then◌else◌}
use Rattle.std.specs.List.{flat_map}
use Rattle.std.proofs.lemmas.Bool.{eqb-true}
use Rattle.std.proofs.lemmas.List.{append-nil, append_assoc, drop_all}
use Rattle.cfa_base.specs.Joined.{joined}

-- the texts from an index on, where each but the first of all stands behind the separator
abbrev pub left : (index : ℕ) (separator : List ℕ) → List (List ℕ) → List ℕ
left zero separator xs = joined separator xs
left (suc n) separator xs = flat_map (λ y. separator ++ y) xs

never_zero : (n : ℕ) → (suc n == 0) ≡ false
never_zero n = by_test (suc n == 0) refl
  where
    by_test : (b : Bool) → (suc n == 0) ≡ b → (suc n == 0) ≡ false
    by_test true is = absurd (omega (arith, eqb-true (suc n) 0 is))
    by_test false is = is

module _ {A : Type 0} (f : A → List ℕ) where
  text_step : (out separator x : List ℕ) (i : ℕ) (xs : List (List ℕ)) →
      out ++ left i separator (x ∷ xs) ≡ (out ++ (if i == 0 then [] else separator) ++ x) ++ left (suc i) separator xs
  text_step out separator x zero xs = sym (append_assoc (out ++ []) x _ ∙ append_assoc out [] _)
  text_step out separator x (suc n) xs =
      sym (ap (λ b. (out ++ (if b then [] else separator) ++ x) ++ left (suc (suc n)) separator xs) (never_zero n)
      ∙ (append_assoc (out ++ separator) x _ ∙ (append_assoc out separator _ ∙ ap (λ y. out ++ y) (sym (append_assoc separator x _)))))

  -- one text more
  pub text_turn : (out mid new separator whole : List ℕ) (items : List A) (i : ℕ) (x : A) → i < length items → x ≡ get_or items i x →
      mid ≡ out ++ (if i == 0 then [] else separator) → new ≡ mid ++ f x →
      out ++ left i separator (map f (drop i items)) ≡ whole → new ++ left (i + 1) separator (map f (drop (i + 1) items)) ≡ whole
  text_turn out mid new separator whole items i x below is first second so_far =
      ap (λ y. y ++ left (i + 1) separator (map f (drop (i + 1) items))) (second ∙ ap (λ y. y ++ f x) first)
      ∙ (sym (text_goes_on out separator items i x below is) ∙ so_far)
    where
      text_goes_on : (out separator : List ℕ) (items : List A) (i : ℕ) (x : A) → i < length items → x ≡ get_or items i x →
          out ++ left i separator (map f (drop i items)) ≡ (out ++ (if i == 0 then [] else separator) ++ f x) ++ left (i + 1) separator (map f (drop (i + 1) items))
      text_goes_on out separator items i x below is =
          rw (add-one, drop-cons items i x, ← is) (text_step out separator (f x) i (map f (drop (suc i) items)))

  no_more : (i : ℕ) (separator : List ℕ) → left i separator [] ≡ []
  no_more zero separator = refl
  no_more (suc n) separator = refl

  -- no text is left
  pub text_end : (out separator whole : List ℕ) (items : List A) (i : ℕ) → length items ≤ i → out ++ left i separator (map f (drop i items)) ≡ whole → out ≡ whole
  text_end out separator whole items i past so_far =
      let none : out ++ left i separator (map f (drop i items)) ≡ out = rw drop_all (ap (λ y. out ++ y) (no_more i separator) ∙ append-nil out) in
      sym none ∙ so_far

  -- one piece more, where no separator stands between
  pub piece_turn : (out new whole : List ℕ) (items : List A) (i : ℕ) (x : A) → i < length items → x ≡ get_or items i x → new ≡ out ++ f x →
      out ++ flat_map f (drop i items) ≡ whole → new ++ flat_map f (drop (i + 1) items) ≡ whole
  piece_turn out new whole items i x below is added so_far =
      let goes_on : out ++ flat_map f (drop i items) ≡ (out ++ f x) ++ flat_map f (drop (i + 1) items) =
      rw (add-one, drop-cons items i x, ← is) (sym (append_assoc out (f x) _)) in
      ap (λ y. y ++ flat_map f (drop (i + 1) items)) added ∙ (sym goes_on ∙ so_far)

  pub piece_end : (out whole : List ℕ) (items : List A) (i : ℕ) → length items ≤ i → out ++ flat_map f (drop i items) ≡ whole → out ≡ whole
  piece_end out whole items i past so_far =
      let none : out ++ flat_map f (drop i items) ≡ out = rw drop_all (append-nil out) in
      sym none ∙ so_far

-- a text between an opening and a closing one, printed in three steps
pub regrouped : (old opening inner closing whole out mid first : List ℕ) → whole ≡ opening ++ (inner ++ closing) → first ≡ old ++ opening → mid ≡ first ++ inner → out ≡ mid ++ closing → out ≡ old ++ whole
regrouped old opening inner closing whole out mid first is one two three =
    three ∙ (ap (λ x. x ++ closing) (two ∙ ap (λ x. x ++ inner) one)
    ∙ (append_assoc (old ++ opening) inner closing ∙ (append_assoc old opening _ ∙ ap (λ x. old ++ x) (sym is))))

pub map-map : {A B : Type 0} (f : B → List ℕ) (g : A → B) (xs : List A) → map f (map g xs) ≡ map (λ x. f (g x)) xs
map-map f g [] = refl
map-map f g (x ∷ xs) = ap (λ y. f (g x) ∷ y) (map-map f g xs)
