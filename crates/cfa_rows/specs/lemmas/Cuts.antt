-- A text is cut at a byte in one way.
use Rattle.std.proofs.Common.{◌≡◌, ◌≢◌, ℕ, List, [], ◌∷◌, ◌++◌, true, not, ◌==◌, refl}
use Rattle.std.proofs.lemmas.List.Elements.{All-nil, All-head, All-tail, All-append, All-cons}
use Rattle.std.proofs.lemmas.Bool.{and_parts, eqb-false, not-true}
use Rattle.std.specs.List.{list_all}
use Rattle.cfa_base.specs.Lacking.{Lacks}

pub one_cut : (byte : ℕ) (front rest front' rest' : List ℕ) → Lacks byte front → Lacks byte front' → front ++ byte ∷ rest ≡ front' ++ byte ∷ rest' → (front ≡ front') × (rest ≡ rest')
one_cut byte [] rest [] rest' lacks lacks' e = (refl, cc)
one_cut byte [] rest (c ∷ cs) rest' lacks lacks' e =
    let same : c ≡ byte = cc in
    absurd (All-head (λ b. b ≢ byte) c cs lacks' same)
one_cut byte (b ∷ bs) rest [] rest' lacks lacks' e =
    let same : b ≡ byte = cc in
    absurd (All-head (λ b. b ≢ byte) b bs lacks same)
one_cut byte (b ∷ bs) rest (c ∷ cs) rest' lacks lacks' e =
    let first : b ≡ c = cc in
    let tail : bs ++ byte ∷ rest ≡ cs ++ byte ∷ rest' = cc in
    let more = one_cut byte bs rest cs rest' (All-tail (λ b. b ≢ byte) b bs lacks) (All-tail (λ b. b ≢ byte) c cs lacks') tail in
    let same : bs ≡ cs = more.0 in
    (cc, more.1)

-- a text of which no byte passes the test
pub Lacks-from_test : (byte : ℕ) (text : List ℕ) → list_all (λ b. not (b == byte)) text ≡ true → Lacks byte text
Lacks-from_test byte [] all = All-nil (λ b. b ≢ byte)
Lacks-from_test byte (b ∷ bs) all =
    let parts = and_parts (not (b == byte)) (list_all (λ b. not (b == byte)) bs) all in
    All-cons (λ b. b ≢ byte) b bs (eqb-false b byte (not-true (b == byte) parts.0)) (Lacks-from_test byte bs parts.1)

pub Lacks-append : (byte : ℕ) (text more : List ℕ) → Lacks byte text → Lacks byte more → Lacks byte (text ++ more)
Lacks-append byte text more = All-append (λ b. b ≢ byte) text more

pub Lacks-cons : (byte b : ℕ) (text : List ℕ) → b ≢ byte → Lacks byte text → Lacks byte (b ∷ text)
Lacks-cons byte b text = All-cons (λ b. b ≢ byte) b text

-- a text that lacks the byte isn't cut by it
pub no_cut : (byte : ℕ) (text front rest : List ℕ) → Lacks byte text → text ≡ front ++ byte ∷ rest → ⊥
no_cut byte [] [] rest lacks e = cc
no_cut byte [] (c ∷ cs) rest lacks e = cc
no_cut byte (b ∷ bs) [] rest lacks e =
    let same : b ≡ byte = cc in
    absurd (All-head (λ b. b ≢ byte) b bs lacks same)
no_cut byte (b ∷ bs) (c ∷ cs) rest lacks e =
    let tail : bs ≡ cs ++ byte ∷ rest = cc in
    no_cut byte bs cs rest (All-tail (λ b. b ≢ byte) b bs lacks) tail
