-- A mode in four octal digits: how long it is, which bytes it lacks, and that it tells the mode.
use Rattle.std.proofs.Common.{◌≡◌, ◌≢◌, ℕ, ◌/◌, ◌<◌, [], ◌∷◌, length, refl, arith}
use Rattle.std.proofs.lemmas.List.Elements.{All-nil, All-cons}
use Rattle.cfa_base.specs.Lacking.{Lacks}
use Rattle.cfa_base.specs.Octal.{octal_digit, mode_text}

-- a mode lacks each byte that is no octal digit
pub mode-lacks : (byte mode : ℕ) → ((n : ℕ) → octal_digit n ≢ byte) → Lacks byte (mode_text mode)
unfolding mode_text
mode-lacks byte mode other =
    All-cons (λ b. b ≢ byte) (octal_digit (mode / 512)) (octal_digit (mode / 64) ∷ octal_digit (mode / 8) ∷ octal_digit mode ∷ []) (other (mode / 512))
    (All-cons (λ b. b ≢ byte) (octal_digit (mode / 64)) (octal_digit (mode / 8) ∷ octal_digit mode ∷ []) (other (mode / 64))
    (All-cons (λ b. b ≢ byte) (octal_digit (mode / 8)) (octal_digit mode ∷ []) (other (mode / 8))
    (All-cons (λ b. b ≢ byte) (octal_digit mode) [] (other mode) (All-nil (λ b. b ≢ byte)))))

pub mode_length : (mode : ℕ) → length (mode_text mode) ≡ 4
unfolding mode_text
mode_length mode = refl

pub mode_tells : (m n : ℕ) → m < 4096 → n < 4096 → mode_text m ≡ mode_text n → m ≡ n
unfolding mode_text
mode_tells m n small small' e =
    let first : octal_digit (m / 512) ≡ octal_digit (n / 512) = cc in
    let second : octal_digit (m / 64) ≡ octal_digit (n / 64) = cc in
    let third : octal_digit (m / 8) ≡ octal_digit (n / 8) = cc in
    let fourth : octal_digit m ≡ octal_digit n = cc in
    omega arith
