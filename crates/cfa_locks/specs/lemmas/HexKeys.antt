-- 32 bytes in lower case hexadecimal digits are a key.
use Rattle.std.proofs.Common.{◌≡◌, ℕ, zero, suc, ◌/◌, ◌%◌, ◌<◌, true, List, [], ◌∷◌, length, slice_index, All, refl, ◌∙◌, arith}
use Rattle.std.specs.List.{list_all}
use Rattle.std.proofs.lemmas.Bool.{and_from, eq-eqb, agree_below, agree_below_at}
use Rattle.std.proofs.lemmas.List.Elements.{All-nil, All-cons, All-head, All-tail, All-append}
use Rattle.hex.specs.Hex.{encode_with, encode_lower, lower_digits}
use Rattle.hex.proofs.HexLemmas.{length-encode_with}
use Rattle.std.specs.Int.{byte_at, bytes_high_first}
use Rattle.sha2.specs.Sha256.{sha256, digest_bytes, final_hash, initial_hash_256}
use Rattle.sha2.proofs.Facts256.{length-sha256}
use Rattle.cfa_base.specs.Keys.{is_hex_digit, is_key}

digits_pass : agree_below (λ d. is_hex_digit (slice_index lower_digits d)) (λ d. true) 16 ≡ true
digits_pass = refl

digit_passes : (d : ℕ) → d < 16 → is_hex_digit (slice_index lower_digits d) ≡ true
digit_passes d small = agree_below_at (λ d. is_hex_digit (slice_index lower_digits d)) (λ d. true) 16 d digits_pass small

all_digits : (bytes : List ℕ) → All (λ b. b < 256) bytes → list_all is_hex_digit (encode_lower bytes) ≡ true
unfolding encode_with
all_digits [] small = refl
all_digits (b ∷ bs) small =
    let here = All-head (λ b. b < 256) b bs small in
    and_from _ _ (digit_passes (b / 16) (omega arith)) (and_from _ _ (digit_passes (b % 16) (omega arith)) (all_digits bs (All-tail (λ b. b < 256) b bs small)))

is_key-encode_lower : (bytes : List ℕ) → length bytes ≡ 32 → All (λ b. b < 256) bytes → is_key (encode_lower bytes) ≡ true
is_key-encode_lower bytes long small =
    and_from _ _ (eq-eqb _ _ (length-encode_with lower_digits bytes ∙ omega (arith, long))) (all_digits bytes small)

byte_at_small : (k n : ℕ) → byte_at k n < 256
byte_at_small zero n = omega arith
byte_at_small (suc k) n = omega arith

high_first_small : (k n : ℕ) → All (λ b. b < 256) (bytes_high_first k n)
high_first_small zero n = All-nil (λ b. b < 256)
high_first_small (suc k) n = All-cons (λ b. b < 256) (byte_at k n) (bytes_high_first k n) (byte_at_small k n) (high_first_small k n)

digest_bytes_small : (h : List ℕ) (n : ℕ) → All (λ b. b < 256) (digest_bytes h n)
unfolding digest_bytes
digest_bytes_small h zero = All-nil (λ b. b < 256)
digest_bytes_small h (suc n) = All-append (λ b. b < 256) (digest_bytes h n) _ (digest_bytes_small h n) (high_first_small 4 (slice_index h n))

sha256_small : (m : List ℕ) → All (λ b. b < 256) (sha256 m)
unfolding sha256
sha256_small m = digest_bytes_small (final_hash initial_hash_256 m) 8

pub is_key-sha256 : (m : List ℕ) → is_key (encode_lower (sha256 m)) ≡ true
is_key-sha256 m = is_key-encode_lower (sha256 m) (length-sha256 m) (sha256_small m)
