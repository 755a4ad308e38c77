-- The digest of bytes is their SHA-256, in lower case hexadecimal digits. The key of a lock is the digest of a text. What was
-- last done at one moment is due again at another where so many whole minutes lie between them, and where the last moment lies
-- in the future.
use Rattle.std.specs.Prelude.{ℕ, ◌-◌, ◌/◌, Bool, ◌||◌, nat_le, nat_lt, List}
use Rattle.sha2.specs.Sha256.{sha256}
use Rattle.hex.specs.Hex.{encode_lower}

abbrev pub digest_of : List ℕ → List ℕ
digest_of bytes = encode_lower (sha256 bytes)

abbrev pub key_of : List ℕ → List ℕ
key_of text = digest_of text

abbrev pub is_due : (last now minutes : ℕ) → Bool
is_due last now minutes = nat_lt now last || nat_le minutes ((now - last) / 60)
