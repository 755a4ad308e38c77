-- A worked row: the digest of no bytes, as the standard has it.
use Rattle.std.proofs.Common.{◌≡◌, [], codes, refl}
use Rattle.sha2.specs.Sha256.{first_words, schedule, rounds, compress, hash_after, digest_bytes, sha256}
use Rattle.hex.specs.Hex.{encode_with}
use Rattle.cfa_locks.specs.Locks.{digest_of}

no_bytes : digest_of [] ≡ codes "e3b0c44298fc1c149afbf4c8996fb92427ae41e4649b934ca495991b7852b855"
unfolding first_words schedule rounds compress hash_after digest_bytes sha256 encode_with
no_bytes = refl
