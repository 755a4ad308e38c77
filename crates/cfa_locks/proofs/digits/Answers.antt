use Rattle.std.proofs.Common.{◌≡◌, true, ap, ◌∙◌}
use Rattle.hex.specs.Hex.{encode_lower}
use Rattle.cfa_base.specs.Keys.{is_key}
use Rattle.cfa_locks.specs.Locks.{digest_of}
use Rattle.cfa_locks.specs.lemmas.HexKeys.{is_key-sha256}
use Rattle.cfa_locks.proofs.digits.Goals as goal

pub unreachable-requires : goal.unreachable-requires
unreachable-requires c =
    let written : c.as_bytes.result.now ≡ digest_of c.args.bytes.now = c.as_bytes.ensures.value ∙ c.in_ok-digits.ensures ∙ ap encode_lower c.digest-digest.ensures in
    let key : is_key c.as_bytes.result.now ≡ true = ap is_key written ∙ is_key-sha256 c.args.bytes.now in
    let found = rw key at c.read.ensures in
    cc
