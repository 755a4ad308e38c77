use Rattle.cfa_base.proofs.EscapeLemmas.{percent_encode-escaped, bytes_fit}
use Rattle.cfa_base.proofs.escapes.escape_bytes.Goals as goal

pub returns : goal.returns
returns c =
    rw (
      c.in_ok-from_string.ensures,
      c.in_ok-append_to.ensures.ok,
      c.new-field.ensures.bytes,
      c.percent_encode.ensures.text,
    )
    (percent_encode-escaped _ (bytes_fit c.args.text.now c.type_inv.text))
