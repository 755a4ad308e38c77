use Rattle.std.proofs.Common.{◌≡◌, ap, sym, ◌∙◌, subst}
use Rattle.std.proofs.lemmas.Bool.{false≢true}
use Rattle.std.proofs.lemmas.Slice.Eq.{bytes_eq-Decides}
use Rattle.std.specs.Str.{IsUtf8}
use Rattle.percent_encoding.specs.Percent.{percent_decode}
use Rattle.percent_encoding.specs.Iter.{decoded_bytes}
use Rattle.cfa_base.specs.Escapes.{escaped}
use Rattle.cfa_base.proofs.EscapeLemmas.{percent_decode-escaped}
use Rattle.cfa_base.proofs.escapes.unescape_bytes.Goals as goal

pub returns-in-Err-Utf8-clause-bad : goal.returns-in-Err-Utf8-clause-bad
returns-in-Err-Utf8-clause-bad c _ (text, utf8, field) =
    let decoded : decoded_bytes c.percent_decode.result ≡ text = c.percent_decode.ensures.bytes ∙ ap percent_decode (sym field) ∙ percent_decode-escaped text utf8 in
    let reads = c.in-Err-Utf8.ensures.utf8 (subst IsUtf8 (sym decoded) utf8) in
    cc (c.in-Err-Utf8.field-0-is)

pub returns-else-eq-clause-bad : goal.returns-else-eq-clause-bad
returns-else-eq-clause-bad c _ (text, utf8, field) =
    let decoded : decoded_bytes c.percent_decode.result ≡ text = c.percent_decode.ensures.bytes ∙ ap percent_decode (sym field) ∙ percent_decode-escaped text utf8 in
    let read = c.in_ok-text-in-Ok.ensures ∙ c.in_ok-into_owned-in-Ok.ensures.ok ∙ c.in-Ok.ensures.value ∙ decoded in
    let written = c.as_bytes.ensures.value ∙ c.as_str-2.ensures ∙ c.in_ok-escape.ensures ∙ ap escaped read ∙ field in
    let found = c.eq.ensures ∙ (bytes_eq-Decides _ _).1 written in
    false≢true (sym c.if-eq.false ∙ found)
