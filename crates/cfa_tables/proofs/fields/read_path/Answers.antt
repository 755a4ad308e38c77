use Rattle.std.proofs.Common.{◌≡◌, Err, ap, sym, ◌∙◌}
use Rattle.std.proofs.lemmas.Bool.{both_ways}
use Rattle.std.proofs.lemmas.Slice.Eq.{bytes_eq-Decides}
use Rattle.cfa_base.specs.lemmas.Escapes.{fields_tell_texts}
use Rattle.cfa_base.specs.lemmas.Options.{one_some}
use Rattle.cfa_outside.specs.Paths.{path_of}
use Rattle.cfa_tables.proofs.FieldLemmas.{some_or_none}
use Rattle.cfa_tables.proofs.fields.read_path.Goals as goal

pub returns-in-Err-BadPath : goal.returns-in-Err-BadPath
returns-in-Err-BadPath c row is same =
    let read = rw c.in-Some.is at c.in_ok-text.ensures in
    let equal : row ≡ c.in-Some.text = fields_tell_texts row c.in-Some.text (same ∙ sym read.1) in
    some_or_none (path_of c.in-Some.text) row (ap path_of (sym equal) ∙ is.1) (c.in-Err-BadPath.ensures.bad (ap Err c.in-Err-BadPath.field-0-is))

pub returns : goal.returns
returns c row is same =
    let read = rw c.in-Some.is at c.in_ok-text.ensures in
    let equal : row ≡ c.in-Some.text = fields_tell_texts row c.in-Some.text (same ∙ sym read.1) in
    let path = one_some {o = path_of c.in-Some.text} {x = c.in-Ok.path} {y = row} c.in-Ok.ensures.ok (ap path_of (sym equal) ∙ is.1) in
    both_ways _ c.if-eq.false (c.eq.ensures ∙ (bytes_eq-Decides _ _).1 (c.as_bytes.ensures.value ∙ c.as_str.ensures ∙ c.text-2.ensures.same ∙ path ∙ equal ∙ sym c.as_str-2.ensures ∙ sym c.as_bytes-2.ensures.value))
