use Rattle.std.proofs.Common.{◌≡◌, Some, sym, ap, ◌∙◌, arith}
use Rattle.std.specs.Prelude.{◌==◌}
use Rattle.std.specs.List.{count_by}
use Rattle.std.specs.Str.{chars}
use Rattle.cfa_edits.proofs.FieldSteps.{with_few, with_enough}
use Rattle.cfa_edits.proofs.fields.with_field.Goals as goal

pub returns-then-fields-from-clause-ok : goal.returns-then-fields-from-clause-ok
returns-then-fields-from-clause-ok c =
    let count : c.separators-fields.result ≡ count_by (λ x. x == c.args.separator) (chars c.args.line.now) =
    c.separators-fields.ensures ∙ ap (count_by (λ x. x == c.args.separator)) (c.deref.ensures.value ∙ c.in_ok-chars.ensures.ok) in
    sym (with_few c.args.separator c.args.number c.args.value.now c.args.line.now (omega (arith, count, c.if-fields-from.true)))

pub returns-clause-ok : goal.returns-clause-ok
returns-clause-ok c =
    let count : c.separators-fields.result ≡ count_by (λ x. x == c.args.separator) (chars c.args.line.now) =
    c.separators-fields.ensures ∙ ap (count_by (λ x. x == c.args.separator)) (c.deref.ensures.value ∙ c.in_ok-chars.ensures.ok) in
    sym (with_enough c.args.separator c.args.number c.args.value.now c.args.line.now (omega (arith, count, c.if-fields-from.false)) c.requires
    ∙ ap Some (sym (rw (c.deref-2.ensures.value, c.in_ok-chars.ensures.ok) at c.in_ok-changed.ensures.ok)))
