use Rattle.std.proofs.Common.{arith}
use Rattle.cfa_edit_proof.proofs.Fields.{changed_tells, none_tells}
use Rattle.cfa_edit_proof.proofs.pairs.has_field.Goals as goal

pub returns-in-Ok-Some : goal.returns-in-Ok-Some
returns-in-Ok-Some c =
    let is = rw c.in-Ok-Some.field-0-is at c.in-Ok-Some.ensures.ok in
    let tells = changed_tells c.args.separator c.args.number c.args.value.now c.args.line.now _ c.requires c.utf8.line is in
    grind (arith, tells)

pub returns-in-Ok-None : goal.returns-in-Ok-None
returns-in-Ok-None c =
    let is = rw c.in-Ok-None.field-0-is at c.in-Ok-None.ensures.ok in
    none_tells c.args.separator c.args.number c.args.value.now c.args.line.now c.requires c.utf8.line is
