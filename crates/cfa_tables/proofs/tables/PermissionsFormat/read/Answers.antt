use Rattle.std.proofs.Common.{◌≡◌, ap, sym, ◌∙◌, subst}
use Rattle.std.specs.Option.{option_copied}
use Rattle.cfa_tables.specs.Tables.{IsAbove}
use Rattle.cfa_tables.proofs.RowLemmas.{perms_tells, not_above}
use Rattle.cfa_tables.proofs.tables.PermissionsFormat.read.Goals as goal

pub returns-then-not-is_above : goal.returns-then-not-is_above
returns-then-not-is_above c row fits same =
    let read = rw c.in-Some.is at c.in_ok-row.ensures in
    let equal : row ≡ c.in-Some.row = perms_tells row c.in-Some.row fits.0 read.0 (same ∙ sym read.1) in
    let above = subst (λ o. IsAbove (option_copied o) row.0) c.in-Some-last.is fits.1 in
    not_above _ _ _ _ _ c.if-not-is_above.true c.is_above.ensures.1 (c.as_str-before.ensures ∙ c.text-last_path.ensures.same) (c.as_str-key.ensures ∙ c.text-path.ensures.same ∙ sym (ap (λ r. r.0) equal)) above
