use Rattle.cfa_tables.proofs.FieldLemmas.{same_fields}
use Rattle.cfa_tables.proofs.RowLemmas.{perms_fields, perms_of}
use Rattle.cfa_tables.proofs.rows.read_perms_row.Goals as goal

pub returns-in_default : goal.returns-in_default
returns-in_default c row is same = c.in_default.ensures.none _ _ _ _ (perms_fields row _ same)

pub returns-in_default-read_mode : goal.returns-in_default-read_mode
returns-in_default-read_mode c row is same = c.in_default-read_mode.ensures row.1.mode is.1.0 (same_fields (perms_fields row _ same) c.in-Some.ensures.some).second

pub returns-in_default-2 : goal.returns-in_default-2
returns-in_default-2 c row is same =
    let none = rw c.in_default-2.is at c.in_ok-path.ensures in
    none row.0 is.0 (same_fields (perms_fields row _ same) c.in-Some.ensures.some).first

pub returns-in_default-3 : goal.returns-in_default-3
returns-in_default-3 c row is same =
    let none = rw c.in_default-3.is at c.in_ok-owner.ensures in
    none row.1.owner is.1.1.0 (same_fields (perms_fields row _ same) c.in-Some.ensures.some).third

pub returns-in_default-4 : goal.returns-in_default-4
returns-in_default-4 c row is same =
    let none = rw c.in_default-4.is at c.in_ok-group.ensures in
    none row.1.group is.1.1.1 (same_fields (perms_fields row _ same) c.in-Some.ensures.some).fourth

pub returns : goal.returns
returns c =
    let path = rw c.in-Some-2.is at c.in_ok-path.ensures in
    let owner = rw c.in-Some-3.is at c.in_ok-owner.ensures in
    let group = rw c.in-Some-4.is at c.in_ok-group.ensures in
    let mode = c.in-Some-read_mode.ensures in
    ((path.0, (mode.0, (owner.0, group.0))), perms_of _ _ _ _ _ _ _ _ _ c.in-Some.ensures.some path.1 mode.1 owner.1 group.1)
