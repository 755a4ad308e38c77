use Rattle.cfa_tables.proofs.FieldLemmas.{same_fields}
use Rattle.cfa_tables.proofs.RowLemmas.{service_fields, service_of}
use Rattle.cfa_tables.proofs.rows.read_service_row.Goals as goal

pub returns-in_default : goal.returns-in_default
returns-in_default c row is same = c.in_default.ensures.none _ _ _ _ (service_fields row _ same)

pub returns-in_default-read_running : goal.returns-in_default-read_running
returns-in_default-read_running c row is same = c.in_default-read_running.ensures row.1.running tt (same_fields (service_fields row _ same) c.in-Some.ensures.some).second

pub returns-in_default-read_enabled : goal.returns-in_default-read_enabled
returns-in_default-read_enabled c row is same = c.in_default-read_enabled.ensures row.1.enabled tt (same_fields (service_fields row _ same) c.in-Some.ensures.some).third

pub returns-in_default-read_restarts : goal.returns-in_default-read_restarts
returns-in_default-read_restarts c row is same = c.in_default-read_restarts.ensures row.1.restarts is.1 (same_fields (service_fields row _ same) c.in-Some.ensures.some).fourth

pub returns-in_default-2 : goal.returns-in_default-2
returns-in_default-2 c row is same =
    let none = rw c.in_default-2.is at c.in_ok-name.ensures in
    none row.0 is.0 (same_fields (service_fields row _ same) c.in-Some.ensures.some).first

pub returns : goal.returns
returns c =
    let name = rw c.in-Some-2.is at c.in_ok-name.ensures in
    let running = c.in-Some-read_running.ensures in
    let enabled = c.in-Some-read_enabled.ensures in
    let restarts = c.in-Some-read_restarts.ensures in
    ((name.0, restarts.0), service_of _ _ _ _ _ _ _ _ _ c.in-Some.ensures.some name.1 running.1 enabled.1 restarts.1)
