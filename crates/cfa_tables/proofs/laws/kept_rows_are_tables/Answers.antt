use Rattle.cfa_tables.specs.Tables.{service_text, perms_text, lock_text, IsServiceRow, IsPermsRow, IsLockRow}
use Rattle.cfa_tables.proofs.RowLemmas.{services_tell, perms_tell, locks_tell}
use Rattle.cfa_tables.proofs.KeptRowLemmas.{writes_tables}
use Rattle.cfa_tables.proofs.laws.kept_rows_are_tables.Goals as goal

pub returns-clause-services : goal.returns-clause-services
returns-clause-services c = writes_tables IsServiceRow service_text services_tell

pub returns-clause-perms : goal.returns-clause-perms
returns-clause-perms c = writes_tables IsPermsRow perms_text perms_tell

pub returns-clause-locks : goal.returns-clause-locks
returns-clause-locks c = writes_tables IsLockRow lock_text locks_tell
