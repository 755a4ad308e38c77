use Rattle.cfa_tables.specs.Tables.{service_text, perms_text, lock_text, IsServiceRow, IsPermsRow, IsLockRow}
use Rattle.cfa_tables.proofs.RowLemmas.{services_tell, perms_tell, locks_tell}
use Rattle.cfa_tables.proofs.TableLemmas.{tells_tables}
use Rattle.cfa_tables.proofs.laws.tables_tell_rows.Goals as goal

pub returns-clause-services : goal.returns-clause-services
returns-clause-services c = tells_tables service_text IsServiceRow services_tell

pub returns-clause-perms : goal.returns-clause-perms
returns-clause-perms c = tells_tables perms_text IsPermsRow perms_tell

pub returns-clause-locks : goal.returns-clause-locks
returns-clause-locks c = tells_tables lock_text IsLockRow locks_tell
