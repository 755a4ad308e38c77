use Rattle.std.proofs.Common.{sym}
use Rattle.cfa_resolve.proofs.FileLemmas.{no_directory_form, whole_path_part}
use Rattle.cfa_resolve.proofs.files.path_part.Goals as goal

pub returns-in-None-clause-part : goal.returns-in-None-clause-part
returns-in-None-clause-part c = sym (whole_path_part c.args.promiser.now c.in-None.ensures.cases)

pub returns-in-None-clause-directory : goal.returns-in-None-clause-directory
returns-in-None-clause-directory c = sym (no_directory_form c.args.promiser.now c.in-None.ensures.cases)
