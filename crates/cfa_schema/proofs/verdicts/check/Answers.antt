use Rattle.std.proofs.lemmas.Result.{err_from_is_err_and}
use Rattle.cfa_tree.specs.Plain.{plain_policy}
use Rattle.cfa_schema.specs.Valid.{FirstRefusal}
use Rattle.cfa_schema.proofs.VerdictLemmas.{told_pattern, refused_is}
use Rattle.cfa_schema.proofs.verdicts.check.Goals as goal

pub returns-in_err-check_patterns-clause-refused : goal.returns-in_err-check_patterns-clause-refused
returns-in_err-check_patterns-clause-refused g c =
    let policy = plain_policy c.args.policy in
    let gives = err_from_is_err_and c.from_residual-in_err-check_patterns.result c.from_residual-in_err-check_patterns.ensures.1 in
    refused_is (FirstRefusal policy) c.from_residual-in_err-check_patterns.result
    (rw (gives.1, gives.2) (told_pattern policy c.in_ok-refusal.field-0 c.in_err-check_patterns.field-0.0 c.in_ok-refusal.ensures.none c.in_default.not-Some c.in_err-check_patterns.ensures.bad))
