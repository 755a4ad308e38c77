-- Who calls an edit bundle, as contracts see it.
use Rattle.cfa_schema.specs.Seen.{tree_of}
use Rattle.cfa_statuses.specs.Raised.{status_in}
use Rattle.cfa_vars.specs.Scopes.{in_scope}
use Rattle.cfa_scripts.specs.declared.calling.Caller.{Caller as Lent}
use Rattle.cfa_scripts.specs.EditScripts.{Caller}

abbrev pub seen_caller : Lent → Caller
seen_caller c = record {
  policy = tree_of c.checked.now;
  scopes = in_scope c.scopes;
  statuses = status_in c.statuses.now;
  choice = c.choice.now;
}
