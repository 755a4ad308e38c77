-- Of the code alone: a promise with what it is resolved in, texts within their limit, and why a promise isn't resolved.
use Rattle.std.specs.Prelude.{ℕ, ◌≤◌, List, length, Option, Some, None}
use Rattle.cfa_tree.specs.Plain.{plain_promise}
use Rattle.cfa_schema.specs.Seen.{tree_of}
use Rattle.cfa_statuses.specs.Raised.{status_in}
use Rattle.cfa_vars.specs.Scopes.{in_scope}
use Rattle.cfa_resolve.specs.declared.reached.Reached.{Reached as Held}
use Rattle.cfa_resolve.specs.Instances.{Reached}
use Rattle.cfa_base.specs.declared.limits.TheConstants.{MOST_TEXT_BYTES}
use Rattle.cfa_scripts.specs.declared.errors.ScriptErr.{ScriptErr}
use Rattle.cfa_resolve.specs.declared.instances.ResolveErr.{ResolveErr}
use Rattle.cfa_resolve.specs.declared.instances.ResolveErr.TheVariants.{TooLarge, PatternTooBig, NoMemory}
use Rattle.cfa_scripts.specs.declared.errors.ScriptErr.TheVariants as scripts

-- An activation's promise with what it is resolved in, without where it lies in memory.

abbrev pub seen_reached : Held → Reached
seen_reached r = record {
  policy = tree_of r.checked.now;
  id = r.id.now;
  type = r.promise_type;
  promise = plain_promise r.promise.now;
  scopes = in_scope r.scopes;
  statuses = status_in r.statuses.now;
  path = r.path.now;
}

-- A text that a promise gives is within the limit of texts.

abbrev pub IsShort : Option (List ℕ) → Type 0
IsShort None = Unit {0}
IsShort (Some content) = length content ≤ MOST_TEXT_BYTES

-- Why a promise isn't resolved, where its edit bundle isn't walked.

abbrev pub error_of : ScriptErr → ResolveErr
error_of scripts.TooLarge = TooLarge
error_of (scripts.PatternTooBig text) = PatternTooBig text
error_of scripts.NoMemory = NoMemory
