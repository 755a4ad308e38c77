-- Of the code alone: promises with their numbers, what they are walked in and what reads them, without where they lie in memory.
use Rattle.std.specs.Prelude.{ℕ, List}
use Rattle.cfa_tree.specs.Plain.{plain_promise}
use Rattle.cfa_schema.specs.Seen.{tree_of}
use Rattle.cfa_statuses.specs.Raised.{status_in}
use Rattle.cfa_scripts.specs.declared.numbering.Numbered.{Numbered as Held}
use Rattle.cfa_scripts.specs.declared.walking.Around.{Around as Lent}
use Rattle.cfa_scripts.specs.Numbered.{Numbered}
use Rattle.cfa_scripts.specs.EditBundles.{Around}
use Rattle.cfa_scripts.specs.declared.contributing.Contribution.{Contribution}
use Rattle.cfa_scripts.specs.declared.edit_making.Editor.{Editor}
use Rattle.cfa_scripts.specs.EditPromises.{contribution}
use Rattle.cfa_scripts.specs.ScriptBuilds.{BuiltIn, BuiltAmong}
use Rattle.cfa_vars.specs.Scopes.{in_scope}
use Rattle.cfa_vars.specs.Expansion.{Chosen}

abbrev pub seen_numbered : Held → Numbered
seen_numbered p = record {
  id = record { bundle = p.bundle.now; number = p.number; line = p.promise.now.place.line };
  type = p.promise_type;
  promise = plain_promise p.promise.now;
}

abbrev pub seen_around : Lent → Around
seen_around a = record {
  policy = tree_of a.checked.now;
  bundle = a.bundle.now;
  shared = a.shared.now;
  statuses = status_in a.statuses.now;
}

abbrev pub contribution_of : Editor → Chosen → Contribution
contribution_of e choice = contribution (tree_of e.checked.now) (in_scope e.scopes) e.promise_type (plain_promise e.promise.now) choice

abbrev pub built_in : Editor → Chosen → List ℕ → Type 0
built_in e choice content = BuiltIn (tree_of e.checked.now) (in_scope e.scopes) e.promise_type (plain_promise e.promise.now) choice content

abbrev pub built_among : Editor → List Chosen → List ℕ → Type 0
built_among e choices content = BuiltAmong (tree_of e.checked.now) (in_scope e.scopes) e.promise_type (plain_promise e.promise.now) choices content
