use Rattle.std.proofs.Common.{◌≡◌, List, Some, ap, sym, map, ◌∙◌}
use Rattle.std.specs.Prelude.{IfSome, slice_get}
use Rattle.std.specs.FinMap as finite
use Rattle.cfa_base.specs.Index.{Text, is_listed}
use Rattle.cfa_vars.specs.Shared.{name_of}
use Rattle.cfa_vars.specs.Tables.{Table}
use Rattle.cfa_vars.proofs.SharedLemmas.{named_if, not_listed}
use Rattle.cfa_vars.proofs.sharing.SharedScopes.place_of.Goals as goal

pub returns-clause-found : goal.returns-clause-found
returns-clause-found c =
    let is = c.copied.ensures ∙ c.get.ensures ∙ ap (finite.get c.self.inside.places) c.as_str.ensures in
    let found : IfSome c.copied.result (λ place. slice_get (map name_of c.self.inside.scopes.items) place ≡ Some c.args.name.now) =
    named_if c.self.inside.scopes.items c.self.inside.places c.args.name.now c.copied.result c.self.invariant is in
    rw (← c.self.view_is) found

pub returns-clause-missing : goal.returns-clause-missing
returns-clause-missing c = λ none.
    let is = sym none ∙ c.copied.ensures ∙ c.get.ensures ∙ ap (finite.get c.self.inside.places) c.as_str.ensures in
    ap (λ (ss : List (Text × Table)). is_listed (map name_of ss) c.args.name.now) (sym c.self.view_is)
    ∙ not_listed c.self.inside.scopes.items c.self.inside.places c.args.name.now c.self.invariant is
