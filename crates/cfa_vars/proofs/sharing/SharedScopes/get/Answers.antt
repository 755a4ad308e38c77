use Rattle.std.proofs.Common.{List, ap, sym, ◌∙◌}
use Rattle.std.specs.Prelude.{option_map, slice_get}
use Rattle.cfa_base.specs.Index.{Text}
use Rattle.cfa_vars.specs.Named.{thing_at}
use Rattle.cfa_vars.specs.Shared.{table_of}
use Rattle.cfa_vars.specs.Tables.{Table}
use Rattle.cfa_vars.proofs.SharedLemmas.{thing_by_place, nothing_by_place}
use Rattle.cfa_vars.proofs.sharing.SharedScopes.get.Goals as goal

pub returns-in-Some : goal.returns-in-Some
returns-in-Some c =
    c.at.ensures ∙ ap (λ (ss : List (Text × Table)). option_map table_of (slice_get ss c.in-Some.place.now)) (sym c.self.view_is)
    ∙ thing_by_place c.self.inside.scopes.items c.self.inside.places c.args.bundle.now c.in-Some.place.now c.self.invariant c.in-Some.ensures
    ∙ ap (λ (ss : List (Text × Table)). thing_at ss c.args.bundle.now) c.self.view_is

pub returns-in-None : goal.returns-in-None
returns-in-None c =
    nothing_by_place c.self.inside.scopes.items c.self.inside.places c.args.bundle.now c.self.invariant c.in-None.ensures
    ∙ ap (λ (ss : List (Text × Table)). thing_at ss c.args.bundle.now) c.self.view_is
