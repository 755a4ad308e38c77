use Rattle.std.proofs.Common.{◌≡◌, ◌++◌, ◌∷◌, [], List, length, true, false, is_some, ap, sym, subst, rules, ◌∙◌}
use Rattle.std.specs.FinMap as finite
use Rattle.cfa_base.specs.Index.{Text}
use Rattle.cfa_vars.specs.Shared.{begun}
use Rattle.cfa_vars.specs.Tables.{Table}
use Rattle.cfa_vars.proofs.SharedLemmas.{begun_already, begun_new, places_begun}
use Rattle.cfa_vars.proofs.sharing.SharedScopes.begin.Goals as goal

pub returns-then-contains-clause-ok : goal.returns-then-contains-clause-ok
returns-then-contains-clause-ok c =
    let there : is_some (finite.get c.self.inside.places c.args.name.now) ≡ true =
    ap (finite.contains_key c.self.inside.places) (sym c.as_str.ensures) ∙ sym c.contains.ensures ∙ c.if-contains.true in
    subst (λ (ss : List (Text × Table)). ss ≡ begun ss c.args.name.now) c.self.view_is (begun_already c.self.inside.scopes.items c.self.inside.places c.args.name.now c.self.invariant there)

pub invariant_of-self-2 : goal.invariant_of-self-2
invariant_of-self-2 c =
    let none : is_some (finite.get c.self.inside.places c.args.name.now) ≡ false =
    ap (finite.contains_key c.self.inside.places) (sym c.as_str.ensures) ∙ sym c.contains.ensures ∙ c.if-contains.false in
    let more : c.push.new.self.items ≡ c.self.inside.scopes.items ++ (c.args.name.now, []) ∷ [] = search rules in
    let end : c.len.result ≡ length c.self.inside.scopes.items = search rules in
    places_begun c.self.inside.scopes.items c.push.new.self.items c.self.inside.places c.insert.new.self c.args.name.now c.len.result c.self.invariant none end more
    (c.in_ok-insert.ensures.ok ∙ ap (λ (k : Text). finite.insert c.self.inside.places k c.len.result) c.in_ok-key.ensures)

pub returns-clause-ok : goal.returns-clause-ok
returns-clause-ok c =
    let none : is_some (finite.get c.self.inside.places c.args.name.now) ≡ false =
    ap (finite.contains_key c.self.inside.places) (sym c.as_str.ensures) ∙ sym c.contains.ensures ∙ c.if-contains.false in
    let more : c.push.new.self.items ≡ c.self.inside.scopes.items ++ (c.args.name.now, []) ∷ [] = search rules in
    subst (λ (ss : List (Text × Table)). c.push.new.self.items ≡ begun ss c.args.name.now) c.self.view_is
    (begun_new c.self.inside.scopes.items c.push.new.self.items c.self.inside.places c.args.name.now c.self.invariant none more)
