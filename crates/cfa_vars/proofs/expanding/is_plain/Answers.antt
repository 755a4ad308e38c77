use Rattle.std.proofs.Common.{◌<◌, ◌+◌, sym, ap, ◌∙◌, length, is_none, unwrap_or, [], rules, arith}
use Rattle.cfa_vars.specs.Scopes.{in_scope}
use Rattle.cfa_vars.specs.Expansion.{expanded, filled, first_unresolved}
use Rattle.cfa_vars.proofs.ExpansionLemmas.{unresolved_here, unresolved_later, unresolved_none, filled_none, length-filled_more, plain_unresolved, plain_too_long, plain_last, as_long}
use Rattle.cfa_vars.proofs.expanding.is_plain.Goals as goal

pub returns-in-None : goal.returns-in-None
unfolding expanded
returns-in-None c =
    let scopes = in_scope c.args.scopes.now in
    let found = c.in-Some.found in
    let here = unresolved_here scopes [] c.loop-found.rest.now found.before.now found.name.now found.after.now c.in-Some.ensures.first (ap is_none (sym c.in-None.ensures)) in
    plain_unresolved (first_unresolved scopes [] c.args.text.now) found.name.now (filled scopes [] c.args.text.now) (sym c.loop-found.invariant.1.0 ∙ here)

pub returns-then-found-left : goal.returns-then-found-left
unfolding expanded
returns-then-found-left c =
    let scopes = in_scope c.args.scopes.now in
    let found = c.in-Some.found in
    let whole = filled scopes [] c.args.text.now in
    let parts = length-filled_more scopes [] c.loop-found.rest.now found.before.now found.name.now found.after.now c.in-Some-scalar.part.now c.in-Some.ensures.first (ap (λ o. unwrap_or o []) c.in-Some-scalar.ensures) in
    let long : 65536 < length whole = omega (arith, c.loop-found.invariant.0, parts, c.if-found-left.true) in
    plain_too_long (first_unresolved scopes [] c.args.text.now) whole long

pub returns-then-part-left : goal.returns-then-part-left
unfolding expanded
returns-then-part-left c =
    let scopes = in_scope c.args.scopes.now in
    let found = c.in-Some.found in
    let whole = filled scopes [] c.args.text.now in
    let parts = length-filled_more scopes [] c.loop-found.rest.now found.before.now found.name.now found.after.now c.in-Some-scalar.part.now c.in-Some.ensures.first (ap (λ o. unwrap_or o []) c.in-Some-scalar.ensures) in
    let long : 65536 < length whole = omega (arith, c.loop-found.invariant.0, parts, c.if-found-left.false, c.if-part-left.true) in
    plain_too_long (first_unresolved scopes [] c.args.text.now) whole long

pub loop-found-preserved : goal.loop-found-preserved
loop-found-preserved c =
    let scopes = in_scope c.args.scopes.now in
    let found = c.in-Some.found in
    let parts = length-filled_more scopes [] c.loop-found.rest.now found.before.now found.name.now found.after.now c.in-Some-scalar.part.now c.in-Some.ensures.first (ap (λ o. unwrap_or o []) c.in-Some-scalar.ensures) in (
      omega (arith, c.loop-found.invariant.0, parts, c.if-found-left.false, c.if-part-left.false),
      (sym (unresolved_later scopes [] c.loop-found.rest.now found.before.now found.name.now found.after.now c.in-Some.ensures.first (ap is_none (sym c.in-Some-scalar.ensures))) ∙ c.loop-found.invariant.1.0, search rules),
    )

pub returns : goal.returns
unfolding expanded
returns c =
    let scopes = in_scope c.args.scopes.now in
    let rest = c.loop-found.rest.now in
    let whole = filled scopes [] c.args.text.now in
    let none = sym c.loop-found.invariant.1.0 ∙ unresolved_none scopes [] rest c.in_default.ensures.first in
    let left = c.loop-found.invariant.0 ∙ ap (λ t. 65536 + length t) (filled_none scopes [] rest c.in_default.ensures.first) in
    plain_last (first_unresolved scopes [] c.args.text.now) whole _ none (as_long c.loop-found.left (length rest) (length whole) left)
