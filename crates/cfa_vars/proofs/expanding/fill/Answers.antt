use Rattle.std.proofs.Common.{sym, ap, ◌∙◌, ◌≤◌, length, is_none, unwrap_or, [], rules, arith}
use Rattle.std.proofs.lemmas.Option.{none-some}
use Rattle.std.specs.String.{string_bytes}
use Rattle.cfa_vars.specs.Scopes.{in_scope}
use Rattle.cfa_vars.specs.Expansion.{expanded, told_of, done_or_too_long, filled}
use Rattle.cfa_vars.proofs.ExpansionLemmas.{where_true, where_false, stop_before, stop_part, stop_last, write_more, write_last, unresolved_here, unresolved_later, unresolved_none}
use Rattle.cfa_vars.proofs.expanding.fill.Goals as goal

pub returns-in-None-clause-long : goal.returns-in-None-clause-long
returns-in-None-clause-long c _ none =
    let found = c.in-Some.found in
    let here = unresolved_here (in_scope c.args.scopes.now) c.args.choice.now c.loop-found.rest.now found.before.now found.name.now found.after.now c.in-Some.ensures.first (ap is_none (sym c.in-None.ensures)) in
    absurd (none-some found.name.now (sym none ∙ sym c.loop-found.invariant.1.0 ∙ here))

pub returns-then-not-branch-clause-long : goal.returns-then-not-branch-clause-long
returns-then-not-branch-clause-long c _ none =
    let long = where_false _ _ c.in_ok-add.field-0 c.if-not-branch.true c.in_ok-add.ensures.added in
    let found = c.in-Some.found in
    stop_before (in_scope c.args.scopes.now) c.args.choice.now _ c.loop-found.rest.now c.args.text.now c.loop-found.invariant.0 found.before.now found.name.now found.after.now c.in-Some.ensures.first long

pub returns-then-not-branch-2-clause-long : goal.returns-then-not-branch-2-clause-long
returns-then-not-branch-2-clause-long c _ none =
    let middle = where_true _ _ c.in_ok-add.field-0 c.if-not-branch.false c.in_ok-add.ensures.added in
    let long = where_false _ _ c.in_ok-add-2.field-0 c.if-not-branch-2.true c.in_ok-add-2.ensures.added in
    let found = c.in-Some.found in
    stop_part (in_scope c.args.scopes.now) c.args.choice.now _ c.loop-found.rest.now c.args.text.now c.loop-found.invariant.0 found.before.now found.name.now found.after.now c.in-Some.ensures.first _ c.in-Some-scalar.part.now middle (ap (λ o. unwrap_or o []) c.in-Some-scalar.ensures) long

pub loop-found-preserved : goal.loop-found-preserved
loop-found-preserved c =
    let middle = where_true _ _ c.in_ok-add.field-0 c.if-not-branch.false c.in_ok-add.ensures.added in
    let new = where_true _ _ c.in_ok-add-2.field-0 c.if-not-branch-2.false c.in_ok-add-2.ensures.added in
    let found = c.in-Some.found in (
      write_more (in_scope c.args.scopes.now) c.args.choice.now _ c.loop-found.rest.now c.args.text.now c.loop-found.invariant.0 found.before.now found.name.now found.after.now c.in-Some.ensures.first _ c.in-Some-scalar.part.now middle (ap (λ o. unwrap_or o []) c.in-Some-scalar.ensures) _ new,
      (sym (unresolved_later (in_scope c.args.scopes.now) c.args.choice.now c.loop-found.rest.now found.before.now found.name.now found.after.now c.in-Some.ensures.first (ap is_none (sym c.in-Some-scalar.ensures))) ∙ c.loop-found.invariant.1.0, (c.in_ok-add-2.ensures.within, search rules)),
    )

pub returns-then-not-branch-3-clause-long : goal.returns-then-not-branch-3-clause-long
returns-then-not-branch-3-clause-long c _ none =
    let long = where_false _ _ c.in_ok-add-3.field-0 c.if-not-branch-3.true c.in_ok-add-3.ensures.added in
    stop_last (in_scope c.args.scopes.now) c.args.choice.now _ c.loop-found.rest.now c.args.text.now c.loop-found.invariant.0 c.in_default.ensures.first long

pub returns-clause-done : goal.returns-clause-done
unfolding expanded
returns-clause-done c =
    let new = where_true _ _ c.in_ok-add-3.field-0 c.if-not-branch-3.false c.in_ok-add-3.ensures.added in
    let short : length (string_bytes c.add-2.new.whole) ≤ 65536 = omega (arith, c.in_ok-add-3.ensures.within, c.add-2.new.whole.bytes.ok.0) in
    let none = sym c.loop-found.invariant.1.0 ∙ unresolved_none (in_scope c.args.scopes.now) c.args.choice.now c.loop-found.rest.now c.in_default.ensures.first in
    ap (λ o. told_of o (filled (in_scope c.args.scopes.now) c.args.choice.now c.args.text.now)) none
    ∙ ap done_or_too_long (write_last (in_scope c.args.scopes.now) c.args.choice.now _ c.loop-found.rest.now c.args.text.now c.loop-found.invariant.0 c.in_default.ensures.first _ new short)
