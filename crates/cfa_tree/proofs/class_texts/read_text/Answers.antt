use Rattle.std.proofs.Common.{◌≡◌, ◌<◌, ℕ, List, length, refl, sym, ap, subst, ◌∙◌, arith, slice_index, Err}
use Rattle.std.proofs.lemmas.Bool.{eqb-false}
use Rattle.std.proofs.lemmas.Result.{err_from_is_err_and}
use Rattle.cfa_tree.specs.declared.class_texts.ExprErr.TheVariants.{BadExpression}
use Rattle.cfa_tree.specs.ClassFronts.{is_blank, IsFront}
use Rattle.cfa_tree.specs.SeenGuards.{seen_guard}
use Rattle.cfa_tree.proofs.ClassTextSteps.{read_none, blank_boundary, front_boundary, read_token, read_refused}
use Rattle.cfa_tree.proofs.class_texts.read_text.Goals as goal

pub loop-rest-init : goal.loop-rest-init
loop-rest-init c = read_none c.args.text.now c.args.text.now _ refl c.guard_start-guard.ensures c.utf8.text

pub split_at-requires : goal.split_at-requires
split_at-requires c =
    let rest = c.loop-rest.rest.now in
    let some : 0 < length rest = omega (arith, eqb-false (length rest) 0 (sym c.loop-rest-test.ensures)) in
    blank_boundary rest c.loop-rest.invariant.utf8 some (sym (ap (λ (x : List ℕ). is_blank (slice_index x 0)) c.as_bytes-bytes.ensures.value) ∙ (sym c.is_blank.ensures ∙ c.if-is_blank.true))

pub split_at-requires-in-loop-rest : goal.split_at-requires-in-loop-rest
split_at-requires-in-loop-rest c =
    front_boundary c.loop-rest.rest.now c.in-Some.kind c.in-Some.len (subst (λ (x : List ℕ). IsFront x c.in-Some.kind c.in-Some.len) c.as_bytes-bytes.ensures.value c.in-Some.ensures) c.loop-rest.invariant.utf8

pub returns-in_err-guard-clause-bad : goal.returns-in_err-guard-clause-bad
returns-in_err-guard-clause-bad c =
    let p = err_from_is_err_and c.from_residual.result c.from_residual.ensures.1 in
    let front = subst (λ (x : List ℕ). IsFront x c.in-Some.kind c.in-Some.len) c.as_bytes-bytes.ensures.value c.in-Some.ensures in
    rw (p.1, p.2) (λ is.
    let same : c.in_err-guard.field-0.0 ≡ BadExpression = cc in
    read_refused c.loop-rest.rest.now c.in-Some.kind c.in-Some.len c.loop-rest.invariant front
    c.split_at-in-loop-rest.result.0.now c.split_at-in-loop-rest.ensures.front (c.in_err-guard.ensures.bad (ap Err same)))

pub loop-rest-preserved : goal.loop-rest-preserved
loop-rest-preserved c =
    let front = subst (λ (x : List ℕ). IsFront x c.in-Some.kind c.in-Some.len) c.as_bytes-bytes.ensures.value c.in-Some.ensures in
    read_token c.loop-rest.rest.now c.in-Some.kind c.in-Some.len c.loop-rest.invariant front c.split_at-in-loop-rest.result.0.now c.split_at-in-loop-rest.ensures.front
    (seen_guard c.in_ok-guard.guard) c.split_at-in-loop-rest.result.1.now c.split_at-in-loop-rest.ensures.back c.in_ok-guard.ensures.ok
