use Rattle.std.proofs.Common.{◌≡◌, ◌+◌, ◌-◌, take, drop, Some, ap, sym, ◌∙◌, arith}
use Rattle.cfa_vars.proofs.ListReferenceLemmas.{of_size}
use Rattle.cfa_vars.proofs.references.list_reference.Goals as goal

pub overflow_add-size : goal.overflow_add-size
overflow_add-size c =
    let fits = (of_size c.args.text.now c.as_bytes.result.now c.in_ok-size.size c.utf8.text c.as_bytes.ensures.value c.in_ok-size.ensures).fits in
    omega arith

pub range-requires-clause-start_boundary : goal.range-requires-clause-start_boundary
range-requires-clause-start_boundary c =
    λ _. (of_size c.args.text.now c.as_bytes.result.now c.in_ok-size.size c.utf8.text c.as_bytes.ensures.value c.in_ok-size.ensures).at_name

pub range-requires-clause-end_boundary : goal.range-requires-clause-end_boundary
range-requires-clause-end_boundary c =
    (of_size c.args.text.now c.as_bytes.result.now c.in_ok-size.size c.utf8.text c.as_bytes.ensures.value c.in_ok-size.ensures).behind_name

pub returns : goal.returns
returns c =
    let cut = of_size c.args.text.now c.as_bytes.result.now c.in_ok-size.size c.utf8.text c.as_bytes.ensures.value c.in_ok-size.ensures in
    let size_is : c.in_ok-size.size ≡ 2 + c.in_ok-size.size - 2 = omega arith in
    sym (cut.named ∙ ap (λ n. Some (take n (drop 2 c.args.text.now))) size_is ∙ ap (λ t. Some t) (sym c.range.ensures.value))
