use Rattle.std.proofs.Common.{◌≡◌, ◌+◌, ◌-◌, take, drop, Some, ap, sym, ◌∙◌, arith}
use Rattle.cfa_vars.proofs.ReferenceLemmas.{cuts}
use Rattle.cfa_vars.proofs.references.cut.Goals as goal

pub range-requires-clause-end_boundary : goal.range-requires-clause-end_boundary
range-requires-clause-end_boundary c = (cuts c.args.text.now c.args.place c.args.size c.utf8.text c.requires).at_dollar

pub overflow_add-place-3 : goal.overflow_add-place-3
overflow_add-place-3 c =
    let fits = (cuts c.args.text.now c.args.place c.args.size c.utf8.text c.requires).fits in
    omega arith

pub range-requires-2-clause-start_boundary : goal.range-requires-2-clause-start_boundary
range-requires-2-clause-start_boundary c = λ _. (cuts c.args.text.now c.args.place c.args.size c.utf8.text c.requires).at_name

pub range-requires-2-clause-end_boundary : goal.range-requires-2-clause-end_boundary
range-requires-2-clause-end_boundary c = (cuts c.args.text.now c.args.place c.args.size c.utf8.text c.requires).behind_name

pub range_from-requires : goal.range_from-requires
range_from-requires c = λ _. (cuts c.args.text.now c.args.place c.args.size c.utf8.text c.requires).behind

pub returns-clause-name : goal.returns-clause-name
returns-clause-name c =
    let size_is : c.args.size ≡ c.args.place + 2 + c.args.size - (c.args.place + 2) = omega arith in
    (cuts c.args.text.now c.args.place c.args.size c.utf8.text c.requires).named ∙ ap (λ n. Some (take n (drop (c.args.place + 2) c.args.text.now))) size_is ∙ ap (λ t. Some t) (sym c.range-2.ensures.value)
