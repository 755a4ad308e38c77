use Rattle.std.proofs.Common.{◌≡◌, ◌∙◌, List, Some, ap, slice_get, subst}
use Rattle.cfa_resolve.specs.declared.instances.Instance.{Instance}
use Rattle.cfa_machine.specs.Machines.{Row, row_in}
use Rattle.cfa_machine.proofs.AnswerLemmas.{end_stands, got_is, ok_then, path_at}
use Rattle.cfa_machine.proofs.answering.end_running.Goals as goal

pub returns-in-Some-clause-stands : goal.returns-in-Some-clause-stands
returns-in-Some-clause-stands c =
    let f = c.args.frame.now in
    let row = row_in f.rows.items f.hand in
    let instance = c.in-Some.instance.now in
    let same : c.row_in.result.now ≡ row = c.row_in.ensures ∙ ap (λ (rows : List Row). row_in rows f.hand) c.as_slice.ensures.value in
    let found : slice_get row c.in-Running.at ≡ Some instance =
    subst (λ (xs : List Instance). slice_get xs c.in-Running.at ≡ Some instance) same
    (got_is c.row_in.result.now c.in-Running.at (Some c.in-Some.instance) c.in-Some.ensures.lookup) in
    ok_then c.end_visit.result c.end_visit.ensures.keeps
    (λ raises s h stands. end_stands s h c.args.state.now c.end_visit.new.state f.activation c.end_visit.new.activation row c.in-Running.at c.in-Running.status c.in-Running.field-2
    instance c.args.ending f.doing c.in-Running.is found (path_at row f.activation.path c.in-Running.at instance c.requires.at found) c.end_visit.ensures.notes raises stands)
