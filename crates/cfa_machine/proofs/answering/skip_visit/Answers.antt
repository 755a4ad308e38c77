use Rattle.std.proofs.Common.{◌≡◌, ◌∙◌, List, Some, ap, slice_get, subst}
use Rattle.cfa_resolve.specs.declared.instances.Instance.{Instance}
use Rattle.cfa_machine.specs.Machines.{Row, row_in}
use Rattle.cfa_machine.proofs.AnswerLemmas.{got_is, ok_then, path_at, skip_stands}
use Rattle.cfa_machine.proofs.answering.skip_visit.Goals as goal

pub returns-in-Some-clause-stands : goal.returns-in-Some-clause-stands
returns-in-Some-clause-stands c =
    let f = c.args.frame.now in
    let row = row_in f.rows.items f.hand in
    let instance = c.in-Some.instance.now in
    let same : c.row_in.result.now ≡ row = c.row_in.ensures ∙ ap (λ (rows : List Row). row_in rows f.hand) c.as_slice.ensures.value in
    let found : slice_get row c.in-Asked.at ≡ Some instance =
    subst (λ (xs : List Instance). slice_get xs c.in-Asked.at ≡ Some instance) same
    (got_is c.row_in.result.now c.in-Asked.at (Some c.in-Some.instance) c.in-Some.ensures.lookup) in
    ok_then c.list_visit.result c.list_visit.ensures.keeps
    (λ lists s h stands. skip_stands s h c.args.state.now c.list_visit.new.state f.activation row c.in-Asked.at c.in-Asked.status instance found
    (path_at row f.activation.path c.in-Asked.at instance c.requires.at found) lists stands f.doing c.in-Asked.is)
