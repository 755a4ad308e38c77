use Rattle.std.proofs.Common.{◌≡◌, Some, None, ap, ◌∙◌}
use Rattle.cfa_outside.specs.Sites.{look_of}
use Rattle.cfa_acts.specs.Seeing.{edit_refusal, edit_decision}
use Rattle.cfa_acts.proofs.Seen.{weaker, both, at_end}
use Rattle.cfa_acts.proofs.Decisions.{edit_refused, edit_readable, edit_decided}
use Rattle.cfa_acts.proofs.edits.decide_edit.Goals as goal

pub returns-in-Some-clause-seen : goal.returns-in-Some-clause-seen
returns-in-Some-clause-seen g c =
    weaker _ _ _ _ (λ w e.
    let look : c.in_ok-look.look ≡ look_of w c.args.path.now = e in
    let refused : edit_refusal (look_of w c.args.path.now) ≡ Some c.in-Some.reason = cc in
    edit_refused c.args.path.now c.args.script.now c.in-Some.reason w refused) c.in_ok-look.ensures

pub see_bytes-requires : goal.see_bytes-requires
see_bytes-requires g c =
    at_end _ _ _ (g.S.Site.shown c.see_look.new.site) (λ w e.
    let look : c.in_ok-look.look ≡ look_of w c.args.path.now = e in
    let free : edit_refusal (look_of w c.args.path.now) ≡ None = cc in
    edit_readable c.args.path.now w free) c.in_ok-look.ensures

pub returns-clause-seen : goal.returns-clause-seen
returns-clause-seen g c =
    weaker _ _ _ _ (λ w e.
    let look : c.in_ok-look.look ≡ look_of w c.args.path.now = e.0 in
    let free : edit_refusal (look_of w c.args.path.now) ≡ None = cc in
    c.in_ok-edit_bytes.ensures.exact
    ∙ ap (edit_decision c.args.path.now c.args.script.now) c.as_slice.ensures
    ∙ edit_decided c.args.path.now c.args.script.now c.in_ok-bytes.bytes w e.1 (edit_readable c.args.path.now w free))
    (both _ _ _ _ _ c.in_ok-look.ensures c.in_ok-bytes.ensures)
