use Rattle.std.proofs.Common.{sym, cond, ap, ◌∙◌, Bool}
use Rattle.cfa_acts.specs.declared.acts.Decision.TheVariants.{Kept}
use Rattle.cfa_acts.specs.Acts.{puts_file}
use Rattle.cfa_acts.proofs.Seen.{weaker}
use Rattle.cfa_acts.proofs.files.put_missing.Goals as goal

pub returns-then-branch-clause-seen : goal.returns-then-branch-clause-seen
returns-then-branch-clause-seen g c =
    weaker _ _ _ _ (λ w e. ap (λ (b : Bool). cond b Kept (puts_file c.args.path.now c.args.bytes.now c.args.look)) (sym c.if-branch.true ∙ e)) c.in_ok-holds_bytes.ensures

pub returns-in_ok-put_file-clause-seen : goal.returns-in_ok-put_file-clause-seen
returns-in_ok-put_file-clause-seen g c =
    weaker _ _ _ _ (λ w e.
    c.in_ok-put_file.ensures.exact
    ∙ ap (λ (b : Bool). cond b Kept (puts_file c.args.path.now c.args.bytes.now c.args.look)) (sym c.if-branch.false ∙ e)) c.in_ok-holds_bytes.ensures
