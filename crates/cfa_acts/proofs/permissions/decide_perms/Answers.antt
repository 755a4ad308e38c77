use Rattle.std.proofs.Common.{sym, ap, ◌∙◌}
use Rattle.cfa_acts.specs.Seeing.{stands}
use Rattle.cfa_acts.proofs.Seen.{weaker, both, at_end}
use Rattle.cfa_acts.proofs.Decisions.{stands_there, perms_missing, perms_decided}
use Rattle.cfa_acts.proofs.permissions.decide_perms.Goals as goal

pub returns-then-not-stands-clause-seen : goal.returns-then-not-stands-clause-seen
returns-then-not-stands-clause-seen g c =
    weaker _ _ _ _ (λ w e.
    perms_missing c.args.path.now c.args.mode c.args.owners.now c.args.groups.now w
    (sym (stands_there c.args.path.now w) ∙ ap stands (sym e) ∙ sym c.stands.ensures ∙ c.if-not-stands.true)) c.in_ok-look.ensures

pub see_perms-requires : goal.see_perms-requires
see_perms-requires g c =
    at_end _ _ _ _ (λ w e.
    sym (stands_there c.args.path.now w) ∙ ap stands (sym e) ∙ sym c.stands.ensures ∙ c.if-not-stands.false) c.in_ok-look.ensures

pub returns-clause-seen : goal.returns-clause-seen
returns-clause-seen g c =
    weaker _ _ _ _ (λ w e.
    c.in_ok-set_perms.ensures.exact
    ∙ perms_decided c.args.path.now c.args.mode c.args.owners.now c.args.groups.now _ w e.1)
    (both _ _ _ _ _ c.in_ok-look.ensures c.in_ok-present.ensures)
