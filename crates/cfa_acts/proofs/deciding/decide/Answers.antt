use Rattle.std.proofs.Common.{◌≡◌, sym}
use Rattle.cfa_base.specs.Shown.{Shown}
use Rattle.cfa_outside.specs.declared.worlds.World.{World}
use Rattle.cfa_outside.specs.Sites.{Told}
use Rattle.cfa_acts.specs.declared.acts.Act.{Act}
use Rattle.cfa_acts.specs.declared.acts.Reason.TheVariants as reason
use Rattle.cfa_acts.specs.declared.acts.Decision.{Decision}
use Rattle.cfa_acts.specs.declared.acts.Decision.TheVariants.{Kept, Needs, Fail, Fault}
use Rattle.cfa_acts.specs.Acts.{decision, NeedFits}
use Rattle.cfa_acts.specs.Decided.{IsFound, Answers}
use Rattle.cfa_acts.specs.Seeing.{IsSeen, IsWhole}
use Rattle.cfa_acts.proofs.Needs.{needed_fits}
use Rattle.cfa_acts.proofs.Seen.{of_weaker}
use Rattle.cfa_acts.proofs.deciding.decide.Goals as goal

-- a decision that isn't a fault
module _ (act : Act) (before after : Shown Told) where
  found : (d : Decision) → ((w : World) → d ≡ decision act w → NeedFits d w) → IsSeen (λ w. d ≡ decision act w) before after → IsFound act d before after
  found d fit seen = record {
    exact = seen.holds;
    fits = of_weaker (λ w. d ≡ decision act w) (λ w. NeedFits d w) before fit seen.holds;
    shown = seen.shown;
  }

  answered : (d : Decision) → IsWhole d → IsSeen (λ w. d ≡ decision act w) before after → Answers act d before after
  answered Kept whole seen = found Kept (λ w e. tt) seen
  answered (Needs change) whole seen = found (Needs change) (λ w e. needed_fits act w change (sym e)) seen
  answered (Fail reason.Fault) whole seen = whole
  answered (Fail reason.BadPath) whole seen = found (Fail reason.BadPath) (λ w e. tt) seen
  answered (Fail reason.Missing) whole seen = found (Fail reason.Missing) (λ w e. tt) seen
  answered (Fail reason.Obstructed) whole seen = found (Fail reason.Obstructed) (λ w e. tt) seen
  answered (Fail reason.NotText) whole seen = found (Fail reason.NotText) (λ w e. tt) seen
  answered (Fail reason.NonConvergent) whole seen = found (Fail reason.NonConvergent) (λ w e. tt) seen
  answered (Fail reason.NoAnchor) whole seen = found (Fail reason.NoAnchor) (λ w e. tt) seen
  answered (Fail reason.FieldCount) whole seen = found (Fail reason.FieldCount) (λ w e. tt) seen
  answered (Fail reason.UnknownService) whole seen = found (Fail reason.UnknownService) (λ w e. tt) seen
  answered (Fail reason.BadPattern) whole seen = found (Fail reason.BadPattern) (λ w e. tt) seen
  answered (Fail reason.BadValue) whole seen = found (Fail reason.BadValue) (λ w e. tt) seen
  answered (Fail reason.TooLong) whole seen = found (Fail reason.TooLong) (λ w e. tt) seen
  answered (Fail reason.TooMany) whole seen = found (Fail reason.TooMany) (λ w e. tt) seen
  answered (Fault call) whole seen = absurd whole

pub returns-in-Ok : goal.returns-in-Ok
returns-in-Ok g c = answered c.args.act.now _ _ _ c.in-Ok.ensures.whole c.in-Ok.ensures.seen
