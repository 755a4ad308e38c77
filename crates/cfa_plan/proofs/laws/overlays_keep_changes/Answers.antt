use Rattle.cfa_plan.proofs.OverlayChanges as changes
use Rattle.cfa_plan.proofs.laws.overlays_keep_changes.Goals as goal

pub returns : goal.returns
returns c = λ kept nodes sound. record {
  add = changes.add kept nodes sound;
  replace = changes.replace kept nodes sound;
  give_made = changes.give_made kept nodes sound;
  give_through = changes.give_through kept nodes sound;
  take_added = changes.take_added kept nodes sound;
  take_made = changes.take_made kept nodes sound;
  take_through = changes.take_through kept nodes sound;
}
