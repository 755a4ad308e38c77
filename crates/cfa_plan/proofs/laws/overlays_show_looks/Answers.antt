use Rattle.cfa_plan.proofs.OverlayLooks.{children_made, children_through, look_made_dir, look_made_file, look_missing, look_through_blocked, look_through_counted, look_through_dir, look_through_file, look_through_nothing}
use Rattle.cfa_plan.proofs.laws.overlays_show_looks.Goals as goal

pub returns : goal.returns
returns c = λ kept nodes sound. record {
  made_file = look_made_file kept nodes;
  made_dir = look_made_dir kept nodes sound;
  missing = look_missing kept nodes sound;
  nothing_through = λ p still. look_through_nothing kept nodes sound p still.here still.above_it;
  blocked_through = λ p still. look_through_blocked kept nodes sound p still.here still.above_it;
  file_through = λ p still. look_through_file kept nodes sound p still.here still.above_it;
  dir_through = λ p still. look_through_dir kept nodes sound p still.here still.above_it;
  dir_counted = λ p still. look_through_counted kept nodes sound p still.here still.above_it;
  children_made = children_made kept nodes sound;
  children_through = children_through kept nodes sound;
}
