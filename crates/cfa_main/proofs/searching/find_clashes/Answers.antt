use Rattle.std.proofs.Common.{◌∙◌, Bor, Global, List, Option, Vec, ap, refl, sym}
use Rattle.std.specs.Prelude.{option_map}
use Rattle.cfa_edits.specs.declared.edits.Edit.{Edit}
use Rattle.cfa_edits.specs.declared.scripts.Script.{Script}
use Rattle.cfa_main.specs.declared.searching.Found.{Found}
use Rattle.cfa_main.proofs.SearchLemmas.{turn_found, turn_passed}
use Rattle.cfa_main.proofs.searching.find_clashes.Goals as goal
use Rattle.cfa_main.proofs.searching.find_clashes.Goals.{in-Some+in_ok-clash+in_ok-push, in_default}

abbrev script_in : Option (Bor Script) → Option (List Edit)
script_in found = option_map (λ script. script.now) found

abbrev items_of : Vec Found Global → List Found
items_of found = found.items

pub loop-instance-preserved : goal.loop-instance-preserved
loop-instance-preserved c = elim c.match-script_of.branch [
  | in-Some+in_ok-clash+in_ok-push w ↦ turn_found c.args.instances.now c.loop-instance.instance-index c.instance-item.result c.loop-instance.found.items c.match-script_of.found.items _ w.in-Some.script.now
      c.loop-instance-test.true c.instance-item.is c.loop-instance.invariant (ap items_of w.found-is ∙ w.in_ok-push.ensures.items) refl (ap script_in (sym w.in-Some.is) ∙ c.script_of.ensures) w.in_ok-clash.ensures
  | in_default w ↦ turn_passed c.args.instances.now c.loop-instance.instance-index c.instance-item.result c.loop-instance.found.items c.match-script_of.found.items
      c.loop-instance-test.true c.instance-item.is c.loop-instance.invariant (ap items_of w.found-is) (ap script_in (sym w.in_default.is) ∙ c.script_of.ensures)
]
