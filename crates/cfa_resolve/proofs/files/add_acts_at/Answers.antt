use Rattle.std.proofs.Common.{◌∙◌, [], Option, ap}
use Rattle.std.specs.List.{cons_option}
use Rattle.cfa_bodies.specs.Bodies.{Sayings}
use Rattle.cfa_resolve.specs.FileActs.{placing_acts, edit_acts, perms_acts}
use Rattle.cfa_resolve.proofs.FileLemmas.{three_parts}
use Rattle.cfa_resolve.proofs.files.add_acts_at.Goals as goal

pub returns-clause-value : goal.returns-clause-value
returns-clause-value c =
    let path = c.args.path.now in
    three_parts c.add_placing_acts.new.acts.items c.add_act.new.acts.items c.add_act-2.new.acts.items
    (placing_acts path c.args.is_directory c.args.create.now c.args.content.now c.args.bodies.now) (cons_option c.in_ok-edit_act.field-0 []) _ (cons_option c.in_ok-perms_act.field-0 []) _
    c.in_ok-add_placing_acts.ensures.value c.in_ok-add_act.ensures.value (c.in_ok-edit_act.ensures.value ∙ ap (λ (d : Option Sayings). edit_acts path c.args.is_directory d c.args.scripted) c.get-defaults.ensures)
    c.in_ok-add_act-2.ensures.value (c.in_ok-perms_act.ensures.value ∙ ap (λ (d : Option Sayings). perms_acts path d) c.get.ensures)
