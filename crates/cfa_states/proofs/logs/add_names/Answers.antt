use Rattle.std.proofs.Common.{◌≡◌, true, is_none}
use Rattle.cfa_base.specs.Index.{pair_place_of}
use Rattle.cfa_states.specs.Names.{name_of}
use Rattle.cfa_states.proofs.FirstPlaces.{new_is_first}
use Rattle.cfa_states.proofs.logs.add_names.Goals as goal

pub returns-then-branch-clause-first : goal.returns-then-branch-clause-first
returns-then-branch-clause-first c =
    let none : is_none (pair_place_of c.args.names.now (name_of c.args.instance.now)) ≡ true = cc (c.in_ok-add.ensures.answer, c.if-branch.true, c.as_str-path.ensures, c.as_str-text.ensures) in
    new_is_first c.args.names.now (name_of c.args.instance.now) c.args.place c.requires none
