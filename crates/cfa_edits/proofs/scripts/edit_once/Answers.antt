use Rattle.std.proofs.Common.{rules}
use Rattle.cfa_edits.specs.Steps.{HasLacking, AreAmong, blocks_of}
use Rattle.cfa_edits.proofs.scripts.edit_once.Goals as goal

pub returns-in_err-edit_fields-in-Field-clause-refused : goal.returns-in_err-edit_fields-in-Field-clause-refused
returns-in_err-edit_fields-in-Field-clause-refused c =
    let refused = c.in_err-edit_fields-in-Field.ensures.refused in
    rw c.in-Field.is (search (rules, refused))

pub returns-in-Field-clause-ok : goal.returns-in-Field-clause-ok
returns-in-Field-clause-ok c = rw c.in-Field.is c.in_ok-edit_fields-in-Field.ensures.ok

pub returns-in_err-insert-in-Insert-clause-refused : goal.returns-in_err-insert-in-Insert-clause-refused
returns-in_err-insert-in-Insert-clause-refused c =
    let all = blocks_of c.args.edits.now in
    let within : AreAmong c.in-Insert.block all = rw c.in-Insert.is at c.requires.block in
    let has : HasLacking c.in_ok-lines-in-Insert.lines all c.wanted_lines.new.deck.lines = rw c.wanted_lines.ensures.deck c.in_ok-lines-in-Insert.ensures.ok in
    let refused = rw c.wanted_lines.ensures.deck at (c.in_err-insert-in-Insert.ensures.refused all within has) in
    rw c.in-Insert.is (search (rules, refused))

pub returns-in-Insert-clause-ok : goal.returns-in-Insert-clause-ok
returns-in-Insert-clause-ok c =
    let all = blocks_of c.args.edits.now in
    let within : AreAmong c.in-Insert.block all = rw c.in-Insert.is at c.requires.block in
    let has : HasLacking c.in_ok-lines-in-Insert.lines all c.wanted_lines.new.deck.lines = rw c.wanted_lines.ensures.deck c.in_ok-lines-in-Insert.ensures.ok in
    rw c.in-Insert.is (rw c.wanted_lines.ensures.deck at (c.in_ok-insert-in-Insert.ensures.ok all within has))

pub returns-in-Insert-clause-wanted : goal.returns-in-Insert-clause-wanted
returns-in-Insert-clause-wanted c =
    let all = blocks_of c.args.edits.now in
    let within : AreAmong c.in-Insert.block all = rw c.in-Insert.is at c.requires.block in
    let has : HasLacking c.in_ok-lines-in-Insert.lines all c.wanted_lines.new.deck.lines = rw c.wanted_lines.ensures.deck c.in_ok-lines-in-Insert.ensures.ok in
    c.in_ok-insert-in-Insert.ensures.wanted all within has
