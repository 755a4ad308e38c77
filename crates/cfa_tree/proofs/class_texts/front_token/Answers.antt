use Rattle.std.proofs.Common.{sym, ◌∙◌}
use Rattle.cfa_tree.proofs.ClassFrontLemmas.{ends_none, line_ends, on_one_line}
use Rattle.cfa_tree.proofs.class_texts.front_token.Goals as goal

pub returns-in_default : goal.returns-in_default
returns-in_default c = ends_none c.args.bytes.now c.requires.some c.requires.begun c.in_default.ensures

pub returns-then-stay_on_line : goal.returns-then-stay_on_line
returns-then-stay_on_line c = on_one_line c.args.bytes.now c.in-Some.kind c.in-Some.len c.in-Some.ensures (sym c.stay_on_line.ensures ∙ c.if-stay_on_line.true)

pub returns-else-stay_on_line : goal.returns-else-stay_on_line
returns-else-stay_on_line c = line_ends c.args.bytes.now c.in-Some.len (sym c.stay_on_line.ensures ∙ c.if-stay_on_line.false)
