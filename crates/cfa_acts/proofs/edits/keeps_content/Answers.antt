use Rattle.std.proofs.Common.{◌≡◌, true, false, sym, ap, ◌∙◌}
use Rattle.cfa_lines.specs.Decks.{lines_of, text_of}
use Rattle.cfa_acts.specs.Settling.{leaves}
use Rattle.cfa_acts.proofs.Settled.{unkept_bytes, unkept_lines, kept_lines}
use Rattle.cfa_acts.proofs.edits.keeps_content.Goals as goal

pub returns-in_default : goal.returns-in_default
returns-in_default c = unkept_bytes c.args.script.now c.args.content.now c.in_default.ensures.cases.0

pub returns-then-not-branch : goal.returns-then-not-branch
returns-then-not-branch c =
    let changed : leaves c.args.script.now c.args.content.now ≡ false =
    ap (leaves c.args.script.now) (sym c.in-Ok.ensures.cases.0) ∙ sym c.in_ok-leaves.ensures ∙ c.if-not-branch.true in
    unkept_lines c.args.script.now c.args.content.now changed

pub returns : goal.returns
returns c =
    let left : leaves c.args.script.now c.args.content.now ≡ true =
    ap (leaves c.args.script.now) (sym c.in-Ok.ensures.cases.0) ∙ sym c.in_ok-leaves.ensures ∙ c.if-not-branch.false in
    kept_lines c.args.script.now c.args.content.now c.as_str.result.now left
    (c.as_str.ensures ∙ c.in_ok-text.ensures ∙ ap (λ t. text_of (lines_of t)) c.in-Ok.ensures.cases.0)
