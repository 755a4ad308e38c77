use Rattle.std.proofs.Common.{◌≡◌, Some, None, sym, ap, ◌∙◌, rules}
use Rattle.std.specs.Prelude.{slice_get}
use Rattle.cfa_conflict.specs.declared.verdicts.Verdict.TheVariants as verdict
use Rattle.cfa_conflict.specs.Conflicts.{conflicts_from}
use Rattle.cfa_conflict.specs.Targets.{first_of}
use Rattle.cfa_conflict.proofs.VerdictLemmas.{verdict_unsettled, verdict_found, verdict_accepted}
use Rattle.cfa_conflict.proofs.judging.judge.Goals as goal

pub returns-in-Some : goal.returns-in-Some
returns-in-Some c =
    let first : slice_get c.args.«open».now.unsettled 0 ≡ Some c.in-Some.blame.now = search rules in
    ap verdict.Conflict c.in_ok-unsettled_conflict.ensures ∙ sym (verdict_unsettled c.args.kept.now c.args.«open».now c.in-Some.blame.now first)

pub returns-in-Some-2 : goal.returns-in-Some-2
returns-in-Some-2 c =
    let none : slice_get c.args.«open».now.unsettled 0 ≡ None = search rules in
    let found : first_of (conflicts_from c.args.kept.now c.args.«open».now c.args.«open».now.instances 0) ≡ Some c.in-Some-2.conflict = search rules in
    sym (verdict_found c.args.kept.now c.args.«open».now c.in-Some-2.conflict none found)

pub returns-in_ok-live_instances-in-None : goal.returns-in_ok-live_instances-in-None
returns-in_ok-live_instances-in-None c =
    let none : slice_get c.args.«open».now.unsettled 0 ≡ None = search rules in
    let nothing : first_of (conflicts_from c.args.kept.now c.args.«open».now c.args.«open».now.instances 0) ≡ None = search rules in
    ap verdict.Accepted c.in_ok-live_instances-in-None.ensures ∙ sym (verdict_accepted c.args.kept.now c.args.«open».now none nothing)
