use Rattle.std.proofs.Common.{◌∙◌, ap, sym, subst, map, Option}
use Rattle.cfa_tree.specs.Plain.{plain_policy}
use Rattle.cfa_values.specs.declared.refusals.Refusal.{Refusal}
use Rattle.cfa_calls.specs.Cycles.{seen_call, seen_calls}
use Rattle.cfa_schema.specs.Collected.{NotesCycle, no_cycle, first_cycle}
use Rattle.cfa_schema.specs.Valid.{calls_of}
use Rattle.cfa_schema.proofs.VerdictLemmas.{first_on, none_on}
use Rattle.cfa_schema.proofs.verdicts.note_cycle.Goals.{in-Some, in-None}
use Rattle.cfa_schema.proofs.verdicts.note_cycle.Goals as goal

pub returns : goal.returns
returns c =
    let calls = calls_of (plain_policy c.args.policy.now) in
    let found = seen_calls c.deref.result.now in
    let same = ap (map seen_call) c.deref.ensures.value ∙ c.in_ok-calls.ensures in
    let first = c.args.first.now in
    elim c.match-branch-3.branch [
      | in-Some w ↦ subst (λ (o : Option Refusal). NotesCycle calls first o) (sym (w.first-is ∙ w.note_if.ensures))
          (first_cycle w.in-Some.place (first_on calls found c.in_ok-place.field-0 w.in-Some.place c.in_ok-place.ensures.some w.in-Some.is same))
      | in-None w ↦ subst (λ (o : Option Refusal). NotesCycle calls first o) (sym w.first-is)
          (no_cycle (none_on calls found c.in_ok-place.field-0 c.in_ok-place.ensures.none w.in-None.is same))
    ]
