use Rattle.std.proofs.Common.{◌≡◌, ◌∙◌, Some, ap, sym}
use Rattle.cfa_kinds.specs.Kinds.{bundle_type}
use Rattle.cfa_kinds.specs.declared.kinds.BundleType.TheVariants.{Agent}
use Rattle.cfa_schema.specs.Seen.{tree_of}
use Rattle.cfa_served.specs.Served.{bundle_of}
use Rattle.cfa_tree.specs.Tree.{PolicyTree}
use Rattle.cfa_visits.specs.Bundles.{seen_bundle}
use Rattle.cfa_machine.proofs.AnswerLemmas.{ok_each}
use Rattle.cfa_machine.proofs.BeginLemmas.{named_begins}
use Rattle.cfa_machine.proofs.beginning.named_top.Goals as goal

pub returns-in-Some-Agent-clause-begins : goal.returns-in-Some-Agent-clause-begins
returns-in-Some-Agent-clause-begins c =
    let name = c.args.name.now in
    let b = c.in-Some.bundle.now in
    let kind : bundle_type b.kind.name ≡ Some Agent =
    ap bundle_type (sym c.as_str-in-Some.ensures) ∙ (sym c.bundle_type.ensures ∙ (c.in-Some-Agent.is ∙ ap Some c.in-Some-Agent.field-0-is)) in
    ok_each c.agent_top.result c.agent_top.ensures.begins (λ top begins s h policy deep shared keeps.
    let found : bundle_of s.policy name ≡ Some (seen_bundle b) =
    ap (λ (p : PolicyTree). bundle_of p name) policy ∙ (ap (bundle_of (tree_of c.args.checked.now)) (sym c.as_str.ensures) ∙ sym c.in-Some.ensures) in
    named_begins s h name b top c.agent_top.new.state found kind (begins s h deep found shared keeps))
