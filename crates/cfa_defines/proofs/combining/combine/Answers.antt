use Rattle.std.proofs.Common.{◌∙◌, ap, sym}
use Rattle.std.specs.List.{list_any}
use Rattle.cfa_vars.specs.Scopes.{in_scope}
use Rattle.cfa_defines.specs.declared.combining.Combined.TheVariants.{Found as found}
use Rattle.cfa_defines.specs.OfTheCode.{needs_choice}
use Rattle.cfa_defines.proofs.PlainLemmas.{one_combination}
use Rattle.cfa_defines.proofs.combining.combine.Goals as goal

pub returns : goal.returns
returns c =
    let scopes = in_scope c.args.scopes.now in
    let none = sym (sym c.if-needs_choices.false ∙ c.needs_choices.ensures ∙ ap (list_any (needs_choice scopes)) c.deref.ensures.value) in
    ap found c.in_ok-one_choice.ensures ∙ one_combination scopes c.args.reads.items none
