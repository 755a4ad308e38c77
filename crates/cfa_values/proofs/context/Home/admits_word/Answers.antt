use Rattle.std.proofs.Common.{◌∙◌, ap, sym}
use Rattle.std.specs.Prelude.{is_some}
use Rattle.cfa_values.specs.Scope.{admits_word}
use Rattle.cfa_values.specs.Seen.{seen_home}
use Rattle.cfa_values.proofs.LookupLemmas.{has_place}
use Rattle.cfa_values.proofs.context.Home.admits_word.Goals as goal

pub returns-in-Body : goal.returns-in-Body
returns-in-Body c =
    c.is_some.ensures ∙ ap is_some c.find.ensures ∙ has_place c.args.word.now c.in-Body.params.now
    ∙ sym (ap (λ home. admits_word (seen_home home) c.args.word.now) c.in-Body.is)
