use Rattle.std.proofs.Common.{◌≡◌, ◌∙◌, ◌∷◌, Option, ap, refl, sym, subst}
use Rattle.std.specs.Prelude.{option_copied}
use Rattle.cfa_outcomes.specs.Environments.{EnvironmentMaps}
use Rattle.cfa_states.specs.History.{Listed}
use Rattle.cfa_states.specs.Logs.{Rows}
use Rattle.cfa_states.specs.Kept.{KeepsLog}
use Rattle.cfa_states.specs.Waits.{is_first, is_unvisited}
use Rattle.cfa_states.proofs.KeptLemmas.{keeps_listed}
use Rattle.cfa_states.specs.lemmas.Later.{later_by}
use Rattle.cfa_states.proofs.WaitLemmas.{waits_listed, log_listed}
use Rattle.cfa_states.proofs.states.State.list.Goals as goal

pub returns-clause-keeps : goal.returns-clause-keeps
returns-clause-keeps c =
    let marked = c.in_ok-mark.ensures in
    let st = c.args.self.now in
    let instance = c.args.instance.now in
    λ s h waits keeps.
    let first : c.is_unvisited-is_first.result ≡ is_first h instance =
    c.is_unvisited-is_first.ensures ∙ ap is_unvisited (c.requires ∙ keeps.1.1.0 instance.path instance.text) in
    keeps_listed s st c.mark.new.self h keeps instance c.args.status c.keep_wait.new.calls c.log_visit.new.log
    instance.path c.in_ok-text.text refl c.in_ok-text.ensures marked.mark marked.others marked.classes marked.sources
    (waits_listed s h instance c.args.status st.calls c.keep_wait.new.calls c.is_unvisited-is_first.result (option_copied c.args.waits) first waits keeps.1.1.1.1.1.0 c.in_ok-keep_wait.ensures)
    (subst (λ (x : Option Rows). KeepsLog s x (Listed instance c.args.status ∷ h)) (sym c.in_ok-log_visit.ensures)
    (log_listed s h instance c.args.status st.log c.is_unvisited-is_first.result (option_copied c.args.waits) first waits keeps.1.1.1.1.1.1))

pub returns-clause-later : goal.returns-clause-later
returns-clause-later c = later_by c.args.self.now _ refl (ap (λ (e : EnvironmentMaps). e.statuses) c.in_ok-mark.ensures.ok) refl
