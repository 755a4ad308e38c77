-- What an instance does that didn't fail: its changes are made on its host, and what else it adds is no part of that.
use Rattle.std.proofs.Common.{◌≡◌, ◌∙◌, ℕ, Bool, List, [], ◌∷◌, ◌++◌, length, Option, Some, None, refl, sym, subst}
use Rattle.cfa_outside.specs.declared.worlds.World.{World}
use Rattle.cfa_outside.specs.declared.sites.Change.{Change}
use Rattle.cfa_outside.specs.Sites.{after}
use Rattle.cfa_acts.specs.declared.acts.Reason.{Reason}
use Rattle.cfa_journal.specs.declared.records.Record.TheVariants as records
use Rattle.cfa_locks.specs.Locks.{key_of}
use Rattle.cfa_outcomes.specs.declared.outcomes.Outcome.TheVariants.{Failed}
use Rattle.cfa_resolve.specs.declared.instances.Instance.{Instance}
use Rattle.cfa_states.specs.Tellers.{Actuated, actuated, after_all, acts_of, outcome_by}
use Rattle.cfa_agent.specs.Actuations.{Mark, mark_of, done_by, done_on, outcome_done, appended, changed, run_record, closing_record, entries_of}
use Rattle.cfa_agent.specs.Hosts.{SameHost}
use Rattle.cfa_agent.specs.lemmas.Hosts.{after_both, same_host, same_trans, same_recorded, same_run, same_changed}

by_failure : (changes : List Change) (failure : Option Reason) → (outcome_by changes failure ≡ Failed → ⊥) → failure ≡ None
by_failure changes None fine = refl
by_failure changes (Some reason) fine = absurd (fine refl)

unmarked : (planned : Actuated) (mark : Option Mark) → (outcome_done (done_by planned mark) ≡ Failed → ⊥) → (planned.failure ≡ None) × (done_by planned mark ≡ done_by planned None)
unmarked planned None fine = (by_failure planned.changes planned.failure fine, refl)
unmarked planned (Some mark) fine = absurd (fine refl)

entries_same : (moment number : ℕ) (i : Instance) (has : Bool) (changes : List Change) (failure : Option Reason) → failure ≡ None → (w : World) →
    SameHost (after (entries_of moment number i w (done_by (record { changes = changes; failure = failure }) None) has) w) (after_all changes w)
unfolding entries_of
entries_same moment number i has changes (Some reason) none w = absurd (cc)
entries_same moment number i has [] None none w = same_host w
entries_same moment number i has (c ∷ cs) None none w =
    let first = run_record moment has in
    let opening = records.Open number i.source (key_of i.text) in
    let closing = closing_record number (length (c ∷ cs)) None in
    let w1 : World = after first w in
    let w2 : World = after (appended opening ∷ []) w1 in
    let w3 : World = after (changed number w (c ∷ cs)) w2 in
    let same : after (first ++ appended opening ∷ (changed number w (c ∷ cs) ++ appended closing ∷ [])) w ≡ after (appended closing ∷ []) w3 =
    after_both first (appended opening ∷ (changed number w (c ∷ cs) ++ appended closing ∷ [])) w ∙ after_both (changed number w (c ∷ cs)) (appended closing ∷ []) w2 in
    subst (λ x. SameHost x (after_all (c ∷ cs) w)) (sym same)
    (same_trans (after (appended closing ∷ []) w3) w3 (after_all (c ∷ cs) w) (same_recorded closing w3)
    (same_changed number (c ∷ cs) w w2 (same_trans w2 w1 w (same_recorded opening w1) (same_run moment has w))))

-- its acts did what they need, and none of them failed
abbrev pub HasActed : Instance → (world left : World) → Type 0
HasActed i world left =
    ((actuated (acts_of i.work) world).failure ≡ None) × SameHost left (after_all (actuated (acts_of i.work) world).changes world)

pub acted_fine : (marks : List Mark) (moment number : ℕ) (i : Instance) (world : World) (has : Bool) → (outcome_done (done_on marks number i world) ≡ Failed → ⊥) →
    HasActed i world (after (entries_of moment number i world (done_on marks number i world) has) world)
unfolding done_on
acted_fine marks moment number i world has fine =
    let planned : Actuated = actuated (acts_of i.work) world in
    let plain = unmarked planned (mark_of marks number) fine in (
      plain.0,
      subst (λ d. SameHost (after (entries_of moment number i world d has) world) (after_all planned.changes world)) (sym plain.1)
          (entries_same moment number i has planned.changes planned.failure plain.0 world),
    )
