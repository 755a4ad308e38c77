use Rattle.std.proofs.Common.{◌≡◌, [], sym, ap, ◌∙◌, subst}
use Rattle.std.specs.FinMap as map
use Rattle.cfa_history.specs.Gaps.{gaps_on, writes}
use Rattle.cfa_history.specs.Histories.{IsComplete}
use Rattle.cfa_history.specs.Instances.{instances}
use Rattle.cfa_history.specs.Rows.{IsTold}
use Rattle.cfa_history.specs.Tables.{rows_in, tallied}
use Rattle.cfa_history.proofs.GapLemmas.{gaps_from_none}
use Rattle.cfa_history.proofs.RowLemmas.{is_told}
use Rattle.cfa_history.proofs.SumLemmas.{is_complete}
use Rattle.cfa_history.proofs.histories.history_of.Goals as goal

pub returns-clause-rows : goal.returns-clause-rows
returns-clause-rows c =
    let records = c.args.journal.now.records in
    let rows : c.from_vec.result ≡ rows_in (tallied [] (instances 0 records)) = c.from_vec.ensures ∙ c.in_ok-rows.ensures ∙ ap (λ rs. rows_in (tallied [] (instances 0 rs))) c.as_slice-records.ensures in
    subst (IsTold (instances 0 records)) (sym rows) (is_told (instances 0 records))

pub returns-clause-gaps : goal.returns-clause-gaps
returns-clause-gaps c =
    let records = c.args.journal.now.records in
    c.from_vec-2.ensures ∙ c.in_ok-gaps.ensures ∙ ap (λ rs. gaps_on map.empty (writes 0 rs)) c.as_slice-records.ensures ∙ gaps_from_none (writes 0 records)

pub returns-clause-complete : goal.returns-clause-complete
returns-clause-complete c =
    let records = c.args.journal.now.records in
    let rows : c.from_vec.result ≡ rows_in (tallied [] (instances 0 records)) = c.from_vec.ensures ∙ c.in_ok-rows.ensures ∙ ap (λ rs. rows_in (tallied [] (instances 0 rs))) c.as_slice-records.ensures in
    subst (IsComplete records) (sym rows) (is_complete records c.requires.in_place)
