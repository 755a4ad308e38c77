use Rattle.std.proofs.Common.{◌≡◌, ◌+◌, ◌≤◌, List, [], ◌∷◌, ◌++◌, length, ap, arith, length-append}
use Rattle.cfa_journal.specs.declared.records.Record.{Record}
use Rattle.cfa_journal.specs.Journals.{journal_text}
use Rattle.cfa_journal.specs.Records.{record_text}
use Rattle.cfa_history.proofs.laws.no_more_records.Goals as goal

no_longer : (records : List Record) → length records ≤ length (journal_text records)
no_longer [] = omega arith
no_longer (r ∷ records) =
    let rest = no_longer records in
    let all : length (journal_text (r ∷ records)) ≡ length (record_text r ++ 10 ∷ []) + length (journal_text records) = length-append (record_text r ++ 10 ∷ []) (journal_text records) in
    let line : length (record_text r ++ 10 ∷ []) ≡ length (record_text r) + 1 = length-append (record_text r) (10 ∷ []) in
    omega (arith, rest, all, line)

pub returns : goal.returns
returns c bytes records torn is =
    let all : length (journal_text records ++ is.tail) ≡ length (journal_text records) + length is.tail = length-append (journal_text records) is.tail in
    let whole : length (journal_text records ++ is.tail) ≡ length bytes = ap length is.whole in
    let some = no_longer records in
    omega (arith, all, whole, some)
