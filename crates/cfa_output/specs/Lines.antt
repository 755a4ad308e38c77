-- The lines that a call puts, each ended by a newline. Words in capitals are put in: `NAME:LINE:COL CODE WORD` is the line of a
-- refusal, a promise is told as `BUNDLE:NUMBER@LINE`.
use Rattle.std.specs.Prelude.{ℕ, List, ◌++◌, Option, Some, None, codes}
use Rattle.std.specs.Fmt.{decimal}
use Rattle.cfa_base.specs.declared.places.PromiseId.{PromiseId}
use Rattle.cfa_output.specs.declared.ends.Object.TheVariants.{Inputs, Site, Sink}
use Rattle.cfa_output.specs.declared.ends.Stop.{Stop}
use Rattle.cfa_output.specs.declared.ends.Stop.TheVariants.{Outside, Memory, Visits, Pattern}
use Rattle.cfa_output.specs.declared.items.End.{End}
use Rattle.cfa_output.specs.declared.items.End.TheVariants.{Yes, Locks, Failed as SomeFailed, Conflict as HasConflict, Limit}
use Rattle.cfa_output.specs.declared.items.Halt.{Halt}
use Rattle.cfa_output.specs.declared.items.Halt.TheVariants.{Outside as ByOutside, Memory as ByMemory, Visits as ByVisits, Pattern as ByPattern}
use Rattle.cfa_output.specs.declared.items.Item.{Item}
use Rattle.cfa_output.specs.declared.items.Item.TheVariants.{WordsRefused, MomentRefused, Refused, SourceLong, JournalBad, JournalLong, Repaired, Failed, Report, Total, Settled, Accepted, Conflict, Stopped, Audit, Torn, Demo, DemoRepaired, Changes, Rerun, History, Unrecorded, Runs, Quiet, Clash, Edits}

-- a promise, as it is printed
unfoldable pub id_text : PromiseId → List ℕ
id_text id = id.bundle ++ (codes ":" ++ (decimal id.number ++ (codes "@" ++ decimal id.line)))

unfoldable pub refused_line : (name : List ℕ) (line col : ℕ) (code word : List ℕ) → List ℕ
refused_line name line col code word =
    name ++ (codes ":" ++ (decimal line ++ (codes ":" ++ (decimal col ++ (codes " " ++ (code ++ (codes " " ++ (word ++ codes "\n"))))))))

unfoldable pub source_long_line : (name : List ℕ) → List ℕ
source_long_line name = name ++ codes " L4 TooLong\n"

unfoldable pub repaired_line : PromiseId → (changes : ℕ) → List ℕ
repaired_line id changes = codes "repaired " ++ (id_text id ++ (codes " " ++ (decimal changes ++ codes "\n")))

unfoldable pub failed_line : PromiseId → (reason word : List ℕ) → List ℕ
failed_line id reason word = codes "failed " ++ (id_text id ++ (codes " " ++ (reason ++ (codes " " ++ (word ++ codes "\n")))))

unfoldable pub total_line : (kept repaired failed skipped : ℕ) → List ℕ
total_line kept repaired failed skipped =
    codes "total kept " ++ (decimal kept
    ++ (codes " repaired " ++ (decimal repaired
    ++ (codes " failed " ++ (decimal failed
    ++ (codes " skipped " ++ (decimal skipped ++ codes "\n")))))))

unfoldable pub journal_bad_line : (name : List ℕ) (line : ℕ) → List ℕ
journal_bad_line name line = name ++ (codes ":" ++ (decimal line ++ codes " J1 BadRecord\n"))

unfoldable pub journal_long_line : (name : List ℕ) → List ℕ
journal_long_line name = name ++ codes " J2 TooLong\n"

unfoldable pub report_line : (text : List ℕ) → List ℕ
report_line text = codes "R: " ++ (text ++ codes "\n")

unfoldable pub conflict_line : (cause : List ℕ) (first second : PromiseId) (resource : List ℕ) → List ℕ
conflict_line cause first second resource =
    codes "conflict " ++ (cause ++ (codes " " ++ (id_text first ++ (codes " " ++ (id_text second ++ (codes " " ++ (resource ++ codes "\n")))))))

unfoldable pub audit_line : (moment repaired failed opened : ℕ) → List ℕ
audit_line moment repaired failed opened =
    codes "run " ++ (decimal moment
    ++ (codes " repaired " ++ (decimal repaired
    ++ (codes " failed " ++ (decimal failed
    ++ (codes " open " ++ (decimal opened ++ codes "\n")))))))

unfoldable pub history_line : PromiseId → (repaired changes failed opened last : ℕ) → List ℕ
history_line id repaired changes failed opened last =
    id_text id ++ (codes " repaired " ++ (decimal repaired
    ++ (codes " changes " ++ (decimal changes
    ++ (codes " failed " ++ (decimal failed
    ++ (codes " open " ++ (decimal opened
    ++ (codes " last " ++ (decimal last ++ codes "\n"))))))))))

unfoldable pub unrecorded_line : (path : List ℕ) (moment : ℕ) → List ℕ
unrecorded_line path moment = codes "unrecorded " ++ (path ++ (codes " " ++ (decimal moment ++ codes "\n")))

unfoldable pub quiet_line : PromiseId → List ℕ
quiet_line id = codes "quiet " ++ (id_text id ++ codes "\n")

unfoldable pub clash_line : PromiseId → (first second : ℕ) (rule : List ℕ) → List ℕ
clash_line id first second rule =
    codes "clash " ++ (id_text id ++ (codes " " ++ (decimal first ++ (codes " " ++ (decimal second ++ (codes " " ++ (rule ++ codes "\n")))))))

unfoldable pub edits_line : (number all : ℕ) → List ℕ
edits_line number all = codes "edits " ++ (decimal number ++ (codes " of " ++ (decimal all ++ codes "\n")))

-- a word and a number
unfoldable pub number_line : (word : List ℕ) (number : ℕ) → List ℕ
number_line word number = word ++ (codes " " ++ (decimal number ++ codes "\n"))

abbrev pub words_line : List ℕ
words_line = codes "words: refused\n"

abbrev pub moment_line : List ℕ
moment_line = codes "moment: refused\n"

abbrev pub settled_line : End → List ℕ
settled_line Yes = codes "settled: yes\n"
settled_line Locks = codes "settled: no (locks)\n"
settled_line SomeFailed = codes "settled: no (failed)\n"
settled_line HasConflict = codes "settled: no (conflict)\n"
settled_line Limit = codes "settled: no (limit)\n"

-- ---- the lines of what stops a call

abbrev pub outside_line : List ℕ
outside_line = codes "stopped: outside\n"

abbrev pub memory_line : List ℕ
memory_line = codes "stopped: memory\n"

abbrev pub visits_line : List ℕ
visits_line = codes "stopped: visits\n"

abbrev pub pattern_line : List ℕ
pattern_line = codes "stopped: pattern\n"

abbrev pub halt_line : Halt → List ℕ
halt_line ByOutside = outside_line
halt_line ByMemory = memory_line
halt_line ByVisits = visits_line
halt_line ByPattern = pattern_line

-- none where it can't be put
abbrev pub stop_line : Stop → Option (List ℕ)
stop_line (Outside Inputs) = Some outside_line
stop_line (Outside Site) = Some outside_line
stop_line (Outside Sink) = None
stop_line Memory = Some memory_line
stop_line Visits = Some visits_line
stop_line (Pattern _) = Some pattern_line

-- ---- every line

abbrev pub line_of : Item → List ℕ
line_of WordsRefused = words_line
line_of MomentRefused = moment_line
line_of (Refused name line col code word) = refused_line name line col code word
line_of (SourceLong name) = source_long_line name
line_of (JournalBad name line) = journal_bad_line name line
line_of (JournalLong name) = journal_long_line name
line_of (Repaired id changes) = repaired_line id changes
line_of (Failed id reason word) = failed_line id reason word
line_of (Report text) = report_line text
line_of (Total kept repaired failed skipped) = total_line kept repaired failed skipped
line_of (Settled end) = settled_line end
line_of (Accepted number) = number_line (codes "accepted") number
line_of (Conflict cause first second resource) = conflict_line cause first second resource
line_of (Stopped halt) = halt_line halt
line_of (Audit moment repaired failed opened) = audit_line moment repaired failed opened
line_of (Torn bytes) = number_line (codes "torn") bytes
line_of (Demo number) = number_line (codes "demo") number
line_of (DemoRepaired number) = number_line (codes "repaired") number
line_of (Changes number) = number_line (codes "changes") number
line_of (Rerun entries) = number_line (codes "rerun") entries
line_of (History id repaired changes failed opened last) = history_line id repaired changes failed opened last
line_of (Unrecorded path moment) = unrecorded_line path moment
line_of (Runs number) = number_line (codes "runs") number
line_of (Quiet id) = quiet_line id
line_of (Clash id first second rule) = clash_line id first second rule
line_of (Edits number all) = edits_line number all
