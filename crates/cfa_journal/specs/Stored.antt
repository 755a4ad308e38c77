-- A record that a journal holds, and a record with its parts borrowed, are seen as records.
use Rattle.cfa_journal.specs.declared.records.Record.{Record}
use Rattle.cfa_journal.specs.declared.records.Record.TheVariants.{Run, Run2, Open, File, Repaired, Failed, Fail}
use Rattle.cfa_journal.specs.declared.storing.Form.{Form}
use Rattle.cfa_journal.specs.declared.storing.Form.TheVariants as forms
use Rattle.cfa_journal.specs.declared.storing.RecordRef.{RecordRef}
use Rattle.cfa_journal.specs.declared.storing.RecordRef.TheVariants as refs

abbrev pub record_of : RecordRef → Record
record_of (refs.Run moment) = Run moment
record_of (refs.Run2 moment) = Run2 moment
record_of (refs.Open n id key) = Open n id.now key.now
record_of (refs.File n path before after) = File n path.now before.now after.now
record_of (refs.Repaired n changes) = Repaired n changes
record_of (refs.Failed n reason) = Failed n reason
record_of (refs.Fail n id key reason) = Fail n id.now key.now reason

-- Of the code alone: the record of a form.
abbrev pub record_in : Form → Record
record_in (forms.Run moment) = Run moment
record_in (forms.Run2 moment) = Run2 moment
record_in (forms.Open n heading) = Open n heading.value.id heading.value.key
record_in (forms.File n content) = File n content.value.path content.value.before content.value.after
record_in (forms.Repaired n changes) = Repaired n changes
record_in (forms.Failed n reason) = Failed n reason
record_in (forms.Fail n reason heading) = Fail n heading.value.id heading.value.key reason
