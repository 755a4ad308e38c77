-- What `edits` tells of a policy: for each instance of its open walk that edits a file, in the order of their first visits, that its
-- script is quiet, or the first clash of its edits; and then how many scripts are quiet. An instance edits one file at most, and once.
use Rattle.std.specs.Prelude.{ℕ, ◌≡◌, Bool, true, false, not, if◌then◌else◌, List, [], ◌∷◌, ◌++◌, All, codes, count_by, filter, flat_map, length, map, Option, None, Some, is_some, unwrap_or, ⊤}
use Rattle.std.specs.List.{list_any}
use Rattle.std.specs.Fmt.{decimal}
use Rattle.cfa_base.specs.declared.places.PromiseId.{PromiseId}
use Rattle.cfa_base.specs.Shown.{Shown, Follows}
use Rattle.cfa_outside.specs.Sinks.{adds_bytes}
use Rattle.cfa_edits.specs.declared.edits.Edit.{Edit}
use Rattle.cfa_acts.specs.declared.acts.Act.{Act}
use Rattle.cfa_acts.specs.declared.acts.Act.TheVariants as act
use Rattle.cfa_resolve.specs.declared.instances.Instance.{Instance}
use Rattle.cfa_resolve.specs.declared.instances.Work.{Work}
use Rattle.cfa_resolve.specs.declared.instances.Work.TheVariants.{Acts, Call, Report}
use Rattle.cfa_edit_proof.specs.declared.clashes.Clash.{Clash}
use Rattle.cfa_edit_proof.specs.Quiet.{IsFirstClash}
use Rattle.cfa_output.specs.Lines.{quiet_line, clash_line, edits_line}
use Rattle.cfa_states.specs.Builds.{BuiltOn}
use Rattle.cfa_states.specs.Passes.{Course, goes, too_large, run}
use Rattle.cfa_states.specs.Tellers.{open_walk}
use Rattle.cfa_states.specs.Views.{Setting}
use Rattle.cfa_states.specs.Walks.{walked}
use Rattle.cfa_main.specs.declared.searching.Found.{Found}
use Rattle.cfa_main.specs.declared.ends.End.{End}
use Rattle.cfa_main.specs.declared.ends.End.TheVariants.{Ended, InConflict}
use Rattle.cfa_main.specs.Done.{Done, puts, ends_with}

-- ---- scripts

-- the script of an act, or else of those behind it
abbrev pub script_or : Act → Option (List Edit) → Option (List Edit)
script_or (act.Edit path script) behind = Some script
script_or _ behind = behind

-- the first script among acts
abbrev pub script_among : List Act → Option (List Edit)
script_among [] = None
script_among (one ∷ rest) = script_or one (script_among rest)

abbrev pub script_of_work : Work → Option (List Edit)
script_of_work (Acts items) = script_among items
script_of_work (Call name arguments) = None
script_of_work (Report content) = None

abbrev pub edits_file : Instance → Bool
edits_file instance = is_some (script_of_work instance.work)

abbrev pub script_of : Instance → List Edit
script_of instance = unwrap_or (script_of_work instance.work) []

-- ---- what is found

-- an instance that edits, and the first clash of its script, if there is one
pub record Finding : Type 0 where
  pub instance : Instance
  pub clash : Option Clash

abbrev pub has_clash : Finding → Bool
has_clash finding = is_some finding.clash

abbrev pub is_quiet : Finding → Bool
is_quiet finding = not (has_clash finding)

-- what is found of instances: each that edits has its first clash told
pub record AreFindings (instances : List Instance) (findings : List Finding) : Type 0 where
  pub each : map (λ (finding : Finding). finding.instance) findings ≡ filter edits_file instances
  pub first : All (λ (finding : Finding). IsFirstClash (script_of finding.instance) finding.clash) findings

-- ---- the lines

-- the rule of this number
abbrev pub rule_code : (rule : ℕ) → List ℕ
rule_code rule = codes "K" ++ decimal rule

abbrev pub line_by : PromiseId → Option Clash → List ℕ
line_by id None = quiet_line id
line_by id (Some clash) = clash_line id clash.first clash.second (rule_code clash.rule)

abbrev pub finding_line : Finding → List ℕ
finding_line finding = line_by finding.instance.source finding.clash

abbrev pub search_text : List Finding → List ℕ
search_text findings = flat_map finding_line findings ++ edits_line (count_by is_quiet findings) (length findings)

-- a search ends as a check does, by whether it tells a clash
abbrev pub search_end : List Finding → End
search_end findings = if list_any has_clash findings then InConflict else Ended

abbrev pub searched : List Finding → Done
searched findings = ends_with (search_end findings) (puts (search_text findings) ∷ [])

-- a search does this, by how its walk ends; one whose walk needs too many visits does nothing
abbrev pub SearchDoes : Setting → Course → Done → Type 0
SearchDoes setting (goes h) done =
    (findings : List Finding) × AreFindings (walked setting h).instances findings × (done ≡ searched findings)
SearchDoes setting (too_large h) done = ⊥

-- ---- Of the code alone: what is found, as the definition has it, and what was put of it.

abbrev pub seen_finding : Found → Finding
seen_finding found = record { instance = found.instance.now; clash = found.clash }

-- the lines of what is found of instances were put
abbrev pub TellsFindings : List Instance → End → (out out' : Shown (List ℕ)) → Type 0
TellsFindings instances end out out' =
    (findings : List Finding) × AreFindings instances findings × (end ≡ search_end findings)
    × Follows (adds_bytes (search_text findings)) out out'

-- those of a search, by how its walk ended
abbrev pub TellsSearch : Setting → Course → End → (out out' : Shown (List ℕ)) → Type 0
TellsSearch setting (goes h) end out out' = TellsFindings (walked setting h).instances end out out'
TellsSearch setting (too_large h) end out out' = ⊥

-- the text is that of what is found of instances
abbrev pub IsFindingsText : List Instance → (text : List ℕ) → Type 0
IsFindingsText instances text = (findings : List Finding) × AreFindings instances findings × (text ≡ search_text findings)

-- the text is that of a search, by how its walk ends
abbrev pub IsSearchText : Setting → Course → (text : List ℕ) → Type 0
IsSearchText setting (goes h) text = IsFindingsText (walked setting h).instances text
IsSearchText setting (too_large h) text = ⊥

-- the text that stopped the work is one that the walk builds
abbrev pub BuiltToSearch : Setting → Option (List ℕ) → Type 0
BuiltToSearch setting None = ⊤
BuiltToSearch setting (Some text) = BuiltOn setting (run setting open_walk) text
