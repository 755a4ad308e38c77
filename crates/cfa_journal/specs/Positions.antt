-- Where a record may stand. A journal begins with a `run`, and one may stand anywhere else. In a run, an instance begins
-- with its `open`, or is a `fail` alone. Directly behind the `open`, and behind each `file`, stands a record of that
-- instance: a `file`, in a run of version 2, or the `done` that ends it. A `run` there leaves the instance open.
use Rattle.std.specs.Prelude.{ℕ, Bool, true, false, ◌&&◌, ◌==◌, IsTrue, List, [], ◌∷◌, ⊤}
use Rattle.cfa_journal.specs.declared.records.Record.{Record}
use Rattle.cfa_journal.specs.declared.records.Record.TheVariants.{Run, Run2, Open, File, Repaired, Failed, Fail}
use Rattle.cfa_journal.specs.declared.positions.Version.{Version}
use Rattle.cfa_journal.specs.declared.positions.Version.TheVariants.{One, Two}
use Rattle.cfa_journal.specs.declared.positions.Position.{Position}
use Rattle.cfa_journal.specs.declared.positions.Position.TheVariants.{Start, Between, Within}
use Rattle.cfa_journal.specs.Records.{IsRecord}

-- the version of the run in which a position is
abbrev pub version_of : Position → Version
version_of Start = One
version_of (Between version) = version
version_of (Within version n) = version

abbrev pub is_two : Version → Bool
is_two One = false
is_two Two = true

-- in a run, and in no instance
abbrev pub is_between : Position → Bool
is_between Start = false
is_between (Between version) = true
is_between (Within version n) = false

-- in the instance of this number
abbrev pub is_within : ℕ → Position → Bool
is_within n Start = false
is_within n (Between version) = false
is_within n (Within version m) = m == n

abbrev pub is_in_place : Position → Record → Bool
is_in_place position (Run moment) = true
is_in_place position (Run2 moment) = true
is_in_place position (Open n id key) = is_between position
is_in_place position (File n path before after) = is_two (version_of position) && is_within n position
is_in_place position (Repaired n changes) = is_within n position
is_in_place position (Failed n reason) = is_within n position
is_in_place position (Fail n id key reason) = is_between position

-- the position behind a record
abbrev pub behind : Position → Record → Position
behind position (Run moment) = Between One
behind position (Run2 moment) = Between Two
behind position (Open n id key) = Within (version_of position) n
behind position (File n path before after) = Within (version_of position) n
behind position (Repaired n changes) = Between (version_of position)
behind position (Failed n reason) = Between (version_of position)
behind position (Fail n id key reason) = Between (version_of position)

-- a record that may stand at a position
abbrev pub MayStand : Position → Record → Type 0
MayStand position record' = IsRecord record' × IsTrue (is_in_place position record')

-- each record may stand behind those before it, and the first at this position
abbrev pub InPlaceFrom : Position → List Record → Type 0
InPlaceFrom position [] = ⊤
InPlaceFrom position (record' ∷ rest) = MayStand position record' × InPlaceFrom (behind position record') rest

-- the position behind some records
abbrev pub behind_all : Position → List Record → Position
behind_all position [] = position
behind_all position (record' ∷ rest) = behind_all (behind position record') rest
