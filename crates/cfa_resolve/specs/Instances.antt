-- The instance that a combination of a promise gives. It has the activation's path, the promise's id, its work, the classes for
-- each outcome and its minutes: those of its action body, else those of `body agent control`, else 1. A wrong `ifelapsed` gives
-- one act that fails for it, and 1 minute.
--
-- Where a promise has too many combinations or a text that is too long, it has one instance whose one act fails for that,
-- without classes and with the minutes of control. Such an instance is named by its promiser as it is written. Where a list
-- or a text of a body is to blame, its own combination alone has such an instance. Where a promise of its edit bundle is, the
-- instance has this one act, named in the same way, with its own classes and minutes.
use Rattle.std.specs.Prelude.{ℕ, List, [], ◌∷◌, codes, Option, Some, None}
use Rattle.cfa_base.specs.declared.places.PromiseId.{PromiseId}
use Rattle.cfa_tree.specs.Tree.{ValueTree, PromiseTree, PolicyTree}
use Rattle.cfa_statuses.specs.declared.levels.Status.{Status}
use Rattle.cfa_kinds.specs.declared.kinds.PromiseType.{PromiseType}
use Rattle.cfa_kinds.specs.declared.kinds.PromiseType.TheVariants as promises
use Rattle.cfa_kinds.specs.Forms.{minutes_written}
use Rattle.cfa_values.specs.Attributes.{value_of}
use Rattle.cfa_served.specs.Served.{minutes_of, or_one}
use Rattle.cfa_vars.specs.declared.expanding.Expanded.{Expanded}
use Rattle.cfa_vars.specs.declared.expanding.Expanded.TheVariants.{Done, Unresolved, TooLong}
use Rattle.cfa_vars.specs.Scopes.{InScope}
use Rattle.cfa_vars.specs.Expansion.{Chosen, expanded}
use Rattle.cfa_acts.specs.declared.acts.Reason.{Reason}
use Rattle.cfa_acts.specs.declared.acts.Reason.TheVariants as reasons
use Rattle.cfa_acts.specs.declared.acts.Act.TheVariants.{Bust}
use Rattle.cfa_resolve.specs.declared.instances.Instance.{Instance}
use Rattle.cfa_resolve.specs.declared.instances.Work.{Work}
use Rattle.cfa_resolve.specs.declared.instances.Work.TheVariants.{Acts, Call, Report}
use Rattle.cfa_defines.specs.OwnTexts.{arguments_of}
use Rattle.cfa_bodies.specs.declared.sayings.Said.{Said}
use Rattle.cfa_bodies.specs.Bodies.{Bodies, said_in, text_in, data_given, name_given}
use Rattle.cfa_scripts.specs.declared.scripting.Scripted.{Scripted}
use Rattle.cfa_resolve.specs.FileActs.{file_acts, service_act, own_text, outcome_classes}
use Rattle.cfa_resolve.specs.KeyTexts.{key_text}

-- an activation's promise, with what it is resolved in; the statuses are those of the global classes
pub record Reached : Type 0 where
  pub policy : PolicyTree
  pub id : PromiseId
  pub type : PromiseType
  pub promise : PromiseTree
  pub scopes : InScope
  pub statuses : List ℕ → Status
  pub path : List ℕ

-- an instance with its key text; what couldn't be made tells this promiser there
abbrev pub instance_of :
    Reached → (promiser : List ℕ) → Work → (kept repaired failed : List (List ℕ)) → (minutes : ℕ) → Instance
instance_of r promiser work kept repaired failed minutes = record {
  path = r.path;
  source = r.id;
  work = work;
  kept = kept;
  repaired = repaired;
  failed = failed;
  elapsed = minutes;
  text = key_text r.id promiser work kept repaired failed minutes;
}

-- the one instance of what is too many or too long
abbrev pub bust_instance : Reached → Reason → Instance
bust_instance r reason =
    instance_of r r.promise.promiser (Acts (Bust reason ∷ [])) [] [] [] (minutes_of r.policy)

-- ---- one combination

abbrev pub done_text : Expanded → List ℕ
done_text (Done whole) = whole
done_text (Unresolved name) = []
done_text TooLong = []

abbrev pub promiser_in : Reached → Chosen → List ℕ
promiser_in r choice = done_text (expanded r.scopes choice r.promise.promiser)

-- the text that an attribute of the promise itself gives
abbrev pub text_of : Reached → Chosen → List ℕ → Option (List ℕ)
text_of r choice name = own_text r.scopes choice r.promise name

-- the bundle that a methods promise calls, with what its arguments give
abbrev pub call_by : Reached → Chosen → Option ValueTree → Work
call_by r choice None = Call [] []
call_by r choice (Some value) = Call (name_given value) (data_given r.scopes choice (arguments_of value))

abbrev pub work_by : Reached → Chosen → Bodies → Option Scripted → PromiseType → Work
work_by r choice bodies scripted promises.Files =
    Acts (file_acts (promiser_in r choice) (text_of r choice (codes "create")) (text_of r choice (codes "content")) bodies scripted)
work_by r choice bodies scripted promises.Services =
    Acts (service_act (promiser_in r choice) (text_of r choice (codes "service_policy")) ∷ [])
work_by r choice bodies scripted promises.Methods = call_by r choice (value_of (codes "usebundle") r.promise.attributes)
work_by r choice bodies scripted promises.Reports = Report (promiser_in r choice)
work_by r choice bodies scripted type = Acts []

-- the minutes that the action body gives; none where they are wrong
abbrev pub minutes_said : Reached → Option Said → Option ℕ
minutes_said r None = Some (minutes_of r.policy)
minutes_said r (Some said) = minutes_written (text_in said)

-- with the classes for each outcome
abbrev pub classed : Reached → Bodies → (promiser : List ℕ) → Work → (minutes : ℕ) → Instance
classed r bodies promiser work minutes =
    instance_of r promiser work (outcome_classes bodies (codes "promise_kept"))
    (outcome_classes bodies (codes "promise_repaired")) (outcome_classes bodies (codes "repair_failed")) minutes

abbrev pub timed : Reached → Chosen → Bodies → Option Scripted → Option ℕ → Instance
timed r choice bodies scripted None = classed r bodies (promiser_in r choice) (Acts (Bust reasons.BadValue ∷ [])) 1
timed r choice bodies scripted (Some minutes) =
    classed r bodies (promiser_in r choice) (work_by r choice bodies scripted r.type) minutes

abbrev pub minutes_in : Reached → Bodies → Option ℕ
minutes_in r bodies = minutes_said r (said_in bodies (codes "action") (codes "ifelapsed"))

-- the instance where nothing that its bodies and its edit bundle say keeps it from being made
unfoldable pub made_instance : Reached → Chosen → Bodies → Option Scripted → Instance
made_instance r choice bodies scripted = timed r choice bodies scripted (minutes_in r bodies)

-- the instance of what a promise of the edit bundle hands over, with 1 for minutes that are wrong
unfoldable pub handed_instance : Reached → Bodies → Reason → Instance
handed_instance r bodies reason =
    classed r bodies r.promise.promiser (Acts (Bust reason ∷ [])) (or_one (minutes_in r bodies))
