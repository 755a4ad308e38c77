-- The instances that a promise resolves to have its path, its id and key texts, acts as promises give them, and in each list classes of
-- one line; a call names the bundle of `usebundle`, and the minutes are few.
use Rattle.std.proofs.Common.{◌≡◌, ◌<◌, ◌^◌, ℕ, Bool, true, false, List, [], ◌∷◌, codes, Option, Some, None, cond, refl, sym, subst, arith, All}
use Rattle.std.specs.Prelude.{not, filter, option_and_then}
use Rattle.std.specs.List.{AllByRecursion as Each, cons_option}
use Rattle.std.specs.Str.Parse.{digits_value}
use Rattle.cfa_tree.specs.Tree.{ValueTree, NamedTree, BlockTree, bundle, body, PolicyTree}
use Rattle.cfa_kinds.specs.declared.kinds.BodyType.TheVariants as body_types
use Rattle.cfa_kinds.specs.declared.kinds.Form.TheVariants.{Minutes}
use Rattle.cfa_kinds.specs.declared.kinds.PromiseType.{PromiseType}
use Rattle.cfa_kinds.specs.declared.kinds.PromiseType.TheVariants as promises
use Rattle.cfa_kinds.specs.Forms.{has_form, minutes_written}
use Rattle.cfa_kinds.specs.lemmas.Digits.{small_digits}
use Rattle.cfa_vars.specs.Expansion.{Chosen}
use Rattle.cfa_values.specs.Attributes.{value_of}
use Rattle.cfa_values.specs.Values.{known_named}
use Rattle.cfa_edits.specs.Scripts.{IsOneLine}
use Rattle.cfa_acts.specs.declared.acts.Act.TheVariants.{Bust}
use Rattle.cfa_acts.specs.declared.acts.Reason.{Reason}
use Rattle.cfa_acts.specs.declared.acts.Reason.TheVariants as reasons
use Rattle.cfa_bodies.specs.declared.hearing.Heard.{Heard}
use Rattle.cfa_bodies.specs.declared.hearing.Heard.TheVariants.{Lacks as lacks_body, TooMany as many_in_body, TooLong as long_in_body, All as all_heard}
use Rattle.cfa_bodies.specs.declared.sayings.Said.{Said}
use Rattle.cfa_bodies.specs.Bodies.{Bodies, bodies_of, said_in, text_in, items_in, heard}
use Rattle.cfa_defines.specs.declared.combining.Combined.{Combined}
use Rattle.cfa_defines.specs.declared.combining.Combined.TheVariants.{Lacks as lacks, TooMany as too_many, TooLong as too_long, Found as found}
use Rattle.cfa_defines.specs.OwnTexts.{combined, own_reads}
use Rattle.cfa_served.specs.Served.{body_of, minutes_named, minutes_of, minutes_in as minutes_in_body, or_one}
use Rattle.cfa_scripts.specs.declared.scripting.Scripted.{Scripted}
use Rattle.cfa_scripts.specs.declared.scripting.Scripted.TheVariants.{Script as a_script, Unresolved as no_script, TooMany as script_many, TooLong as script_long, BadPattern as bad_pattern, BadValue as bad_value}
use Rattle.cfa_resolve.specs.declared.instances.Instance.{Instance}
use Rattle.cfa_resolve.specs.declared.instances.Work.{Work}
use Rattle.cfa_resolve.specs.declared.instances.Work.TheVariants.{Acts}
use Rattle.cfa_resolve.specs.FileActs.{is_empty, classes_in, outcome_classes, service_act}
use Rattle.cfa_resolve.specs.Instances.{Reached, instance_of, bust_instance, promiser_in, text_of, call_by, work_by, minutes_said, classed, timed, minutes_in, made_instance, handed_instance}
use Rattle.cfa_resolve.specs.Resolution.{walked_for, scripted_in, made_by_script, made_by, made, instance_in, made_for, instances_for, resolved_as, resolution}
use Rattle.cfa_laws.specs.Keys.{AreGiven, IsPlainId, IsResolved, InstancesAreKeyed, HasPlainCall, IsLine, KeysAreLines}
use Rattle.cfa_laws.proofs.GivenLemmas.{none, one, files_given, service_given, script_is}
use Rattle.cfa_laws.proofs.ScriptLemmas.{MayBeScripted}
use Rattle.cfa_laws.proofs.KeyLemmas.{NamesLine, key_line}
use Rattle.cfa_laws.proofs.LineLemmas.{no_text, no_lines, canonical_lines}

-- ---- minutes

abbrev IsSmall : ℕ → Type 0
IsSmall minutes = minutes < 2 ^ 64

abbrev MayBeSmall : Option ℕ → Type 0
MayBeSmall None = Unit {0}
MayBeSmall (Some minutes) = IsSmall minutes

written_by : (text : List ℕ) (b : Bool) → has_form Minutes text ≡ b → MayBeSmall (cond b (Some (digits_value 10 text)) None)
written_by text true form = let small = small_digits text form in omega (arith, small)
written_by text false form = tt

written_small : (text : List ℕ) → MayBeSmall (minutes_written text)
written_small text = written_by text (has_form Minutes text) refl

named_small : (n : Option NamedTree) → MayBeSmall (minutes_named n)
named_small None = tt
named_small (Some n) = written_small n.name

given_small : (v : Option ValueTree) → MayBeSmall (option_and_then (λ x. minutes_named (known_named x)) v)
given_small None = tt
given_small (Some v) = named_small (known_named v)

block_small : (b : Option BlockTree) → MayBeSmall (minutes_in_body b)
block_small None = tt
block_small (Some (bundle type_name named params sections place)) = tt
block_small (Some (body type_name named params attributes place)) = given_small (value_of (codes "ifelapsed") attributes)

or_one_small : (minutes : Option ℕ) → MayBeSmall minutes → IsSmall (or_one minutes)
or_one_small None small = omega arith
or_one_small (Some minutes) small = small

control_small : (policy : PolicyTree) → IsSmall (minutes_of policy)
unfolding minutes_of
control_small policy = let b = body_of policy body_types.Agent (codes "control") in or_one_small (minutes_in_body b) (block_small b)

said_small : (r : Reached) (said : Option Said) → MayBeSmall (minutes_said r said)
said_small r None = control_small r.policy
said_small r (Some said) = written_small (text_in said)

-- ---- classes

listed_lines : (said : Option Said) → All IsOneLine (classes_in said)
listed_lines None = no_lines
listed_lines (Some said) = canonical_lines (filter (λ content. not (is_empty content)) (items_in said))

classes_lines : (bodies : Bodies) (name : List ℕ) → All IsOneLine (outcome_classes bodies name)
unfolding outcome_classes
classes_lines bodies name = listed_lines (said_in bodies (codes "classes") name)

-- ---- instances

module _ (r : Reached) where
  record IsBuilt (instance : Instance) : Type 0 where
    resolved : IsPlainId r.id → IsResolved r.path instance
    call : HasPlainCall r.promise → NamesLine instance.work
    kept : All IsOneLine instance.kept
    repaired : All IsOneLine instance.repaired
    failed : All IsOneLine instance.failed
    elapsed : IsSmall instance.elapsed

  -- a work as the promise gives it
  record IsFitting (work : Work) : Type 0 where
    given : AreGiven work
    call : HasPlainCall r.promise → NamesLine work

  bust_fitting : (reason : Reason) → IsFitting (Acts (Bust reason ∷ []))
  bust_fitting reason = record { given = one (Bust reason) tt; call = λ plain. tt }

  built : (promiser : List ℕ) (work : Work) (kept repaired failed : List (List ℕ)) (minutes : ℕ) → IsFitting work → All IsOneLine kept → All IsOneLine repaired → All IsOneLine failed →
      IsSmall minutes → IsBuilt (instance_of r promiser work kept repaired failed minutes)
  built promiser work kept repaired failed minutes fitting keeps repairs fails small = record {
    resolved = λ plain. record { path = refl; key = record { promiser = promiser; source = plain; acts = fitting.given; text = refl } };
    call = fitting.call;
    kept = keeps;
    repaired = repairs;
    failed = fails;
    elapsed = small;
  }

  bust_built : (reason : Reason) → IsBuilt (bust_instance r reason)
  bust_built reason = built r.promise.promiser (Acts (Bust reason ∷ [])) [] [] [] (minutes_of r.policy) (bust_fitting reason) no_lines no_lines no_lines (control_small r.policy)

  classed_built : (bodies : Bodies) (promiser : List ℕ) (work : Work) (minutes : ℕ) → IsFitting work → IsSmall minutes → IsBuilt (classed r bodies promiser work minutes)
  classed_built bodies promiser work minutes fitting small =
      built promiser work (outcome_classes bodies (codes "promise_kept")) (outcome_classes bodies (codes "promise_repaired")) (outcome_classes bodies (codes "repair_failed")) minutes fitting
      (classes_lines bodies (codes "promise_kept")) (classes_lines bodies (codes "promise_repaired")) (classes_lines bodies (codes "repair_failed")) small

  called_by : (choice : Chosen) (call : Option ValueTree) → value_of (codes "usebundle") r.promise.attributes ≡ call → IsFitting (call_by r choice call)
  called_by choice None is = record { given = tt; call = λ plain. no_text }
  called_by choice (Some value) is = record { given = tt; call = λ plain. plain value is }

  work_fitting : (choice : Chosen) (bodies : Bodies) (scripted : Option Scripted) (type : PromiseType) → MayBeScripted scripted → IsFitting (work_by r choice bodies scripted type)
  work_fitting choice bodies scripted promises.Files is = record {
    given = files_given (promiser_in r choice) (text_of r choice (codes "create")) (text_of r choice (codes "content")) bodies scripted is;
    call = λ plain. tt;
  }
  work_fitting choice bodies scripted promises.Services is = record {
    given = one (service_act (promiser_in r choice) (text_of r choice (codes "service_policy"))) (service_given (promiser_in r choice) (text_of r choice (codes "service_policy")));
    call = λ plain. tt;
  }
  work_fitting choice bodies scripted promises.Methods is = called_by choice (value_of (codes "usebundle") r.promise.attributes) refl
  work_fitting choice bodies scripted promises.Reports is = record { given = tt; call = λ plain. tt }
  work_fitting choice bodies scripted type is = record { given = none; call = λ plain. tt }

  timed_built : (choice : Chosen) (bodies : Bodies) (scripted : Option Scripted) (minutes : Option ℕ) → MayBeSmall minutes → MayBeScripted scripted → IsBuilt (timed r choice bodies scripted minutes)
  timed_built choice bodies scripted None small is = classed_built bodies (promiser_in r choice) (Acts (Bust reasons.BadValue ∷ [])) 1 (bust_fitting reasons.BadValue) (omega arith)
  timed_built choice bodies scripted (Some minutes) small is =
      classed_built bodies (promiser_in r choice) (work_by r choice bodies scripted r.type) minutes (work_fitting choice bodies scripted r.type is) small

  minutes_small : (bodies : Bodies) → MayBeSmall (minutes_in r bodies)
  minutes_small bodies = said_small r (said_in bodies (codes "action") (codes "ifelapsed"))

  made_built : (choice : Chosen) (bodies : Bodies) (scripted : Option Scripted) → MayBeScripted scripted → IsBuilt (made_instance r choice bodies scripted)
  unfolding made_instance
  made_built choice bodies scripted is = timed_built choice bodies scripted (minutes_in r bodies) (minutes_small bodies) is

  handed_built : (bodies : Bodies) (reason : Reason) → IsBuilt (handed_instance r bodies reason)
  unfolding handed_instance
  handed_built bodies reason =
      classed_built bodies r.promise.promiser (Acts (Bust reason ∷ [])) (or_one (minutes_in r bodies)) (bust_fitting reason) (or_one_small (minutes_in r bodies) (minutes_small bodies))

  -- ---- combinations

  abbrev MayBeBuilt : Option Instance → Type 0
  MayBeBuilt None = Unit {0}
  MayBeBuilt (Some i) = IsBuilt i

  by_script : (choice : Chosen) (bodies : Bodies) (scripted : Option Scripted) → MayBeScripted scripted → MayBeBuilt (instance_in (made_by_script r choice bodies scripted))
  by_script choice bodies (Some (no_script name)) is = tt
  by_script choice bodies (Some script_many) is = handed_built bodies reasons.TooMany
  by_script choice bodies (Some script_long) is = handed_built bodies reasons.TooLong
  by_script choice bodies (Some (a_script edits)) is = made_built choice bodies (Some (a_script edits)) is
  by_script choice bodies (Some bad_pattern) is = made_built choice bodies (Some bad_pattern) is
  by_script choice bodies (Some bad_value) is = made_built choice bodies (Some bad_value) is
  by_script choice bodies None is = made_built choice bodies None is

  many_in : (choice : Chosen) (bodies : Bodies) (scripted : Option Scripted) → MayBeBuilt (instance_in (made_by r choice bodies scripted many_in_body))
  many_in choice bodies (Some (no_script name)) = tt
  many_in choice bodies (Some script_many) = bust_built reasons.TooMany
  many_in choice bodies (Some script_long) = bust_built reasons.TooMany
  many_in choice bodies (Some (a_script edits)) = bust_built reasons.TooMany
  many_in choice bodies (Some bad_pattern) = bust_built reasons.TooMany
  many_in choice bodies (Some bad_value) = bust_built reasons.TooMany
  many_in choice bodies None = bust_built reasons.TooMany

  long_in : (choice : Chosen) (bodies : Bodies) (scripted : Option Scripted) → MayBeBuilt (instance_in (made_by r choice bodies scripted long_in_body))
  long_in choice bodies (Some (no_script name)) = tt
  long_in choice bodies (Some script_many) = bust_built reasons.TooLong
  long_in choice bodies (Some script_long) = bust_built reasons.TooLong
  long_in choice bodies (Some (a_script edits)) = bust_built reasons.TooLong
  long_in choice bodies (Some bad_pattern) = bust_built reasons.TooLong
  long_in choice bodies (Some bad_value) = bust_built reasons.TooLong
  long_in choice bodies None = bust_built reasons.TooLong

  by_heard : (choice : Chosen) (bodies : Bodies) (scripted : Option Scripted) (heard : Heard) → MayBeScripted scripted → MayBeBuilt (instance_in (made_by r choice bodies scripted heard))
  by_heard choice bodies scripted (lacks_body name) is = tt
  by_heard choice bodies scripted many_in_body is = many_in choice bodies scripted
  by_heard choice bodies scripted long_in_body is = long_in choice bodies scripted
  by_heard choice bodies scripted all_heard is = by_script choice bodies scripted is

  one_made : (choice : Chosen) → MayBeBuilt (instance_in (made_for r choice))
  unfolding made
  one_made choice =
      let bodies = bodies_of r.policy r.scopes choice r.type r.promise in
      by_heard choice bodies (scripted_in (walked_for r choice)) (heard bodies) (script_is r choice)

  with_made : (instance : Option Instance) (rest : List Instance) → MayBeBuilt instance → Each IsBuilt rest → Each IsBuilt (cons_option instance rest)
  with_made (Some i) rest made others = (made, others)
  with_made None rest made others = others

  all_made : (choices : List Chosen) → Each IsBuilt (instances_for r choices)
  all_made [] = tt
  all_made (choice ∷ choices) = with_made (instance_in (made_for r choice)) (instances_for r choices) (one_made choice) (all_made choices)

  by_combined : (c : Combined) → Each IsBuilt (resolved_as r c).instances
  by_combined (lacks name) = tt
  by_combined too_many = (bust_built reasons.TooMany, tt)
  by_combined (too_long combinations) = (bust_built reasons.TooLong, tt)
  by_combined (found choices) = all_made choices

  all_built : Each IsBuilt (resolution r).instances
  unfolding resolution
  all_built = by_combined (combined r.scopes (own_reads r.type r.promise))

  -- ---- what is said of them

  each_resolved : IsPlainId r.id → (instances : List Instance) → Each IsBuilt instances → Each (IsResolved r.path) instances
  each_resolved plain [] each = tt
  each_resolved plain (i ∷ instances) each = let b = each.0 in (b.resolved plain, each_resolved plain instances each.1)

  one_line : IsPlainId r.id → HasPlainCall r.promise → (i : Instance) → IsBuilt i → IsLine i
  one_line plain names i b =
      let key = (b.resolved plain).key in
      subst IsOneLine (sym key.text) (key_line i.kept i.repaired i.failed i.elapsed b.kept b.repaired b.failed b.elapsed i.source key.promiser i.work key.source key.acts (b.call names))

  each_line : IsPlainId r.id → HasPlainCall r.promise → (instances : List Instance) → Each IsBuilt instances → Each IsLine instances
  each_line plain names [] each = tt
  each_line plain names (i ∷ instances) each = (one_line plain names i each.0, each_line plain names instances each.1)

pub instances_keyed : InstancesAreKeyed
instances_keyed r plain = each_resolved r plain (resolution r).instances (all_built r)

pub keys_lines : KeysAreLines
keys_lines r plain names = each_line r plain names (resolution r).instances (all_built r)
