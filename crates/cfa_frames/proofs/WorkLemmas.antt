-- A work that calls is that of a methods promise, and calls what its `usebundle` names.
use Rattle.std.proofs.Common.{◌≡◌, ℕ, List, [], ◌∷◌, codes, Option, Some, None, refl}
use Rattle.std.specs.List.{AllByRecursion as Each, cons_option}
use Rattle.cfa_acts.specs.declared.acts.Reason.{Reason}
use Rattle.cfa_acts.specs.declared.acts.Reason.TheVariants as reasons
use Rattle.cfa_bodies.specs.Bodies.{Bodies}
use Rattle.cfa_bodies.specs.declared.hearing.Heard.{Heard}
use Rattle.cfa_bodies.specs.declared.hearing.Heard.TheVariants.{Lacks as lacks_body, TooMany as many_in_body, TooLong as long_in_body, All as all_heard}
use Rattle.cfa_defines.specs.declared.combining.Combined.{Combined}
use Rattle.cfa_defines.specs.declared.combining.Combined.TheVariants.{Lacks as lacks, TooMany as too_many, TooLong as too_long, Found as found}
use Rattle.cfa_kinds.specs.declared.kinds.PromiseType.{PromiseType}
use Rattle.cfa_kinds.specs.declared.kinds.PromiseType.TheVariants as promises
use Rattle.cfa_resolve.specs.Instances.{Reached, bust_instance, made_instance, handed_instance, timed, call_by, work_by}
use Rattle.cfa_resolve.specs.Resolution.{made, made_by, made_by_script, made_for, instance_in, instances_for, resolved_as, resolution}
use Rattle.cfa_resolve.specs.declared.instances.Instance.{Instance}
use Rattle.cfa_resolve.specs.declared.instances.Work.{Work}
use Rattle.cfa_resolve.specs.declared.instances.Work.TheVariants.{Acts, Call, Report}
use Rattle.cfa_scripts.specs.declared.scripting.Scripted.{Scripted}
use Rattle.cfa_scripts.specs.declared.scripting.Scripted.TheVariants.{Script as a_script, Unresolved as no_script, TooMany as script_many, TooLong as script_long, BadPattern as bad_pattern, BadValue as bad_value}
use Rattle.cfa_values.specs.Attributes.{value_of}
use Rattle.cfa_vars.specs.Expansion.{Chosen}

-- what the work calls, if it calls, is such
abbrev pub MayCall : (List ℕ → Type 0) → Work → Type 0
MayCall P (Acts acts) = Unit {0}
MayCall P (Call name given) = P name
MayCall P (Report content) = Unit {0}

module _ (P : List ℕ → Type 0) where
  abbrev pub InstanceMayCall : Instance → Type 0
  InstanceMayCall i = MayCall P i.work

  module _ (r : Reached) (calls : r.type ≡ promises.Methods → (choice : Chosen) → MayCall P (call_by r choice (value_of (codes "usebundle") r.promise.attributes))) where
    work_may : (choice : Chosen) (bodies : Bodies) (scripted : Option Scripted) (type : PromiseType) → r.type ≡ type → MayCall P (work_by r choice bodies scripted type)
    work_may choice bodies scripted promises.Files is = tt
    work_may choice bodies scripted promises.Services is = tt
    work_may choice bodies scripted promises.Methods is = calls is choice
    work_may choice bodies scripted promises.Reports is = tt
    work_may choice bodies scripted type is = tt

    bust_may : (reason : Reason) → InstanceMayCall (bust_instance r reason)
    bust_may reason = tt

    timed_may : (choice : Chosen) (bodies : Bodies) (scripted : Option Scripted) (minutes : Option ℕ) → InstanceMayCall (timed r choice bodies scripted minutes)
    timed_may choice bodies scripted None = tt
    timed_may choice bodies scripted (Some minutes) = work_may choice bodies scripted r.type refl

    made_may : (choice : Chosen) (bodies : Bodies) (scripted : Option Scripted) → InstanceMayCall (made_instance r choice bodies scripted)
    unfolding made_instance
    made_may choice bodies scripted = timed_may choice bodies scripted _

    handed_may : (bodies : Bodies) (reason : Reason) → InstanceMayCall (handed_instance r bodies reason)
    unfolding handed_instance
    handed_may bodies reason = tt

    abbrev MadeMayCall : Option Instance → Type 0
    MadeMayCall None = Unit {0}
    MadeMayCall (Some i) = InstanceMayCall i

    script_may : (choice : Chosen) (bodies : Bodies) (scripted : Option Scripted) → MadeMayCall (instance_in (made_by_script r choice bodies scripted))
    script_may choice bodies (Some (no_script name)) = tt
    script_may choice bodies (Some script_many) = handed_may bodies reasons.TooMany
    script_may choice bodies (Some script_long) = handed_may bodies reasons.TooLong
    script_may choice bodies (Some (a_script edits)) = made_may choice bodies (Some (a_script edits))
    script_may choice bodies (Some bad_pattern) = made_may choice bodies (Some bad_pattern)
    script_may choice bodies (Some bad_value) = made_may choice bodies (Some bad_value)
    script_may choice bodies None = made_may choice bodies None

    many_may : (choice : Chosen) (bodies : Bodies) (scripted : Option Scripted) → MadeMayCall (instance_in (made_by r choice bodies scripted many_in_body))
    many_may choice bodies (Some (no_script name)) = tt
    many_may choice bodies (Some script_many) = bust_may reasons.TooMany
    many_may choice bodies (Some script_long) = bust_may reasons.TooMany
    many_may choice bodies (Some (a_script edits)) = bust_may reasons.TooMany
    many_may choice bodies (Some bad_pattern) = bust_may reasons.TooMany
    many_may choice bodies (Some bad_value) = bust_may reasons.TooMany
    many_may choice bodies None = bust_may reasons.TooMany

    long_may : (choice : Chosen) (bodies : Bodies) (scripted : Option Scripted) → MadeMayCall (instance_in (made_by r choice bodies scripted long_in_body))
    long_may choice bodies (Some (no_script name)) = tt
    long_may choice bodies (Some script_many) = bust_may reasons.TooLong
    long_may choice bodies (Some script_long) = bust_may reasons.TooLong
    long_may choice bodies (Some (a_script edits)) = bust_may reasons.TooLong
    long_may choice bodies (Some bad_pattern) = bust_may reasons.TooLong
    long_may choice bodies (Some bad_value) = bust_may reasons.TooLong
    long_may choice bodies None = bust_may reasons.TooLong

    heard_may : (choice : Chosen) (bodies : Bodies) (scripted : Option Scripted) (h : Heard) → MadeMayCall (instance_in (made_by r choice bodies scripted h))
    heard_may choice bodies scripted (lacks_body name) = tt
    heard_may choice bodies scripted many_in_body = many_may choice bodies scripted
    heard_may choice bodies scripted long_in_body = long_may choice bodies scripted
    heard_may choice bodies scripted all_heard = script_may choice bodies scripted

    one_may : (choice : Chosen) → MadeMayCall (instance_in (made_for r choice))
    unfolding made
    one_may choice = heard_may choice _ _ _

    more_may : (o : Option Instance) (is : List Instance) → MadeMayCall o → Each InstanceMayCall is → Each InstanceMayCall (cons_option o is)
    more_may None is may all = all
    more_may (Some i) is may all = (may, all)

    among_may : (choices : List Chosen) → Each InstanceMayCall (instances_for r choices)
    among_may [] = tt
    among_may (choice ∷ choices) = more_may (instance_in (made_for r choice)) (instances_for r choices) (one_may choice) (among_may choices)

    combined_may : (c : Combined) → Each InstanceMayCall (resolved_as r c).instances
    combined_may (lacks name) = tt
    combined_may too_many = (bust_may reasons.TooMany, tt)
    combined_may (too_long combinations) = (bust_may reasons.TooLong, tt)
    combined_may (found choices) = among_may choices

    pub instances_may : Each InstanceMayCall (resolution r).instances
    unfolding resolution
    instances_may = combined_may _
