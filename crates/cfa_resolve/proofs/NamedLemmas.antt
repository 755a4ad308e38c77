-- The instances of a promise have the path of its activation and its id.
use Rattle.std.proofs.Common.{ℕ, List, [], ◌∷◌, Option, Some, None, refl}
use Rattle.std.proofs.lemmas.List.Elements.{All-cons, All-nil}
use Rattle.std.specs.Prelude.{All}
use Rattle.std.specs.List.{cons_option}
use Rattle.cfa_acts.specs.declared.acts.Reason.{Reason}
use Rattle.cfa_acts.specs.declared.acts.Reason.TheVariants as reasons
use Rattle.cfa_vars.specs.Expansion.{Chosen}
use Rattle.cfa_defines.specs.declared.combining.Combined.{Combined}
use Rattle.cfa_defines.specs.declared.combining.Combined.TheVariants.{Lacks as lacks, TooMany as too_many, TooLong as too_long, Found as found}
use Rattle.cfa_bodies.specs.declared.hearing.Heard.{Heard}
use Rattle.cfa_bodies.specs.declared.hearing.Heard.TheVariants.{Lacks as lacks_body, TooMany as many_in_body, TooLong as long_in_body, All as all_heard}
use Rattle.cfa_resolve.specs.declared.instances.Instance.{Instance}
use Rattle.cfa_resolve.specs.declared.combinations.Made.{Made}
use Rattle.cfa_resolve.specs.declared.combinations.Made.TheVariants.{Instance as an_instance, Nothing as nothing_for}
use Rattle.cfa_bodies.specs.Bodies.{Bodies}
use Rattle.cfa_resolve.specs.Instances.{Reached, bust_instance, made_instance, handed_instance, timed}
use Rattle.cfa_scripts.specs.declared.scripting.Scripted.{Scripted}
use Rattle.cfa_scripts.specs.declared.scripting.Scripted.TheVariants.{Script as a_script, Unresolved as no_script, TooMany as script_many, TooLong as script_long, BadPattern as bad_pattern, BadValue as bad_value}
use Rattle.cfa_resolve.specs.Laws.{IsInstanceOf, InstancesAreNamed}
use Rattle.cfa_resolve.specs.Resolution.{made, made_by, made_by_script, unless_unresolved, made_for, instance_in, instances_for, resolved_as, resolution}

IsMade : Reached → Made → Type 0
IsMade r (an_instance i) = IsInstanceOf r i
IsMade r (nothing_for name) = Unit {0}

bust_is : (r : Reached) (reason : Reason) → IsInstanceOf r (bust_instance r reason)
bust_is r reason = record { path = refl; source = refl }

timed_is : (r : Reached) (choice : Chosen) (bodies : Bodies) (scripted : Option Scripted) (minutes : Option ℕ) → IsInstanceOf r (timed r choice bodies scripted minutes)
timed_is r choice bodies scripted None = record { path = refl; source = refl }
timed_is r choice bodies scripted (Some minutes) = record { path = refl; source = refl }

made_is : (r : Reached) (choice : Chosen) (bodies : Bodies) (scripted : Option Scripted) → IsInstanceOf r (made_instance r choice bodies scripted)
unfolding made_instance
made_is r choice bodies scripted = timed_is r choice bodies scripted _

handed_is : (r : Reached) (bodies : Bodies) (reason : Reason) → IsInstanceOf r (handed_instance r bodies reason)
unfolding handed_instance
handed_is r bodies reason = record { path = refl; source = refl }

by_script : (r : Reached) (choice : Chosen) (bodies : Bodies) (scripted : Option Scripted) → IsMade r (made_by_script r choice bodies scripted)
unfolding IsMade
by_script r choice bodies (Some (no_script name)) = tt
by_script r choice bodies (Some script_many) = handed_is r bodies reasons.TooMany
by_script r choice bodies (Some script_long) = handed_is r bodies reasons.TooLong
by_script r choice bodies (Some (a_script edits)) = made_is r choice bodies (Some (a_script edits))
by_script r choice bodies (Some bad_pattern) = made_is r choice bodies (Some bad_pattern)
by_script r choice bodies (Some bad_value) = made_is r choice bodies (Some bad_value)
by_script r choice bodies None = made_is r choice bodies None

unless_is : (r : Reached) (scripted : Option Scripted) (m : Made) → IsMade r m → IsMade r (unless_unresolved scripted m)
unfolding IsMade
unless_is r (Some (no_script name)) m is = tt
unless_is r (Some script_many) m is = is
unless_is r (Some script_long) m is = is
unless_is r (Some (a_script edits)) m is = is
unless_is r (Some bad_pattern) m is = is
unless_is r (Some bad_value) m is = is
unless_is r None m is = is

by_heard : (r : Reached) (choice : Chosen) (bodies : Bodies) (scripted : Option Scripted) (h : Heard) → IsMade r (made_by r choice bodies scripted h)
unfolding IsMade
by_heard r choice bodies scripted (lacks_body name) = tt
by_heard r choice bodies scripted many_in_body = unless_is r scripted (an_instance (bust_instance r reasons.TooMany)) (bust_is r reasons.TooMany)
by_heard r choice bodies scripted long_in_body = unless_is r scripted (an_instance (bust_instance r reasons.TooLong)) (bust_is r reasons.TooLong)
by_heard r choice bodies scripted all_heard = by_script r choice bodies scripted

each_is : (r : Reached) (choice : Chosen) → IsMade r (made_for r choice)
unfolding made
each_is r choice = by_heard r choice _ _ _

with_made : (r : Reached) (m : Made) (rest : List Instance) → IsMade r m → All (IsInstanceOf r) rest
    → All (IsInstanceOf r) (cons_option (instance_in m) rest)
unfolding IsMade
with_made r (an_instance i) rest is all = All-cons (IsInstanceOf r) i rest is all
with_made r (nothing_for name) rest is all = all

all_are : (r : Reached) (choices : List Chosen) → All (IsInstanceOf r) (instances_for r choices)
all_are r [] = All-nil (IsInstanceOf r)
all_are r (choice ∷ choices) = with_made r (made_for r choice) (instances_for r choices) (each_is r choice) (all_are r choices)

by_combined : (r : Reached) (c : Combined) → All (IsInstanceOf r) (resolved_as r c).instances
by_combined r (lacks name) = All-nil (IsInstanceOf r)
by_combined r too_many = All-cons (IsInstanceOf r) _ [] (bust_is r reasons.TooMany) (All-nil (IsInstanceOf r))
by_combined r (too_long combinations) = All-cons (IsInstanceOf r) _ [] (bust_is r reasons.TooLong) (All-nil (IsInstanceOf r))
by_combined r (found choices) = all_are r choices

pub instances_named : InstancesAreNamed
unfolding resolution
instances_named r = by_combined r _
