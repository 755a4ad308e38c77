-- A files promise whose texts refer to nothing and that has no edit bundle: its instances have acts, and it counts one visit.
use Rattle.std.proofs.Common.{◌≡◌, sym, ap, subst, ℕ, ◌≤◌, Bool, true, false, List, [], ◌∷◌, Option, Some, None, arith}
use Rattle.std.specs.Prelude.{⊤, option_map}
use Rattle.std.specs.List.{AllByRecursion as Each, cons_option, flat_map, list_any}
use Rattle.cfa_acts.specs.declared.acts.Act.TheVariants.{Bust}
use Rattle.cfa_acts.specs.declared.acts.Reason.{Reason}
use Rattle.cfa_acts.specs.declared.acts.Reason.TheVariants as reasons
use Rattle.cfa_bodies.specs.declared.hearing.Heard.{Heard}
use Rattle.cfa_bodies.specs.declared.hearing.Heard.TheVariants.{Lacks as lacks_body, TooMany as many_in_body, TooLong as long_in_body, All as all_heard}
use Rattle.cfa_bodies.specs.Bodies.{Bodies, bodies_of, heard}
use Rattle.cfa_defines.specs.declared.combining.Combined.{Combined}
use Rattle.cfa_defines.specs.declared.combining.Combined.TheVariants.{Lacks as lacks, TooMany as too_many, TooLong as too_long, Found as found}
use Rattle.cfa_defines.specs.declared.reads.Read.{Read}
use Rattle.cfa_defines.specs.OwnTexts.{own_reads, scalar_names, first_lacking, has_too_many, has_too_long, choices_among, found_or_too_long, combined_by, combined}
use Rattle.cfa_kinds.specs.declared.kinds.PromiseType.{PromiseType}
use Rattle.cfa_kinds.specs.declared.kinds.PromiseType.TheVariants as promises
use Rattle.cfa_vars.specs.Expansion.{Chosen}
use Rattle.cfa_vars.specs.Choices.{lists_among, all_choices}
use Rattle.cfa_scripts.specs.declared.scripting.Scripted.{Scripted}
use Rattle.cfa_scripts.specs.declared.scripting.Scripted.TheVariants.{Script as a_script, Unresolved as no_script, TooMany as script_many, TooLong as script_long, BadPattern as bad_pattern, BadValue as bad_value}
use Rattle.cfa_resolve.specs.declared.instances.Instance.{Instance}
use Rattle.cfa_resolve.specs.declared.instances.Work.{Work}
use Rattle.cfa_resolve.specs.declared.instances.Work.TheVariants.{Acts, Call, Report}
use Rattle.cfa_resolve.specs.Instances.{Reached, work_by, timed, minutes_in, made_instance, handed_instance}
use Rattle.cfa_scripts.specs.EditScripts.{walked}
use Rattle.cfa_resolve.specs.Resolution.{caller_of, edit_call, walked_for, scripted_in, visits_in, made_by_script, made_by, made, instance_in, made_for, instances_for, resolved_as, resolution}

abbrev pub IsActs : Work → Type 0
IsActs (Acts acts) = ⊤
IsActs (Call name arguments) = ⊥
IsActs (Report content) = ⊥

-- ---- what holds of its work holds of that of its instances

module _ (r : Reached) (P : Work → Type 0) (busts : (reason : Reason) → P (Acts (Bust reason ∷ []))) where
  abbrev Makes : Option Instance → Type 0
  Makes None = ⊤
  Makes (Some i) = P i.work

  abbrev Works : (choice : Chosen) (bodies : Bodies) (scripted : Option Scripted) → Type 0
  Works choice bodies scripted = P (work_by r choice bodies scripted r.type)

  timed_works : (choice : Chosen) (bodies : Bodies) (scripted : Option Scripted) (minutes : Option ℕ) → Works choice bodies scripted → P (timed r choice bodies scripted minutes).work
  timed_works choice bodies scripted None w = busts reasons.BadValue
  timed_works choice bodies scripted (Some minutes) w = w

  made_works : (choice : Chosen) (bodies : Bodies) (scripted : Option Scripted) → Works choice bodies scripted → P (made_instance r choice bodies scripted).work
  unfolding made_instance
  made_works choice bodies scripted w = timed_works choice bodies scripted (minutes_in r bodies) w

  script_works : (choice : Chosen) (bodies : Bodies) (scripted : Option Scripted) → Works choice bodies scripted → Makes (instance_in (made_by_script r choice bodies scripted))
  unfolding handed_instance
  script_works choice bodies (Some (no_script name)) w = tt
  script_works choice bodies (Some script_many) w = busts reasons.TooMany
  script_works choice bodies (Some script_long) w = busts reasons.TooLong
  script_works choice bodies (Some (a_script edits)) w = made_works choice bodies (Some (a_script edits)) w
  script_works choice bodies (Some bad_pattern) w = made_works choice bodies (Some bad_pattern) w
  script_works choice bodies (Some bad_value) w = made_works choice bodies (Some bad_value) w
  script_works choice bodies None w = made_works choice bodies None w

  many_works : (choice : Chosen) (bodies : Bodies) (scripted : Option Scripted) → Makes (instance_in (made_by r choice bodies scripted many_in_body))
  many_works choice bodies (Some (no_script name)) = tt
  many_works choice bodies (Some script_many) = busts reasons.TooMany
  many_works choice bodies (Some script_long) = busts reasons.TooMany
  many_works choice bodies (Some (a_script edits)) = busts reasons.TooMany
  many_works choice bodies (Some bad_pattern) = busts reasons.TooMany
  many_works choice bodies (Some bad_value) = busts reasons.TooMany
  many_works choice bodies None = busts reasons.TooMany

  long_works : (choice : Chosen) (bodies : Bodies) (scripted : Option Scripted) → Makes (instance_in (made_by r choice bodies scripted long_in_body))
  long_works choice bodies (Some (no_script name)) = tt
  long_works choice bodies (Some script_many) = busts reasons.TooLong
  long_works choice bodies (Some script_long) = busts reasons.TooLong
  long_works choice bodies (Some (a_script edits)) = busts reasons.TooLong
  long_works choice bodies (Some bad_pattern) = busts reasons.TooLong
  long_works choice bodies (Some bad_value) = busts reasons.TooLong
  long_works choice bodies None = busts reasons.TooLong

  heard_works : (choice : Chosen) (bodies : Bodies) (scripted : Option Scripted) (h : Heard) → Works choice bodies scripted → Makes (instance_in (made_by r choice bodies scripted h))
  heard_works choice bodies scripted (lacks_body name) w = tt
  heard_works choice bodies scripted many_in_body w = many_works choice bodies scripted
  heard_works choice bodies scripted long_in_body w = long_works choice bodies scripted
  heard_works choice bodies scripted all_heard w = script_works choice bodies scripted w

  abbrev WorksIn : Chosen → Type 0
  WorksIn choice = Works choice (bodies_of r.policy r.scopes choice r.type r.promise) (scripted_in (walked_for r choice))

  one_works : (choice : Chosen) → WorksIn choice → Makes (instance_in (made_for r choice))
  unfolding made
  one_works choice w =
      let bodies = bodies_of r.policy r.scopes choice r.type r.promise in
      heard_works choice bodies (scripted_in (walked_for r choice)) (heard bodies) w

  each_made : (made : Option Instance) (rest : List Instance) → Makes made → Each (λ i. P i.work) rest → Each (λ i. P i.work) (cons_option made rest)
  each_made (Some i) rest works all = (works, all)
  each_made None rest works all = all

  all_work : ((choice : Chosen) → WorksIn choice) → (choices : List Chosen) → Each (λ i. P i.work) (instances_for r choices)
  all_work w [] = tt
  all_work w (choice ∷ choices) = each_made (instance_in (made_for r choice)) (instances_for r choices) (one_works choice (w choice)) (all_work w choices)

  resolved_work : ((choice : Chosen) → WorksIn choice) → (c : Combined) → Each (λ i. P i.work) (resolved_as r c).instances
  resolved_work w (lacks name) = tt
  resolved_work w too_many = (busts reasons.TooMany, tt)
  resolved_work w (too_long combinations) = (busts reasons.TooLong, tt)
  resolved_work w (found choices) = all_work w choices

  pub instances_work : ((choice : Chosen) → WorksIn choice) → Each (λ i. P i.work) (resolution r).instances
  unfolding resolution
  instances_work w = resolved_work w (combined r.scopes (own_reads r.type r.promise))

pub instances_act : (r : Reached) → r.type ≡ promises.Files → Each (λ i. IsActs i.work) (resolution r).instances
instances_act r is_file = instances_work r IsActs (λ reason. tt) (λ choice.
    subst (λ (type : PromiseType). IsActs (work_by r choice (bodies_of r.policy r.scopes choice r.type r.promise) (scripted_in (walked_for r choice)) type)) (sym is_file) tt)

-- ---- it counts one visit

module _ (r : Reached) (no_edits : edit_call r ≡ None) where
  none_walked : (choice : Chosen) → visits_in (walked_for r choice) ≡ 0
  none_walked choice = ap (λ call. visits_in (option_map (λ value. walked (caller_of r choice) value) call)) no_edits

  one_choice : (is_long : Bool) → (resolved_as r (found_or_too_long is_long ([] ∷ []))).visits ≤ 1
  one_choice true = omega arith
  one_choice false = omega (arith, none_walked [])

  found_visits : (is_long : Bool) (choices : List Chosen) → choices ≡ [] ∷ [] → (resolved_as r (found_or_too_long is_long choices)).visits ≤ 1
  found_visits is_long choices one = subst (λ (cs : List Chosen). (resolved_as r (found_or_too_long is_long cs)).visits ≤ 1) (sym one) (one_choice is_long)

  visits_by : (reads : List Read) (lacking : Option (List ℕ)) (many : Bool) → choices_among r.scopes reads ≡ [] ∷ [] →
      (resolved_as r (combined_by r.scopes reads lacking many)).visits ≤ 1
  visits_by reads (Some name) many one = omega arith
  visits_by reads None true one = omega arith
  visits_by reads None false one = found_visits (list_any (has_too_long r.scopes reads) (choices_among r.scopes reads)) (choices_among r.scopes reads) one

  pub one_visit : flat_map scalar_names (own_reads r.type r.promise) ≡ [] → (resolution r).visits ≤ 1
  unfolding resolution combined
  one_visit none =
      let reads = own_reads r.type r.promise in
      visits_by reads (first_lacking r.scopes reads) (has_too_many r.scopes reads) (ap (λ names. all_choices (lists_among r.scopes names)) none)
