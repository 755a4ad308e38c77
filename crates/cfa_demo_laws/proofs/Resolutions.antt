-- What the promises of a demo resolve to, in whatever view.
use Rattle.std.proofs.Common.{sym, subst, ℕ, ◌≤◌, List}
use Rattle.std.specs.Prelude.{Contains}
use Rattle.std.specs.List.{AllByRecursion as Each}
use Rattle.std.proofs.lemmas.List.Elements.{All-contains, All-from_recursion}
use Rattle.cfa_acts.specs.declared.acts.Act.{Act}
use Rattle.cfa_kinds.specs.declared.kinds.PromiseType.TheVariants as promises
use Rattle.cfa_resolve.specs.declared.instances.Instance.{Instance}
use Rattle.cfa_resolve.specs.declared.instances.Resolved.{Resolved}
use Rattle.cfa_resolve.specs.Resolution.{reached_at, resolution}
use Rattle.cfa_tree.specs.Tree.{PromiseTree}
use Rattle.cfa_demo_laws.specs.Trees.{demo_tree}
use Rattle.cfa_demo_laws.specs.Resolved.{IsOfDemo, DemoCountsOne, HasAct, DemoNeverDisturbs}
use Rattle.cfa_demo_laws.proofs.Acting.{IsActOf}
use Rattle.cfa_demo_laws.proofs.Resolving.{one_visit}
use Rattle.cfa_demo_laws.proofs.Simple.{Simple, promise_is_simple, of_number}
use Rattle.cfa_demo_laws.proofs.Works.{DoesFor, instances_do, never_disturbs}

contained : {X : Type 0} (P : X → Type 0) (xs : List X) (x : X) → Each P xs → Contains xs x → P x
contained P xs x all has = All-contains P xs x (All-from_recursion P xs all) has

pub demo_counts_one : DemoCountsOne
demo_counts_one n resolved few view =
    let of = of_number n view.promise few view.stands in
    let simple = subst Simple (sym of.is) (promise_is_simple of.line of.kind of.number of.number_below of.kind_below) in
    let reached = reached_at (demo_tree n) view.id view.scopes view.statuses view.path (promises.Files, view.promise) in
    subst (λ (r : Resolved). r.visits ≤ 1) (sym view.is) (one_visit reached simple.no_edits simple.no_names)

-- the act is one of the promise of some number
record IsOfSome (act : Act) : Type 0 where
  number : ℕ
  is_act : IsActOf number act

acts_of_demo : (n : ℕ) (resolved : Resolved) (act : Act) → n ≤ 10000 → IsOfDemo n resolved → HasAct resolved act → IsOfSome act
acts_of_demo n resolved act few view has =
    let of = of_number n view.promise few view.stands in
    let all = subst (λ (p : PromiseTree). Each (λ (i : Instance). DoesFor of.number i.work) (resolution (reached_at (demo_tree n) view.id view.scopes view.statuses view.path (promises.Files, p))).instances)
    (sym of.is) (instances_do n of.line of.number of.number_below view.id view.scopes view.statuses view.path of.kind of.kind_below) in
    let here = subst (λ (r : Resolved). Each (λ (i : Instance). DoesFor of.number i.work) r.instances) (sym view.is) all in
    let does = contained (λ (i : Instance). DoesFor of.number i.work) resolved.instances has.instance here has.stands in
    let acts = subst (DoesFor of.number) has.work_is does in
    record { number = of.number; is_act = contained (IsActOf of.number) has.acts act acts has.is_act }

pub demo_never_disturbs : DemoNeverDisturbs
demo_never_disturbs n resolved other earlier later few first second has also =
    let known = acts_of_demo n resolved earlier few first has in
    let is = acts_of_demo n other later few second also in
    never_disturbs is.number known.number later earlier is.is_act known.is_act
