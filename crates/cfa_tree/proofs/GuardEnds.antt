-- What a guard becomes by the tokens that are left is what the grammar reads.
use Rattle.std.proofs.Common.{◌≡◌, List, [], ◌∷◌, Option, Some, None, ap, ◌∙◌, subst}
use Rattle.std.specs.Option.{option_and_then}
use Rattle.cfa_base.specs.Tokens.{Token}
use Rattle.cfa_tree.specs.Tree.{ExprTree}
use Rattle.cfa_tree.specs.Grammar.{Guard, depth_limit}
use Rattle.cfa_tree.specs.Guards.{GuardState, wants_atom, has_atom, GuardProgress, goes_on, ended, guard_start, guard_step, level_tree}
use Rattle.cfa_tree.specs.ClassTexts.{state_of, whole_guard, guard_by}
use Rattle.cfa_tree.specs.lemmas.Levels.{left_of-none}
use Rattle.cfa_tree.specs.lemmas.GuardRest.{GuardRest, GuardEarlier, guard_earlier, guard_starts, whole_rest}
use Rattle.cfa_tree.specs.lemmas.GuardRuns.{guard_run}

one_earlier : (g : GuardState) (t : Token) (ts : List Token) (tree : ExprTree) (o : Option GuardProgress) → GuardEarlier depth_limit g t o →
    ((next : GuardState) → guard_by ts next ≡ Some tree → GuardRest depth_limit next ts tree []) →
    option_and_then (guard_by ts) (state_of o) ≡ Some tree → GuardRest depth_limit g (t ∷ ts) tree []
one_earlier g t ts tree None earlier later is = absurd (cc)
one_earlier g t ts tree (Some (goes_on next)) earlier later is = earlier ts [] tree (later next is)
one_earlier g t ts tree (Some (ended e)) earlier later is = absurd (cc)

whole_is : (g : GuardState) (tree : ExprTree) → whole_guard g ≡ Some tree → GuardRest depth_limit g [] tree []
whole_is (has_atom cs es []) tree is =
    let same : level_tree cs es ≡ tree = cc in
    subst (λ (e : ExprTree). GuardRest depth_limit (has_atom cs es []) [] e []) same (whole_rest depth_limit cs es [])
whole_is (has_atom cs es (l ∷ outer)) tree is = absurd (cc)
whole_is (wants_atom l outer) tree is = absurd (cc)

rest_of : (ts : List Token) (g : GuardState) (tree : ExprTree) → guard_by ts g ≡ Some tree → GuardRest depth_limit g ts tree []
rest_of [] g tree is = whole_is g tree is
rest_of (t ∷ ts) g tree is =
    one_earlier g t ts tree (guard_step depth_limit g t.kind t.text) (guard_earlier depth_limit g t.kind t.text t.place) (λ next also. rest_of ts next tree also) is

-- what the tokens make of a guard, the grammar reads
pub guard_by_reads : (ts : List Token) (tree : ExprTree) → guard_by ts guard_start ≡ Some tree → Guard depth_limit ts tree []
guard_by_reads ts tree is = guard_starts depth_limit (rest_of ts guard_start tree is)

-- what the grammar reads, the tokens make of a guard
pub reads_guard_by : (ts : List Token) (tree : ExprTree) → Guard depth_limit ts tree [] → guard_by ts guard_start ≡ Some tree
reads_guard_by ts tree reads =
    let r = guard_run depth_limit (λ g us. guard_by us g) (λ g next k x p us e. ap (λ o. option_and_then (guard_by us) (state_of o)) e) reads [] (left_of-none depth_limit) in
    r.3 ∙ ap Some r.2
