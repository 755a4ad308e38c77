-- How statuses in a run and in the open walk lie together: so do what operations make of them, and expressions under them.
use Rattle.std.proofs.Common.{ℕ, List}
use Rattle.cfa_tree.specs.Tree.{ExprTree, class, negated, all_of, one_of, ExprTrees, no_expr, more_exprs}
use Rattle.cfa_statuses.specs.declared.levels.Status.{Status}
use Rattle.cfa_statuses.specs.Status.{swapped, lesser, greater, value_of as status_of, least_of, greatest_of}
use Rattle.cfa_laws.specs.Statuses.{Within, no_no, no_maybe, yes_maybe, yes_yes}

pub within_swapped : {r w : Status} → Within r w → Within (swapped r) (swapped w)
within_swapped no_no = yes_yes
within_swapped no_maybe = yes_maybe
within_swapped yes_maybe = no_maybe
within_swapped yes_yes = no_no

pub within_lesser : {r w s v : Status} → Within r w → Within s v → Within (lesser r s) (lesser w v)
within_lesser no_no q = no_no
within_lesser no_maybe no_no = no_no
within_lesser no_maybe no_maybe = no_maybe
within_lesser no_maybe yes_maybe = no_maybe
within_lesser no_maybe yes_yes = no_maybe
within_lesser yes_maybe no_no = no_no
within_lesser yes_maybe no_maybe = no_maybe
within_lesser yes_maybe yes_maybe = yes_maybe
within_lesser yes_maybe yes_yes = yes_maybe
within_lesser yes_yes q = q

pub within_greater : {r w s v : Status} → Within r w → Within s v → Within (greater r s) (greater w v)
within_greater no_no q = q
within_greater no_maybe no_no = no_maybe
within_greater no_maybe no_maybe = no_maybe
within_greater no_maybe yes_maybe = yes_maybe
within_greater no_maybe yes_yes = yes_yes
within_greater yes_maybe no_no = yes_maybe
within_greater yes_maybe no_maybe = yes_maybe
within_greater yes_maybe yes_maybe = yes_maybe
within_greater yes_maybe yes_yes = yes_yes
within_greater yes_yes q = yes_yes

module _ (f g : List ℕ → Status) (within : (c : List ℕ) → Within (f c) (g c)) where
  abbrev mutual
    pub value_within : (e : ExprTree) → Within (status_of e f) (status_of e g)
    value_within (class c) = within c
    value_within (negated e) = within_swapped (value_within e)
    value_within (all_of es) = least_within es
    value_within (one_of es) = greatest_within es

    pub least_within : (es : ExprTrees) → Within (least_of es f) (least_of es g)
    least_within no_expr = yes_yes
    least_within (more_exprs e es) = within_lesser (value_within e) (least_within es)

    pub greatest_within : (es : ExprTrees) → Within (greatest_of es f) (greatest_of es g)
    greatest_within no_expr = no_no
    greatest_within (more_exprs e es) = within_greater (value_within e) (greatest_within es)
