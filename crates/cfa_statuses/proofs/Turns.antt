-- One turn of a loop over the parts of an expression, for a function from classes to statuses.
use Rattle.std.proofs.Common.{◌≡◌, ℕ, ◌+◌, ◌<◌, ◌≤◌, List, length, drop, get_or, sym, ap, add-one, drop-cons}
use Rattle.std.proofs.lemmas.List.{drop_all}
use Rattle.std.specs.declared.alloc.Global.{Global}
use Rattle.std.specs.declared.vec.Vec.{Vec}
use Rattle.cfa_tree.specs.declared.expressions.Expr.{Expr, And, Or}
use Rattle.cfa_tree.specs.Plain.{plain_expr}
use Rattle.cfa_tree.specs.lemmas.Rows.{plain_parts, plain_expr-And, plain_expr-Or}
use Rattle.cfa_statuses.specs.declared.levels.Status.{Status}
use Rattle.cfa_statuses.specs.declared.levels.Status.TheVariants.{No, Yes}
use Rattle.cfa_statuses.specs.Status.{lesser, greater, value_of, least_of, greatest_of}
use Rattle.cfa_statuses.specs.lemmas.Orders.{lesser_assoc, greater_assoc, lesser_Yes, greater_No}

module _ (status : List ℕ → Status) where
  pub least_begins : (e : Expr) (parts : Vec Expr Global) (items : List Expr) → e ≡ And parts → items ≡ parts.items → lesser Yes (least_of (plain_parts items) status) ≡ value_of (plain_expr e) status
  least_begins e parts items is same = rw (is, same) (sym (ap (λ x. value_of x status) (plain_expr-And parts)))

  pub greatest_begins : (e : Expr) (parts : Vec Expr Global) (items : List Expr) → e ≡ Or parts → items ≡ parts.items → greater No (greatest_of (plain_parts items) status) ≡ value_of (plain_expr e) status
  greatest_begins e parts items is same = rw (is, same) (sym (ap (λ x. value_of x status) (plain_expr-Or parts)))

  pub least_goes_on : (so_far : Status) (items : List Expr) (i : ℕ) (part : Expr) → i < length items → part ≡ get_or items i part →
      lesser so_far (least_of (plain_parts (drop i items)) status) ≡ lesser (lesser so_far (value_of (plain_expr part) status)) (least_of (plain_parts (drop (i + 1) items)) status)
  least_goes_on so_far items i part below is =
      rw (add-one, drop-cons items i part, ← is) (sym (lesser_assoc so_far (value_of (plain_expr part) status) _))

  pub greatest_goes_on : (so_far : Status) (items : List Expr) (i : ℕ) (part : Expr) → i < length items → part ≡ get_or items i part →
      greater so_far (greatest_of (plain_parts (drop i items)) status) ≡ greater (greater so_far (value_of (plain_expr part) status)) (greatest_of (plain_parts (drop (i + 1) items)) status)
  greatest_goes_on so_far items i part below is =
      rw (add-one, drop-cons items i part, ← is) (sym (greater_assoc so_far (value_of (plain_expr part) status) _))

  pub least_ends : (so_far : Status) (items : List Expr) (i : ℕ) → length items ≤ i → so_far ≡ lesser so_far (least_of (plain_parts (drop i items)) status)
  least_ends so_far items i past = rw drop_all (sym (lesser_Yes so_far))

  pub greatest_ends : (so_far : Status) (items : List Expr) (i : ℕ) → length items ≤ i → so_far ≡ greater so_far (greatest_of (plain_parts (drop i items)) status)
  greatest_ends so_far items i past = rw drop_all (sym (greater_No so_far))
