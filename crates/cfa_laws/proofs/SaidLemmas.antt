-- What an expression says, told in words of this crate: a status with its first Maybe class, or that it is no expression, or that
-- nothing comes of its promise. What is made of such sayings is told in the same words.
use Rattle.std.proofs.Common.{◌≡◌, ℕ, Bool, true, false, List, [], Option, Some, None, refl, ap, ap₂, ◌∙◌}
use Rattle.std.specs.Option.{option_or}
use Rattle.cfa_tree.specs.Tree.{ExprTree, class, negated, all_of, one_of, ExprTrees, no_expr, more_exprs}
use Rattle.cfa_statuses.specs.declared.levels.Status.{Status}
use Rattle.cfa_statuses.specs.declared.levels.Status.TheVariants.{No, Maybe, Yes}
use Rattle.cfa_statuses.specs.Status.{swapped, lesser, greater, value_of, least_of, greatest_of}
use Rattle.cfa_functions.specs.declared.answering.Answer.TheVariants.{Unresolved}
use Rattle.cfa_defines.specs.FirstMaybe.{if_maybe, first_maybe, first_maybe_among}
use Rattle.cfa_defines.specs.ClassPromises.{said_of, answer_said, joined, all_said, opposite, Raise, stops_all, raise_of}

abbrev Taken : {A B : Type 0} → (A → B) → Type 0
Taken {A = A} f = A

-- what an expression says; the type has no name outside of its crate
abbrev pub Said : Type 0
Said = Taken opposite

pub data Told : Type 0 where
  tells : Status → Option (List ℕ) → Told
  tells_nothing : Told
  halts : Told

-- the saying of a status with its first Maybe class
abbrev saying : Status → Option (List ℕ) → Said
saying s None = joined (λ a b. s) (all_said []) (all_said [])
saying s (Some name) = joined (λ a b. s) (said_of (λ c. Maybe) (Some (class name))) (all_said [])

abbrev pub said : Told → Said
said (tells s first) = saying s first
said tells_nothing = said_of (λ c. No) None
said halts = answer_said Unresolved

-- ---- what is made of sayings

abbrev pub opposite_told : Told → Told
opposite_told (tells s first) = tells (swapped s) first
opposite_told tells_nothing = tells_nothing
opposite_told halts = halts

abbrev pub joined_told : (Status → Status → Status) → Told → Told → Told
joined_told op (tells s first) (tells t next) = tells (op s t) (option_or first next)
joined_told op (tells s first) tells_nothing = tells_nothing
joined_told op (tells s first) halts = halts
joined_told op tells_nothing (tells t next) = tells_nothing
joined_told op tells_nothing tells_nothing = tells_nothing
joined_told op tells_nothing halts = halts
joined_told op halts told = halts

abbrev pub told_stops : Told → Bool
told_stops (tells s first) = false
told_stops tells_nothing = false
told_stops halts = true

abbrev pub told_raise : List ℕ → Told → Option Raise
told_raise name (tells s first) = Some (name, (s, first))
told_raise name tells_nothing = None
told_raise name halts = None

pub opposite_said : (t : Told) → opposite (said t) ≡ said (opposite_told t)
opposite_said (tells s None) = refl
opposite_said (tells s (Some name)) = refl
opposite_said tells_nothing = refl
opposite_said halts = refl

pub joined_said : (op : Status → Status → Status) (t u : Told) → joined op (said t) (said u) ≡ said (joined_told op t u)
joined_said op (tells s None) (tells t None) = refl
joined_said op (tells s None) (tells t (Some other)) = refl
joined_said op (tells s (Some name)) (tells t None) = refl
joined_said op (tells s (Some name)) (tells t (Some other)) = refl
joined_said op (tells s None) tells_nothing = refl
joined_said op (tells s (Some name)) tells_nothing = refl
joined_said op (tells s None) halts = refl
joined_said op (tells s (Some name)) halts = refl
joined_said op tells_nothing (tells t None) = refl
joined_said op tells_nothing (tells t (Some other)) = refl
joined_said op tells_nothing tells_nothing = refl
joined_said op tells_nothing halts = refl
joined_said op halts u = refl

pub stops_said : (name : List ℕ) (t : Told) → stops_all (Some (name, said t)) ≡ told_stops t
stops_said name (tells s None) = refl
stops_said name (tells s (Some other)) = refl
stops_said name tells_nothing = refl
stops_said name halts = refl

pub raise_said : (name : List ℕ) (t : Told) → raise_of (Some (name, said t)) ≡ told_raise name t
raise_said name (tells s None) = refl
raise_said name (tells s (Some other)) = refl
raise_said name tells_nothing = refl
raise_said name halts = refl

-- ---- what an expression says

by_name : (name : List ℕ) (s : Status) → said_of (λ c. s) (Some (class name)) ≡ said (tells s (if_maybe name s))
by_name name No = refl
by_name name Maybe = refl
by_name name Yes = refl

module _ (status : List ℕ → Status) where
  mutual
    pub expression_said : (e : ExprTree) → said_of status (Some e) ≡ said (tells (value_of e status) (first_maybe e status))
    expression_said (class name) = by_name name (status name)
    expression_said (negated e) = ap opposite (expression_said e) ∙ opposite_said (tells (value_of e status) (first_maybe e status))
    expression_said (all_of es) = least_said es
    expression_said (one_of es) = greatest_said es

    least_said : (es : ExprTrees) → said_of status (Some (all_of es)) ≡ said (tells (least_of es status) (first_maybe_among es status))
    least_said no_expr = refl
    least_said (more_exprs e es) =
        ap₂ (joined lesser) (expression_said e) (least_said es)
        ∙ joined_said lesser (tells (value_of e status) (first_maybe e status)) (tells (least_of es status) (first_maybe_among es status))

    greatest_said : (es : ExprTrees) → said_of status (Some (one_of es)) ≡ said (tells (greatest_of es status) (first_maybe_among es status))
    greatest_said no_expr = refl
    greatest_said (more_exprs e es) =
        ap₂ (joined greater) (expression_said e) (greatest_said es)
        ∙ joined_said greater (tells (value_of e status) (first_maybe e status)) (tells (greatest_of es status) (first_maybe_among es status))
