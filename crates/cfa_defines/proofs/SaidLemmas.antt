-- What several expressions say together, one more at a time.
use Rattle.std.proofs.Common.{◌≡◌, ◌∙◌, List, [], ◌∷◌, ◌++◌, ap, sym, refl}
use Rattle.cfa_base.specs.lemmas.Lists.{option_or-none, option_or-assoc}
use Rattle.cfa_statuses.specs.declared.levels.Status.{Status}
use Rattle.cfa_statuses.specs.Status.{lesser, greater}
use Rattle.cfa_statuses.specs.lemmas.Orders.{lesser_assoc, greater_assoc, lesser_Yes, greater_No}
use Rattle.cfa_defines.specs.declared.saying.Said.{Said}
use Rattle.cfa_defines.specs.declared.saying.Said.TheVariants.{Says as says, NoExpression as no_expression, Stops as stops}
use Rattle.cfa_defines.specs.declared.saying.Join.{Join}
use Rattle.cfa_defines.specs.declared.saying.Join.TheVariants.{All as of_all, One as of_one}
use Rattle.cfa_defines.specs.ClassPromises.{joined}
use Rattle.cfa_defines.specs.OfTheCode.{operation, together}

-- ---- two at a time

joined_assoc_by : (op : Status → Status → Status) → ((s t u : Status) → op (op s t) u ≡ op s (op t u)) → (a b c : Said) → joined op (joined op a b) c ≡ joined op a (joined op b c)
joined_assoc_by op assoc stops b c = refl
joined_assoc_by op assoc no_expression stops c = refl
joined_assoc_by op assoc no_expression no_expression stops = refl
joined_assoc_by op assoc no_expression no_expression no_expression = refl
joined_assoc_by op assoc no_expression no_expression (says u h) = refl
joined_assoc_by op assoc no_expression (says t g) stops = refl
joined_assoc_by op assoc no_expression (says t g) no_expression = refl
joined_assoc_by op assoc no_expression (says t g) (says u h) = refl
joined_assoc_by op assoc (says s f) stops c = refl
joined_assoc_by op assoc (says s f) no_expression stops = refl
joined_assoc_by op assoc (says s f) no_expression no_expression = refl
joined_assoc_by op assoc (says s f) no_expression (says u h) = refl
joined_assoc_by op assoc (says s f) (says t g) stops = refl
joined_assoc_by op assoc (says s f) (says t g) no_expression = refl
joined_assoc_by op assoc (says s f) (says t g) (says u h) = λ i. says (assoc s t u i) (option_or-assoc f g h i)

pub joined_assoc : (j : Join) (a b c : Said) → joined (operation j) (joined (operation j) a b) c ≡ joined (operation j) a (joined (operation j) b c)
joined_assoc of_all a b c = joined_assoc_by lesser lesser_assoc a b c
joined_assoc of_one a b c = joined_assoc_by greater greater_assoc a b c

-- what no expression says changes nothing
pub joined_start : (j : Join) (a : Said) → joined (operation j) a (together j []) ≡ a
joined_start of_all stops = refl
joined_start of_all no_expression = refl
joined_start of_all (says s f) = λ i. says (lesser_Yes s i) (option_or-none f i)
joined_start of_one stops = refl
joined_start of_one no_expression = refl
joined_start of_one (says s f) = λ i. says (greater_No s i) (option_or-none f i)

pub start_joined : (j : Join) (a : Said) → joined (operation j) (together j []) a ≡ a
start_joined of_all stops = refl
start_joined of_all no_expression = refl
start_joined of_all (says s f) = refl
start_joined of_one stops = refl
start_joined of_one no_expression = refl
start_joined of_one (says s f) = refl

-- ---- one more at a time

pub together_more : (j : Join) (said : Said) (more : List Said) → together j (said ∷ more) ≡ joined (operation j) said (together j more)
together_more of_all said more = refl
together_more of_one said more = refl

pub together_one : (j : Join) (said : Said) → together j (said ∷ []) ≡ said
together_one j said = together_more j said [] ∙ joined_start j said

pub together_append : (j : Join) (said more : List Said) → together j (said ++ more) ≡ joined (operation j) (together j said) (together j more)
together_append j [] more = sym (start_joined j (together j more))
together_append j (s ∷ said) more =
    together_more j s (said ++ more)
    ∙ ap (joined (operation j) s) (together_append j said more)
    ∙ sym (joined_assoc j s (together j said) (together j more))
    ∙ ap (λ t. joined (operation j) t (together j more)) (sym (together_more j s said))

-- what was said so far, one more and those behind it
pub joined_more : (j : Join) (so_far said : Said) (more : List Said) → joined (operation j) (joined (operation j) so_far said) (together j more) ≡ joined (operation j) so_far (together j (said ∷ more))
joined_more j so_far said more =
    joined_assoc j so_far said (together j more) ∙ ap (joined (operation j) so_far) (sym (together_more j said more))

pub joined_list : (j : Join) (so_far : Said) (said more : List Said) → joined (operation j) (joined (operation j) so_far (together j said)) (together j more) ≡ joined (operation j) so_far (together j (said ++ more))
joined_list j so_far said more =
    joined_assoc j so_far (together j said) (together j more) ∙ ap (joined (operation j) so_far) (sym (together_append j said more))
