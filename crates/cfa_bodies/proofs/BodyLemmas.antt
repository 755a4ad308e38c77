-- What bodies say, one after the other.
use Rattle.std.proofs.Common.{◌≡◌, ◌∙◌, ◌<◌, ◌+◌, ℕ, List, [], ◌∷◌, ◌++◌, ap, sym, refl, map, drop, get_or, length, Option, Some, None}
use Rattle.std.specs.Option.{option_or}
use Rattle.std.proofs.lemmas.List.{drop_more}
use Rattle.cfa_tree.specs.Tree.{NamedTree}
use Rattle.cfa_vars.specs.Scopes.{Table}
use Rattle.cfa_bodies.specs.declared.sayings.Said.{Said}
use Rattle.cfa_bodies.specs.declared.sayings.Said.TheVariants.{Text as text_said, Items as items_said, Unresolved as unresolved, Over as over}
use Rattle.cfa_bodies.specs.Bodies.{bound_after, Sayings, Bodies, all_said, first_unresolved}

-- without arguments that are left nothing more is bound
pub bound_none : (table : Table) (params : List NamedTree) → bound_after table params [] ≡ table
bound_none table [] = refl
bound_none table (p ∷ params) = refl

-- ---- the first that is unresolved

pub first-append : (said more : List Said) → first_unresolved (said ++ more) ≡ option_or (first_unresolved said) (first_unresolved more)
first-append [] more = refl
first-append (text_said content ∷ said) more = first-append said more
first-append (items_said items ∷ said) more = first-append said more
first-append (unresolved name ∷ said) more = refl
first-append (over has_many ∷ said) more = first-append said more

pub first_here : (bodies : Bodies) (i : ℕ) (b : List ℕ × Sayings) (name : Option (List ℕ)) → i < length bodies → b ≡ get_or bodies i b → Some name ≡ first_unresolved (map (λ s. s.1) b.1) → first_unresolved (all_said (drop i bodies)) ≡ Some name
first_here bodies i b name h is e =
    ap (λ bs. first_unresolved (all_said bs)) (drop_more bodies i b h)
    ∙ ap (λ x. first_unresolved (all_said (x ∷ drop (i + 1) bodies))) (sym is)
    ∙ first-append (map (λ s. s.1) b.1) (all_said (drop (i + 1) bodies))
    ∙ ap (λ o. option_or o (first_unresolved (all_said (drop (i + 1) bodies)))) (sym e)

pub first_later : (bodies : Bodies) (i : ℕ) (b : List ℕ × Sayings) → i < length bodies → b ≡ get_or bodies i b → None ≡ first_unresolved (map (λ s. s.1) b.1) → first_unresolved (all_said (drop i bodies)) ≡ first_unresolved (all_said (drop (i + 1) bodies))
first_later bodies i b h is e =
    ap (λ bs. first_unresolved (all_said bs)) (drop_more bodies i b h)
    ∙ ap (λ x. first_unresolved (all_said (x ∷ drop (i + 1) bodies))) (sym is)
    ∙ first-append (map (λ s. s.1) b.1) (all_said (drop (i + 1) bodies))
    ∙ ap (λ o. option_or o (first_unresolved (all_said (drop (i + 1) bodies)))) (sym e)
