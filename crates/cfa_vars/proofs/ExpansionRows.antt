-- Worked rows of references, look-ups and expansions.
use Rattle.std.proofs.Common.{◌≡◌, ℕ, List, [], ◌∷◌, ◌++◌, codes, refl}
use Rattle.cfa_vars.specs.declared.scoping.Datum.TheVariants.{Text as text_of, List as list_of}
use Rattle.cfa_vars.specs.declared.expanding.Expanded.TheVariants.{Done, Unresolved}
use Rattle.cfa_vars.specs.References.{literal, reference, reference_at, pieces, names_in}
use Rattle.cfa_vars.specs.Scopes.{Table, InScope, look, key_of}
use Rattle.cfa_vars.specs.Expansion.{Chosen, scalar, expanded}

-- a `$` at the end is itself
dollar_at_end : pieces (codes "a$") ≡ literal 97 ∷ literal 36 ∷ []
unfolding pieces reference_at
dollar_at_end = refl

round : pieces (codes "$(x)b") ≡ reference (codes "x") ∷ literal 98 ∷ []
unfolding pieces reference_at
round = refl

curly : pieces (codes "${a.b}") ≡ reference (codes "a.b") ∷ []
unfolding pieces reference_at
curly = refl

-- an open bracket in a reference begins another one
nested : pieces (codes "$($(x))") ≡ literal 36 ∷ literal 40 ∷ reference (codes "x") ∷ literal 41 ∷ []
unfolding pieces reference_at
nested = refl

two_dollars : pieces (codes "$$(x)") ≡ literal 36 ∷ reference (codes "x") ∷ []
unfolding pieces reference_at
two_dollars = refl

side_by_side : names_in (codes "$(x)$(y_1)-${a.b}") ≡ codes "x" ∷ codes "y_1" ∷ codes "a.b" ∷ []
unfolding pieces reference_at
side_by_side = refl

-- none of these is a reference
no_names : (names_in (codes "$x") ≡ []) × (names_in (codes "$()") ≡ []) × (names_in (codes "$(a b)") ≡ []) × (names_in (codes "$(x}") ≡ []) × (names_in (codes "${x)") ≡ []) × (names_in (codes "$(x") ≡ []) × (names_in (codes "$(a.b.c)") ≡ []) × (names_in (codes "$(.b)") ≡ []) × (names_in (codes "$(b.)") ≡ []) × (names_in (codes "$(a-b)") ≡ []) × (names_in (codes "$[x]") ≡ []) × (names_in (codes "@(x)") ≡ []) × (names_in (codes "$") ≡ [])
unfolding pieces reference_at
no_names = (refl, refl, refl, refl, refl, refl, refl, refl, refl, refl, refl, refl, refl)

-- the bundle `main`, in which x is `v`, y is `$(x)` and l a list, beside the bundle `b` with x and l of its own
abbrev own : Table
own = (codes "x", text_of (codes "v")) ∷ (codes "y", text_of (codes "$(x)")) ∷ (codes "l", list_of (codes "i" ∷ codes "j" ∷ [])) ∷ []

abbrev other : Table
other = (codes "x", text_of (codes "w")) ∷ (codes "l", list_of []) ∷ []

abbrev main : InScope
main = record { own = own; own_name = codes "main"; shared = (codes "b", other) ∷ (codes "main", []) ∷ (codes "const", other) ∷ [] }

abbrev body : InScope
body = record { own = own; own_name = []; shared = (codes "b", other) ∷ [] }

abbrev chosen : Chosen
chosen = (codes "l", codes "j") ∷ (codes "l", codes "i") ∷ []

abbrev expands : InScope → Chosen → List ℕ → List ℕ → Type 0
expands scopes choice text whole = expanded scopes choice text ≡ Done whole

abbrev stays_open : InScope → Chosen → List ℕ → List ℕ → Type 0
stays_open scopes choice text name = expanded scopes choice text ≡ Unresolved name

-- what is put in is not read again
value_as_it_stands : expands main [] (codes "$(y)") (codes "$(x)")
unfolding expanded scalar look key_of pieces reference_at
value_as_it_stands = refl

-- so a `$` that is put in begins no reference
dollar_put_in : expands main [] (codes "$(const.dollar)(x)$(const.n)$(const.t)") (codes "$(x)" ++ 10 ∷ 9 ∷ [])
unfolding expanded scalar look key_of pieces reference_at
dollar_put_in = refl

-- a variable of the own bundle, of another bundle, and of the own bundle by its qualified name, which the scope that is
-- shared under that name doesn't hide
bundles : expands main [] (codes "$(x)$(b.x)${main.x}$") (codes "vwv$")
unfolding expanded scalar look key_of pieces reference_at
bundles = refl

-- a list gives the item that was chosen for it first, however it is referred to
items : expands main chosen (codes "$(l)$(main.l)") (codes "jj")
unfolding expanded scalar look key_of pieces reference_at
items = refl

-- the list of another bundle is another list
other_list : stays_open main chosen (codes "$(l)$(b.l)") (codes "b.l")
unfolding expanded scalar look key_of pieces reference_at
other_list = refl

-- a name that was never set, a bundle that isn't there, a constant that there isn't; the first of them is told as it
-- is written
unset : (stays_open main [] (codes "$(x)$(z)$(b.y)") (codes "z")) × (stays_open main [] (codes "$(b.y)$(z)") (codes "b.y")) × (stays_open main [] (codes "$(c.x)") (codes "c.x")) × (stays_open main [] (codes "$(const.x)") (codes "const.x")) × (stays_open main [] (codes "$(main.z)") (codes "main.z"))
unfolding expanded scalar look key_of pieces reference_at
unset = (refl, refl, refl, refl, refl)

-- in a body a list has no item, and a bundle with an empty name is none
in_body : (stays_open body [] (codes "$(l)") (codes "l")) × (stays_open body [] (codes "$(main.x)") (codes "main.x")) × (expands body [] (codes "$(x)$(b.x)$(.x)") (codes "vw$(.x)"))
unfolding expanded scalar look key_of pieces reference_at
in_body = (refl, refl, refl)

no_reference : expands main [] (codes "@(l) $x $(a b)") (codes "@(l) $x $(a b)")
unfolding expanded scalar look key_of pieces reference_at
no_reference = refl

nothing : expands main [] [] []
unfolding expanded pieces
nothing = refl
