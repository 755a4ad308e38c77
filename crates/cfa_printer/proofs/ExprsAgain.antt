-- What is printed of a class expression is read as that expression.
use Rattle.std.proofs.Common.{◌≡◌, refl, sym, ap, subst, ℕ, Bool, true, false, List, [], ◌∷◌, ◌++◌}
use Rattle.std.specs.Prelude.{IsTrue, not, codes, ◌==◌}
use Rattle.std.specs.List.{flat_map, list_all}
use Rattle.std.proofs.lemmas.Bool.{false≢true, and_parts, eqb-true}
use Rattle.std.proofs.lemmas.List.{append_assoc}
use Rattle.cfa_base.specs.Joined.{joined}
use Rattle.cfa_base.specs.declared.places.Place.{Place}
use Rattle.cfa_base.specs.Tokens.{Token}
use Rattle.cfa_base.specs.Lexing.{is_word_byte, is_word, place_after}
use Rattle.cfa_base.specs.lemmas.Taking.{begins_other, takes_word, takes_bang, takes_open_paren, takes_close_paren, takes_dot, takes_bar}
use Rattle.cfa_tree.specs.Grammar.{Levels, Opens, dot, Atom, Atoms, Conj, Conjs, Guard, not_atom, in_parentheses as parenthesised, class_name, no_atom, next_atom, no_conj, next_conj}
use Rattle.cfa_tree.specs.Grammar.Conj.{conj}
use Rattle.cfa_tree.specs.Grammar.Guard.{guard}
use Rattle.cfa_tree.specs.Tree.{ExprTree, class, negated, all_of, one_of, ExprTrees, no_expr, more_exprs, expr_trees}
use Rattle.cfa_printer.specs.declared.expressions.Around.{Around}
use Rattle.cfa_printer.specs.declared.expressions.Around.TheVariants.{Nothing, Or, And}
use Rattle.cfa_printer.specs.Printing.{in_parentheses, printed_expr, printed_exprs}
use Rattle.cfa_printer.proofs.Readable.{Several, ReadableExpr, EachExpr}
use Rattle.cfa_printer.proofs.Standing.{Stands, nothing, one_token, alone, begun, goes_on, ended, read_as, at_bytes, ends_word, more_end}

-- the line of the grammar that an expression is read by where it stands
abbrev pub ExprLine : Levels → Around → ExprTree → List Token → List Token → Type 0
ExprLine levels Nothing e us ts = Guard levels us e ts
ExprLine levels Or e us ts = Conj levels us e ts
ExprLine levels And e us ts = Atom levels us e ts

an_atom : (levels : Levels) (around : Around) (e : ExprTree) (us ts : List Token) → Atom levels us e ts → ExprLine levels around e us ts
an_atom levels Nothing e us ts atom = guard (conj atom no_atom) no_conj
an_atom levels Or e us ts atom = conj atom no_atom
an_atom levels And e us ts atom = atom

-- the expressions as a list
abbrev pub exprs_of : ExprTrees → List ExprTree
exprs_of no_expr = []
exprs_of (more_exprs e es) = e ∷ exprs_of es

pub exprs_back : (es : ExprTrees) → expr_trees (exprs_of es) ≡ es
exprs_back no_expr = refl
exprs_back (more_exprs e es) = ap (more_exprs e) (exprs_back es)

-- no expression begins with `|`

word_begins : (name rest : List ℕ) → IsTrue (is_word name) → IsTrue (begins_other 124 (name ++ rest))
word_begins [] rest word = absurd (false≢true word)
word_begins (b ∷ bs) rest word = not_bar (b == 124) refl
  where
    not_bar : (t : Bool) → (b == 124) ≡ t → IsTrue (not t)
    not_bar true is = absurd (false≢true (subst (λ (x : ℕ). IsTrue (is_word_byte x)) (eqb-true b 124 is) (and_parts (is_word_byte b) (list_all is_word_byte bs) word).0))
    not_bar false is = refl

behind_first : (x xs rest : List ℕ) → IsTrue (begins_other 124 (x ++ (xs ++ rest))) → IsTrue (begins_other 124 ((x ++ xs) ++ rest))
behind_first x xs rest h = subst (λ (bytes : List ℕ). IsTrue (begins_other 124 bytes)) (sym (append_assoc x xs rest)) h

mutual
  expr_begins : (levels : Levels) (around : Around) (e : ExprTree) (rest : List ℕ) → ReadableExpr levels around e → IsTrue (begins_other 124 (printed_expr around e ++ rest))
  expr_begins levels around (class name) rest r = word_begins name rest r
  expr_begins levels around (negated e) rest r = refl
  expr_begins levels Nothing (all_of es) rest r = each_begins levels And es (codes ".") rest r.0 r.1
  expr_begins levels Or (all_of es) rest r = each_begins levels And es (codes ".") rest r.0 r.1
  expr_begins levels And (all_of es) rest r = refl
  expr_begins levels Nothing (one_of es) rest r = each_begins levels Or es (codes "|") rest r.0 r.1
  expr_begins levels Or (one_of es) rest r = refl
  expr_begins levels And (one_of es) rest r = refl

  each_begins : (levels : Levels) (around : Around) (es : ExprTrees) (separator rest : List ℕ) → Several es → EachExpr levels around es → IsTrue (begins_other 124 (joined separator (printed_exprs around es) ++ rest))
  each_begins levels around no_expr separator rest several r = absurd several
  each_begins levels around (more_exprs e es) separator rest several r = behind_first (printed_expr around e) _ rest (expr_begins levels around e _ r.0)

-- `(` and `)` around a guard
enclosed : {levels inside : Levels} {e : ExprTree} {place : Place} (inner rest : List ℕ) → Opens levels inside →
    Stands (λ us ts. Guard inside us e ts) (place_after place (40 ∷ [])) (inner ++ 41 ∷ rest) (41 ∷ rest) →
    Stands (λ us ts. Atom levels us e ts) place (in_parentheses inner ++ rest) rest
enclosed inner rest opens stands =
    begun (takes_open_paren _)
    (at_bytes (append_assoc inner (41 ∷ []) rest) (ended stands (one_token (takes_close_paren rest)) (λ us ts g. g)))
    (λ us ts g. parenthesised opens g)

mutual
  pub expr_stands : (levels : Levels) (around : Around) (e : ExprTree) → ReadableExpr levels around e → (place : Place) (rest : List ℕ) → IsTrue (ends_word rest) →
      Stands (ExprLine levels around e) place (printed_expr around e ++ rest) rest
  expr_stands levels around (class name) r place rest end =
      alone (takes_word name rest r end) (λ ts. an_atom levels around (class name) _ ts class_name)
  expr_stands levels around (negated e) (inside, opens, r) place rest end =
      begun (takes_bang _) (expr_stands inside And e r _ rest end) (λ us ts atom. an_atom levels around (negated e) _ ts (not_atom opens atom))
  expr_stands levels Nothing (all_of es) r place rest end = read_as (conj_stands levels es r.0 r.1 place rest end) (λ us ts c. guard c no_conj)
  expr_stands levels Or (all_of es) r place rest end = conj_stands levels es r.0 r.1 place rest end
  expr_stands levels And (all_of es) (inside, opens, several, r) place rest end =
      enclosed _ rest opens (read_as (conj_stands inside es several r _ (41 ∷ rest) refl) (λ us ts c. guard c no_conj))
  expr_stands levels Nothing (one_of es) r place rest end = guard_stands levels es r.0 r.1 place rest end
  expr_stands levels Or (one_of es) (inside, opens, several, r) place rest end =
      read_as (enclosed _ rest opens (guard_stands inside es several r _ (41 ∷ rest) refl)) (λ us ts a. conj a no_atom)
  expr_stands levels And (one_of es) (inside, opens, several, r) place rest end =
      enclosed _ rest opens (guard_stands inside es several r _ (41 ∷ rest) refl)

  conj_stands : (levels : Levels) (es : ExprTrees) → Several es → EachExpr levels And es → (place : Place) (rest : List ℕ) → IsTrue (ends_word rest) →
      Stands (λ us ts. Conj levels us (all_of es) ts) place (joined (codes ".") (printed_exprs And es) ++ rest) rest
  conj_stands levels no_expr several r place rest end = absurd several
  conj_stands levels (more_exprs e no_expr) several r place rest end = absurd several
  conj_stands levels (more_exprs e (more_exprs f es)) several r place rest end =
      let first = expr_stands levels And e r.0 place _ (more_end 46 [] (printed_exprs And (more_exprs f es)) rest refl end) in
      at_bytes (append_assoc (printed_expr And e) (flat_map (λ y. codes "." ++ y) (printed_exprs And (more_exprs f es))) rest)
      (goes_on first (atoms_stand levels (more_exprs f es) r.1 _ rest end)
      (λ us ts vs a more. subst (λ (x : ExprTrees). Conj levels us (all_of (more_exprs e x)) vs) (exprs_back (more_exprs f es)) (conj a more)))

  atoms_stand : (levels : Levels) (es : ExprTrees) → EachExpr levels And es → (place : Place) (rest : List ℕ) → IsTrue (ends_word rest) →
      Stands (λ us ts. Atoms levels us (exprs_of es) ts) place (flat_map (λ y. codes "." ++ y) (printed_exprs And es) ++ rest) rest
  atoms_stand levels no_expr r place rest end = nothing (λ ts. no_atom)
  atoms_stand levels (more_exprs e es) r place rest end =
      let first = expr_stands levels And e r.0 (place_after place (46 ∷ [])) _ (more_end 46 [] (printed_exprs And es) rest refl end) in
      begun (takes_dot _)
      (at_bytes (append_assoc (printed_expr And e) (flat_map (λ y. codes "." ++ y) (printed_exprs And es)) rest)
      (goes_on {Line = λ us ts. (vs : List Token) × Atom levels us e vs × Atoms levels vs (exprs_of es) ts} first (atoms_stand levels es r.1 _ rest end) (λ us ts vs a more. (ts, a, more))))
      (λ us ts h. next_atom dot h.1 h.2)

  guard_stands : (levels : Levels) (es : ExprTrees) → Several es → EachExpr levels Or es → (place : Place) (rest : List ℕ) → IsTrue (ends_word rest) →
      Stands (λ us ts. Guard levels us (one_of es) ts) place (joined (codes "|") (printed_exprs Or es) ++ rest) rest
  guard_stands levels no_expr several r place rest end = absurd several
  guard_stands levels (more_exprs e no_expr) several r place rest end = absurd several
  guard_stands levels (more_exprs e (more_exprs f es)) several r place rest end =
      let first = expr_stands levels Or e r.0 place _ (more_end 124 [] (printed_exprs Or (more_exprs f es)) rest refl end) in
      at_bytes (append_assoc (printed_expr Or e) (flat_map (λ y. codes "|" ++ y) (printed_exprs Or (more_exprs f es))) rest)
      (goes_on first (conjs_stand levels (more_exprs f es) r.1 _ rest end)
      (λ us ts vs c cs. subst (λ (x : ExprTrees). Guard levels us (one_of (more_exprs e x)) vs) (exprs_back (more_exprs f es)) (guard c cs)))

  conjs_stand : (levels : Levels) (es : ExprTrees) → EachExpr levels Or es → (place : Place) (rest : List ℕ) → IsTrue (ends_word rest) →
      Stands (λ us ts. Conjs levels us (exprs_of es) ts) place (flat_map (λ y. codes "|" ++ y) (printed_exprs Or es) ++ rest) rest
  conjs_stand levels no_expr r place rest end = nothing (λ ts. no_conj)
  conjs_stand levels (more_exprs e es) r place rest end =
      let begins = expr_begins levels Or e (flat_map (λ y. codes "|" ++ y) (printed_exprs Or es) ++ rest) r.0 in
      let assoc = append_assoc (printed_expr Or e) (flat_map (λ y. codes "|" ++ y) (printed_exprs Or es)) rest in
      let first = expr_stands levels Or e r.0 (place_after place (124 ∷ [])) _ (more_end 124 [] (printed_exprs Or es) rest refl end) in
      begun (takes_bar _ (subst (λ (x : List ℕ). IsTrue (begins_other 124 x)) (sym assoc) begins))
      (at_bytes assoc
      (goes_on {Line = λ us ts. (vs : List Token) × Conj levels us e vs × Conjs levels vs (exprs_of es) ts} first (conjs_stand levels es r.1 _ rest end) (λ us ts vs c more. (ts, c, more))))
      (λ us ts h. next_conj h.1 h.2)
