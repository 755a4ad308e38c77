-- The canonical text of a policy, part by part: one text for each tree, which says what the tree says and reads back to
-- it. Every line of it ends with a newline.
use Rattle.std.specs.Prelude.{ℕ, ◌||◌, ◌==◌, if◌then◌else◌, List, [], ◌∷◌, ◌++◌, map, Option, Some, None, codes}
use Rattle.std.specs.List.{flat_map}
use Rattle.cfa_base.specs.Joined.{joined}
use Rattle.cfa_tree.specs.Tree.{ExprTree, class, negated, all_of, one_of, ExprTrees, no_expr, more_exprs, ValueTree, text, word, reference, list_reference, list, call, ValueTrees, no_value, more_values, AttributeTree, PromiseTree, SectionTree, NamedTree, BlockTree, bundle, body, PolicyTree}
use Rattle.cfa_printer.specs.declared.expressions.Around.{Around}
use Rattle.cfa_printer.specs.declared.expressions.Around.TheVariants.{Nothing, Or, And}
use Rattle.cfa_printer.specs.SameExpr.{same_guard}

abbrev pub in_parentheses : List ℕ → List ℕ
in_parentheses inner = 40 ∷ inner ++ 41 ∷ []

-- a backslash stands before each `"` and each backslash
abbrev pub escaped : ℕ → List ℕ
escaped b = if (b == 34) || (b == 92) then 92 ∷ b ∷ [] else b ∷ []

-- a text in `"`
abbrev pub quoted : List ℕ → List ℕ
quoted content = 34 ∷ flat_map escaped content ++ 34 ∷ []

-- Class expressions.

-- an And takes parentheses in an And and under `!`
abbrev pub all_of_in : Around → List ℕ → List ℕ
all_of_in Nothing inner = inner
all_of_in Or inner = inner
all_of_in And inner = in_parentheses inner

-- an Or takes parentheses in an Or, in an And and under `!`
abbrev pub one_of_in : Around → List ℕ → List ℕ
one_of_in Nothing inner = inner
one_of_in Or inner = in_parentheses inner
one_of_in And inner = in_parentheses inner

abbrev mutual
  -- an expression by what it stands in; what stands under `!` stands as in an And
  pub printed_expr : Around → ExprTree → List ℕ
  printed_expr around (class name) = name
  printed_expr around (negated e) = 33 ∷ printed_expr And e
  printed_expr around (all_of es) = all_of_in around (joined (codes ".") (printed_exprs And es))
  printed_expr around (one_of es) = one_of_in around (joined (codes "|") (printed_exprs Or es))

  pub printed_exprs : Around → ExprTrees → List (List ℕ)
  printed_exprs around no_expr = []
  printed_exprs around (more_exprs e es) = printed_expr around e ∷ printed_exprs around es

-- Values.

-- `{ a, b }`, and `{ }` for none
abbrev pub listed : List (List ℕ) → List ℕ
listed [] = codes "{ }"
listed (x ∷ xs) = codes "{ " ++ (joined (codes ", ") (x ∷ xs) ++ codes " }")

abbrev mutual
  pub printed_value : ValueTree → List ℕ
  printed_value (text content place) = quoted content
  printed_value (word name place) = name
  printed_value (reference name place) = 36 ∷ in_parentheses name
  printed_value (list_reference name place) = 64 ∷ in_parentheses name
  printed_value (list items place) = listed (printed_values items)
  printed_value (call function arguments place) = function ++ in_parentheses (joined (codes ", ") (printed_values arguments))

  pub printed_values : ValueTrees → List (List ℕ)
  printed_values no_value = []
  printed_values (more_values v vs) = printed_value v ∷ printed_values vs

-- `NAME => VALUE`
abbrev pub printed_attribute : AttributeTree → List ℕ
printed_attribute a = a.name ++ (codes " => " ++ printed_value a.value)

-- Promises.

-- ` -> ` and the promisee, where there is one
abbrev pub printed_promisee : Option ValueTree → List ℕ
printed_promisee None = []
printed_promisee (Some v) = codes " -> " ++ printed_value v

-- a space and the attributes, where there are some
abbrev pub printed_attributes : List AttributeTree → List ℕ
printed_attributes [] = []
printed_attributes (a ∷ more) = 32 ∷ joined (codes ", ") (map printed_attribute (a ∷ more))

abbrev pub printed_promise : PromiseTree → List ℕ
printed_promise p = codes "    " ++ (quoted p.promiser ++ (printed_promisee p.promisee ++ (printed_attributes p.attributes ++ codes ";\n")))

-- the class `any` for no guard
abbrev pub printed_guard : Option ExprTree → List ℕ
printed_guard None = codes "any"
printed_guard (Some e) = printed_expr Nothing e

-- the line of a guard, where it differs from that of the promise before; before the first promise stands none
abbrev pub guard_line : (before guard : Option ExprTree) → List ℕ
guard_line before guard = if same_guard before guard then [] else codes "    " ++ (printed_guard guard ++ codes "::\n")

-- the promises behind one with such a guard
abbrev pub printed_promises : (before : Option ExprTree) → List PromiseTree → List ℕ
printed_promises before [] = []
printed_promises before (p ∷ more) = guard_line before p.guard ++ (printed_promise p ++ printed_promises p.guard more)

-- Blocks.

abbrev pub printed_section : SectionTree → List ℕ
printed_section s = codes "  " ++ (s.kind ++ (codes ":\n" ++ printed_promises None s.promises))

abbrev pub printed_body_attribute : AttributeTree → List ℕ
printed_body_attribute a = codes "  " ++ (printed_attribute a ++ codes ";\n")

abbrev pub printed_name : NamedTree → List ℕ
printed_name n = n.name

-- no parentheses where there are no parameters
abbrev pub printed_params : List NamedTree → List ℕ
printed_params [] = []
printed_params (n ∷ more) = in_parentheses (joined (codes ", ") (map printed_name (n ∷ more)))

-- a block by its first word, up to its first brace
abbrev pub head_of : (first : List ℕ) (kind name : NamedTree) (params : List NamedTree) → List ℕ
head_of first kind name params = first ++ (32 ∷ kind.name ++ (32 ∷ name.name ++ (printed_params params ++ codes "\n{\n")))

abbrev pub printed_block : BlockTree → List ℕ
printed_block (bundle kind name params sections place) = head_of (codes "bundle") kind name params ++ (flat_map printed_section sections ++ codes "}\n")
printed_block (body kind name params attributes place) = head_of (codes "body") kind name params ++ (flat_map printed_body_attribute attributes ++ codes "}\n")

abbrev pub printed : PolicyTree → List ℕ
printed = flat_map printed_block
