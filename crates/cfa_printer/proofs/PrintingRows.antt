-- Worked rows: trees with their canonical text.
use Rattle.std.proofs.Common.{◌≡◌, ℕ, List, [], ◌∷◌, refl, None, Some}
use Rattle.std.specs.Prelude.{Option, codes, true, false}
use Rattle.cfa_base.specs.Lexing.{content_of}
use Rattle.cfa_tree.specs.Tree.{ExprTree, class, negated, all_of, one_of, expr_trees, text, word, reference, list_reference, list, call, value_trees, AttributeTree, PromiseTree, bundle, body}
use Rattle.cfa_tree.specs.lemmas.PolicyA.{tree_a}
use Rattle.cfa_tree.specs.lemmas.Written.{here, named, says}
use Rattle.cfa_printer.specs.declared.expressions.Around.TheVariants.{Nothing}
use Rattle.cfa_printer.specs.SameExpr.{same_expr}
use Rattle.cfa_printer.specs.Printing.{quoted, printed, printed_expr, printed_value, printed_promises}

abbrev promise : Option ExprTree → List ℕ → List AttributeTree → PromiseTree
promise guard promiser attributes = record { guard = guard; promiser = promiser; promisee = None; attributes = attributes; place = here }

a_file_that_is_created : printed tree_a ≡ codes "bundle agent main\n{\n  files:\n    \"/etc/motd\" create => \"true\";\n}\n"
a_file_that_is_created = refl

no_block : printed [] ≡ []
no_block = refl

-- a guard with no promise behind it stands in no tree, so it isn't printed
a_section_without_promises : printed (bundle (named (codes "agent")) (named (codes "main")) [] (record { kind = codes "files"; promises = []; place = here } ∷ []) here ∷ [])
    ≡ codes "bundle agent main\n{\n  files:\n}\n"
a_section_without_promises = refl

two_blocks : printed
    (bundle (named (codes "agent")) (named (codes "main")) [] [] here
    ∷ body (named (codes "perms")) (named (codes "m")) (named (codes "x") ∷ named (codes "y") ∷ []) (says (codes "mode") (text (codes "$(x)") here) ∷ []) here ∷ [])
    ≡ codes "bundle agent main\n{\n}\nbody perms m(x, y)\n{\n  mode => \"$(x)\";\n}\n"
two_blocks = refl

guards : printed_promises None
    (promise None (codes "/1") [] ∷ promise (Some (class (codes "a"))) (codes "/2") [] ∷ promise (Some (class (codes "a"))) (codes "/3") []
    ∷ promise (Some (class (codes "b"))) (codes "/4") [] ∷ promise None (codes "/5") [] ∷ promise None (codes "/6") [] ∷ [])
    ≡ codes "    \"/1\";\n    a::\n    \"/2\";\n    \"/3\";\n    b::\n    \"/4\";\n    any::\n    \"/5\";\n    \"/6\";\n"
guards = refl

a_promise_with_all : printed_promises None
    (record {
      guard = None;
      promiser = codes "/f";
      promisee = Some (word (codes "ops") here);
      place = here;
      attributes = says (codes "create") (text (codes "true") here) ∷ says (codes "perms") (call (codes "m") (value_trees (text (codes "644") here ∷ [])) here) ∷ [];
    } ∷ [])
    ≡ codes "    \"/f\" -> ops create => \"true\", perms => m(\"644\");\n"
a_promise_with_all = refl

lists : printed_value (list (value_trees (text (codes "a") here ∷ list_reference (codes "l") here ∷ reference (codes "b.c") here ∷ call (codes "f") (value_trees []) here ∷ [])) here)
    ≡ codes "{ \"a\", @(l), $(b.c), f() }"
lists = refl

no_item : printed_value (list (value_trees []) here) ≡ codes "{ }"
no_item = refl

two_arguments : printed_value (call (codes "f") (value_trees (word (codes "a") here ∷ list (value_trees []) here ∷ [])) here) ≡ codes "f(a, { })"
two_arguments = refl

-- `"`, `'` and a backslash
escapes : quoted (34 ∷ 39 ∷ 92 ∷ 110 ∷ []) ≡ 34 ∷ 92 ∷ 34 ∷ 39 ∷ 92 ∷ 92 ∷ 110 ∷ 34 ∷ []
escapes = refl

escapes_read_back : content_of (quoted (34 ∷ 39 ∷ 92 ∷ 110 ∷ [])) ≡ 34 ∷ 39 ∷ 92 ∷ 110 ∷ []
escapes_read_back = refl

abbrev a : ExprTree
a = class (codes "a")

abbrev b : ExprTree
b = class (codes "b")

abbrev c : ExprTree
c = class (codes "c")

no_parentheses : printed_expr Nothing (one_of (expr_trees (all_of (expr_trees (a ∷ negated b ∷ [])) ∷ negated (negated c) ∷ []))) ≡ codes "a.!b|!!c"
no_parentheses = refl

an_or_in_an_and : printed_expr Nothing (all_of (expr_trees (one_of (expr_trees (a ∷ b ∷ [])) ∷ c ∷ []))) ≡ codes "(a|b).c"
an_or_in_an_and = refl

under_a_bang : printed_expr Nothing (one_of (expr_trees (negated (one_of (expr_trees (a ∷ b ∷ []))) ∷ negated (all_of (expr_trees (a ∷ b ∷ []))) ∷ []))) ≡ codes "!(a|b)|!(a.b)"
under_a_bang = refl

each_in_its_own : printed_expr Nothing (one_of (expr_trees (one_of (expr_trees (a ∷ b ∷ [])) ∷ all_of (expr_trees (a ∷ all_of (expr_trees (b ∷ c ∷ [])) ∷ [])) ∷ []))) ≡ codes "(a|b)|a.(b.c)"
each_in_its_own = refl

same_parts : same_expr (all_of (expr_trees (a ∷ negated b ∷ []))) (all_of (expr_trees (a ∷ negated b ∷ []))) ≡ true
same_parts = refl

other_order : same_expr (all_of (expr_trees (a ∷ b ∷ []))) (all_of (expr_trees (b ∷ a ∷ []))) ≡ false
other_order = refl

one_part_more : same_expr (one_of (expr_trees (a ∷ b ∷ []))) (one_of (expr_trees (a ∷ b ∷ c ∷ []))) ≡ false
one_part_more = refl
