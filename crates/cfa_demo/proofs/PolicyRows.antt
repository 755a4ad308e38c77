-- Demo policies that are known, whole.
use Rattle.std.proofs.Common.{◌≡◌, ℕ, ◌++◌, List, codes, refl}
use Rattle.std.specs.Fmt.{digits}
use Rattle.cfa_demo.specs.Policies.{text_of, promise_line, promise_lines, demo_text}

abbrev with_the_bodies : List ℕ → List ℕ
with_the_bodies text =
    text ++ codes "}\nbody perms m(x)\n{\n  mode => \"$(x)\";\n}\nbody classes r(x)\n{\n  promise_repaired => { \"$(x)\" };\n}\n"

pub of_one : demo_text 1 ≡ with_the_bodies (codes "bundle agent main\n{\n  files:\n    \"/d/f0\" content => \"0\";\n")
unfolding text_of promise_line promise_lines demo_text digits
of_one = refl

pub of_four :
    demo_text 4
    ≡ with_the_bodies (codes "bundle agent main\n{\n  files:\n    \"/d/f0\" content => \"0\";\n    \"/d/f1\" create => \"true\";\n    \"/d/f2\" create => \"true\", perms => m(\"644\");\n    \"/d/f3\" content => \"3\", classes => r(\"c3\");\n")
unfolding text_of promise_line promise_lines demo_text digits
of_four = refl

pub of_five :
    demo_text 5
    ≡ with_the_bodies (codes "bundle agent main\n{\n  files:\n    \"/d/f0\" content => \"0\";\n    \"/d/f1\" create => \"true\";\n    \"/d/f2\" create => \"true\", perms => m(\"644\");\n    \"/d/f3\" content => \"3\", classes => r(\"c3\");\n    \"/d/f4\" content => \"4\";\n")
unfolding text_of promise_line promise_lines demo_text digits
of_five = refl

-- the last promise of the greatest demo
pub promise_9999 : promise_line 9999 ≡ codes "    \"/d/f9999\" content => \"9999\", classes => r(\"c9999\");"
unfolding promise_line digits
promise_9999 = refl
