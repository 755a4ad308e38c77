-- The tree of the demo policy of a number of promises, with each part at the place where it stands in the text: the main
-- bundle, whose promises stand on the lines from the fourth on, and behind it the two bodies.
use Rattle.std.specs.Prelude.{ℕ, zero, suc, ◌+◌, ◌%◌, ◌==◌, List, [], ◌∷◌, ◌++◌, None, if◌then◌else◌, codes}
use Rattle.std.specs.Fmt.{decimal}
use Rattle.cfa_base.specs.declared.places.Place.{Place}
use Rattle.cfa_base.specs.Lexing.{place_after}
use Rattle.cfa_tree.specs.Tree.{text, list, call, value_trees, AttributeTree, PromiseTree, NamedTree, BlockTree, bundle, body, PolicyTree}

-- ---- places

-- in the one file of a demo
abbrev pub at : (line col : ℕ) → Place
at line col = record { file = 0; line = line; col = col }

abbrev pub quoted : (content : List ℕ) → List ℕ
quoted content = 34 ∷ content ++ 34 ∷ []

abbrev pub behind_text : Place → (content : List ℕ) → Place
behind_text place content = place_after place (quoted content)

-- ---- attributes

-- where the value of an attribute begins
abbrev pub value_place : Place → (name : List ℕ) → Place
value_place place name = place_after place (name ++ codes " => ")

-- an attribute with a text
abbrev pub says : Place → (name content : List ℕ) → AttributeTree
says place name content = record { name = name; value = text content (value_place place name); place = place }

-- an attribute with a body that is given a text
abbrev pub gives : Place → (name function content : List ℕ) → AttributeTree
gives place name function content = record {
  name = name;
  value = call function (value_trees (text content (place_after (value_place place name) (function ++ codes "(")) ∷ [])) (value_place place name);
  place = place;
}

-- where an attribute begins that stands behind one with a text
abbrev pub next_place : Place → (name content : List ℕ) → Place
next_place place name content = place_after (behind_text (value_place place name) content) (codes ", ")

-- ---- promises

abbrev pub file_of : ℕ → List ℕ
file_of k = codes "/d/f" ++ decimal k

abbrev pub class_of : ℕ → List ℕ
class_of k = codes "c" ++ decimal k

-- what is promised of a file, by the number modulo 4
abbrev pub attributes_by : (kind k : ℕ) → Place → List AttributeTree
attributes_by kind k place =
    if kind == 0 then says place (codes "content") (decimal k) ∷ []
    else (if kind == 1 then says place (codes "create") (codes "true") ∷ []
    else (if kind == 2 then
    says place (codes "create") (codes "true")
    ∷ gives (next_place place (codes "create") (codes "true")) (codes "perms") (codes "m") (codes "644") ∷ []
    else
    says place (codes "content") (decimal k)
    ∷ gives (next_place place (codes "content") (decimal k)) (codes "classes") (codes "r") (class_of k) ∷ []))

-- the promise of a number, on this line
abbrev pub promise_by : (line kind k : ℕ) → PromiseTree
promise_by line kind k = record {
  guard = None;
  promiser = file_of k;
  promisee = None;
  attributes = attributes_by kind k (place_after (behind_text (at line 5) (file_of k)) (codes " "));
  place = at line 5;
}

unfoldable pub promise_tree : ℕ → PromiseTree
promise_tree k = promise_by (k + 4) (k % 4) k

-- the promises of the numbers below n, in order
unfoldable pub promise_trees : ℕ → List PromiseTree
promise_trees zero = []
promise_trees (suc k) = promise_trees k ++ promise_tree k ∷ []

-- ---- blocks

abbrev pub named : List ℕ → Place → NamedTree
named name place = record { name = name; place = place }

-- the bundle with these promises
abbrev pub main_bundle : List PromiseTree → BlockTree
main_bundle promises =
    bundle (named (codes "agent") (at 1 8)) (named (codes "main") (at 1 14)) []
    (record { kind = codes "files"; promises = promises; place = at 3 3 } ∷ []) (at 1 1)

-- the body of permissions, by its line and that of its attribute
abbrev pub perms_body : (line inner : ℕ) → BlockTree
perms_body line inner =
    body (named (codes "perms") (at line 6)) (named (codes "m") (at line 12)) (named (codes "x") (at line 14) ∷ [])
    (record { name = codes "mode"; value = text (codes "$(x)") (at inner 11); place = at inner 3 } ∷ []) (at line 1)

-- the body of classes
abbrev pub classes_body : (line inner : ℕ) → BlockTree
classes_body line inner =
    body (named (codes "classes") (at line 6)) (named (codes "r") (at line 14)) (named (codes "x") (at line 16) ∷ [])
    (record {
      name = codes "promise_repaired";
      value = list (value_trees (text (codes "$(x)") (at inner 25) ∷ [])) (at inner 23);
      place = at inner 3;
    } ∷ []) (at line 1)

unfoldable pub demo_tree : ℕ → PolicyTree
demo_tree n = main_bundle (promise_trees n) ∷ perms_body (n + 5) (n + 7) ∷ classes_body (n + 9) (n + 11) ∷ []
