-- The demo policy of a number of promises: an agent bundle `main` with a files promise for each number from 0, and the two
-- bodies that some of these use. What a promise asks for goes by its number modulo 4: a content, a file, a file with
-- permissions, or a content whose repair sets a class.
use Rattle.std.specs.Prelude.{ℕ, zero, suc, ◌%◌, ◌==◌, List, [], ◌∷◌, ◌++◌, if◌then◌else◌, codes}
use Rattle.std.specs.Fmt.{decimal}
use Rattle.std.specs.List.{flat_map}

abbrev pub ended : (line : List ℕ) → List ℕ
ended line = line ++ codes "\n"

-- lines, each ended by a newline
unfoldable pub text_of : List (List ℕ) → List ℕ
text_of lines = flat_map ended lines

abbrev pub opening : List (List ℕ)
opening = codes "bundle agent main" ∷ codes "{" ∷ codes "  files:" ∷ []

abbrev pub ending : List (List ℕ)
ending =
    codes "}"
    ∷ codes "body perms m(x)" ∷ codes "{" ∷ codes "  mode => \"$(x)\";" ∷ codes "}"
    ∷ codes "body classes r(x)" ∷ codes "{" ∷ codes "  promise_repaired => { \"$(x)\" };" ∷ codes "}" ∷ []

-- the promise of a number: its file, with what is promised of it
abbrev pub promising : ℕ → (promised : List ℕ) → List ℕ
promising k promised = codes "    \"/d/f" ++ (decimal k ++ (codes "\" " ++ promised))

-- the number as the content
abbrev pub content : ℕ → List ℕ
content k = codes "content => \"" ++ (decimal k ++ codes "\"")

unfoldable pub promise_line : ℕ → List ℕ
promise_line k =
    if k % 4 == 0 then promising k (content k ++ codes ";")
    else (if k % 4 == 1 then promising k (codes "create => \"true\";")
    else (if k % 4 == 2 then promising k (codes "create => \"true\", perms => m(\"644\");")
    else promising k (content k ++ (codes ", classes => r(\"c" ++ (decimal k ++ codes "\");")))))

-- the promises of the numbers below n, in order
unfoldable pub promise_lines : ℕ → List (List ℕ)
promise_lines zero = []
promise_lines (suc k) = promise_lines k ++ promise_line k ∷ []

unfoldable pub demo_text : ℕ → List ℕ
demo_text n = text_of (opening ++ (promise_lines n ++ ending))
