-- How the line of a promise is read: whatever stands behind it, its tokens are the promise of its number.
use Rattle.std.proofs.Common.{◌≡◌, refl, sym, ◌∙◌, ap, subst, ℕ, zero, suc, ◌+◌, ◌%◌, ◌<◌, ◌==◌, List, [], ◌∷◌, ◌++◌, None, if◌then◌else◌, codes, append_assoc, arith}
use Rattle.std.specs.Fmt.{decimal}
use Rattle.cfa_base.specs.declared.places.Place.{Place}
use Rattle.cfa_base.specs.declared.tokens.Kind.TheVariants.{Text}
use Rattle.cfa_base.specs.Tokens.{Token}
use Rattle.cfa_base.specs.Lexing.{content_of, place_past, Lexes, a_separator, a_token}
use Rattle.cfa_base.specs.lemmas.Taking.{takes_word, takes_text, takes_fat_arrow, takes_comma, takes_semicolon, takes_open_paren, takes_close_paren}
use Rattle.cfa_tree.specs.Tree.{text, AttributeTree, PromiseTree}
use Rattle.cfa_tree.specs.Grammar.{token, Levels, depth_limit, one_fewer, Item, an_item, a_text, a_call, some_args, args_end, attribute, Attributes, last_attribute, next_attribute, no_promisee, Promises, a_promise}
use Rattle.cfa_demo.specs.Policies.{ended, promising, content, promise_line}
use Rattle.cfa_demo_laws.specs.Trees.{at, quoted, behind_text, value_place, next_place, file_of, class_of, promise_by, promise_tree}
use Rattle.cfa_demo_laws.proofs.Plain.{decimal_is_plain, file_is_plain, class_is_plain, quoted_plain, content_plain, OnLine, past_quoted}

-- ---- what the lines say, with each text in its quotes

abbrev line_by : (kind k : ℕ) → List ℕ
line_by kind k =
    if kind == 0 then promising k (content k ++ codes ";")
    else (if kind == 1 then promising k (codes "create => \"true\";")
    else (if kind == 2 then promising k (codes "create => \"true\", perms => m(\"644\");")
    else promising k (content k ++ (codes ", classes => r(\"c" ++ (decimal k ++ codes "\");")))))

by_kind : (k kind : ℕ) → k % 4 ≡ kind → promise_line k ≡ line_by kind k
unfolding promise_line
by_kind k kind is = ap (λ m. line_by m k) is

-- a line with one text, and one with two
abbrev saying : (k : ℕ) (name content rest : List ℕ) → List ℕ
saying k name content rest = codes "    " ++ (quoted (file_of k) ++ (name ++ (quoted content ++ (codes ";\n" ++ rest))))

abbrev giving : (k : ℕ) (name content given argument rest : List ℕ) → List ℕ
giving k name content given argument rest =
    codes "    " ++ (quoted (file_of k) ++ (name ++ (quoted content ++ (given ++ (quoted argument ++ (codes ");\n" ++ rest))))))

pub ended_0 : (k : ℕ) → k % 4 ≡ 0 → ended (promise_line k) ≡ codes "    \"/d/f" ++ (decimal k ++ (codes "\" content => \"" ++ (decimal k ++ codes "\";\n")))
ended_0 k is = ap ended (by_kind k 0 is) ∙ simp append_assoc

pub ended_1 : (k : ℕ) → k % 4 ≡ 1 → ended (promise_line k) ≡ codes "    \"/d/f" ++ (decimal k ++ codes "\" create => \"true\";\n")
ended_1 k is = ap ended (by_kind k 1 is) ∙ simp append_assoc

pub ended_2 : (k : ℕ) → k % 4 ≡ 2 → ended (promise_line k) ≡ codes "    \"/d/f" ++ (decimal k ++ codes "\" create => \"true\", perms => m(\"644\");\n")
ended_2 k is = ap ended (by_kind k 2 is) ∙ simp append_assoc

pub ended_3 : (k : ℕ) → k % 4 ≡ 3 → ended (promise_line k) ≡ codes "    \"/d/f" ++ (decimal k ++ (codes "\" content => \"" ++ (decimal k ++ (codes "\", classes => r(\"c" ++ (decimal k ++ codes "\");\n")))))
ended_3 k is = ap ended (by_kind k 3 is) ∙ simp append_assoc

quoted_bytes : (content more : List ℕ) → quoted content ++ more ≡ 34 ∷ (content ++ (34 ∷ more))
quoted_bytes content more = ap (λ x. 34 ∷ x) (append_assoc content (34 ∷ []) more)

two_quoted : (file name content more : List ℕ) →
    quoted file ++ (name ++ (quoted content ++ more)) ≡ 34 ∷ (file ++ (34 ∷ (name ++ (34 ∷ (content ++ (34 ∷ more))))))
two_quoted file name content more =
    quoted_bytes file (name ++ (quoted content ++ more)) ∙ ap (λ x. 34 ∷ (file ++ (34 ∷ (name ++ x)))) (quoted_bytes content more)

saying_bytes : (k : ℕ) (name content rest : List ℕ) →
    codes "    " ++ (34 ∷ (file_of k ++ (34 ∷ (name ++ (34 ∷ (content ++ (34 ∷ (codes ";\n" ++ rest)))))))) ≡ saying k name content rest
saying_bytes k name content rest = ap (λ x. codes "    " ++ x) (sym (two_quoted (file_of k) name content (codes ";\n" ++ rest)))

giving_bytes : (k : ℕ) (name content given argument rest : List ℕ) →
    codes "    " ++ (34 ∷ (file_of k ++ (34 ∷ (name ++ (34 ∷ (content ++ (34 ∷ (given ++ (34 ∷ (argument ++ (34 ∷ (codes ");\n" ++ rest))))))))))))
    ≡ giving k name content given argument rest
giving_bytes k name content given argument rest =
    ap (λ x. codes "    " ++ x)
    (ap (λ x. 34 ∷ (file_of k ++ (34 ∷ (name ++ (34 ∷ (content ++ (34 ∷ (given ++ x)))))))) (sym (quoted_bytes argument (codes ");\n" ++ rest)))
    ∙ sym (two_quoted (file_of k) name content (given ++ (quoted argument ++ (codes ");\n" ++ rest)))))

-- the same lines, with a rest behind them
one_behind : (a d b rest : List ℕ) → (a ++ (d ++ b)) ++ rest ≡ a ++ (d ++ (b ++ rest))
one_behind a d b rest = simp append_assoc

two_behind : (a d b e c rest : List ℕ) → (a ++ (d ++ (b ++ (e ++ c)))) ++ rest ≡ a ++ (d ++ (b ++ (e ++ (c ++ rest))))
two_behind a d b e c rest = simp append_assoc

three_behind : (a d b e c f g rest : List ℕ) → (a ++ (d ++ (b ++ (e ++ (c ++ (f ++ g)))))) ++ rest ≡ a ++ (d ++ (b ++ (e ++ (c ++ (f ++ (g ++ rest))))))
three_behind a d b e c f g rest = simp append_assoc

bytes_0 : (k : ℕ) (rest : List ℕ) → k % 4 ≡ 0 → ended (promise_line k) ++ rest ≡ saying k (codes " content => ") (decimal k) rest
bytes_0 k rest is =
    ap (λ line. line ++ rest) (ended_0 k is)
    ∙ two_behind (codes "    \"/d/f") (decimal k) (codes "\" content => \"") (decimal k) (codes "\";\n") rest
    ∙ saying_bytes k (codes " content => ") (decimal k) rest

bytes_1 : (k : ℕ) (rest : List ℕ) → k % 4 ≡ 1 → ended (promise_line k) ++ rest ≡ saying k (codes " create => ") (codes "true") rest
bytes_1 k rest is =
    ap (λ line. line ++ rest) (ended_1 k is)
    ∙ one_behind (codes "    \"/d/f") (decimal k) (codes "\" create => \"true\";\n") rest
    ∙ saying_bytes k (codes " create => ") (codes "true") rest

bytes_2 : (k : ℕ) (rest : List ℕ) → k % 4 ≡ 2 → ended (promise_line k) ++ rest ≡ giving k (codes " create => ") (codes "true") (codes ", perms => m(") (codes "644") rest
bytes_2 k rest is =
    ap (λ line. line ++ rest) (ended_2 k is)
    ∙ one_behind (codes "    \"/d/f") (decimal k) (codes "\" create => \"true\", perms => m(\"644\");\n") rest
    ∙ giving_bytes k (codes " create => ") (codes "true") (codes ", perms => m(") (codes "644") rest

bytes_3 : (k : ℕ) (rest : List ℕ) → k % 4 ≡ 3 → ended (promise_line k) ++ rest ≡ giving k (codes " content => ") (decimal k) (codes ", classes => r(") (class_of k) rest
bytes_3 k rest is =
    ap (λ line. line ++ rest) (ended_3 k is)
    ∙ three_behind (codes "    \"/d/f") (decimal k) (codes "\" content => \"") (decimal k) (codes "\", classes => r(\"c") (decimal k) (codes "\");\n") rest
    ∙ giving_bytes k (codes " content => ") (decimal k) (codes ", classes => r(") (class_of k) rest

-- ---- the end of a line

next_line : (line : ℕ) (place : Place) → place.file ≡ 0 → place.line ≡ line → place_past place 10 ≡ at (line + 1) 1
next_line line place file_is line_is = λ i. record { file = file_is i; line = line_is i + 1; col = 1 }

line_ends : {line : ℕ} {place : Place} {rest : List ℕ} {ts : List Token} → place.file ≡ 0 → place.line ≡ line →
    Lexes (at (line + 1) 1) rest ts → Lexes place (10 ∷ rest) ts
line_ends {line = line} {place = place} {rest = rest} {ts = ts} file_is line_is lexes =
    a_separator refl (subst (λ (p : Place). Lexes p rest ts) (sym (next_line line place file_is line_is)) lexes)

-- where the attributes of a promise begin
abbrev front : (line k : ℕ) → Place
front line k = place_past (behind_text (at line 5) (file_of k)) 32

on_front : (line k : ℕ) → k < 10000 → OnLine line (behind_text (at line 5) (file_of k))
on_front line k below = past_quoted line (file_of k) (at line 5) (file_is_plain k below) (record { file_is = refl; line_is = refl })

on_content : (line k : ℕ) → k < 10000 → OnLine line (behind_text (value_place (front line k) (codes "content")) (decimal k))
on_content line k below =
    let on = on_front line k below in
    past_quoted line (decimal k) (value_place (front line k) (codes "content")) (decimal_is_plain k below)
    (record { file_is = on.file_is; line_is = on.line_is })

-- where the text begins that the body of classes is given
abbrev class_place : (line k : ℕ) → Place
class_place line k = place_past (place_past (value_place (next_place (front line k) (codes "content") (decimal k)) (codes "classes")) 114) 40

on_class : (line k : ℕ) → k < 10000 → OnLine line (behind_text (class_place line k) (class_of k))
on_class line k below =
    let on = on_content line k below in
    past_quoted line (class_of k) (class_place line k) (class_is_plain k below) (record { file_is = on.file_is; line_is = on.line_is })

-- ---- reading

text_read : {levels : Levels} {x : List ℕ} {p : Place} {rest : List Token} (content : List ℕ) → content_of x ≡ content →
    Item levels (token Text x p ∷ rest) (text content p) rest
text_read {levels = levels} {x = x} {p = p} {rest = rest} content is =
    subst (λ (c : List ℕ). Item levels (token Text x p ∷ rest) (text c p) rest) is a_text

promise_read : {ts us rest : List Token} {x : List ℕ} {p : Place} {attributes : List AttributeTree} {more : List PromiseTree} (promiser : List ℕ) → content_of x ≡ promiser →
    Attributes depth_limit ts attributes us → Promises depth_limit us None more rest →
    Promises depth_limit (token Text x p ∷ ts) None (record { guard = None; promiser = promiser; promisee = None; attributes = attributes; place = p } ∷ more) rest
promise_read {ts = ts} {rest = rest} {x = x} {p = p} {attributes = attributes} {more = more} promiser is inner later =
    subst (λ (c : List ℕ). Promises depth_limit (token Text x p ∷ ts) None (record { guard = None; promiser = c; promisee = None; attributes = attributes; place = p } ∷ more) rest) is
    (a_promise no_promisee inner later)

-- the bytes are the line of this promise
abbrev pub IsRead : (line : ℕ) (bytes : List ℕ → List ℕ) (p : PromiseTree) → Type 0
IsRead line bytes p =
    (rest : List ℕ) (ts : List Token) → Lexes (at (line + 1) 1) rest ts →
    (us : List Token) × Lexes (at line 1) (bytes rest) us
    × ((more : List PromiseTree) (end : List Token) → Promises depth_limit ts None more end → Promises depth_limit us None (p ∷ more) end)

read_0 : (line k : ℕ) → k < 10000 → IsRead line (saying k (codes " content => ") (decimal k)) (promise_by line 0 k)
read_0 line k below rest ts lexes =
    let on = on_content line k below in (
      _,
      a_separator refl (a_separator refl (a_separator refl (a_separator refl
          (a_token (takes_text (quoted (file_of k)) _ (quoted_plain (file_of k) (file_is_plain k below))) (a_separator refl
          (a_token (takes_word (codes "content") _ refl refl) (a_separator refl
          (a_token (takes_fat_arrow _) (a_separator refl
          (a_token (takes_text (quoted (decimal k)) _ (quoted_plain (decimal k) (decimal_is_plain k below)))
          (a_token (takes_semicolon _)
          (line_ends on.file_is on.line_is lexes)))))))))))),
      λ more end later. promise_read (file_of k) (content_plain (file_of k) (file_is_plain k below))
          (last_attribute (attribute (an_item (text_read (decimal k) (content_plain (decimal k) (decimal_is_plain k below))))))
          later,
    )

read_1 : (line k : ℕ) → k < 10000 → IsRead line (saying k (codes " create => ") (codes "true")) (promise_by line 1 k)
read_1 line k below rest ts lexes =
    let on = on_front line k below in (
      _,
      a_separator refl (a_separator refl (a_separator refl (a_separator refl
          (a_token (takes_text (quoted (file_of k)) _ (quoted_plain (file_of k) (file_is_plain k below))) (a_separator refl
          (a_token (takes_word (codes "create") _ refl refl) (a_separator refl
          (a_token (takes_fat_arrow _) (a_separator refl
          (a_token (takes_text (quoted (codes "true")) _ refl)
          (a_token (takes_semicolon _)
          (line_ends on.file_is on.line_is lexes)))))))))))),
      λ more end later. promise_read (file_of k) (content_plain (file_of k) (file_is_plain k below))
          (last_attribute (attribute (an_item (text_read (codes "true") refl))))
          later,
    )

read_2 : (line k : ℕ) → k < 10000 → IsRead line (giving k (codes " create => ") (codes "true") (codes ", perms => m(") (codes "644")) (promise_by line 2 k)
read_2 line k below rest ts lexes =
    let on = on_front line k below in (
      _,
      a_separator refl (a_separator refl (a_separator refl (a_separator refl
          (a_token (takes_text (quoted (file_of k)) _ (quoted_plain (file_of k) (file_is_plain k below))) (a_separator refl
          (a_token (takes_word (codes "create") _ refl refl) (a_separator refl
          (a_token (takes_fat_arrow _) (a_separator refl
          (a_token (takes_text (quoted (codes "true")) _ refl)
          (a_token (takes_comma _) (a_separator refl
          (a_token (takes_word (codes "perms") _ refl refl) (a_separator refl
          (a_token (takes_fat_arrow _) (a_separator refl
          (a_token (takes_word (codes "m") _ refl refl)
          (a_token (takes_open_paren _)
          (a_token (takes_text (quoted (codes "644")) _ refl)
          (a_token (takes_close_paren _)
          (a_token (takes_semicolon _)
          (line_ends on.file_is on.line_is lexes)))))))))))))))))))))),
      λ more end later. promise_read (file_of k) (content_plain (file_of k) (file_is_plain k below))
          (next_attribute (attribute (an_item (text_read (codes "true") refl)))
          (last_attribute (attribute (an_item (a_call (some_args one_fewer (an_item (text_read (codes "644") refl)) args_end))))))
          later,
    )

read_3 : (line k : ℕ) → k < 10000 → IsRead line (giving k (codes " content => ") (decimal k) (codes ", classes => r(") (class_of k)) (promise_by line 3 k)
read_3 line k below rest ts lexes =
    let on = on_class line k below in (
      _,
      a_separator refl (a_separator refl (a_separator refl (a_separator refl
          (a_token (takes_text (quoted (file_of k)) _ (quoted_plain (file_of k) (file_is_plain k below))) (a_separator refl
          (a_token (takes_word (codes "content") _ refl refl) (a_separator refl
          (a_token (takes_fat_arrow _) (a_separator refl
          (a_token (takes_text (quoted (decimal k)) _ (quoted_plain (decimal k) (decimal_is_plain k below)))
          (a_token (takes_comma _) (a_separator refl
          (a_token (takes_word (codes "classes") _ refl refl) (a_separator refl
          (a_token (takes_fat_arrow _) (a_separator refl
          (a_token (takes_word (codes "r") _ refl refl)
          (a_token (takes_open_paren _)
          (a_token (takes_text (quoted (class_of k)) _ (quoted_plain (class_of k) (class_is_plain k below)))
          (a_token (takes_close_paren _)
          (a_token (takes_semicolon _)
          (line_ends on.file_is on.line_is lexes)))))))))))))))))))))),
      λ more end later. promise_read (file_of k) (content_plain (file_of k) (file_is_plain k below))
          (next_attribute (attribute (an_item (text_read (decimal k) (content_plain (decimal k) (decimal_is_plain k below)))))
          (last_attribute (attribute (an_item (a_call (some_args one_fewer (an_item (text_read (class_of k) (content_plain (class_of k) (class_is_plain k below)))) args_end))))))
          later,
    )

-- ---- each line

same_bytes : (line : ℕ) (p : PromiseTree) (bytes others : List ℕ → List ℕ) → ((rest : List ℕ) → bytes rest ≡ others rest) → IsRead line others p → IsRead line bytes p
same_bytes line p bytes others same read rest ts lexes =
    let r = read rest ts lexes in
    (r.0, subst (λ (x : List ℕ). Lexes (at line 1) x r.0) (sym (same rest)) r.1, r.2)

abbrev bytes_of : ℕ → List ℕ → List ℕ
bytes_of k rest = ended (promise_line k) ++ rest

read_by : (line k kind : ℕ) → k < 10000 → k % 4 ≡ kind → kind < 4 → IsRead line (bytes_of k) (promise_by line kind k)
read_by line k zero below is small = same_bytes line _ (bytes_of k) _ (λ rest. bytes_0 k rest is) (read_0 line k below)
read_by line k (suc zero) below is small = same_bytes line _ (bytes_of k) _ (λ rest. bytes_1 k rest is) (read_1 line k below)
read_by line k (suc (suc zero)) below is small = same_bytes line _ (bytes_of k) _ (λ rest. bytes_2 k rest is) (read_2 line k below)
read_by line k (suc (suc (suc zero))) below is small = same_bytes line _ (bytes_of k) _ (λ rest. bytes_3 k rest is) (read_3 line k below)
read_by line k (suc (suc (suc (suc more)))) below is small = absurd (omega arith)

pub line_is_read : (k : ℕ) → k < 10000 → IsRead (k + 4) (bytes_of k) (promise_tree k)
unfolding promise_tree
line_is_read k below = read_by (k + 4) k (k % 4) below refl (omega arith)
