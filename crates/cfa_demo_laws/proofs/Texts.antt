-- The text of a demo is read to its tree.
use Rattle.std.proofs.Common.{◌≡◌, refl, sym, ◌∙◌, ap, subst, ℕ, zero, suc, ◌+◌, ◌≤◌, List, [], ◌∷◌, ◌++◌, None, codes, append_assoc, append-nil, arith}
use Rattle.cfa_base.specs.declared.tokens.Kind.TheVariants.{CloseBrace}
use Rattle.cfa_base.specs.Tokens.{Token}
use Rattle.cfa_base.specs.Lexing.{first_place, Lexes, ends, a_separator, a_token}
use Rattle.cfa_base.specs.lemmas.Taking.{takes_word, takes_text, takes_fat_arrow, takes_semicolon, takes_colon, takes_open_paren, takes_close_paren, takes_open_brace, takes_close_brace}
use Rattle.cfa_tree.specs.Tree.{PromiseTree, PolicyTree}
use Rattle.cfa_tree.specs.Grammar.{token, depth_limit, an_item, a_text, a_list, some_items, items_end, attribute, Promises, no_promise, a_section, no_section, last_word, no_params, some_params, no_more, one_more, Policy, no_block, a_bundle, a_body}
use Rattle.cfa_demo.specs.Policies.{ended, text_of, opening, ending, promise_line, promise_lines, demo_text}
use Rattle.cfa_demo_laws.specs.Trees.{at, promise_tree, promise_trees, perms_body, classes_body, demo_tree}
use Rattle.cfa_demo_laws.specs.Laws.{DemoReads}
use Rattle.cfa_demo_laws.proofs.Lines.{line_is_read}

-- ---- the text in its parts

text_of-append : (xs ys : List (List ℕ)) → text_of (xs ++ ys) ≡ text_of xs ++ text_of ys
unfolding text_of
text_of-append [] ys = refl
text_of-append (x ∷ xs) ys = ap (λ rest. ended x ++ rest) (text_of-append xs ys) ∙ sym (append_assoc (ended x) (text_of xs) (text_of ys))

text_of-one : (line : List ℕ) → text_of (line ∷ []) ≡ ended line
unfolding text_of
text_of-one line = append-nil (ended line)

abbrev pub opened : List ℕ
opened = codes "bundle agent main\n{\n  files:\n"

abbrev pub closed : List ℕ
closed = codes "}\nbody perms m(x)\n{\n  mode => \"$(x)\";\n}\nbody classes r(x)\n{\n  promise_repaired => { \"$(x)\" };\n}\n"

opened_is : text_of opening ≡ opened
unfolding text_of
opened_is = refl

closed_is : text_of ending ≡ closed
unfolding text_of
closed_is = refl

pub lines_of : ℕ → List ℕ
lines_of n = text_of (promise_lines n)

pub no_lines : lines_of 0 ≡ []
unfolding lines_of promise_lines text_of
no_lines = refl

pub one_line_more : (k : ℕ) → lines_of (suc k) ≡ lines_of k ++ ended (promise_line k)
unfolding lines_of promise_lines
one_line_more k = text_of-append (promise_lines k) (promise_line k ∷ []) ∙ ap (λ e. text_of (promise_lines k) ++ e) (text_of-one (promise_line k))

pub in_parts : (n : ℕ) → demo_text n ≡ opened ++ (lines_of n ++ closed)
unfolding demo_text lines_of
in_parts n =
    text_of-append opening (promise_lines n ++ ending)
    ∙ (λ i. opened_is i ++ text_of-append (promise_lines n) ending i)
    ∙ ap (λ e. opened ++ (text_of (promise_lines n) ++ e)) closed_is

-- ---- the promises

abbrev AreRead : (n : ℕ) → Type 0
AreRead n =
    (rest : List ℕ) (ts : List Token) → Lexes (at (n + 4) 1) rest ts →
    (us : List Token) × Lexes (at 4 1) (lines_of n ++ rest) us
    × ((more : List PromiseTree) (end : List Token) → Promises depth_limit ts None more end → Promises depth_limit us None (promise_trees n ++ more) end)

lines_are_read : (n : ℕ) → n ≤ 10000 → AreRead n
unfolding promise_trees
lines_are_read zero within rest ts lexes = (
  ts,
  subst (λ (x : List ℕ). Lexes (at 4 1) (x ++ rest) ts) (sym no_lines) lexes,
  λ more end reads. reads,
)
lines_are_read (suc k) within rest ts lexes =
    let next : suc k + 4 ≡ (k + 4) + 1 = omega arith in
    let line = line_is_read k (omega arith) rest ts (subst (λ (l : ℕ). Lexes (at l 1) rest ts) next lexes) in
    let all = lines_are_read k (omega arith) (ended (promise_line k) ++ rest) line.0 line.1 in (
      all.0,
      subst (λ (x : List ℕ). Lexes (at 4 1) x all.0)
          (sym (ap (λ x. x ++ rest) (one_line_more k) ∙ append_assoc (lines_of k) (ended (promise_line k)) rest)) all.1,
      λ more end reads. subst (λ (ps : List PromiseTree). Promises depth_limit all.0 None ps end)
          (sym (append_assoc (promise_trees k) (promise_tree k ∷ []) more))
          (all.2 (promise_tree k ∷ more) end (line.2 more end reads)),
    )

-- ---- the end

abbrev bodies_at : (perms mode classes repaired : ℕ) → PolicyTree
bodies_at perms mode classes repaired = perms_body perms mode ∷ classes_body classes repaired ∷ []

abbrev EndIsRead : (line perms mode classes repaired : ℕ) → Type 0
EndIsRead line perms mode classes repaired =
    (vs : List Token) × Lexes (at line 1) closed (token CloseBrace (codes "}") (at line 1) ∷ vs)
    × Policy depth_limit vs (bodies_at perms mode classes repaired)

end_lines : (line : ℕ) → EndIsRead line (line + 1) (line + 1 + 1 + 1) (line + 1 + 1 + 1 + 1 + 1) (line + 1 + 1 + 1 + 1 + 1 + 1 + 1)
end_lines line = (
  _,
  a_token (takes_close_brace _) (a_separator refl
      (a_token (takes_word (codes "body") _ refl refl) (a_separator refl
      (a_token (takes_word (codes "perms") _ refl refl) (a_separator refl
      (a_token (takes_word (codes "m") _ refl refl)
      (a_token (takes_open_paren _)
      (a_token (takes_word (codes "x") _ refl refl)
      (a_token (takes_close_paren _) (a_separator refl
      (a_token (takes_open_brace _) (a_separator refl (a_separator refl (a_separator refl
      (a_token (takes_word (codes "mode") _ refl refl) (a_separator refl
      (a_token (takes_fat_arrow _) (a_separator refl
      (a_token (takes_text (codes "\"$(x)\"") _ refl)
      (a_token (takes_semicolon _) (a_separator refl
      (a_token (takes_close_brace _) (a_separator refl
      (a_token (takes_word (codes "body") _ refl refl) (a_separator refl
      (a_token (takes_word (codes "classes") _ refl refl) (a_separator refl
      (a_token (takes_word (codes "r") _ refl refl)
      (a_token (takes_open_paren _)
      (a_token (takes_word (codes "x") _ refl refl)
      (a_token (takes_close_paren _) (a_separator refl
      (a_token (takes_open_brace _) (a_separator refl (a_separator refl (a_separator refl
      (a_token (takes_word (codes "promise_repaired") _ refl refl) (a_separator refl
      (a_token (takes_fat_arrow _) (a_separator refl
      (a_token (takes_open_brace _) (a_separator refl
      (a_token (takes_text (codes "\"$(x)\"") _ refl) (a_separator refl
      (a_token (takes_close_brace _)
      (a_token (takes_semicolon _) (a_separator refl
      (a_token (takes_close_brace _) (a_separator refl ends))))))))))))))))))))))))))))))))))))))))))))))))),
  a_body (some_params last_word) (one_more (attribute (an_item a_text)) no_more)
      (a_body (some_params last_word) (one_more (attribute (a_list (some_items a_text items_end))) no_more) no_block),
)

end_is_read : (n : ℕ) → EndIsRead (n + 4) (n + 5) (n + 7) (n + 9) (n + 11)
end_is_read n =
    let r = end_lines (n + 4) in
    let perms : n + 4 + 1 ≡ n + 5 = omega arith in
    let mode : n + 4 + 1 + 1 + 1 ≡ n + 7 = omega arith in
    let classes : n + 4 + 1 + 1 + 1 + 1 + 1 ≡ n + 9 = omega arith in
    let repaired : n + 4 + 1 + 1 + 1 + 1 + 1 + 1 + 1 ≡ n + 11 = omega arith in
    (r.0, r.1, subst (λ (t : PolicyTree). Policy depth_limit r.0 t) (λ i. bodies_at (perms i) (mode i) (classes i) (repaired i)) r.2)

-- ---- the whole

abbrev IsReadAs : List ℕ → PolicyTree → Type 0
IsReadAs bytes tree = (tokens : List Token) × Lexes (first_place 0) bytes tokens × Policy depth_limit tokens tree

parts_are_read : (n : ℕ) → n ≤ 10000 → IsReadAs (opened ++ (lines_of n ++ closed)) (demo_tree n)
unfolding demo_tree
parts_are_read n within =
    let end = end_is_read n in
    let behind = token CloseBrace (codes "}") (at (n + 4) 1) ∷ end.0 in
    let lines = lines_are_read n within closed behind end.1 in
    let promises = subst (λ (ps : List PromiseTree). Promises depth_limit lines.0 None ps behind) (append-nil (promise_trees n)) (lines.2 [] behind no_promise) in (
      _,
      a_token (takes_word (codes "bundle") _ refl refl) (a_separator refl
          (a_token (takes_word (codes "agent") _ refl refl) (a_separator refl
          (a_token (takes_word (codes "main") _ refl refl) (a_separator refl
          (a_token (takes_open_brace _) (a_separator refl (a_separator refl (a_separator refl
          (a_token (takes_word (codes "files") _ refl refl)
          (a_token (takes_colon _ refl) (a_separator refl lines.1)))))))))))),
      a_bundle no_params (a_section promises no_section) end.2,
    )

pub demo_reads : DemoReads
demo_reads n within = subst (λ (x : List ℕ). IsReadAs x (demo_tree n)) (sym (in_parts n)) (parts_are_read n within)
