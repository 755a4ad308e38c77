-- The text of a demo is a text that isn't too long.
use Rattle.std.proofs.Common.{◌≡◌, ℕ, zero, suc, ◌*◌, ◌%◌, ◌<◌, ◌≤◌, sym, subst, Bool, true, ◌&&◌, List, [], ◌∷◌, ◌++◌, codes, length, length-append, refl, arith}
use Rattle.std.specs.Fmt.{decimal}
use Rattle.std.specs.Prelude.{nat_lt}
use Rattle.std.specs.Str.{IsAscii}
use Rattle.std.proofs.lemmas.Bool.{ltb-true, and_parts}
use Rattle.std.proofs.lemmas.Fmt.{length-decimal-le, IsAscii-decimal}
use Rattle.std.proofs.lemmas.Str.{IsAscii-append, IsUtf8-from_ascii}
use Rattle.cfa_lexer.specs.Lexed.{IsText}
use Rattle.cfa_demo.specs.Policies.{ended, promise_line}
use Rattle.cfa_demo_laws.specs.Laws.{DemoIsText}
use Rattle.cfa_demo_laws.proofs.Lines.{ended_0, ended_1, ended_2, ended_3}
use Rattle.cfa_demo_laws.proofs.Texts.{opened, closed, lines_of, no_lines, one_line_more, in_parts}

-- ---- lengths

short_by : (k kind : ℕ) → k % 4 ≡ kind → kind < 4 → length (decimal k) ≤ 4 → length (ended (promise_line k)) ≤ 57
short_by k zero is below short = rw (ended_0 k is) (omega (arith, length-append {A = ℕ}))
short_by k (suc zero) is below short = rw (ended_1 k is) (omega (arith, length-append {A = ℕ}))
short_by k (suc (suc zero)) is below short = rw (ended_2 k is) (omega (arith, length-append {A = ℕ}))
short_by k (suc (suc (suc zero))) is below short = rw (ended_3 k is) (omega (arith, length-append {A = ℕ}))
short_by k (suc (suc (suc (suc more)))) is below short = absurd (omega arith)

short_line : (k : ℕ) → k < 10000 → length (ended (promise_line k)) ≤ 57
short_line k below = short_by k (k % 4) refl (omega arith) (length-decimal-le 4 k (omega arith) below (omega arith))

short_lines : (n : ℕ) → n ≤ 10000 → length (lines_of n) ≤ 57 * n
short_lines zero within = rw no_lines (omega arith)
short_lines (suc k) within =
    rw (one_line_more k) (omega (arith, short_lines k (omega arith), short_line k (omega arith), length-append (lines_of k) (ended (promise_line k))))

short_demo : (n : ℕ) → n ≤ 10000 → length (opened ++ (lines_of n ++ closed)) ≤ 1048576
short_demo n within = omega (arith, short_lines n within, length-append {A = ℕ})

-- ---- bytes of ASCII

are_low : List ℕ → Bool
are_low [] = true
are_low (b ∷ bs) = nat_lt b 128 && are_low bs

low_ascii : (bs : List ℕ) → are_low bs ≡ true → IsAscii bs
unfolding are_low
low_ascii [] h i = omega arith
low_ascii (b ∷ bs) h zero = ltb-true b 128 (and_parts (nat_lt b 128) (are_low bs) h).0
low_ascii (b ∷ bs) h (suc i) = low_ascii bs (and_parts (nat_lt b 128) (are_low bs) h).1 i

module _ (k : ℕ) (below : k < 10000) where
  number : IsAscii (decimal k)
  number = IsAscii-decimal k (omega arith)

  -- a number behind a text, and a further text
  numbered : (front behind : List ℕ) → are_low front ≡ true → IsAscii behind → IsAscii (front ++ (decimal k ++ behind))
  numbered front behind low more = IsAscii-append front (decimal k ++ behind) (low_ascii front low) (IsAscii-append (decimal k) behind number more)

  ascii_by : (kind : ℕ) → k % 4 ≡ kind → kind < 4 → IsAscii (ended (promise_line k))
  unfolding are_low
  ascii_by zero is small =
      subst IsAscii (sym (ended_0 k is)) (numbered (codes "    \"/d/f") (codes "\" content => \"" ++ (decimal k ++ codes "\";\n")) refl
      (numbered (codes "\" content => \"") (codes "\";\n") refl (low_ascii (codes "\";\n") refl)))
  ascii_by (suc zero) is small =
      subst IsAscii (sym (ended_1 k is)) (numbered (codes "    \"/d/f") (codes "\" create => \"true\";\n") refl (low_ascii (codes "\" create => \"true\";\n") refl))
  ascii_by (suc (suc zero)) is small =
      subst IsAscii (sym (ended_2 k is)) (numbered (codes "    \"/d/f") (codes "\" create => \"true\", perms => m(\"644\");\n") refl
      (low_ascii (codes "\" create => \"true\", perms => m(\"644\");\n") refl))
  ascii_by (suc (suc (suc zero))) is small =
      subst IsAscii (sym (ended_3 k is)) (numbered (codes "    \"/d/f") (codes "\" content => \"" ++ (decimal k ++ (codes "\", classes => r(\"c" ++ (decimal k ++ codes "\");\n")))) refl
      (numbered (codes "\" content => \"") (codes "\", classes => r(\"c" ++ (decimal k ++ codes "\");\n")) refl
      (numbered (codes "\", classes => r(\"c") (codes "\");\n") refl (low_ascii (codes "\");\n") refl))))
  ascii_by (suc (suc (suc (suc more)))) is small = absurd (omega arith)

lines_ascii : (n : ℕ) → n ≤ 10000 → IsAscii (lines_of n)
unfolding are_low
lines_ascii zero within = subst IsAscii (sym no_lines) (low_ascii [] refl)
lines_ascii (suc k) within =
    subst IsAscii (sym (one_line_more k))
    (IsAscii-append (lines_of k) (ended (promise_line k)) (lines_ascii k (omega arith)) (ascii_by k (omega arith) (k % 4) refl (omega arith)))

demo_ascii : (n : ℕ) → n ≤ 10000 → IsAscii (opened ++ (lines_of n ++ closed))
unfolding are_low
demo_ascii n within =
    IsAscii-append opened (lines_of n ++ closed) (low_ascii opened refl) (IsAscii-append (lines_of n) closed (lines_ascii n within) (low_ascii closed refl))

-- ---- the whole

pub demo_is_text : DemoIsText
demo_is_text n within =
    subst IsText (sym (in_parts n)) (record { fits = short_demo n within; utf8 = IsUtf8-from_ascii _ (demo_ascii n within) })
