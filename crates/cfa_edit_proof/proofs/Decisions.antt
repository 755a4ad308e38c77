-- A quiet script settles on the lines of each text, so that its decision is never that it doesn't.
use Rattle.std.proofs.Common.{◌≡◌, ◌≢◌, ℕ, zero, suc, ◌<◌, Bool, true, false, cond, List, [], ◌∷◌, ◌++◌, length, Option, None, Some, All, Result, Ok, Err, refl, sym, ap, ◌∙◌, subst, arith, ⊎_elim, nat_eq, IsUtf8, append-nil}
use Rattle.std.specs.Prelude.{◌==◌}
use Rattle.std.proofs.lemmas.Bool.{and_parts, cond-true, cond-false, ne_eqb, cases_eq}
use Rattle.std.proofs.lemmas.List.Elements.{All-nil, All-cons, All-head, All-tail, All-weaker, All-from_get_or}
use Rattle.std.proofs.lemmas.List.Splits.{length-slice_split}
use Rattle.std.proofs.lemmas.Str.{IsUtf8-nil, IsUtf8-append, IsUtf8-encode, IsUtf8-from_ascii, IsUtf8-from_is_utf8, encode_ascii, inside_one}
use Rattle.std.specs.List.{slice_split, onto_first}
use Rattle.std.specs.Str.{is_utf8, IsAscii}
use Rattle.std.specs.FinMap as map
use lib.Utf8.{scalar, scalars, encode, encodes}
use Rattle.cfa_lines.specs.Decks.{lines_of, lines_of_parts, parts_of, text_of, ended}
use Rattle.cfa_edits.specs.declared.edits.Edit.{Edit}
use Rattle.cfa_edits.specs.declared.edits.EditErr.{EditErr}
use Rattle.cfa_edits.specs.declared.edits.EditErr.TheVariants as refusal
use Rattle.cfa_edits.specs.Edits.{Lines, edited}
use Rattle.cfa_edits.specs.Scripts.{IsOneLine}
use Rattle.cfa_outside.specs.declared.worlds.Node.{Node}
use Rattle.cfa_outside.specs.declared.worlds.Node.TheVariants.{File, Dir}
use Rattle.cfa_outside.specs.declared.sites.Change.TheVariants.{PutFile}
use Rattle.cfa_acts.specs.declared.acts.Act.TheVariants as act
use Rattle.cfa_acts.specs.declared.acts.Decision.{Decision}
use Rattle.cfa_acts.specs.declared.acts.Decision.TheVariants.{Kept, Needs, Fail}
use Rattle.cfa_acts.specs.declared.acts.Reason.TheVariants as reason
use Rattle.cfa_acts.specs.Acts.{decision, needed, post}
use Rattle.cfa_acts.specs.Laws.{SettlesAsLines}
use Rattle.cfa_acts.specs.Settling.{leaves, is_short, edits, puts_text, puts_lines}
use Rattle.cfa_edit_proof.specs.Decisions.{QuietDecides}
use Rattle.cfa_edit_proof.proofs.Fields.{parts_lack}
use Rattle.cfa_edit_proof.proofs.Later.{IsLine, carries_line}
use Rattle.cfa_edit_proof.proofs.Settling.{AreSafe, safe_script, safe_settles, all_hold}

-- ---- the lines of a text in UTF-8 are such texts

abbrev cut : List ℕ → List (List ℕ)
cut bytes = slice_split (λ byte. byte == 10) bytes

abbrev put_before : List ℕ → List (List ℕ) → List (List ℕ)
put_before xs [] = xs ∷ []
put_before xs (part ∷ parts) = (xs ++ part) ∷ parts

onto_is : (x : ℕ) (xs : List ℕ) (parts : List (List ℕ)) → onto_first x (put_before xs parts) ≡ put_before (x ∷ xs) parts
onto_is x xs [] = refl
onto_is x xs (part ∷ parts) = refl

nothing_before : (parts : List (List ℕ)) → 0 < length parts → parts ≡ put_before [] parts
nothing_before [] some = absurd (omega arith)
nothing_before (part ∷ parts) some = refl

cut_behind : (xs ys : List ℕ) → IsOneLine xs → cut (xs ++ ys) ≡ put_before xs (cut ys)
cut_behind [] ys one = let some = length-slice_split (λ byte. byte == 10) ys in nothing_before (cut ys) (omega (arith, some))
cut_behind (x ∷ xs) ys one =
    cond-false (x == 10) ([] ∷ cut (xs ++ ys)) (onto_first x (cut (xs ++ ys))) (ne_eqb x 10 (All-head (λ b. b ≢ 10) x xs one))
    ∙ ap (onto_first x) (cut_behind xs ys (All-tail (λ b. b ≢ 10) x xs one)) ∙ onto_is x xs (cut ys)

utf8_before : (xs : List ℕ) (parts : List (List ℕ)) → IsUtf8 xs → All IsUtf8 parts → All IsUtf8 (put_before xs parts)
utf8_before xs [] utf8 all = All-cons IsUtf8 xs [] utf8 (All-nil IsUtf8)
utf8_before xs (part ∷ parts) utf8 all =
    All-cons IsUtf8 (xs ++ part) parts (IsUtf8-append xs part utf8 (All-head IsUtf8 part parts all)) (All-tail IsUtf8 part parts all)

encoded_one_line : (c : ℕ) → c ≢ 10 → IsOneLine (encode c)
encoded_one_line c other =
    All-from_get_or (λ b. b ≢ 10) (encode c) 0
    (λ i lt newline. other (inside_one c [] (encode c) i (sym (append-nil (encode c))) lt (omega (arith, newline)) ∙ newline))

cut_utf8 : (cs : List ℕ) → scalars cs ≡ true → All IsUtf8 (cut (encodes cs))
cut_utf8 [] all = All-cons IsUtf8 [] [] IsUtf8-nil (All-nil IsUtf8)
cut_utf8 (c ∷ cs) all =
    let both = and_parts (scalar c) (scalars cs) all in
    let rest = cut_utf8 cs both.1 in
    ⊎_elim
    (λ (newline : c ≡ 10).
    let bytes : encode c ≡ 10 ∷ [] = ap encode newline ∙ encode_ascii 10 (omega arith) in
    subst (λ (front : List ℕ). All IsUtf8 (cut (front ++ encodes cs))) (sym bytes) (All-cons IsUtf8 [] (cut (encodes cs)) IsUtf8-nil rest))
    (λ (other : c ≢ 10).
    subst (All IsUtf8) (sym (cut_behind (encode c) (encodes cs) (encoded_one_line c other))) (utf8_before (encode c) (cut (encodes cs)) (IsUtf8-encode c both.0) rest))
    (cases_eq c 10)

some_lines : (Q : List ℕ → Type 0) (parts : List (List ℕ)) → All Q parts → All Q (lines_of_parts parts)
some_lines Q [] all = all
some_lines Q (last ∷ []) all = by (nat_eq (length last) 0) where
  by : (b : Bool) → All Q (cond b [] (last ∷ []))
  by true = All-nil Q
  by false = all
some_lines Q (line ∷ next ∷ more) all =
    All-cons Q line (lines_of_parts (next ∷ more)) (All-head Q line (next ∷ more) all) (some_lines Q (next ∷ more) (All-tail Q line (next ∷ more) all))

text_lines : (text : List ℕ) → IsUtf8 text → All IsLine (lines_of text)
text_lines text (cs, (all, same)) =
    let texts : All IsUtf8 (parts_of text) = subst (λ (t : List ℕ). All IsUtf8 (cut t)) same (cut_utf8 cs all) in
    let singles = parts_lack 10 text in
    some_lines IsLine (parts_of text) (λ k d inside. (texts k d inside, singles k d inside))

newline_ascii : IsAscii (10 ∷ [])
newline_ascii zero = omega arith
newline_ascii (suc i) = omega arith

text_utf8 : (lines : Lines) → All IsUtf8 lines → IsUtf8 (text_of lines)
text_utf8 [] all = IsUtf8-nil
text_utf8 (line ∷ lines) all =
    IsUtf8-append (ended line) (text_of lines) (IsUtf8-append line (10 ∷ []) (All-head IsUtf8 line lines all) (IsUtf8-from_ascii (10 ∷ []) newline_ascii))
    (text_utf8 lines (All-tail IsUtf8 line lines all))

-- ---- the decision

abbrev Unsettled : Decision → Type 0
Unsettled d = d ≡ Fail reason.NonConvergent

short_or_long : (b : Bool) (path text : List ℕ) → Unsettled (cond b (Needs (PutFile path text)) (Fail reason.TooLong)) → ⊥
short_or_long true path text e = absurd cc
short_or_long false path text e = absurd cc

puts_some : (path : List ℕ) (script : List Edit) (text : List ℕ) → leaves script text ≡ true → Unsettled (puts_text path script text) → ⊥
puts_some path script text left e =
    short_or_long (is_short text) path text
    (sym (cond-true (leaves script text) (cond (is_short text) (Needs (PutFile path text)) (Fail reason.TooLong)) (Fail reason.NonConvergent) left) ∙ e)

puts_made : (path : List ℕ) (script : List Edit) (found : Result Lines EditErr) → ((left : Lines) → found ≡ Ok left → leaves script (text_of left) ≡ true)
    → Unsettled (puts_lines path script found) → ⊥
puts_made path script (Err refusal.NoAnchor) settles e = absurd cc
puts_made path script (Err refusal.FieldCount) settles e = absurd cc
puts_made path script (Err refusal.NoMemory) settles e = absurd cc
puts_made path script (Ok left) settles e = puts_some path script (text_of left) (settles left refl) e

left_again : SettlesAsLines → (script : List Edit) → AreSafe script → (text : List ℕ) → IsUtf8 text → (left : Lines) → edited script (lines_of text) ≡ Ok left → leaves script (text_of left) ≡ true
left_again as_lines script safe text utf8 left e =
    let first = text_lines text utf8 in
    let lasts = all_hold IsLine carries_line script (lines_of text) left safe first e in
    let texts = All-weaker IsLine IsUtf8 (λ line is. is.0) left lasts in
    (as_lines script left (All-weaker IsLine IsOneLine (λ line is. is.1) left lasts) (text_utf8 left texts)).1
    (safe_settles script safe (lines_of text) left (All-weaker IsLine IsUtf8 (λ line is. is.0) (lines_of text) first) e)

in_file : SettlesAsLines → (path : List ℕ) (script : List Edit) → AreSafe script → (text : List ℕ) (short good : Bool) → is_utf8 text ≡ good
    → Unsettled (cond short (cond good (puts_lines path script (edited script (lines_of text))) (Fail reason.NotText)) (Fail reason.TooLong)) → ⊥
in_file as_lines path script safe text false good is e = absurd cc
in_file as_lines path script safe text true false is e = absurd cc
in_file as_lines path script safe text true true is e =
    puts_made path script (edited script (lines_of text)) (left_again as_lines script safe text (IsUtf8-from_is_utf8 text is)) e

on_node : SettlesAsLines → (path : List ℕ) (script : List Edit) → AreSafe script → (node : Option Node) → Unsettled (edits path script node) → ⊥
on_node as_lines path script safe None e = absurd cc
on_node as_lines path script safe (Some (Dir perms)) e = absurd cc
on_node as_lines path script safe (Some (File text perms)) e = in_file as_lines path script safe text (is_short text) (is_utf8 text) refl e

kept_or : (b : Bool) (d : Decision) → (Unsettled d → ⊥) → Unsettled (cond b Kept d) → ⊥
kept_or true d h e = absurd cc
kept_or false d h e = h e

pub quiet_decides : SettlesAsLines → QuietDecides
unfolding decision needed
quiet_decides as_lines script edits texts quiet path world e =
    kept_or (post (act.Edit path script) world) (needed (act.Edit path script) world) (on_node as_lines path script (safe_script script edits texts quiet) (map.get world.nodes path)) e
