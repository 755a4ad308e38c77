-- Lists of lines cut at the place.
use Rattle.std.specs.Prelude.{◌==◌, if◌then◌else◌}
use Rattle.std.proofs.Common.{◌≡◌, ℕ, List, [], ◌∷◌, ◌++◌, length, reverse, refl, sym, ap, ◌∙◌, true, false}
use Rattle.std.specs.List.{remove}
use Rattle.std.specs.Prelude.{slice_set}
use Rattle.std.proofs.lemmas.List.{reverse-append, append_assoc, append-nil, set_at}
use Rattle.cfa_lines.specs.Decks.{lines_of_parts, text_of}
use Rattle.cfa_lines.specs.lemmas.Removed.{remove_at}

-- the last of the lines behind the place is the one at it
pub remove_top : {X : Type 0} (xs ys : List X) (y : X) (n : ℕ) → n ≡ length xs → remove (xs ++ reverse (ys ++ y ∷ [])) n ≡ xs ++ reverse ys
remove_top xs ys y n e = rw (e, reverse-append) (remove_at xs y (reverse ys))

-- another line stands in its place, before the place
pub put_top : {X : Type 0} (xs ys : List X) (y new : X) (n : ℕ) → n ≡ length xs
    → slice_set (xs ++ reverse (ys ++ y ∷ [])) n new ≡ (xs ++ new ∷ []) ++ reverse ys
put_top xs ys y new n e = rw reverse-append (set_at xs y (reverse ys) new n (sym e) ∙ sym (append_assoc xs (new ∷ []) (reverse ys)))

-- one line goes from the stack before the place to that behind it
pub moved_back : {X : Type 0} (xs ys : List X) (x : X) → xs ++ reverse (ys ++ x ∷ []) ≡ (xs ++ x ∷ []) ++ reverse ys
moved_back xs ys x = rw (reverse-append, append_assoc) refl

-- the next line, from the end of a list, and its newline
pub written_more : (text : List ℕ) (rest : List (List ℕ)) (line : List ℕ)
    → ((text ++ line) ++ 10 ∷ []) ++ text_of (reverse rest) ≡ text ++ text_of (reverse (rest ++ line ∷ []))
written_more text rest line = rw reverse-append (simp append_assoc)

-- the last part is a line where it isn't empty
pub lines-last : (parts : List (List ℕ)) (last : List ℕ) → lines_of_parts (parts ++ last ∷ []) ≡ parts ++ lines_of_parts (last ∷ [])
lines-last [] last = refl
lines-last (line ∷ []) last = refl
lines-last (line ∷ next ∷ more) last = ap (λ lines. line ∷ lines) (lines-last (next ∷ more) last)

pub keeps_last : (parts rest : List (List ℕ)) (last : List ℕ) → parts ≡ rest ++ last ∷ [] → (length last == 0) ≡ false → rest ++ last ∷ [] ≡ lines_of_parts parts
keeps_last parts rest last cut full =
    ap (λ b. rest ++ (if b then [] else last ∷ [])) (sym full) ∙ sym (lines-last rest last) ∙ ap lines_of_parts (sym cut)

pub drops_last : (parts rest : List (List ℕ)) (last : List ℕ) → parts ≡ rest ++ last ∷ [] → (length last == 0) ≡ true → rest ≡ lines_of_parts parts
drops_last parts rest last cut empty =
    sym (append-nil rest) ∙ ap (λ b. rest ++ (if b then [] else last ∷ [])) (sym empty) ∙ sym (lines-last rest last) ∙ ap lines_of_parts (sym cut)
