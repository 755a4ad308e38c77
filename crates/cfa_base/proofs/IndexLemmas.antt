-- The tables of the indexes: what a table answers after a name or a pair was noted.
use Rattle.std.proofs.Common.{◌≡◌, ℕ, Bool, true, false, cond, List, [], ◌∷◌, ◌++◌, length, Option, Some, None, sym, ap, refl, ◌∙◌, ◌&&◌}
use Rattle.std.specs.Option.{option_or}
use Rattle.std.specs.Str.{bytes_eq}
use Rattle.std.proofs.lemmas.Bool.{false≢true, and_parts}
use Rattle.std.proofs.lemmas.List.{length-map, map-append}
use Rattle.std.specs.HashMap.{HashMap, UpdatesBy}
use Rattle.std.proofs.lemmas.Map.Text.{hash_map_updates_str}
use denote.Ref.{Bor}
use Rattle.cfa_base.specs.Index.{Text, place_of, same_pair, pair_place_of}
use Rattle.cfa_base.specs.IndexTables.{texts_of, noted, Answers, Notes, pairs_of, pair_noted, AnswersPairs}
use Rattle.cfa_base.specs.lemmas.Lists.{place_push, option_or-none}
use Rattle.cfa_base.specs.lemmas.EqualTexts.{same_text, is_text}

-- a place that is set at a key that has none is noted there
notes : {Key : Type 0} → (same : Key → Key → Bool) → ((x y : Key) → same x y ≡ true → x ≡ y) → ((x : Key) → same x x ≡ true)
    → (f g : Key → Option ℕ) (k : Key) (n : ℕ) → f k ≡ None → (q : Key) → (b c : Bool) → same k q ≡ b → same q k ≡ c
    → g q ≡ cond b (Some n) (f q) → g q ≡ option_or (f q) (cond c (Some n) None)
notes same is itself f g k n absent q true true p r e =
    e ∙ ap (λ o. option_or o (Some n)) (sym (ap f (sym (is k q p)) ∙ absent))
notes same is itself f g k n absent q true false p r e =
    absurd (false≢true (sym r ∙ ap (λ x. same q x) (is k q p) ∙ itself q))
notes same is itself f g k n absent q false true p r e =
    absurd (false≢true (sym p ∙ ap (λ x. same k x) (is q k r) ∙ itself k))
notes same is itself f g k n absent q false false p r e = e ∙ sym (option_or-none (f q))

-- the table after a new name was put at its place
pub notes_name : {S : Type 0} (name : Text) (m n : HashMap (Bor Text) ℕ S) (place : ℕ)
    → UpdatesBy (λ x y. bytes_eq x.now y.now) (λ k. bytes_eq name k.now) m n (Some place)
    → noted m name ≡ None → Notes bytes_eq (noted m) (noted n) name place
notes_name name m n place updates absent other =
    notes bytes_eq is_text same_text (noted m) (noted n) name place absent other _ _ refl refl
    (hash_map_updates_str name m n (Some place) updates other)

-- the table after a name was noted at its place answers for the list with that name at its end
pub answers_push : {S : Type 0} (names : List (Bor Text)) (name : Bor Text) (before after : HashMap (Bor Text) ℕ S)
    → Answers names before → Notes bytes_eq (noted before) (noted after) name.now (length names)
    → Answers (names ++ name ∷ []) after
answers_push names name before after answers noted_it other =
    noted_it other ∙ ap (λ o. option_or o (cond (bytes_eq other name.now) (Some (length names)) None)) (answers other)
    ∙ sym (place_push (bytes_eq other) (texts_of names) name.now (length names) (sym (length-map names _)))
    ∙ ap (λ xs. place_of xs other) (sym (map-append _ names (name ∷ [])))

pair_is : (x y : Text × Text) → same_pair x y ≡ true → x ≡ y
pair_is x y e =
    let both = and_parts (bytes_eq x.0 y.0) (bytes_eq x.1 y.1) e in
    ap (λ (first : Text). let pair : Text × Text = (first, x.1) in pair) (is_text x.0 y.0 both.0)
    ∙ ap (λ (second : Text). let pair : Text × Text = (y.0, second) in pair) (is_text x.1 y.1 both.1)

pair_itself : (x : Text × Text) → same_pair x x ≡ true
pair_itself x = ap (λ b. b && bytes_eq x.1 x.1) (same_text x.0) ∙ same_text x.1

-- the table of pairs after a new pair was put at its place
pub notes_pair : {S : Type 0} (pair : Bor Text × Bor Text) (m n : HashMap (Bor Text × Bor Text) ℕ S) (place : ℕ)
    → UpdatesBy (λ x y. bytes_eq x.0.now y.0.now && bytes_eq x.1.now y.1.now) (λ y. bytes_eq pair.0.now y.0.now && bytes_eq pair.1.now y.1.now) m n (Some place)
    → pair_noted m (pair.0.now, pair.1.now) ≡ None → Notes same_pair (pair_noted m) (pair_noted n) (pair.0.now, pair.1.now) place
notes_pair pair m n place updates absent other =
    notes same_pair pair_is pair_itself (pair_noted m) (pair_noted n) (pair.0.now, pair.1.now) place absent other _ _ refl refl
    (updates.0 (record { ref_ptr = (0, 0); now = other.0 }, record { ref_ptr = (0, 0); now = other.1 }))

pub pair_answers_push : {S : Type 0} (pairs : List (Bor Text × Bor Text)) (pair : Bor Text × Bor Text) (before after : HashMap (Bor Text × Bor Text) ℕ S)
    → AnswersPairs pairs before → Notes same_pair (pair_noted before) (pair_noted after) (pair.0.now, pair.1.now) (length pairs)
    → AnswersPairs (pairs ++ pair ∷ []) after
pair_answers_push pairs pair before after answers noted_it other =
    noted_it other ∙ ap (λ o. option_or o (cond (same_pair other (pair.0.now, pair.1.now)) (Some (length pairs)) None)) (answers other)
    ∙ sym (place_push (same_pair other) (pairs_of pairs) (pair.0.now, pair.1.now) (length pairs) (sym (length-map pairs _)))
    ∙ ap (λ xs. pair_place_of xs other) (sym (map-append _ pairs (pair ∷ [])))
